-- What the iterators over the records of a file have left.
--
--   read r             == the record that was read
--   left s             == the records that are left
--   bodies_left s      == the bodies that are left
--   size_of rs         == the number of bytes that the records take
use Rattle.std.specs.Prelude.{ℕ, ◌+◌, List, [], ◌∷◌, length}
use Rattle.meaning.specs.Route.{RouteRecord, bodies}
use Rattle.meaning.specs.declared.FoundRecord.{FoundRecord}
use Rattle.route.specs.declared.framing.Records.{Records}
use Rattle.route.specs.declared.framing.Bodies.{Bodies}
use Rattle.route.specs.framing.Framing.{framed}

abbrev pub read : FoundRecord → RouteRecord
read r = record { kind = r.kind; body = r.body.now }

abbrev pub left : Records → List RouteRecord
left s = framed s.rest.now 0

abbrev pub bodies_left : Bodies → List (List ℕ)
bodies_left s = bodies s.kind (left s.records)

abbrev pub size_of : List RouteRecord → ℕ
size_of [] = 0
size_of (r ∷ rs) = 1 + length r.body + size_of rs
