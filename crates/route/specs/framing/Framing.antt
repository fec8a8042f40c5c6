-- What the contracts of the framing cite: the records of a file by their lengths alone, with nothing checked.
-- Where `records` of `meaning` answers, these are what it answers.
--
--   body_length k      == the length of the body of a record of kind k; 255, more than any body has, for no
--                        kind
--   framed bytes skip == the records of the bytes one after another, where `skip` bytes are left of the body
--                        before; the last body is cut where the bytes end
--   records_from file at == the records from the place `at` of the file on; none from the end on
use Rattle.std.specs.Prelude.{ℕ, zero, suc, List, [], ◌∷◌, take, drop}
use Rattle.std.proofs.Math.Option.{Option, none, some}
use Rattle.meaning.specs.Route.{RouteRecord, look_up, body_lengths}

unfoldable pub or_else : ℕ → Option ℕ → ℕ
or_else d none = d
or_else d (some n) = n

unfoldable pub body_length : ℕ → ℕ
body_length k = or_else 255 (look_up k body_lengths)

unfoldable pub framed : List ℕ → ℕ → List RouteRecord
framed [] skip = []
framed (b ∷ rest) (suc skip) = framed rest skip
framed (kind ∷ rest) zero =
    record { kind = kind; body = take (body_length kind) rest } ∷ framed rest (body_length kind)

unfoldable pub records_from : List ℕ → ℕ → List RouteRecord
records_from file at = framed (drop at file) 0
