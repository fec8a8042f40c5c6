-- `payload::big_endian` meets its contract. n is below 256^i, so it does not wrap.
-- Assumes nothing.
use Prim.Native.Nat.{◌*◌, ◌^◌, ◌<◌}
use mathlib.Core.Path.{◌≡◌}
use lib.ListN.{drop}
use Rattle.meaning.specs.Route.{appended, number}
use Rattle.route.proofs.payload.big_endian.Given as goal

abbrev pub invariant-loop-byte : goal.invariant-loop-byte
invariant-loop-byte l =
    (l.n < 2 ^ (8 * l.byte-index)) × (appended l.n (drop l.byte-index l.bytes) ≡ number l.bytes)
