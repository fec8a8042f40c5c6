-- `gather_uppers` meets its contract. The invariant: the first upper powers stand in their places.
-- Assumes nothing.
use mathlib.Core.Path.{◌≡◌}
use mathlib.Core.List.{map}
use lib.ListN.{length, take}
use Rattle.rate_file.specs.factors.Written.{factors_in}
use Rattle.rate_file.proofs.factors.gather_uppers.Given as goal

abbrev pub invariant-loop-i : goal.invariant-loop-i
invariant-loop-i l = record {
  eight : length l.uppers ≡ 8;
  first :
      take (length l.yielded) l.uppers ≡ take (length l.yielded) (map (λ f. f.upper) (factors_in l.file));
}
