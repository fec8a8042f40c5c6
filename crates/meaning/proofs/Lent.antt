-- Computed rows: what is left in the lent bytes.
--
--   Lent == the table: a field for each row      lent == every row holds
-- Assumes nothing.
use Prim.Native.Nat.{ℕ}
use mathlib.Core.Path.{◌≡◌, refl}
use mathlib.Core.List.{List, [], ◌∷◌, ◌++◌}
use lib.ListN.{replicate}
use Rattle.meaning.specs.Result.{answer_after, work_after}
use Rattle.meaning.specs.Period.{rate_period}
use Rattle.meaning.specs.Portion.{rate_set}
use Rattle.meaning.proofs.Computed.{GF, computed}
use Rattle.meaning.proofs.Rows.{x+1}

abbrev answer : List ℕ
answer = replicate 4099 7

abbrev work : List ℕ
work = replicate 8194 9

pub record Lent : Type 0 where
  pub coefficients_first : answer_after (rate_period (GF 2) x+1 (1 ∷ []) 4099 8194) answer ≡ 1 ∷ 1 ∷ replicate
      4097 7
  pub answer_of_zeros : answer_after (rate_period (GF 2) x+1 (0 ∷ []) 4099 8194) answer ≡ 1 ∷ replicate 4098 7
  pub answer_after_seventeen : answer_after (rate_set (GF 2) (x+1 ∷ []) (1 ∷ []) (1 ∷ 0 ∷ []) 4099 8194)
      answer
      ≡ answer
  pub answer_after_sixteen : answer_after (rate_period (GF 2) x+1 (1 ∷ []) 4099 8) answer ≡ answer
  pub work_rated : work_after (rate_period (GF 2) x+1 (1 ∷ []) 4099 8194) work ≡ replicate 8192 0 ++
      (9 ∷ 9 ∷ [])
  pub work_after_seventeen : work_after (rate_set (GF 2) (x+1 ∷ []) (1 ∷ []) (1 ∷ 0 ∷ []) 4099 8194) work
      ≡ replicate 8192 0 ++ (9 ∷ 9 ∷ [])
  pub work_after_sixteen : work_after (rate_period (GF 2) x+1 (1 ∷ []) 4096 8194) work ≡ work
  pub work_after_six : work_after (rate_period (GF 4) x+1 (1 ∷ []) 4099 8194) work ≡ work

pub lent : Lent
unfolding computed
lent =
    record {
      coefficients_first = refl;
      answer_of_zeros = refl;
      answer_after_seventeen = refl;
      answer_after_sixteen = refl;
      work_rated = refl;
      work_after_seventeen = refl;
      work_after_sixteen = refl;
      work_after_six = refl;
    }
