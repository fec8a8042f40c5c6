-- The marked rows of paper 01, A to L, as one table and one theorem, from the definitions alone.
--
--   MarkedRows   == the table: a field for each row, which says what the definitions answer on the row's
--                   input
--   marked-rows  == the theorem: every row holds
--
-- Lists are written with the constant, or the first term, in front. A portion with one factor is a set of
-- one. The lent bytes are just long enough, but for row D, which holds for every accepted factor, every
-- number of zeros and all accepted lent bytes.
-- Assumes nothing.
use Prim.Native.Nat.{ℕ, ◌≤◌}
use mathlib.Core.Path.{◌≡◌, refl}
use mathlib.Core.Bool.{true, false}
use mathlib.Core.List.{[], ◌∷◌}
use lib.Dec.{T}
use Rattle.meaning.specs.declared.FieldName.{FieldName}
use Rattle.meaning.specs.Polynomial.{Polynomial}
use Rattle.meaning.specs.Result.{answered, refused}
use Rattle.meaning.specs.Conditions.{accepted_lent}
use Rattle.meaning.specs.Period.{rate_period}
use Rattle.meaning.specs.Portion.{rate_set, accepted_factors}
use Rattle.meaning.specs.Free.{rate_free}
use Rattle.meaning.proofs.Computed.{GF, computed}
use Rattle.meaning.proofs.Rows.{power_answer, set_answer}
use Rattle.meaning.proofs.ZeroPeriod.{zeros, zero-period}

pub record MarkedRows : Type 0 where
  pub A : rate_set (GF 2) ((1 ∷ 1 ∷ 0 ∷ 1 ∷ []) ∷ []) (6 ∷ [])
      (0 ∷ 1 ∷ 0 ∷ 1 ∷ 0 ∷ 0 ∷ 0 ∷ 0 ∷ 1 ∷ 0 ∷ 1 ∷ 1 ∷ 0 ∷ 1 ∷ 0 ∷ 1 ∷ 1 ∷ 0 ∷ [])
      4097 8192
      ≡ set_answer (4 ∷ []) 12 28 (1 ∷ 0 ∷ 0 ∷ 0 ∷ 1 ∷ 0 ∷ 0 ∷ 0 ∷ 0 ∷ 0 ∷ 0 ∷ 0 ∷ 1 ∷ [])
  pub B : rate_period (GF 2) (1 ∷ 1 ∷ []) (0 ∷ 0 ∷ 0 ∷ 1 ∷ []) 4097 8192
      ≡ power_answer 4 4 4 (1 ∷ 0 ∷ 0 ∷ 0 ∷ 1 ∷ [])
  pub C : rate_period (GF 2) (1 ∷ 1 ∷ []) (1 ∷ 1 ∷ 1 ∷ 1 ∷ []) 4097 8192 ≡ power_answer 1 1 1 (1 ∷ 1 ∷ [])
  pub D : (name : FieldName) (n : ℕ) (f : Polynomial) (answer work : ℕ)
      → T (accepted_factors name (f ∷ []) (1 ∷ []))
      → T (accepted_lent answer work)
      → 1 ≤ n
      → n ≤ 4096
      → rate_period name f (zeros n) answer work ≡ power_answer 0 0 1 (1 ∷ [])
  pub E : rate_period (GF 3) (2 ∷ 1 ∷ []) (0 ∷ 1 ∷ 2 ∷ []) 4097 8192 ≡ power_answer 2 2 3 (1 ∷ 1 ∷ 1 ∷ [])
  pub F : rate_period (GF 2) (1 ∷ 1 ∷ 1 ∷ []) (0 ∷ 0 ∷ 0 ∷ 1 ∷ []) 4097 8192 ≡ refused 17
  pub G : rate_set (GF 2) ((1 ∷ 1 ∷ []) ∷ []) (2 ∷ []) (1 ∷ 0 ∷ []) 4097 8192
      ≡ set_answer (2 ∷ []) 2 2 (1 ∷ 0 ∷ 1 ∷ [])
  pub H : rate_free (GF 2) (1 ∷ 0 ∷ []) 4097 8192
      ≡ answered (record { figures = record { degree = 1; unique = true }; polynomial = 0 ∷ 1 ∷ [] })
  pub I : rate_free (GF 2) (0 ∷ 1 ∷ []) 4097 8192
      ≡ answered (record { figures = record { degree = 2; unique = false }; polynomial = 0 ∷ 0 ∷ 1 ∷ [] })
  pub J : rate_set (GF 2) ((0 ∷ 1 ∷ []) ∷ []) (3 ∷ []) (1 ∷ 1 ∷ 0 ∷ []) 4097 8192
      ≡ set_answer (2 ∷ []) 2 0 (0 ∷ 0 ∷ 1 ∷ [])
  pub K : rate_set (GF 2) ((1 ∷ 1 ∷ []) ∷ (1 ∷ 1 ∷ 1 ∷ []) ∷ []) (1 ∷ 1 ∷ []) (0 ∷ 1 ∷ 1 ∷ []) 4097 8192
      ≡ set_answer (0 ∷ 1 ∷ []) 2 3 (1 ∷ 1 ∷ 1 ∷ [])
  pub L : rate_set (GF 2) ((1 ∷ 1 ∷ []) ∷ []) (1 ∷ []) (1 ∷ 0 ∷ []) 4097 8192 ≡ refused 17

pub marked-rows : MarkedRows
unfolding computed
marked-rows =
    record {
      A = refl;
      B = refl;
      C = refl;
      D = zero-period;
      E = refl;
      F = refl;
      G = refl;
      H = refl;
      I = refl;
      J = refl;
      K = refl;
      L = refl;
    }
