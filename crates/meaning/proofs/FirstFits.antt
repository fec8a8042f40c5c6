-- Computed rows: the first of the polynomials that fit, where several may.
--
--   FirstFits == the table: a field for each row      first_fits == every row holds
-- Assumes nothing.
use Prim.Native.Nat.{ℕ}
use mathlib.Core.Path.{◌≡◌, refl}
use mathlib.Core.Bool.{Bool, true, false}
use mathlib.Core.List.{List, [], ◌∷◌}
use Rattle.meaning.specs.Polynomial.{Polynomial}
use Rattle.meaning.specs.Result.{Result, answered, Rated}
use Rattle.meaning.specs.Free.{FreeFigures, rate_free}
use Rattle.meaning.proofs.Computed.{GF, computed}

abbrev rated : ℕ → List ℕ → Result (Rated FreeFigures)
rated p ts = rate_free (GF p) ts 4097 8192

abbrev free : ℕ → Bool → Polynomial → Result (Rated FreeFigures)
free d u g = answered (record { figures = record { degree = d; unique = u }; polynomial = g })

pub record FirstFits : Type 0 where
  -- 0, 1 over GF(2), which is row I, and further terms
  pub second : rated 2 (0 ∷ 1 ∷ []) ≡ free 2 false (0 ∷ 0 ∷ 1 ∷ [])
  pub third : rated 2 (0 ∷ 1 ∷ 1 ∷ []) ≡ free 2 false (0 ∷ 1 ∷ 1 ∷ [])
  pub fourth : rated 2 (0 ∷ 1 ∷ 1 ∷ 1 ∷ []) ≡ free 2 true (0 ∷ 1 ∷ 1 ∷ [])
  -- the Berlekamp-Massey algorithm alone would return x³ + x² + 1
  pub fifth : rated 2 (0 ∷ 1 ∷ 1 ∷ 1 ∷ 0 ∷ []) ≡ free 3 false (1 ∷ 1 ∷ 0 ∷ 1 ∷ [])
  pub one_one_zero : rated 2 (1 ∷ 1 ∷ 0 ∷ []) ≡ free 2 false (0 ∷ 0 ∷ 1 ∷ [])
  pub zero_zero_one : rated 2 (0 ∷ 0 ∷ 1 ∷ []) ≡ free 3 false (0 ∷ 0 ∷ 0 ∷ 1 ∷ [])
  pub over3 : rated 3 (1 ∷ 2 ∷ 1 ∷ 1 ∷ []) ≡ free 3 false (2 ∷ 0 ∷ 0 ∷ 1 ∷ [])
  pub over5 : rated 5 (1 ∷ 2 ∷ 1 ∷ []) ≡ free 2 false (4 ∷ 0 ∷ 1 ∷ [])
  pub one_term : rated 251 (250 ∷ []) ≡ free 1 false (0 ∷ 1 ∷ [])

pub first_fits : FirstFits
unfolding computed
first_fits =
    record {
      second = refl;
      third = refl;
      fourth = refl;
      fifth = refl;
      one_one_zero = refl;
      zero_zero_one = refl;
      over3 = refl;
      over5 = refl;
      one_term = refl;
    }
