-- The degree of the answer of the period way is at most 4,096: what the writer of powers asks.
--
--   period-small      == the power of a period, times the degree of its factor
--
-- Assumes nothing.
use Prim.Native.Nat.{ℕ, ◌*◌, ◌^◌, ◌≤◌, ◌<◌}
use mathlib.Core.Path.{◌≡◌, sym, ap, ◌∙◌}
use mathlib.Core.List.{List}
use mathlib.Core.Option.{some, some-injective}
use native.Mathlib.Nat as ℕ
use native.Mathlib.Omega.{arith}
use lib.ListN.{length, take}
use lib.Dec.{T}
use Rattle.meaning.specs.Search.{is_none}
use Rattle.meaning.specs.Field.{Field}
use Rattle.meaning.specs.Polynomial.{Polynomial, degree, power}
use Rattle.meaning.specs.Sequence.{act_on_known, annihilates_period}
use Rattle.meaning.specs.Period.{period_power}
use Rattle.bridge.proofs.Basics.Searches.{T-decided, not-false}
use Rattle.bridge.proofs.Basics.Interpretation.{IsField, prime-pos}
use Rattle.bridge.proofs.Sequences.KnownActions.{all_zero}
use Rattle.bridge.proofs.Ways.PowerSearch.{power_found, power_found-zeros, power_found-digits}
use Rattle.bridge.proofs.Ways.PowerSearch.{digits_found-below}
use Rattle.bridge.proofs.Ways.PowerSearch.{act_steps}
use Rattle.bridge.proofs.Ways.Periods.{PeriodSearch, period-search, period_power-zeros, valuation}
use Rattle.period_way.specs.Period.{PeriodInput}

found_below : (step : ℕ → List ℕ → List ℕ) (p d w : ℕ) (s : List ℕ) → 0 < p → power_found step p d w s ≤ p ^ w
found_below step p d w s h = go (T-decided (all_zero s))
  where
    go : Dec (T (all_zero s)) → power_found step p d w s ≤ p ^ w
    go (yes z) = omega (arith, power_found-zeros step p d w s z)
    go (no z) = omega (arith, power_found-digits step p d w s z, digits_found-below step p d w s h)

module _ {F : Field} (I : IsField F) {f : Polynomial} {ts : List ℕ} (x : PeriodInput F f ts) where
  abbrev step : ℕ → List ℕ → List ℕ
  step q s = act_on_known F (power F f q) s

  period_few :
      (w : ℕ)
      → PeriodSearch F f ts step F.characteristic w
      → {r : ℕ}
      → period_power F f ts ≡ some r
      → r * degree f ≤ 4096
  unfolding is_none
  period_few w found {r} e = go (T-decided (all_zero ts))
    where
      whole : T (annihilates_period F (power F f (F.characteristic ^ w)) ts)
      whole =
          not-false (annihilates_period F (power F f (F.characteristic ^ w)) ts)
          (sym found.decides ∙ ap is_none e)

      low : r ≤ F.characteristic ^ w
      low =
          let v = some-injective r _ (sym e ∙ found.finds whole) in
          let h =
          found_below step F.characteristic (degree f) w (take (F.characteristic ^ w * degree f) ts)
          (prime-pos I.characteristic.prime) in
          omega arith

      go : Dec (T (all_zero ts)) → r * degree f ≤ 4096
      go (yes z) =
          let v : r ≡ 0 = some-injective r 0 (sym e ∙ period_power-zeros I f ts z) in
          omega (arith, ap (λ n. n * degree f) v ∙ ℕ.zero-mul (degree f))
      go (no z) = omega (arith, ℕ.mul-le-mul_right (degree f) low, found.fits whole z, x.not_many)

  pub period-small : {r : ℕ} → period_power F f ts ≡ some r → r * degree f ≤ 4096
  period-small e =
      let (w, m, v) = valuation I.characteristic.prime (length ts) x.at_least_one in
      period_few w
      (period-search I f ts x.monic x.positive x.irreducibility x.at_least_one x.in_field w m
      v.product (λ z. v.rest (ℕ.dvd_of_mod-eq-zero F.characteristic z)) step (act_steps F f))
      e
