-- The minimal polynomial and the least annihilating power of `meaning` are those of `algebra`.
--
--   minimal_algebra, algebra_minimal == `MinimalPolynomial` is `Minimal` of the list's polynomial
--   minimal-unique  == a sequence has at most one minimal polynomial, as a list
--   minimal-degree  == no monic list that annihilates the sequence has a smaller degree
--   minimal-one     == 1 is the minimal polynomial of the zero sequence
--   least_power_algebra, algebra-LeastPower == `LeastPower` is `Least` among the powers that annihilate
--   least_power_exists == there is one where some power annihilates
--   least_power_minimal == f^r is the minimal polynomial for the least power r of an irreducible f
--
-- Assumes nothing.
use Prim.Native.Nat.{ℕ, ◌≤◌, ◌<◌}
use mathlib.Core.Path.{◌≡◌, refl, sym, ap, subst, ◌∙◌}
use mathlib.Core.List.{[], ◌∷◌}
use native.Mathlib.Omega.{arith}
use lib.Dec.{T}
use Rattle.meaning.specs.Field.{Field}
use Rattle.meaning.specs.Polynomial.{Polynomial, degree, is_monic_over, power, same, irreducible}
use Rattle.meaning.specs.Sequence.{Sequence, AnnihilatesEndless, MinimalPolynomial, LeastPower}
use Rattle.algebra.proofs.Numbers.Number.{Least, least-below}
use Rattle.algebra.proofs.Rings.Power.{power as algebra-power}
use Rattle.algebra.proofs.Rings.Ideal.{Generator}
use Rattle.algebra.proofs.Rings.PowerProduct.{power-generator}
use Rattle.algebra.proofs.Polynomials.Monic.{Monic}
use Rattle.algebra.proofs.Polynomials.Irreducible.{irreducible-atom}
use Rattle.algebra.proofs.Sequences.Action.{Kills}
use Rattle.algebra.proofs.Sequences.Annihilator.{Minimal, kills-ideal, kills-decided, generator-minimal}
use Rattle.algebra.proofs.Sequences.Annihilator.{minimal_larger}
use Rattle.algebra.proofs.Sequences.Annihilator.{minimal-one as algebra-minimal-one}
use Rattle.bridge.proofs.Basics.Searches.{T-decided}
use Rattle.bridge.proofs.Basics.Interpretation.{IsField}
use Rattle.bridge.proofs.Lists.Polynomials.{Poly, poly_ring, poly, monic-poly, monic-list, monic-equal}
use Rattle.bridge.proofs.Lists.Polynomials.{same-equal, equal-same, one-monic, poly-one}
use Rattle.bridge.proofs.Lists.Polynomials.{length-degree}
use Rattle.bridge.proofs.Lists.Products.{poly-power, power-monic}
use Rattle.bridge.proofs.Lists.Irreducibles.{irreducible-poly}
use Rattle.bridge.proofs.Sequences.Actions.{sequence, endless-kills, kills-endless}

module _ {F : Field} (I : IsField F) where
  -- The minimal polynomial
  pub minimal-degree :
      (g : Polynomial) (s : Sequence)
      → MinimalPolynomial F g s
      → (h : Polynomial)
      → T (is_monic_over F h)
      → AnnihilatesEndless F h s
      → degree g ≤ degree h
  minimal-degree g s x h m z = elim (T-decided (same h g)) [
    | yes e ↦ omega (arith, ap degree (same-equal h g e))
    | no n ↦ let l : degree g < degree h = x.smallest h m z (λ e. n (equal-same e)) in omega arith
  ]

  pub minimal_algebra :
      (g : Polynomial) (s : Sequence)
      → MinimalPolynomial F g s
      → Minimal (sequence I s) (poly I g) (degree g)
  minimal_algebra g s x =
      record {
        monic = monic-poly I g x.monic;
        kills = endless-kills I g s x.annihilates;
        least = least;
      }
    where
      least : (h : Poly I) (n : ℕ) → Monic h n → Kills (sequence I s) h → degree g ≤ n
      least h n m z =
          let (f, o, d, e) = monic-list I m in
          let l : degree g ≤ degree f =
          minimal-degree g s x f o (kills-endless I f s (subst (Kills (sequence I s)) (sym e) z)) in
          omega arith

  pub algebra_minimal :
      (g : Polynomial) (s : Sequence)
      → T (is_monic_over F g)
      → Minimal (sequence I s) (poly I g) (degree g)
      → MinimalPolynomial F g s
  algebra_minimal g s m x =
      record {
        monic = m;
        annihilates = kills-endless I g s x.kills;
        smallest =
            λ h n z d.
            minimal_larger I.field x (monic-poly I h n) (endless-kills I h s z)
            (λ e. d (monic-equal I h g n m e));
      }

  pub minimal-unique :
      (g h : Polynomial) (s : Sequence) → MinimalPolynomial F g s → MinimalPolynomial F h s → g ≡ h
  minimal-unique g h s x y = elim (T-decided (same g h)) [
    | yes e ↦ same-equal g h e
    | no n ↦
        let l : degree h < degree g =
        y.smallest g x.monic x.annihilates (λ e. n (equal-same e)) in
        absurd (omega (arith, minimal-degree g s x h y.monic y.annihilates))
  ]

  -- The zero sequence
  pub minimal-one : (s : Sequence) → ((i : ℕ) → s i ≡ 0) → MinimalPolynomial F (1 ∷ []) s
  minimal-one s z =
      algebra_minimal (1 ∷ []) s (one-monic I)
      (subst (λ f. Minimal (sequence I s) f (degree (1 ∷ []))) (sym (poly-one I))
      (subst (Minimal (sequence I s) (poly_ring I).1#) (sym (length-degree (1 ∷ []) refl))
      (algebra-minimal-one I.ring I.field.discrete (λ i. ap I.element (z i) ∙ I.element-zero))))

  -- The least power
  module _ (f : Polynomial) (s : Sequence) where
    abbrev KillsPower : ℕ → Type 0
    KillsPower e = Kills (sequence I s) (algebra-power (poly_ring I) (poly I f) e)

    power-kills : (e : ℕ) → AnnihilatesEndless F (power F f e) s → KillsPower e
    power-kills e z = subst (Kills (sequence I s)) (poly-power I f e) (endless-kills I (power F f e) s z)

    kills-power : (e : ℕ) → KillsPower e → AnnihilatesEndless F (power F f e) s
    kills-power e z =
        kills-endless I (power F f e) s (subst (Kills (sequence I s)) (sym (poly-power I f e)) z)

    pub least_power_algebra :
        {r : ℕ}
        → LeastPower F f s r
        → Least (λ e. Kills (sequence I s) (algebra-power (poly_ring I) (poly I f) e)) r
    least_power_algebra x =
        record {
          holds = power-kills _ x.annihilates;
          least = λ e l z. omega (arith, x.smallest e (kills-power e z));
        }

    pub algebra-LeastPower :
        {r : ℕ}
        → Least (λ e. Kills (sequence I s) (algebra-power (poly_ring I) (poly I f) e)) r
        → LeastPower F f s r
    algebra-LeastPower {r} x =
        record {
          annihilates = kills-power r x.holds;
          smallest =
              λ e z.
              let h : ¬ (e < r) = λ l. x.least e l (power-kills e z) in
              omega arith;
        }

    -- where some power annihilates, the least one is at most that
    pub least_power_exists :
        (v : ℕ)
        → T (is_monic_over F f)
        → AnnihilatesEndless F (power F f v) s
        → (r : ℕ) × (r ≤ v) × LeastPower F f s r
    least_power_exists v m z =
        let (r, l, x) = least-below decided v (power-kills v z) in
        (r, l, algebra-LeastPower x)
      where
        decided : (e : ℕ) → Dec (KillsPower e)
        decided e =
            kills-decided (monic-poly I (power F f v) (power-monic I f v m))
            (endless-kills I (power F f v) s z)
            (algebra-power (poly_ring I) (poly I f) e)

    -- The power of an irreducible list is the minimal polynomial
    pub least_power_minimal :
        {r : ℕ}
        → T (is_monic_over F f)
        → 1 ≤ degree f
        → T (irreducible F f)
        → LeastPower F f s r
        → MinimalPolynomial F (power F f r) s
    least_power_minimal {r} m l i x =
        algebra_minimal (power F f r) s monic
        (generator-minimal I.field.one_nonzero (monic-poly I (power F f r) monic) generator)
      where
        monic : T (is_monic_over F (power F f r))
        monic = power-monic I f r m

        generator : Generator (poly_ring I) (Kills (sequence I s)) (poly I (power F f r))
        generator =
            subst (Generator (poly_ring I) (Kills (sequence I s))) (sym (poly-power I f r))
            (power-generator (poly_ring I) (kills-ideal (sequence I s))
            (irreducible-atom I.field (irreducible-poly I f m l i))
            (least_power_algebra x))
