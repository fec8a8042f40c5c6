-- The step of the Berlekamp-Massey algorithm, from n known terms to n + 1.
--
--   shift k f            == x^k·f
--   discrepancy f L n t  == the action of f, of degree L, at place n − L: the first place that needs term n
--   Earlier g L n b t    == what is kept of an earlier polynomial g: its action vanishes at the places before
--                           L − 1 and is b there, b is not 0, and g is below n + 1 − L
--   State f g L b n t    == f fits the first n terms of t with the least degree L, at most n, and g is an
--                           earlier polynomial; at the start g is 0
--   Reached R D t n      == a state after n terms
--   earlier_of_fits      == g of degree a fitted n' terms, not n' + 1, n' < n, L = n' + 1 − a: g is earlier
--   step_same            == the discrepancy is 0: f fits n + 1 terms
--   step_kept            == it is d, and 2L > n: f − (d/b)·x^(2L−1−n)·g fits n + 1 terms, of degree L
--   step-changed         == it is d, not 0, and 2L ≤ n: x^(n+1−2L)·f − (d/b)·g fits n + 1 terms, of degree
--                           n + 1 − L, and f with d takes the place of g with b
--   fits-another         == 2L > n: f − g is another polynomial of degree L that fits the n terms
--   start                == 1, with g = 0 and b = 1, for no terms; the first term other than 0, at place n,
--                           gives x^(n+1) by `step-changed`
--   least_fit_exists     == over a field, n terms are fitted by a polynomial of least degree
--   minimal_exists       == over a field, a sequence annihilated by a monic polynomial has a minimal one
--
-- Assumes nothing.
use mathlib.Core.Path.{◌≡◌, refl, sym, ap, subst, ◌∙◌}
use Prim.Native.Nat.{ℕ, zero, suc, ◌+◌, ◌*◌, ◌-◌, ◌≤◌, ◌<◌, zero-le}
use native.Mathlib.Nat as ℕ
use native.Mathlib.Decide.{dec_lt}
use native.Mathlib.Omega.{arith}
use Rattle.algebra.proofs.Rings.Ring.{Ring, Field}
use Rattle.algebra.proofs.Rings.Ring.{one-mul, mul-zero, sub-zero_of_eq, inverse-mul}
use Rattle.algebra.proofs.Rings.Ring.{add_left_cancel, neg_injective, neg-zero}
use Rattle.algebra.proofs.Rings.Power.{power}
use Rattle.algebra.proofs.Polynomials.Polynomial.{Polynomial, Below, below_weaken, polynomials}
use Rattle.algebra.proofs.Polynomials.Polynomial.{coefficient, coefficient-x-power-mul-above, scale, X}
use Rattle.algebra.proofs.Polynomials.Monic.{
  Monic,
  below-neg,
  below-scale,
  below_of_zero,
  monic-one,
  monic-mul,
  monic-x-power,
  monic-add-below,
}
use Rattle.algebra.proofs.Sequences.Action.{act, act-sub, act-scale, act-x-power-mul, Kills}
use Rattle.algebra.proofs.Sequences.Annihilator.{Minimal}
use Rattle.algebra.proofs.Sequences.Massey.{Fits, LeastFit, fits-fewer, massey_bound}
use Rattle.algebra.proofs.Sequences.Massey.{least_fit_minimal}

module _ {K : Type 0} {R : Ring K} {D : Discrete K} where
  open R use {0#, ◌⊕◌, ◌⊗◌, ⊖◌}
  open polynomials R D use {◌⊕◌ as ◌⊞◌, ◌⊗◌ as ◌⊠◌, ⊖◌ as ⊟◌}

  infixl 60 ◌⊕◌ ◌⊞◌
  infixl 70 ◌⊗◌ ◌⊠◌
  infix 80 ⊖◌ ⊟◌
  -- Shifts and corrections of a polynomial.
  abbrev pub shift : ℕ → Polynomial R D → Polynomial R D
  shift k f = power (polynomials R D) (X R D) k ⊠ f

  pub below-shift : {f : Polynomial R D} {n : ℕ} (k : ℕ) → Below f n → Below (shift k f) (k + n)
  below-shift {f} {n} k b =
      record {
        above =
            λ i l.
            let e : i ≡ k + (i - k) = omega arith in
            ap (coefficient (shift k f)) e
            ∙ coefficient-x-power-mul-above k f (i - k)
            ∙ b.above (i - k) (omega arith);
      }

  monic_correct :
      {f g : Polynomial R D} {n : ℕ} (c : K) → Monic f n → Below g n → Monic (f ⊞ ⊟ (scale c g)) n
  monic_correct c m b = monic-add-below m (below-neg (below-scale c b))

  act_correct :
      (f g : Polynomial R D) (c : K) (t : ℕ → K) (k : ℕ)
      → act (f ⊞ ⊟ (scale c g)) t k ≡ act f t k ⊕ ⊖ (c ⊗ act g t k)
  act_correct f g c t k = act-sub f (scale c g) t k ∙ ap (λ y. act f t k ⊕ ⊖ y) (act-scale c g t k)

  unfoldable pub discrepancy : Polynomial R D → ℕ → ℕ → (ℕ → K) → K
  discrepancy f L n t = act f t (n - L)

  -- The place n − L decides whether f fits one term more.
  discrepancy-at :
      (f : Polynomial R D) (L : ℕ) {n : ℕ} (t : ℕ → K) (k : ℕ) → k + L ≡ n → act f t k ≡ discrepancy f L n t
  unfolding discrepancy
  discrepancy-at f L t k e = ap (act f t) (omega arith)

  pub fits_suc :
      {f : Polynomial R D} {L n : ℕ} {t : ℕ → K}
      → Fits f L n t
      → discrepancy f L n t ≡ 0#
      → Fits f L (suc n) t
  fits_suc {f} {L} {n} {t} x z = record { monic = x.monic; vanishes = λ k l. go k l (dec_lt (k + L) n) }
    where
      go : (k : ℕ) → k + L < suc n → Dec (k + L < n) → act f t k ≡ 0#
      go k l (yes h) = x.vanishes k h
      go k l (no h) = discrepancy-at f L t k (omega arith) ∙ z

  pub not-fits-suc :
      {f : Polynomial R D} {L n : ℕ} {t : ℕ → K}
      → L ≤ n
      → ¬ (discrepancy f L n t ≡ 0#)
      → ¬ Fits f L (suc n) t
  unfolding discrepancy
  not-fits-suc {L = L} {n} l h x = h (x.vanishes (n - L) (omega arith))

pub record Earlier
    {K : Type 0} {R : Ring K} {D : Discrete K} (g : Polynomial R D) (L n : ℕ) (b : K) (t : ℕ → K)
    : Type 0 where
  pub small : Below g (suc n - L)
  pub nonzero : ¬ (b ≡ R.0#)
  pub zeros : (k : ℕ) → suc k < L → act g t k ≡ R.0#
  pub last : (k : ℕ) → suc k ≡ L → act g t k ≡ b

pub record State
    {K : Type 0} {R : Ring K} {D : Discrete K} (f g : Polynomial R D) (L : ℕ) (b : K) (n : ℕ) (t : ℕ → K)
    : Type 0 where
  pub shortest : LeastFit f L n t
  pub short : L ≤ n
  pub earlier : Earlier g L n b t

pub record Reached {K : Type 0} (R : Ring K) (D : Discrete K) (t : ℕ → K) (n : ℕ) : Type 0 where
  pub current : Polynomial R D
  pub previous : Polynomial R D
  pub degree : ℕ
  pub value : K
  pub state : State current previous degree value n t

module _ {K : Type 0} {R : Ring K} {D : Discrete K} where
  open R use {0#}

  -- A polynomial that fitted n' terms and no more, where the degrees are as in Massey's bound.
  pub earlier_of_fits :
      {g : Polynomial R D} {a n' L n : ℕ} {t : ℕ → K}
      → Fits g a n' t
      → ¬ (discrepancy g a n' t ≡ 0#)
      → a + L ≡ suc n'
      → n' < n
      → Earlier g L n (discrepancy g a n' t) t
  earlier_of_fits {g} {a} {t = t} x h e l =
      record {
        small = below_weaken x.monic.below (omega arith);
        nonzero = h;
        zeros = λ k o. x.vanishes k (omega arith);
        last = λ k o. discrepancy-at g a t k (omega arith);
      }

  earlier-suc :
      {g : Polynomial R D} {L n : ℕ} {b : K} {t : ℕ → K} → Earlier g L n b t → Earlier g L (suc n) b t
  earlier-suc x =
      record {
        small = below_weaken x.small (omega arith);
        nonzero = x.nonzero;
        zeros = x.zeros;
        last = x.last;
      }

  pub step_same :
      {f g : Polynomial R D} {L n : ℕ} {b : K} {t : ℕ → K}
      → State f g L b n t
      → discrepancy f L n t ≡ 0#
      → State f g L b (suc n) t
  step_same {n = n} x z =
      record {
        shortest = record {
          fits = fits_suc x.shortest.fits z;
          least = λ h e y. x.shortest.least h e (fits-fewer y (ℕ.le-suc n));
        };
        short = ℕ.le_step x.short;
        earlier = earlier-suc x.earlier;
      }

-- A discrepancy other than 0, over a field.
module _ {K : Type 0} {R : Ring K} {D : Discrete K} (F : Field R) where
  open R use {0#, 1#, ◌⊕◌, ◌⊗◌, ⊖◌, add-zero, mul-one, mul_assoc}
  open polynomials R D use {0# as 0ₚ, 1# as 1ₚ, ◌⊕◌ as ◌⊞◌, ⊖◌ as ⊟◌}
  open F use {inverse}

  infixl 60 ◌⊕◌ ◌⊞◌
  infixl 70 ◌⊗◌
  infix 80 ⊖◌ ⊟◌
  -- The corrected action, where both actions vanish and where they are d and b.
  correct_zero :
      (f g : Polynomial R D) (c : K) (t : ℕ → K) (k : ℕ)
      → act f t k ≡ 0#
      → act g t k ≡ 0#
      → act (f ⊞ ⊟ (scale c g)) t k ≡ 0#
  correct_zero f g c t k y z =
      act_correct f g c t k ∙ sub-zero_of_eq R (y ∙ sym (ap (◌⊗◌ c) z ∙ mul-zero R c))

  correct_last :
      (f g : Polynomial R D) (d b : K) (t : ℕ → K) (k : ℕ)
      → ¬ (b ≡ 0#)
      → act f t k ≡ d
      → act g t k ≡ b
      → act (f ⊞ ⊟ (scale (d ⊗ inverse b) g)) t k ≡ 0#
  correct_last f g d b t k h y z =
      act_correct f g (d ⊗ inverse b) t k
      ∙ sub-zero_of_eq
      R
      (
      y
      ∙ sym
      (
      ap (◌⊗◌ (d ⊗ inverse b)) z
      ∙ mul_assoc d (inverse b) b
      ∙ ap (◌⊗◌ d) (inverse-mul F b h)
      ∙ mul-one d
      )
      )

  module _
      {f g : Polynomial R D} {L n : ℕ} {b : K} {t : ℕ → K} (x : State f g L b n t)
      (d : K) (e : discrepancy f L n t ≡ d)
    where
      -- 2L > n: the length stays.
      kept-vanishes :
          n < 2 * L
          → (k : ℕ)
          → k + L < suc n
          → Dec (k + L < n)
          → act (f ⊞ ⊟ (scale (d ⊗ inverse b) (shift (2 * L - suc n) g))) t k ≡ 0#
      kept-vanishes l k o (yes h) =
          correct_zero
          f
          (shift (2 * L - suc n) g)
          (d ⊗ inverse b)
          t
          k
          (x.shortest.fits.vanishes k h)
          (act-x-power-mul (2 * L - suc n) g t k ∙ x.earlier.zeros (2 * L - suc n + k) (omega arith))
      kept-vanishes l k o (no h) =
          correct_last
          f
          (shift (2 * L - suc n) g)
          d
          b
          t
          k
          x.earlier.nonzero
          (discrepancy-at f L t k (omega arith) ∙ e)
          (act-x-power-mul (2 * L - suc n) g t k ∙ x.earlier.last (2 * L - suc n + k) (omega arith))

      pub step_kept :
          n < 2 * L → State (f ⊞ ⊟ (scale (d ⊗ inverse b) (shift (2 * L - suc n) g))) g L b (suc n) t
      step_kept l =
          record {
            shortest = record {
              fits = record {
                monic =
                    monic_correct
                    (d ⊗ inverse b)
                    x.shortest.fits.monic
                    (
                    below_weaken
                    (below-shift (2 * L - suc n) x.earlier.small)
                    (omega (arith, x.short))
                    );
                vanishes = λ k o. kept-vanishes l k o (dec_lt (k + L) n);
              };
              least = λ h i y. x.shortest.least h i (fits-fewer y (ℕ.le-suc n));
            };
            short = ℕ.le_step x.short;
            earlier = earlier-suc x.earlier;
          }

      -- 2L ≤ n: the length changes.
      changed-vanishes :
          2 * L ≤ n
          → (k : ℕ)
          → k + (suc n - L) < suc n
          → Dec (suc k < L)
          → act (shift (suc n - 2 * L) f ⊞ ⊟ (scale (d ⊗ inverse b) g)) t k ≡ 0#
      changed-vanishes l k o (yes h) =
          correct_zero
          (shift (suc n - 2 * L) f)
          g
          (d ⊗ inverse b)
          t
          k
          (
          act-x-power-mul (suc n - 2 * L) f t k
          ∙ x.shortest.fits.vanishes (suc n - 2 * L + k) (omega arith)
          )
          (x.earlier.zeros k h)
      changed-vanishes l k o (no h) =
          correct_last
          (shift (suc n - 2 * L) f)
          g
          d
          b
          t
          k
          x.earlier.nonzero
          (
          act-x-power-mul (suc n - 2 * L) f t k
          ∙ discrepancy-at f L t (suc n - 2 * L + k) (omega arith)
          ∙ e
          )
          (x.earlier.last k (omega arith))

      changed-monic : 2 * L ≤ n → Monic (shift (suc n - 2 * L) f ⊞ ⊟ (scale (d ⊗ inverse b) g)) (suc n - L)
      changed-monic l =
          monic_correct
          (d ⊗ inverse b)
          (
          subst
          (Monic (shift (suc n - 2 * L) f))
          (omega arith)
          (monic-mul (monic-x-power (suc n - 2 * L)) x.shortest.fits.monic)
          )
          x.earlier.small

      pub step-changed :
          ¬ (d ≡ 0#)
          → 2 * L ≤ n
          → State (shift (suc n - 2 * L) f ⊞ ⊟ (scale (d ⊗ inverse b) g)) f (suc n - L) d (suc n) t
      step-changed nonzero l =
          record {
            shortest = record {
              fits = record {
                monic = changed-monic l;
                vanishes = λ k o. changed-vanishes l k o (dec_lt (suc k) L);
              };
              least =
                  λ h i y.
                  omega
                  (arith, massey_bound x.shortest.fits (not-fits-suc x.short different) y);
            };
            short = omega arith;
            earlier =
                subst
                (λ b. Earlier f (suc n - L) (suc n) b t)
                e
                (earlier_of_fits x.shortest.fits different (omega (arith, x.short)) (ℕ.le_refl (suc n)));
          }
        where
          different : ¬ (discrepancy f L n t ≡ 0#)
          different z = nonzero (sym e ∙ z)

  -- Where 2L > n another polynomial of degree L fits.
  pub fits-another :
      {f g : Polynomial R D} {L n : ℕ} {b : K} {t : ℕ → K}
      → State f g L b n t
      → n < 2 * L
      → Fits (f ⊞ ⊟ (scale 1# g)) L n t × ¬ (f ⊞ ⊟ (scale 1# g) ≡ f)
  fits-another {f} {g} {L} {n} {b} {t} x l = (
    record {
      monic = monic_correct 1# x.shortest.fits.monic (below_weaken x.earlier.small (omega arith));
      vanishes =
          λ k o.
          correct_zero f g 1# t k (x.shortest.fits.vanishes k o) (x.earlier.zeros k (omega arith));
    },
    λ e. x.earlier.nonzero (different e),
  )
    where
      different : f ⊞ ⊟ (scale 1# g) ≡ f → b ≡ 0#
      different e =
          sym (one-mul R b)
          ∙ ap (◌⊗◌ 1#) (sym (x.earlier.last (L - 1) (omega arith)))
          ∙ neg_injective R (add_left_cancel R (act f t (L - 1)) both)
        where
          both : act f t (L - 1) ⊕ ⊖ (1# ⊗ act g t (L - 1)) ≡ act f t (L - 1) ⊕ ⊖ 0#
          both =
              sym (act_correct f g 1# t (L - 1))
              ∙ ap (λ h. act h t (L - 1)) e
              ∙ sym (ap (◌⊕◌ (act f t (L - 1))) (neg-zero R) ∙ add-zero (act f t (L - 1)))

  -- The start: no term is known.
  pub start : (t : ℕ → K) → State 1ₚ 0ₚ 0 1# 0 t
  start t =
      record {
        shortest = record {
          fits = record { monic = monic-one R D; vanishes = λ k l. absurd (ℕ.not-suc-le-zero l) };
          least = λ h e y. zero-le;
        };
        short = zero-le;
        earlier = record {
          small = below_of_zero R D 1;
          nonzero = F.one_nonzero;
          zeros = λ k l. absurd (ℕ.not-suc-le-zero l);
          last = λ k e. absurd (ℕ.suc-ne-zero k e);
        };
      }

  reach : {f g : Polynomial R D} {L n : ℕ} {b : K} {t : ℕ → K} → State f g L b n t → Reached R D t n
  reach {f} {g} {L} {b = b} x =
      record { current = f; previous = g; degree = L; value = b; state = x }

  pub step : (t : ℕ → K) (n : ℕ) → Reached R D t n → Reached R D t (suc n)
  step t n r = go (D d 0#) (dec_lt n (2 * r.degree))
    where
      d : K
      d = discrepancy r.current r.degree n t

      go : Dec (d ≡ 0#) → Dec (n < 2 * r.degree) → Reached R D t (suc n)
      go (yes z) _ = reach (step_same r.state z)
      go (no h) (yes l) = reach (step_kept r.state d refl l)
      go (no h) (no l) = reach (step-changed r.state d refl h (omega arith))

  pub reached : (t : ℕ → K) (n : ℕ) → Reached R D t n
  reached t zero = reach (start t)
  reached t (suc n) = step t n (reached t n)

  pub least_fit_exists : (t : ℕ → K) (n : ℕ) → (f : Polynomial R D) × (L : ℕ) × LeastFit f L n t
  least_fit_exists t n = let r = reached t n in (r.current, r.degree, r.state.shortest)

  pub minimal_exists :
      {s : ℕ → K} {g : Polynomial R D} {d : ℕ}
      → Monic g d
      → Kills s g
      → (f : Polynomial R D) × (n : ℕ) × Minimal s f n
  minimal_exists {s} {d = d} m z =
      let (f, L, x) = least_fit_exists s (2 * d) in (f, L, least_fit_minimal m z (ℕ.le_refl (2 * d)) x)
