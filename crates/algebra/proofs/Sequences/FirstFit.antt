-- The polynomials of the least degree L that fit m terms, where 2L may exceed m and several fit.
--
-- Of the state after m terms f is the polynomial that fits, of degree L, and g the earlier one, here monic of
-- some degree e. The window is the places from e to e + 2L − m − 1.
--
--   earlier-room     == e + L ≤ m
--   difference_low, difference-high == a monic polynomial of a degree k below L whose action vanishes where
--                       that of f must has its degree in the window
--   fits-window      == another one that fits differs from f at a place of the window, and above it nowhere
--   fits-reduced     == f less a multiple of g by a polynomial below 2L − m fits as well
--
-- So where f is 0 at the places of the window, it has the smaller coefficient at the highest place where
-- another one differs, whatever the order of the coefficients is in which 0 comes first.
-- Assumes nothing.
use mathlib.Core.Path.{◌≡◌, sym, ◌∙◌}
use mathlib.Core.Logic.{◌⊎◌, inl, inr}
use Prim.Native.Nat.{ℕ, suc, ◌+◌, ◌*◌, ◌-◌, ◌≤◌, ◌<◌}
use native.Mathlib.Decide.{dec_lt}
use native.Mathlib.Omega.{arith}
use Rattle.algebra.proofs.Rings.Ring.{Ring, Field, sub-zero_of_eq, eq_of_sub-zero}
use Rattle.algebra.proofs.Polynomials.Polynomial.{Polynomial, Below, below_weaken, polynomials}
use Rattle.algebra.proofs.Polynomials.Polynomial.{coefficient}
use Rattle.algebra.proofs.Polynomials.Monic.{Monic, Degree, leading-term, degree-below, monic-degree}
use Rattle.algebra.proofs.Polynomials.Monic.{monic-scale}
use Rattle.algebra.proofs.Polynomials.Monic.{monic-add-below, below-mul, below-neg}
use Rattle.algebra.proofs.Sequences.Action.{act, act_local, act-sub, act-mul, act_comm}
use Rattle.algebra.proofs.Sequences.Action.{act-sequence-zero, Agree}
use Rattle.algebra.proofs.Sequences.Continuation.{monic-zeros}
use Rattle.algebra.proofs.Sequences.Massey.{Fits, fits_extension, monic-sub-below}
use Rattle.algebra.proofs.Sequences.Massey.{difference-vanishes}
use Rattle.algebra.proofs.Sequences.MasseyStep.{State}

module _ {K : Type 0} {R : Ring K} {D : Discrete K} (F : Field R) where
  open R use {0#}
  open polynomials R D use {0# as 0ₚ, ◌⊕◌ as ◌⊞◌, ◌⊗◌ as ◌⊠◌, ⊖◌ as ⊟◌}
  open F use {inverse}

  infixl 60 ◌⊞◌
  infixl 70 ◌⊠◌
  infix 80 ⊟◌
  module _
      {f g : Polynomial R D} {L e m : ℕ} {b : K} {t : ℕ → K} (x : State f g L b m t) (o : Monic g e)
    where
      pub earlier-room : e + L ≤ m
      earlier-room =
          let l : e < suc m - L = degree-below (monic-degree F.one_nonzero o) x.earlier.small in
          omega (arith, x.short)

      module _
          {h : Polynomial R D} {k : ℕ} (y : Monic h k) (small : k < L)
          (zeros : (j : ℕ) → j + L < m → act h t j ≡ 0#)
        where
          -- commuting with g, it would fit e + L − 1 terms and so all m, below the least degree
          difference_low : e ≤ k
          difference_low = go (dec_lt k e)
            where
              begins : Agree e (act h t) (λ _. 0#)
              begins j l = zeros j (omega (arith, earlier-room))

              goes_on : Agree (L - suc k) (act g (act h t)) (λ _. 0#)
              goes_on j l =
                  act_comm g h t j
                  ∙ act_local y.below (act g t) (λ _. 0#) j j
                  (λ i q. x.earlier.zeros (j + i) (omega arith))
                  ∙ act-sequence-zero h j

              longer : Fits h k (e + L - 1) t
              longer =
                  record {
                    monic = y;
                    vanishes = λ j l. monic-zeros o (act h t) begins (L - suc k) goes_on j (omega arith);
                  }

              go : Dec (k < e) → e ≤ k
              go (yes l) =
                  let z : L ≤ k =
                  x.shortest.least h k (fits_extension longer x.shortest.fits (omega arith)) in
                  absurd (omega arith)
              go (no l) = omega arith

          -- commuting with it, the action of g would vanish at the place L − 1, where it is b
          difference-high : k + m < e + 2 * L
          difference-high = go (dec_lt (k + m) (e + 2 * L))
            where
              begins : Agree k (act g t) (λ _. 0#)
              begins j l = x.earlier.zeros j (omega arith)

              goes_on : ¬ (k + m < e + 2 * L) → Agree (L - k) (act h (act g t)) (λ _. 0#)
              goes_on n j l =
                  act_comm h g t j
                  ∙ act_local o.below (act h t) (λ _. 0#) j j (λ i q. zeros (j + i) (omega arith))
                  ∙ act-sequence-zero g j

              go : Dec (k + m < e + 2 * L) → k + m < e + 2 * L
              go (yes l) = l
              go (no n) =
                  let z : act g t (L - 1) ≡ 0# =
                  monic-zeros y (act g t) begins (L - k) (goes_on n) (L - 1) (omega arith) in
                  absurd (x.earlier.nonzero (sym (x.earlier.last (L - 1) (omega arith)) ∙ z))

      pub fits-window :
          {h : Polynomial R D}
          → Fits h L m t
          → (h ≡ f) ⊎ ((k : ℕ) × (e ≤ k) × (k + m < e + 2 * L) × Degree (h ⊞ ⊟ f) k)
      fits-window {h} y = go (leading-term (h ⊞ ⊟ f))
        where
          below : Below (h ⊞ ⊟ f) L
          below = monic-sub-below y.monic x.shortest.fits.monic

          go :
              (h ⊞ ⊟ f ≡ 0ₚ) ⊎ ((k : ℕ) × Degree (h ⊞ ⊟ f) k)
              → (h ≡ f) ⊎ ((k : ℕ) × (e ≤ k) × (k + m < e + 2 * L) × Degree (h ⊞ ⊟ f) k)
          go (inl z) = inl (eq_of_sub-zero (polynomials R D) z)
          go (inr (k, d)) =
              let u = monic-scale F d in
              let small : k < L = degree-below d below in
              let v = difference-vanishes F x.shortest.fits y (inverse (coefficient (h ⊞ ⊟ f) k)) in
              inr (k, difference_low u small v, difference-high u small v, d)

      pub fits-reduced :
          {q : Polynomial R D}
          → m < 2 * L
          → Below q (2 * L - m)
          → State (f ⊞ ⊟ (q ⊠ g)) g L b m t
      fits-reduced {q} l w =
          record {
            shortest = record {
              fits = record {
                monic = monic-add-below x.shortest.fits.monic (below-neg below);
                vanishes =
                    λ j i.
                    act-sub f (q ⊠ g) t j
                    ∙ sub-zero_of_eq R (x.shortest.fits.vanishes j i ∙ sym (gone j i));
              };
              least = x.shortest.least;
            };
            short = x.short;
            earlier = x.earlier;
          }
        where
          below : Below (q ⊠ g) L
          below =
              below_weaken (below-mul {n = 2 * L - suc m} (below_weaken w (omega arith)) o.below)
              (omega (arith, earlier-room))

          gone : (j : ℕ) → j + L < m → act (q ⊠ g) t j ≡ 0#
          gone j i =
              act-mul q g t j
              ∙ act_local w (act g t) (λ _. 0#) j j (λ n k. x.earlier.zeros (j + n) (omega arith))
              ∙ act-sequence-zero q j
