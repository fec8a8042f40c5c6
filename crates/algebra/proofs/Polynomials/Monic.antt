-- Degrees, leading terms and monic polynomials.
--
--   Degree f n         == the coefficient n of f is not 0 and all above are: f has degree n; 0 has none
--   Monic f n          == the coefficient n of f is 1 and all above are 0: f is monic of degree n
--   MonicList R xs n   == the list xs has n + 1 elements and the last is 1
--   Nontrivial R       == 1 is not 0 in R; a field is so by `one_nonzero`
--   leading-term       == each polynomial is 0 or has a degree
--   monic-mul          == degrees of monic polynomials add up
--   monic-power        == the power k of a monic polynomial of degree n is monic of degree n·k
--   monic-cancel       == a monic polynomial is no zero divisor
--   monic-list-unique  == monic lists with equal series are equal
--   degree-mul         == over a field, degrees add up
--
-- Bounds on the degree are `Below f n` of Polynomial.
-- Assumes nothing.
use mathlib.Core.Path.{◌≡◌, refl, sym, ap, ap₂, subst, ◌∙◌}
use mathlib.Core.Logic.{◌⊎◌, inl, inr, ◌≢◌}
use mathlib.Core.List.{List}
use lib.ListN.{length, get_or-eq_default}
use lib.Seq.{ext_get_or}
use Prim.Native.Nat.{ℕ, zero, suc, ◌+◌, ◌*◌, ◌-◌, ◌≤◌, ◌<◌}
use native.Mathlib.Nat as ℕ
use native.Mathlib.Decide.{dec_lt}
use native.Mathlib.Omega.{arith}
use Rattle.algebra.proofs.Rings.Ring.{Ring, Field}
use Rattle.algebra.proofs.Rings.Ring.{one-mul, zero-mul, mul-zero, neg-zero, mul-sub, eq_of_sub-zero}
use Rattle.algebra.proofs.Rings.Ring.{sub-zero_of_eq, inverse-mul, mul-inverse-cancel, mul-nonzero}
use Rattle.algebra.proofs.Rings.Power.{power, power_zero, power-suc}
use Rattle.algebra.proofs.Rings.Sum.{sum_zeros, sum-single}
use Rattle.algebra.proofs.Polynomials.Series.{coefficient-list}
use Rattle.algebra.proofs.Polynomials.Polynomial.{Polynomial, Below, polynomials, polynomial_ext}
use Rattle.algebra.proofs.Polynomials.Polynomial.{coefficient, coefficient_to_list}
use Rattle.algebra.proofs.Polynomials.Polynomial.{coefficient-from_list, coefficient-zero}
use Rattle.algebra.proofs.Polynomials.Polynomial.{coefficient-one-zero, coefficient-one-suc}
use Rattle.algebra.proofs.Polynomials.Polynomial.{coefficient-add, coefficient-neg}
use Rattle.algebra.proofs.Polynomials.Polynomial.{coefficient-mul-sum, coefficient-scale, scale, X}
use Rattle.algebra.proofs.Polynomials.Polynomial.{from_list, length-below, below_length, below_weaken}
use Rattle.algebra.proofs.Polynomials.Polynomial.{below-zero}

abbrev pub Nontrivial : {K : Type 0} → Ring K → Type 0
Nontrivial R = ¬ (R.1# ≡ R.0#)

pub record Degree {K : Type 0} {R : Ring K} {D : Discrete K} (f : Polynomial R D) (n : ℕ) : Type 0 where
  pub leading : ¬ (coefficient f n ≡ R.0#)
  pub below : Below f (suc n)

pub record Monic {K : Type 0} {R : Ring K} {D : Discrete K} (f : Polynomial R D) (n : ℕ) : Type 0 where
  pub leading : coefficient f n ≡ R.1#
  pub below : Below f (suc n)

module _ {K : Type 0} {R : Ring K} {D : Discrete K} where
  open R use {0#, 1#, ◌⊕◌, ◌⊗◌, ⊖◌, add-zero, mul-one}
  open polynomials R D use {0# as 0ₚ, ◌⊕◌ as ◌⊞◌, ◌⊗◌ as ◌⊠◌, ⊖◌ as ⊟◌}

  infixl 60 ◌⊕◌ ◌⊞◌
  infixl 70 ◌⊗◌ ◌⊠◌
  infix 80 ⊖◌ ⊟◌
  -- Bounds of sums, negatives, multiples and products.
  pub below-add : {f g : Polynomial R D} {n : ℕ} → Below f n → Below g n → Below (f ⊞ g) n
  below-add {f} {g} b c =
      record
      { above = λ i l. coefficient-add f g i ∙ ap₂ ◌⊕◌ (b.above i l) (c.above i l) ∙ add-zero 0# }

  pub below-neg : {f : Polynomial R D} {n : ℕ} → Below f n → Below (⊟ f) n
  below-neg {f} b = record { above = λ i l. coefficient-neg f i ∙ ap ⊖◌ (b.above i l) ∙ neg-zero R }

  pub below-scale : (a : K) {f : Polynomial R D} {n : ℕ} → Below f n → Below (scale a f) n
  below-scale a {f} b =
      record { above = λ i l. coefficient-scale a f i ∙ ap (◌⊗◌ a) (b.above i l) ∙ mul-zero R a }

  below-term :
      {f g : Polynomial R D} {n m : ℕ}
      → Below f n
      → Below g m
      → (i j : ℕ)
      → (n ≤ j) ⊎ (m ≤ i - j)
      → coefficient f j ⊗ coefficient g (i - j) ≡ 0#
  below-term {f} {g} b c i j (inl l) =
      ap (λ u. u ⊗ coefficient g (i - j)) (b.above j l) ∙ zero-mul R (coefficient g (i - j))
  below-term {f} {g} b c i j (inr l) =
      ap (◌⊗◌ (coefficient f j)) (c.above (i - j) l) ∙ mul-zero R (coefficient f j)

  pub below-mul :
      {f g : Polynomial R D} {n m : ℕ} → Below f (suc n) → Below g (suc m) → Below (f ⊠ g) (suc (n + m))
  below-mul {f} {g} {n} {m} b c =
      record {
        above =
            λ i l.
            coefficient-mul-sum f g i
            ∙ sum_zeros R (suc i) (λ j _. below-term b c i j (side i j l (dec_lt n j)));
      }
    where
      side : (i j : ℕ) → suc (n + m) ≤ i → Dec (n < j) → (suc n ≤ j) ⊎ (suc m ≤ i - j)
      side i j l (yes h) = inl h
      side i j l (no h) = inr (omega arith)

  -- The coefficient at the sum of two bounds is the product of the two coefficients there.
  pub coefficient-top :
      {f g : Polynomial R D} {n m : ℕ}
      → Below f (suc n)
      → Below g (suc m)
      → coefficient (f ⊠ g) (n + m) ≡ coefficient f n ⊗ coefficient g m
  coefficient-top {f} {g} {n} {m} b c =
      coefficient-mul-sum f g (n + m)
      ∙ sum-single R (suc (n + m)) n (omega arith) (λ j h. below-term b c (n + m) j (side j h (dec_lt n j)))
      ∙ ap (λ k. coefficient f n ⊗ coefficient g k) (ℕ.add-sub_cancel_left n m)
    where
      side : (j : ℕ) → j ≢ n → Dec (n < j) → (suc n ≤ j) ⊎ (suc m ≤ n + m - j)
      side j h (yes l) = inl l
      side j h (no l) = inr (omega arith)

  -- A degree lies below each bound; so there is at most one.
  pub degree-below : {f : Polynomial R D} {n m : ℕ} → Degree f n → Below f m → n < m
  degree-below {f} {n} {m} d b = go (dec_lt n m)
    where
      go : Dec (n < m) → n < m
      go (yes l) = l
      go (no h) = absurd (d.leading (b.above n (omega arith)))

  pub degree-unique : {f : Polynomial R D} {n m : ℕ} → Degree f n → Degree f m → n ≡ m
  degree-unique d e =
      ℕ.le_antisymm
      (ℕ.le_of_suc-le-suc (degree-below d e.below))
      (ℕ.le_of_suc-le-suc (degree-below e d.below))

  pub degree-nonzero : {f : Polynomial R D} {n : ℕ} → Degree f n → ¬ (f ≡ 0ₚ)
  degree-nonzero {n = n} d e = d.leading (ap (λ p. coefficient p n) e ∙ coefficient-zero R D n)

  -- Going down from a bound to the first coefficient that is not 0.
  pub below_step : {f : Polynomial R D} {n : ℕ} → Below f (suc n) → coefficient f n ≡ 0# → Below f n
  below_step {f} {n} b z = record { above = λ i l. go i (ℕ.eq-or-lt_of_le l) }
    where
      go : (i : ℕ) → (n ≡ i) ⊎ (n < i) → coefficient f i ≡ 0#
      go i (inl e) = ap (coefficient f) (sym e) ∙ z
      go i (inr l) = b.above i l

  descend : {f : Polynomial R D} (n : ℕ) → Below f n → (f ≡ 0ₚ) ⊎ ((k : ℕ) × Degree f k)
  descend zero b = inl (below-zero b)
  descend {f} (suc n) b = go (D (coefficient f n) 0#) (λ z. descend n (below_step b z))
    where
      go :
          Dec (coefficient f n ≡ 0#)
          → (coefficient f n ≡ 0# → (f ≡ 0ₚ) ⊎ ((k : ℕ) × Degree f k))
          → (f ≡ 0ₚ) ⊎ ((k : ℕ) × Degree f k)
      go (yes z) rest = rest z
      go (no h) rest = inr (n, record { leading = h; below = b })

  pub leading-term : (f : Polynomial R D) → (f ≡ 0ₚ) ⊎ ((n : ℕ) × Degree f n)
  leading-term f = descend (length f.to_list) (below_length f)

  -- Monic polynomials.
  pub monic-degree : Nontrivial R → {f : Polynomial R D} {n : ℕ} → Monic f n → Degree f n
  monic-degree h m = record { leading = λ z. h (sym m.leading ∙ z); below = m.below }

  pub monic-unique : Nontrivial R → {f : Polynomial R D} {n m : ℕ} → Monic f n → Monic f m → n ≡ m
  monic-unique h a b = degree-unique (monic-degree h a) (monic-degree h b)

  pub monic-nonzero : Nontrivial R → {f : Polynomial R D} {n : ℕ} → Monic f n → ¬ (f ≡ 0ₚ)
  monic-nonzero h m = degree-nonzero (monic-degree h m)

  pub monic-mul : {f g : Polynomial R D} {n m : ℕ} → Monic f n → Monic g m → Monic (f ⊠ g) (n + m)
  monic-mul a b =
      record {
        leading =
            coefficient-top a.below b.below ∙ ap₂ ◌⊗◌ a.leading b.leading ∙ mul-one 1#;
        below = below-mul a.below b.below;
      }

  pub monic-add-below : {f g : Polynomial R D} {n : ℕ} → Monic f n → Below g n → Monic (f ⊞ g) n
  monic-add-below {f} {g} {n} a b =
      record {
        leading =
            coefficient-add f g n
            ∙ ap₂ ◌⊕◌ a.leading (b.above n (ℕ.le_refl n))
            ∙ add-zero 1#;
        below = below-add a.below (below_weaken b (ℕ.le-suc n));
      }

  -- The product with a monic polynomial has the leading coefficient of the other factor.
  pub monic-mul-top :
      {f g : Polynomial R D} {n m : ℕ}
      → Monic f n
      → Below g (suc m)
      → coefficient (f ⊠ g) (n + m) ≡ coefficient g m
  monic-mul-top {g = g} {m = m} a b =
      coefficient-top a.below b ∙ ap (λ u. u ⊗ coefficient g m) a.leading ∙ one-mul R (coefficient g m)

  pub degree-monic-mul : {f g : Polynomial R D} {n m : ℕ} → Monic f n → Degree g m → Degree (f ⊠ g) (n + m)
  degree-monic-mul a d =
      record {
        leading = λ z. d.leading (sym (monic-mul-top a d.below) ∙ z);
        below = below-mul a.below d.below;
      }

  pub monic-mul-zero : {f g : Polynomial R D} {n : ℕ} → Monic f n → f ⊠ g ≡ 0ₚ → g ≡ 0ₚ
  monic-mul-zero {f} {g} {n} a e = go (leading-term g)
    where
      go : (g ≡ 0ₚ) ⊎ ((m : ℕ) × Degree g m) → g ≡ 0ₚ
      go (inl z) = z
      go (inr (m, d)) = absurd (degree-nonzero (degree-monic-mul a d) e)

  pub monic-cancel : {f g h : Polynomial R D} {n : ℕ} → Monic f n → f ⊠ g ≡ f ⊠ h → g ≡ h
  monic-cancel {f} {g} {h} a e =
      eq_of_sub-zero
      (polynomials R D)
      (
      monic-mul-zero
      a
      (mul-sub (polynomials R D) f g h ∙ sub-zero_of_eq (polynomials R D) e)
      )

  -- If f and f·g are monic, so is g, and the degrees add up.
  pub monic-cofactor :
      Nontrivial R
      → {f g : Polynomial R D} {n m : ℕ}
      → Monic f n
      → Monic (f ⊠ g) m
      → (k : ℕ) × (n + k ≡ m) × Monic g k
  monic-cofactor h {f} {g} {n} {m} a b = go (leading-term g)
    where
      go : (g ≡ 0ₚ) ⊎ ((k : ℕ) × Degree g k) → (k : ℕ) × (n + k ≡ m) × Monic g k
      go (inl z) = absurd (monic-nonzero h b (ap (◌⊠◌ f) z ∙ mul-zero (polynomials R D) f))
      go (inr (k, d)) =
          let e : n + k ≡ m = degree-unique (degree-monic-mul a d) (monic-degree h b) in (
            k,
            e,
            record {
              leading =
                  sym (monic-mul-top a d.below) ∙ ap (coefficient (f ⊠ g)) e ∙ b.leading;
              below = d.below;
            },
          )

-- Monic lists.
pub record MonicList {K : Type 0} (R : Ring K) (xs : List K) (n : ℕ) : Type 0 where
  pub size : length xs ≡ suc n
  pub last : coefficient-list R xs n ≡ R.1#

module _ {K : Type 0} {R : Ring K} where
  open R use {0#}

  list-above : {xs : List K} {n : ℕ} → MonicList R xs n → (i : ℕ) → suc n ≤ i → coefficient-list R xs i ≡ 0#
  list-above {xs} m i l = get_or-eq_default xs 0# (subst (λ k. k ≤ i) (sym m.size) l)

  monic-list-size :
      Nontrivial R
      → {xs ys : List K} {n m : ℕ}
      → MonicList R xs n
      → MonicList R ys m
      → coefficient-list R xs ≡ coefficient-list R ys
      → m ≤ n
  monic-list-size h {xs} {ys} {n} {m} a b e = go (dec_lt n m)
    where
      go : Dec (n < m) → m ≤ n
      go (yes l) = absurd (h (sym b.last ∙ sym (ap (λ u. u m) e) ∙ list-above a m l))
      go (no l) = omega arith

  pub monic-list-unique :
      Nontrivial R
      → {xs ys : List K} {n m : ℕ}
      → MonicList R xs n
      → MonicList R ys m
      → coefficient-list R xs ≡ coefficient-list R ys
      → xs ≡ ys
  monic-list-unique h {xs} {ys} {n} {m} a b e =
      ext_get_or 0# xs ys (a.size ∙ ap suc same ∙ sym b.size) (λ i _. ap (λ u. u i) e)
    where
      same : n ≡ m
      same = ℕ.le_antisymm (monic-list-size h b a (sym e)) (monic-list-size h a b e)

-- Monic lists and monic polynomials; the polynomials 0, 1 and x.
module _ {K : Type 0} (R : Ring K) (D : Discrete K) where
  open R use {0#}
  open polynomials R D use {0# as 0ₚ, 1# as 1ₚ}

  pub monic-from_list : {xs : List K} {n : ℕ} → MonicList R xs n → Monic (from_list R D xs) n
  monic-from_list {xs} {n} m =
      record {
        leading = ap (λ u. u n) (coefficient-from_list R D xs) ∙ m.last;
        below = record { above = λ i l. ap (λ u. u i) (coefficient-from_list R D xs) ∙ list-above m i l };
      }

  pub below_of_zero : (n : ℕ) → Below 0ₚ n
  below_of_zero n = record { above = λ i _. coefficient-zero R D i }

  below_one : (f : Polynomial R D) → ((i : ℕ) → coefficient f (suc i) ≡ 0#) → Below f 1
  below_one f h = record { above = go }
    where
      go : (i : ℕ) → 1 ≤ i → coefficient f i ≡ 0#
      go zero l = absurd (ℕ.not-suc-le-zero l)
      go (suc i) l = h i

  pub monic-one : Monic 1ₚ 0
  monic-one = record { leading = coefficient-one-zero R D; below = below_one 1ₚ (coefficient-one-suc R D) }

  pub monic-x : Monic (X R D) 1
  unfolding X
  monic-x = monic-from_list (record { size = refl; last = refl })

module _ {K : Type 0} {R : Ring K} {D : Discrete K} where
  pub degree-length : {f : Polynomial R D} {n : ℕ} → Degree f n → length f.to_list ≡ suc n
  degree-length {f} d = ℕ.le_antisymm (length-below d.below) (degree-below d (below_length f))

  pub monic_to_list : Nontrivial R → {f : Polynomial R D} {n : ℕ} → Monic f n → MonicList R f.to_list n
  monic_to_list h {f} {n} m =
      record {
        size = degree-length (monic-degree h m);
        last = sym (ap (λ u. u n) (coefficient_to_list f)) ∙ m.leading;
      }

  pub monic-power :
      {f : Polynomial R D} {n : ℕ} (k : ℕ) → Monic f n → Monic (power (polynomials R D) f k) (n * k)
  monic-power {f} {n} zero a = rw (power_zero (polynomials R D) f, ℕ.mul-zero n) (monic-one R D)
  monic-power {f} {n} (suc k) a =
      rw (power-suc (polynomials R D) f k, ℕ.mul-suc n k) (monic-mul (monic-power k a) a)

  pub monic-x-power : (k : ℕ) → Monic (power (polynomials R D) (X R D) k) k
  monic-x-power k = rw ℕ.one-mul at (monic-power k (monic-x R D))

-- Over a field.
module _ {K : Type 0} {R : Ring K} {D : Discrete K} (F : Field R) where
  open R use {0#, ◌⊗◌}
  open polynomials R D use {0# as 0ₚ, ◌⊗◌ as ◌⊠◌}
  open F use {inverse}

  infixl 70 ◌⊗◌ ◌⊠◌
  -- Degrees add up; there are no zero divisors.
  pub degree-mul : {f g : Polynomial R D} {n m : ℕ} → Degree f n → Degree g m → Degree (f ⊠ g) (n + m)
  degree-mul d e =
      record {
        leading =
            λ z. mul-nonzero F d.leading e.leading (sym (coefficient-top d.below e.below) ∙ z);
        below = below-mul d.below e.below;
      }

  -- The monic multiple of a polynomial.
  pub monic-scale :
      {f : Polynomial R D} {n : ℕ} → Degree f n → Monic (scale (inverse (coefficient f n)) f) n
  monic-scale {f} {n} d =
      record {
        leading =
            coefficient-scale (inverse (coefficient f n)) f n ∙ inverse-mul F (coefficient f n) d.leading;
        below = below-scale (inverse (coefficient f n)) d.below;
      }

  pub scale-inverse : (a : K) (f : Polynomial R D) → ¬ (a ≡ 0#) → scale a (scale (inverse a) f) ≡ f
  scale-inverse a f h =
      polynomial_ext
      (
      λ n.
      coefficient-scale a (scale (inverse a) f) n
      ∙ ap (◌⊗◌ a) (coefficient-scale (inverse a) f n)
      ∙ mul-inverse-cancel F a (coefficient f n) h
      )
