-- Polynomials over a ring with decided equality, as a ring with plain equality.
--
--   trim R D xs        == the list xs without the zeros at its end
--   Polynomial R D     == lists that trimming leaves as they are, constant coefficient first; [] is 0
--   f.to_list          == the coefficients of f, of which the last is not 0
--   from_list R D xs    == the polynomial with the coefficients xs
--   polynomials R D    == the ring of polynomials
--   coefficient f n    == the coefficient of x^n in f; 0# from the length of the list on
--   coefficient-hom    == `coefficient` is a homomorphism into the ring of series
--   polynomial_ext     == polynomials with equal coefficients are equal
--   constant R D a     == the polynomial a
--   X R D              == the polynomial x
--   scale a f          == the product of the constant a and f
--   Below f n          == all coefficients of f from n on are 0: f is 0 or of degree less than n
--
-- Sum, product and so on of polynomials are read at a place by `coefficient-add`, `coefficient-mul-sum` and
-- their like, and a + x·f by `coefficient-cons-zero` and `coefficient-cons-suc`. Over a field F of the ring
-- R, the decided equality D is `F.discrete`.
-- Assumes nothing.
use mathlib.Core.Path.{◌≡◌, refl, sym, ap, ap₂, fun_ext, subst, ◌∙◌}
use mathlib.Core.HLevel.{is_prop→PathP}
use mathlib.Core.List
use mathlib.Core.List.{List, [], ◌∷◌, List-discrete}
use lib.ListN.{length, get_or-eq_default}
use Prim.Native.Nat.{ℕ, zero, suc, ◌+◌, ◌-◌, ◌≤◌, zero-le, suc-le-suc}
use native.Mathlib.Nat as ℕ
use Rattle.algebra.proofs.Rings.Ring.{Ring, Hom, induced, induced-hom, hom, zero-add}
use Rattle.algebra.proofs.Rings.Power.{power, hom-power}
use Rattle.algebra.proofs.Rings.Sum.{sum}
use Rattle.algebra.proofs.Polynomials.Series.{series, series-zero, series-one, series-add, series-neg}
use Rattle.algebra.proofs.Polynomials.Series.{series-mul-sum, constant-series, constant-zero}
use Rattle.algebra.proofs.Polynomials.Series.{constant-suc, constant-mul, constant-hom, scale-series}
use Rattle.algebra.proofs.Polynomials.Series.{shift-series, shift_zero, shift_suc, x-series, x-mul}
use Rattle.algebra.proofs.Polynomials.Series.{x-power-mul-above, coefficient-list, list-plus}
use Rattle.algebra.proofs.Polynomials.Series.{list-scale, list-neg, list-times, list-nil-series}
use Rattle.algebra.proofs.Polynomials.Series.{list-plus-series, list-scale-at, list-neg-series}
use Rattle.algebra.proofs.Polynomials.Series.{list-times-series, list-cons-series}
use Rattle.algebra.proofs.Polynomials.Series.{list-constant-series}

module _ {K : Type 0} (R : Ring K) (D : Discrete K) where
  open R use {0#}

  keep-or-drop : (a : K) → Dec (a ≡ 0#) → List K
  keep-or-drop a (yes z) = []
  keep-or-drop a (no h) = a ∷ []

  push : K → List K → List K
  push a [] = keep-or-drop a (D a 0#)
  push a (b ∷ ys) = a ∷ b ∷ ys

  pub trim : List K → List K
  trim [] = []
  trim (a ∷ xs) = push a (trim xs)

  push_at : (a : K) (ys : List K) (n : ℕ) → coefficient-list R (push a ys) n ≡ coefficient-list R (a ∷ ys) n
  unfolding push keep-or-drop
  push_at a (b ∷ ys) n = refl
  push_at a [] n = go (D a 0#) n
    where
      go :
          (d : Dec (a ≡ 0#)) (n : ℕ) → coefficient-list R (keep-or-drop a d) n ≡ coefficient-list R (a ∷ []) n
      go (yes z) zero = sym z
      go (yes z) (suc n) = refl
      go (no h) n = refl

  trim-at : (xs : List K) (n : ℕ) → coefficient-list R (trim xs) n ≡ coefficient-list R xs n
  unfolding trim
  trim-at [] n = refl
  trim-at (a ∷ xs) zero = push_at a (trim xs) 0
  trim-at (a ∷ xs) (suc n) = push_at a (trim xs) (suc n) ∙ trim-at xs n

  -- Trimming changes no coefficient, and equal coefficients give equal trimmed lists.
  pub trim-series : (xs : List K) → coefficient-list R (trim xs) ≡ coefficient-list R xs
  trim-series xs = fun_ext (trim-at xs)

  push-zero : (a : K) → a ≡ 0# → push a [] ≡ []
  unfolding push keep-or-drop
  push-zero a z = go (D a 0#)
    where
      go : (d : Dec (a ≡ 0#)) → keep-or-drop a d ≡ []
      go (yes _) = refl
      go (no h) = absurd (h z)

  trim-zeros : (xs : List K) → ((n : ℕ) → coefficient-list R xs n ≡ 0#) → trim xs ≡ []
  unfolding trim
  trim-zeros [] h = refl
  trim-zeros (a ∷ xs) h = ap (push a) (trim-zeros xs (λ n. h (suc n))) ∙ push-zero a (h 0)

  trim-equal :
      (xs ys : List K) → ((n : ℕ) → coefficient-list R xs n ≡ coefficient-list R ys n) → trim xs ≡ trim ys
  unfolding trim
  trim-equal [] ys h = sym (trim-zeros ys (λ n. sym (h n)))
  trim-equal (a ∷ xs) [] h = trim-zeros (a ∷ xs) h
  trim-equal (a ∷ xs) (b ∷ ys) h = ap₂ push (h 0) (trim-equal xs ys (λ n. h (suc n)))

  pub trim-unique : (xs ys : List K) → coefficient-list R xs ≡ coefficient-list R ys → trim xs ≡ trim ys
  trim-unique xs ys e = trim-equal xs ys (λ n. ap (λ u. u n) e)

  pub trim-trim : (xs : List K) → trim (trim xs) ≡ trim xs
  trim-trim xs = trim-unique (trim xs) xs (trim-series xs)

  -- A list with a last element other than 0 is trimmed; trimming comes below each bound of the coefficients.
  push-nonzero : (a : K) → ¬ (a ≡ 0#) → push a [] ≡ a ∷ []
  unfolding push keep-or-drop
  push-nonzero a h = go (D a 0#)
    where
      go : (d : Dec (a ≡ 0#)) → keep-or-drop a d ≡ a ∷ []
      go (yes z) = absurd (h z)
      go (no _) = refl

  pub trim-last :
      (xs : List K) (n : ℕ) → length xs ≡ suc n → ¬ (coefficient-list R xs n ≡ 0#) → trim xs ≡ xs
  unfolding trim push
  trim-last [] n e h = refl
  trim-last (a ∷ []) zero e h = push-nonzero a h
  trim-last (a ∷ []) (suc n) e h = absurd (h refl)
  trim-last (a ∷ b ∷ xs) zero e h = absurd (ℕ.suc-ne-zero (length xs) (ℕ.suc_inj e))
  trim-last (a ∷ b ∷ xs) (suc n) e h = ap (push a) (trim-last (b ∷ xs) n (ℕ.suc_inj e) h)

  push-length : (a : K) (ys : List K) (n : ℕ) → length ys ≤ n → length (push a ys) ≤ suc n
  unfolding push keep-or-drop
  push-length a (b ∷ ys) n l = suc-le-suc l
  push-length a [] n l = go (D a 0#)
    where
      go : (d : Dec (a ≡ 0#)) → length (keep-or-drop a d) ≤ suc n
      go (yes z) = zero-le
      go (no h) = suc-le-suc zero-le

  pub trim-length :
      (xs : List K) (n : ℕ) → ((i : ℕ) → n ≤ i → coefficient-list R xs i ≡ 0#) → length (trim xs) ≤ n
  unfolding trim
  trim-length xs zero h = ℕ.le_of_eq (ap (λ ys. length ys) (trim-zeros xs (λ i. h i zero-le)))
  trim-length [] (suc n) h = zero-le
  trim-length (a ∷ xs) (suc n) h =
      push-length a (trim xs) n (trim-length xs n (λ i l. h (suc i) (suc-le-suc l)))

pub record Polynomial {K : Type 0} (R : Ring K) (D : Discrete K) : Type 0 where
  pub to_list : List K
  pub trimmed : trim R D to_list ≡ to_list

module _ {K : Type 0} {R : Ring K} {D : Discrete K} where
  unfoldable pub coefficient : Polynomial R D → ℕ → K
  coefficient f = coefficient-list R f.to_list

  pub coefficient_to_list : (f : Polynomial R D) → coefficient f ≡ coefficient-list R f.to_list
  unfolding coefficient
  coefficient_to_list f = refl

  pub list_injective : (f g : Polynomial R D) → f.to_list ≡ g.to_list → f ≡ g
  list_injective f g e =
      λ i.
      record {
        to_list = e i;
        trimmed =
            is_prop→PathP
            (λ j. trim R D (e j) ≡ e j)
            (λ j. List.is_set R.is_set (trim R D (e j)) (e j))
            f.trimmed
            g.trimmed
            i;
      }

  coefficient_injective : (f g : Polynomial R D) → coefficient f ≡ coefficient g → f ≡ g
  unfolding coefficient
  coefficient_injective f g e =
      list_injective f g (sym f.trimmed ∙ trim-unique R D f.to_list g.to_list e ∙ g.trimmed)

  pub polynomial_ext : {f g : Polynomial R D} → ((n : ℕ) → coefficient f n ≡ coefficient g n) → f ≡ g
  polynomial_ext {f} {g} h = coefficient_injective f g (fun_ext h)

  pub polynomial_discrete : Discrete (Polynomial R D)
  polynomial_discrete f g = go (List-discrete D f.to_list g.to_list)
    where
      go : Dec (f.to_list ≡ g.to_list) → Dec (f ≡ g)
      go (yes e) = yes (list_injective f g e)
      go (no h) = no (λ e. h (ap (λ p. p.to_list) e))

module _ {K : Type 0} (R : Ring K) (D : Discrete K) where
  open R use {1#}
  open series R use {0# as 0ˢ, 1# as 1ˢ, ◌⊕◌ as ◌⊞◌, ◌⊗◌ as ◌⊠◌, ⊖◌ as ⊟◌}

  infixl 60 ◌⊞◌
  infixl 70 ◌⊠◌
  infix 80 ⊟◌
  unfoldable pub from_list : List K → Polynomial R D
  from_list xs = record { to_list = trim R D xs; trimmed = trim-trim R D xs }

  pub coefficient-from_list : (xs : List K) → coefficient (from_list xs) ≡ coefficient-list R xs
  unfolding coefficient from_list
  coefficient-from_list xs = trim-series R D xs

  pub to_list_from_list : (xs : List K) → (from_list xs).to_list ≡ trim R D xs
  unfolding from_list
  to_list_from_list xs = refl

  pub from_list_to_list : (f : Polynomial R D) → from_list f.to_list ≡ f
  from_list_to_list f = list_injective (from_list f.to_list) f (to_list_from_list f.to_list ∙ f.trimmed)

  add : Polynomial R D → Polynomial R D → Polynomial R D
  add f g = from_list (list-plus R f.to_list g.to_list)

  mul : Polynomial R D → Polynomial R D → Polynomial R D
  mul f g = from_list (list-times R f.to_list g.to_list)

  neg : Polynomial R D → Polynomial R D
  neg f = from_list (list-neg R f.to_list)

  zero-series : coefficient (from_list []) ≡ 0ˢ
  zero-series = coefficient-from_list [] ∙ list-nil-series R

  one-series : coefficient (from_list (1# ∷ [])) ≡ 1ˢ
  one-series = coefficient-from_list (1# ∷ []) ∙ list-constant-series R 1# ∙ sym (series-one R)

  add-series : (f g : Polynomial R D) → coefficient (add f g) ≡ coefficient f ⊞ coefficient g
  unfolding add coefficient
  add-series f g =
      coefficient-from_list (list-plus R f.to_list g.to_list) ∙ list-plus-series R f.to_list g.to_list

  mul-series : (f g : Polynomial R D) → coefficient (mul f g) ≡ coefficient f ⊠ coefficient g
  unfolding mul coefficient
  mul-series f g =
      coefficient-from_list (list-times R f.to_list g.to_list)
      ∙ list-times-series R f.to_list g.to_list

  neg-series : (f : Polynomial R D) → coefficient (neg f) ≡ ⊟ coefficient f
  unfolding neg coefficient
  neg-series f = coefficient-from_list (list-neg R f.to_list) ∙ list-neg-series R f.to_list

  pub polynomials : Ring (Polynomial R D)
  polynomials =
      induced
      (series R)
      coefficient
      coefficient_injective
      (from_list [])
      (from_list (1# ∷ []))
      add
      mul
      neg
      zero-series
      one-series
      add-series
      mul-series
      neg-series

  pub coefficient-hom : Hom polynomials (series R) coefficient
  unfolding polynomials
  coefficient-hom =
      induced-hom
      (series R)
      coefficient
      coefficient_injective
      (from_list [])
      (from_list (1# ∷ []))
      add
      mul
      neg
      zero-series
      one-series
      add-series
      mul-series
      neg-series

at : {K : Type 0} {u v : ℕ → K} (n : ℕ) → u ≡ v → u n ≡ v n
at n e = ap (λ w. w n) e

-- Coefficients of 0 and 1; constants, x and scaling.
module _ {K : Type 0} (R : Ring K) (D : Discrete K) where
  open R use {0#, 1#, ◌⊕◌, ◌⊗◌}
  open polynomials R D use {0# as 0ₚ, 1# as 1ₚ, ◌⊕◌ as ◌⊞◌, ◌⊗◌ as ◌⊠◌}

  infixl 60 ◌⊕◌ ◌⊞◌
  infixl 70 ◌⊗◌ ◌⊠◌
  pub coefficient-zero : (n : ℕ) → coefficient 0ₚ n ≡ 0#
  coefficient-zero n = at n (coefficient-hom R D).zero ∙ series-zero R n

  pub coefficient-one-zero : coefficient 1ₚ 0 ≡ 1#
  coefficient-one-zero = at 0 ((coefficient-hom R D).one ∙ series-one R) ∙ constant-zero R 1#

  pub coefficient-one-suc : (n : ℕ) → coefficient 1ₚ (suc n) ≡ 0#
  coefficient-one-suc n = at (suc n) ((coefficient-hom R D).one ∙ series-one R) ∙ constant-suc R 1# n

  unfoldable pub constant : K → Polynomial R D
  constant a = from_list R D (a ∷ [])

  unfoldable pub X : Polynomial R D
  X = from_list R D (0# ∷ 1# ∷ [])

  constant-coefficients : (a : K) → coefficient (constant a) ≡ constant-series R a
  unfolding constant
  constant-coefficients a = coefficient-from_list R D (a ∷ []) ∙ list-constant-series R a

  pub coefficient-constant-zero : (a : K) → coefficient (constant a) 0 ≡ a
  coefficient-constant-zero a = at 0 (constant-coefficients a) ∙ constant-zero R a

  pub coefficient-constant-suc : (a : K) (n : ℕ) → coefficient (constant a) (suc n) ≡ 0#
  coefficient-constant-suc a n = at (suc n) (constant-coefficients a) ∙ constant-suc R a n

  -- Constants form a copy of the ring R.
  pub constant-polynomial-hom : Hom R (polynomials R D) constant
  constant-polynomial-hom = hom one add mul
    where
      one : constant 1# ≡ 1ₚ
      one =
          coefficient_injective
          (constant 1#)
          1ₚ
          (constant-coefficients 1# ∙ (constant-hom R).one ∙ sym (coefficient-hom R D).one)

      add : (a b : K) → constant (a ⊕ b) ≡ constant a ⊞ constant b
      add a b =
          coefficient_injective
          (constant (a ⊕ b))
          (constant a ⊞ constant b)
          (
          constant-coefficients (a ⊕ b)
          ∙ (constant-hom R).add a b
          ∙ ap₂ (series R).◌⊕◌ (sym (constant-coefficients a)) (sym (constant-coefficients b))
          ∙ sym ((coefficient-hom R D).add (constant a) (constant b))
          )

      mul : (a b : K) → constant (a ⊗ b) ≡ constant a ⊠ constant b
      mul a b =
          coefficient_injective
          (constant (a ⊗ b))
          (constant a ⊠ constant b)
          (
          constant-coefficients (a ⊗ b)
          ∙ (constant-hom R).mul a b
          ∙ ap₂ (series R).◌⊗◌ (sym (constant-coefficients a)) (sym (constant-coefficients b))
          ∙ sym ((coefficient-hom R D).mul (constant a) (constant b))
          )

  x-coefficients : coefficient X ≡ x-series R
  unfolding X x-series
  x-coefficients =
      coefficient-from_list R D (0# ∷ 1# ∷ [])
      ∙ fun_ext (elim [ zero ↦ sym (shift_zero R _) | suc n ↦ at_suc n ])
    where
      at_suc : (n : ℕ) → coefficient-list R (1# ∷ []) n ≡ shift-series R (constant-series R 1#) (suc n)
      at_suc n = at n (list-constant-series R 1#) ∙ sym (shift_suc R (constant-series R 1#) n)

abbrev pub scale : {K : Type 0} {R : Ring K} {D : Discrete K} → K → Polynomial R D → Polynomial R D
scale {R = R} {D = D} a f = (polynomials R D).◌⊗◌ (constant R D a) f

-- Coefficients of sums, negatives, products, multiples and shifts.
module _ {K : Type 0} {R : Ring K} {D : Discrete K} where
  open R use {0#, ◌⊕◌, ◌⊗◌, ⊖◌, add-zero}
  open polynomials R D use {◌⊕◌ as ◌⊞◌, ◌⊗◌ as ◌⊠◌, ⊖◌ as ⊟◌}

  infixl 60 ◌⊕◌ ◌⊞◌
  infixl 70 ◌⊗◌ ◌⊠◌
  infix 80 ⊖◌ ⊟◌
  pub coefficient-add :
      (f g : Polynomial R D) (n : ℕ) → coefficient (f ⊞ g) n ≡ coefficient f n ⊕ coefficient g n
  coefficient-add f g n = at n ((coefficient-hom R D).add f g) ∙ series-add R (coefficient f)
      (coefficient g) n

  pub coefficient-neg : (f : Polynomial R D) (n : ℕ) → coefficient (⊟ f) n ≡ ⊖ coefficient f n
  coefficient-neg f n = at n ((coefficient-hom R D).neg f) ∙ series-neg R (coefficient f) n

  pub coefficient-mul-sum :
      (f g : Polynomial R D) (n : ℕ)
      → coefficient (f ⊠ g) n ≡ sum R (suc n) (λ i. coefficient f i ⊗ coefficient g (n - i))
  coefficient-mul-sum f g n =
      at n ((coefficient-hom R D).mul f g) ∙ series-mul-sum R (coefficient f) (coefficient g) n

  pub coefficient-scale :
      (a : K) (f : Polynomial R D) (n : ℕ) → coefficient (scale a f) n ≡ a ⊗ coefficient f n
  unfolding scale-series
  coefficient-scale a f n =
      at
      n
      (
      (coefficient-hom R D).mul (constant R D a) f
      ∙ ap (λ u. (series R).◌⊗◌ u (coefficient f)) (constant-coefficients R D a)
      ∙ constant-mul R a (coefficient f)
      )

  x-mul-coefficients : (f : Polynomial R D) → coefficient (X R D ⊠ f) ≡ shift-series R (coefficient f)
  x-mul-coefficients f =
      (coefficient-hom R D).mul (X R D) f
      ∙ ap (λ u. (series R).◌⊗◌ u (coefficient f)) (x-coefficients R D)
      ∙ x-mul R (coefficient f)

  pub coefficient-x-mul-zero : (f : Polynomial R D) → coefficient (X R D ⊠ f) 0 ≡ 0#
  coefficient-x-mul-zero f = at 0 (x-mul-coefficients f) ∙ shift_zero R (coefficient f)

  pub coefficient-x-mul-suc : (f : Polynomial R D) (n : ℕ) → coefficient (X R D ⊠ f) (suc n) ≡ coefficient f n
  coefficient-x-mul-suc f n = at (suc n) (x-mul-coefficients f) ∙ shift_suc R (coefficient f) n

  -- By the constant term and the rest.
  pub coefficient-cons-zero :
      (a : K) (f : Polynomial R D) → coefficient (constant R D a ⊞ X R D ⊠ f) 0 ≡ a
  coefficient-cons-zero a f =
      coefficient-add (constant R D a) (X R D ⊠ f) 0
      ∙ ap₂ ◌⊕◌ (coefficient-constant-zero R D a) (coefficient-x-mul-zero f)
      ∙ add-zero a

  pub coefficient-cons-suc :
      (a : K) (f : Polynomial R D) (n : ℕ)
      → coefficient (constant R D a ⊞ X R D ⊠ f) (suc n) ≡ coefficient f n
  coefficient-cons-suc a f n =
      coefficient-add (constant R D a) (X R D ⊠ f) (suc n)
      ∙ ap₂ ◌⊕◌ (coefficient-constant-suc R D a n) (coefficient-x-mul-suc f n)
      ∙ zero-add R (coefficient f n)

  x-power-coefficients :
      (k : ℕ) (f : Polynomial R D)
      → coefficient (power (polynomials R D) (X R D) k ⊠ f)
      ≡ (series R).◌⊗◌ (power (series R) (x-series R) k) (coefficient f)
  x-power-coefficients k f =
      (coefficient-hom R D).mul (power (polynomials R D) (X R D) k) f
      ∙ ap
      (λ u. (series R).◌⊗◌ u (coefficient f))
      (hom-power (coefficient-hom R D) (X R D) k ∙ ap (λ u. power (series R) u k) (x-coefficients R D))

  pub coefficient-x-power-mul-above :
      (k : ℕ) (f : Polynomial R D) (n : ℕ)
      → coefficient (power (polynomials R D) (X R D) k ⊠ f) (k + n) ≡ coefficient f n
  coefficient-x-power-mul-above k f n =
      at (k + n) (x-power-coefficients k f) ∙ x-power-mul-above R k (coefficient f) n

module _ {K : Type 0} (R : Ring K) (D : Discrete K) where
  open R use {◌⊗◌}
  open polynomials R D use {0# as 0ₚ, ◌⊕◌ as ◌⊞◌, ◌⊗◌ as ◌⊠◌, ⊖◌ as ⊟◌}

  infixl 60 ◌⊞◌
  infixl 70 ◌⊗◌ ◌⊠◌
  infix 80 ⊟◌
  -- Each operation of lists is that of the polynomials.
  pub from_list-nil : from_list R D [] ≡ 0ₚ
  from_list-nil =
      coefficient_injective (from_list R D []) 0ₚ (zero-series R D ∙ sym (coefficient-hom R D).zero)

  pub from_list-plus : (xs ys : List K) → from_list R D (list-plus R xs ys) ≡ from_list R D xs ⊞ from_list R
      D ys
  from_list-plus xs ys =
      coefficient_injective
      (from_list R D (list-plus R xs ys))
      (from_list R D xs ⊞ from_list R D ys)
      (
      coefficient-from_list R D (list-plus R xs ys)
      ∙ list-plus-series R xs ys
      ∙ ap₂
      (series R).◌⊕◌
      (sym (coefficient-from_list R D xs))
      (sym (coefficient-from_list R D ys))
      ∙ sym ((coefficient-hom R D).add (from_list R D xs) (from_list R D ys))
      )

  pub from_list-times :
      (xs ys : List K) → from_list R D (list-times R xs ys) ≡ from_list R D xs ⊠ from_list R D ys
  from_list-times xs ys =
      coefficient_injective
      (from_list R D (list-times R xs ys))
      (from_list R D xs ⊠ from_list R D ys)
      (
      coefficient-from_list R D (list-times R xs ys)
      ∙ list-times-series R xs ys
      ∙ ap₂
      (series R).◌⊗◌
      (sym (coefficient-from_list R D xs))
      (sym (coefficient-from_list R D ys))
      ∙ sym ((coefficient-hom R D).mul (from_list R D xs) (from_list R D ys))
      )

  pub from_list-scale : (a : K) (xs : List K) → from_list R D (list-scale R a xs) ≡ scale a (from_list R D xs)
  from_list-scale a xs = polynomial_ext place
    where
      place :
          (n : ℕ)
          → coefficient (from_list R D (list-scale R a xs)) n ≡ coefficient (scale a (from_list R D xs)) n
      place n =
          at n (coefficient-from_list R D (list-scale R a xs))
          ∙ list-scale-at R a xs n
          ∙ ap (◌⊗◌ a) (sym (at n (coefficient-from_list R D xs)))
          ∙ sym (coefficient-scale a (from_list R D xs) n)

  pub from_list-cons :
      (a : K) (xs : List K) → from_list R D (a ∷ xs) ≡ constant R D a ⊞ X R D ⊠ from_list R D xs
  from_list-cons a xs =
      coefficient_injective
      (from_list R D (a ∷ xs))
      (constant R D a ⊞ X R D ⊠ from_list R D xs)
      (
      coefficient-from_list R D (a ∷ xs)
      ∙ list-cons-series R a xs
      ∙ ap₂
      (series R).◌⊕◌
      (sym (constant-coefficients R D a))
      (
      ap (shift-series R) (sym (coefficient-from_list R D xs))
      ∙ sym (x-mul-coefficients (from_list R D xs))
      )
      ∙ sym ((coefficient-hom R D).add (constant R D a) (X R D ⊠ from_list R D xs))
      )

  -- Induction: a property of 0 that passes from f to a + x·f holds of all polynomials.
  pub polynomial_induction :
      (P : Polynomial R D → Type 0)
      → P 0ₚ
      → ((a : K) (f : Polynomial R D) → P f → P (constant R D a ⊞ X R D ⊠ f))
      → (f : Polynomial R D)
      → P f
  polynomial_induction P base step f = subst P (from_list_to_list R D f) (go f.to_list)
    where
      go : (xs : List K) → P (from_list R D xs)
      go [] = subst P (sym from_list-nil) base
      go (a ∷ xs) = subst P (sym (from_list-cons a xs)) (step a (from_list R D xs) (go xs))

-- Bounds on the degree.
pub record Below {K : Type 0} {R : Ring K} {D : Discrete K} (f : Polynomial R D) (n : ℕ) : Type 0 where
  pub above : (i : ℕ) → n ≤ i → coefficient f i ≡ R.0#

module _ {K : Type 0} {R : Ring K} {D : Discrete K} where
  open R use {0#}
  open polynomials R D use {0# as 0ₚ}

  pub below_length : (f : Polynomial R D) → Below f (length f.to_list)
  below_length f =
      record { above = λ i l. at i (coefficient_to_list f) ∙ get_or-eq_default f.to_list 0# l }

  pub length-below : {f : Polynomial R D} {n : ℕ} → Below f n → length f.to_list ≤ n
  unfolding coefficient
  length-below {f} {n} b = subst (λ ys. length ys ≤ n) f.trimmed (trim-length R D f.to_list n b.above)

  pub below_weaken : {f : Polynomial R D} {m n : ℕ} → Below f m → m ≤ n → Below f n
  below_weaken b l = record { above = λ i h. b.above i (ℕ.le_trans l h) }

  -- A polynomial below 0 is 0.
  pub below-zero : {f : Polynomial R D} → Below f 0 → f ≡ 0ₚ
  below-zero {f} b = polynomial_ext (λ n. b.above n zero-le ∙ sym (coefficient-zero R D n))
