-- Commutative rings and fields over a carrier type, as records of unconditional laws, and the laws that
-- follow at once.
--
--   Ring K         == a commutative ring with 1 on the carrier K, which is a set; the ring with 0 = 1 is one
--   Field R        == the ring R is a field: equality is decided, 0 differs from 1, and each element other
--                     than 0 has an inverse; `inverse 0` is some element of which nothing is said
--   Hom R S f      == the map f between the carriers of R and S respects 0, 1, sum, product and negative
--   induced        == operations that an injective map takes to those of a ring form a ring themselves
--
-- A difference is written `a ⊕ ⊖ b`.
-- Assumes nothing.
use mathlib.Core.Path.{◌≡◌, sym, ap, ap₂, ◌∙◌}
use mathlib.Core.Logic.{◌⊎◌, inl, inr}
use mathlib.Core.HLevel.{collapsible→set}

pub record Ring (K : Type 0) : Type 0 where
  pub is_set : IsSet K
  pub 0# : K
  pub 1# : K
  pub ◌⊕◌ : K → K → K
  pub ◌⊗◌ : K → K → K
  pub ⊖◌ : K → K
  pub add_assoc : (a b c : K) → ◌⊕◌ (◌⊕◌ a b) c ≡ ◌⊕◌ a (◌⊕◌ b c)
  pub add_comm : (a b : K) → ◌⊕◌ a b ≡ ◌⊕◌ b a
  pub add-zero : (a : K) → ◌⊕◌ a 0# ≡ a
  pub add_neg : (a : K) → ◌⊕◌ a (⊖◌ a) ≡ 0#
  pub mul_assoc : (a b c : K) → ◌⊗◌ (◌⊗◌ a b) c ≡ ◌⊗◌ a (◌⊗◌ b c)
  pub mul_comm : (a b : K) → ◌⊗◌ a b ≡ ◌⊗◌ b a
  pub mul-one : (a : K) → ◌⊗◌ a 1# ≡ a
  pub mul-add : (a b c : K) → ◌⊗◌ a (◌⊕◌ b c) ≡ ◌⊕◌ (◌⊗◌ a b) (◌⊗◌ a c)

pub record Field {K : Type 0} (R : Ring K) : Type 0 where
  pub discrete : Discrete K
  pub inverse : K → K
  pub one_nonzero : ¬ (R.1# ≡ R.0#)
  pub mul_inverse : (a : K) → ¬ (a ≡ R.0#) → R.◌⊗◌ a (inverse a) ≡ R.1#

module _ {K : Type 0} (R : Ring K) where
  open R use {0#, 1#, ◌⊕◌, ◌⊗◌, ⊖◌}
  open R use {add_assoc, add_comm, add-zero, add_neg, mul_assoc, mul_comm, mul-one, mul-add}

  infixl 60 ◌⊕◌
  infixl 70 ◌⊗◌
  infix 80 ⊖◌
  -- Sums.

  pub zero-add : (a : K) → 0# ⊕ a ≡ a
  zero-add a = rw add_comm (add-zero a)

  pub neg-add_self : (a : K) → ⊖ a ⊕ a ≡ 0#
  neg-add_self a = rw add_comm (add_neg a)

  pub add_left_comm : (a b c : K) → a ⊕ (b ⊕ c) ≡ b ⊕ (a ⊕ c)
  add_left_comm a b c = sym (add_assoc a b c) ∙ ap (λ x. x ⊕ c) (add_comm a b) ∙ add_assoc b a c

  pub add_right_comm : (a b c : K) → a ⊕ b ⊕ c ≡ a ⊕ c ⊕ b
  add_right_comm a b c = add_assoc a b c ∙ ap (◌⊕◌ a) (add_comm b c) ∙ sym (add_assoc a c b)

  pub add-add_comm : (a b c d : K) → a ⊕ b ⊕ (c ⊕ d) ≡ a ⊕ c ⊕ (b ⊕ d)
  add-add_comm a b c d =
      add_assoc a b (c ⊕ d) ∙ ap (◌⊕◌ a) (add_left_comm b c d) ∙ sym (add_assoc a c (b ⊕ d))

  pub neg_add_cancel : (a b : K) → ⊖ a ⊕ (a ⊕ b) ≡ b
  neg_add_cancel a b = sym (add_assoc (⊖ a) a b) ∙ ap (λ x. x ⊕ b) (neg-add_self a) ∙ zero-add b

  pub add_sub_cancel : (a b : K) → a ⊕ b ⊕ ⊖ b ≡ a
  add_sub_cancel a b = add_assoc a b (⊖ b) ∙ ap (◌⊕◌ a) (add_neg b) ∙ add-zero a

  pub sub_add_cancel : (a b : K) → a ⊕ ⊖ b ⊕ b ≡ a
  sub_add_cancel a b = add_assoc a (⊖ b) b ∙ ap (◌⊕◌ a) (neg-add_self b) ∙ add-zero a

  pub add_left_cancel : (a : K) {b c : K} → a ⊕ b ≡ a ⊕ c → b ≡ c
  add_left_cancel a {b} {c} e = sym (neg_add_cancel a b) ∙ ap (λ x. ⊖ a ⊕ x) e ∙ neg_add_cancel a c

  -- Negatives.

  pub neg_unique : {a b : K} → a ⊕ b ≡ 0# → b ≡ ⊖ a
  neg_unique {a} {b} e = add_left_cancel a (e ∙ sym (add_neg a))

  pub sub-unique : {a b c : K} → a ⊕ b ≡ c → a ≡ c ⊕ ⊖ b
  sub-unique {a} {b} {c} e = sym (add_sub_cancel a b) ∙ ap (λ x. x ⊕ ⊖ b) e

  pub eq_of_sub-zero : {a b : K} → a ⊕ ⊖ b ≡ 0# → a ≡ b
  eq_of_sub-zero {a} {b} e = sym (sub_add_cancel a b) ∙ ap (λ x. x ⊕ b) e ∙ zero-add b

  pub sub-zero_of_eq : {a b : K} → a ≡ b → a ⊕ ⊖ b ≡ 0#
  sub-zero_of_eq {a} {b} e = ap (λ x. x ⊕ ⊖ b) e ∙ add_neg b

  pub neg-neg : (a : K) → ⊖ (⊖ a) ≡ a
  neg-neg a = sym (neg_unique (neg-add_self a))

  pub neg-zero : ⊖ 0# ≡ 0#
  neg-zero = sym (neg_unique (add-zero 0#))

  pub neg_injective : {a b : K} → ⊖ a ≡ ⊖ b → a ≡ b
  neg_injective {a} {b} e = sym (neg-neg a) ∙ ap ⊖◌ e ∙ neg-neg b

  pub neg-add : (a b : K) → ⊖ (a ⊕ b) ≡ ⊖ a ⊕ ⊖ b
  neg-add a b =
      sym (neg_unique (add-add_comm a b (⊖ a) (⊖ b) ∙ ap₂ ◌⊕◌ (add_neg a) (add_neg b) ∙ add-zero 0#))

  -- Products.

  pub one-mul : (a : K) → 1# ⊗ a ≡ a
  one-mul a = rw mul_comm (mul-one a)

  pub add-mul : (a b c : K) → (a ⊕ b) ⊗ c ≡ a ⊗ c ⊕ b ⊗ c
  add-mul a b c = mul_comm (a ⊕ b) c ∙ mul-add c a b ∙ ap₂ ◌⊕◌ (mul_comm c a) (mul_comm c b)

  pub mul_left_comm : (a b c : K) → a ⊗ (b ⊗ c) ≡ b ⊗ (a ⊗ c)
  mul_left_comm a b c = sym (mul_assoc a b c) ∙ ap (λ x. x ⊗ c) (mul_comm a b) ∙ mul_assoc b a c

  pub mul_right_comm : (a b c : K) → a ⊗ b ⊗ c ≡ a ⊗ c ⊗ b
  mul_right_comm a b c = mul_assoc a b c ∙ ap (◌⊗◌ a) (mul_comm b c) ∙ sym (mul_assoc a c b)

  pub mul-mul_comm : (a b c d : K) → a ⊗ b ⊗ (c ⊗ d) ≡ a ⊗ c ⊗ (b ⊗ d)
  mul-mul_comm a b c d =
      mul_assoc a b (c ⊗ d) ∙ ap (◌⊗◌ a) (mul_left_comm b c d) ∙ sym (mul_assoc a c (b ⊗ d))

  pub mul-zero : (a : K) → a ⊗ 0# ≡ 0#
  mul-zero a =
      add_left_cancel (a ⊗ 0#) (sym (mul-add a 0# 0#) ∙ ap (◌⊗◌ a) (add-zero 0#) ∙ sym (add-zero (a ⊗ 0#)))

  pub zero-mul : (a : K) → 0# ⊗ a ≡ 0#
  zero-mul a = mul_comm 0# a ∙ mul-zero a

  pub mul-neg : (a b : K) → a ⊗ ⊖ b ≡ ⊖ (a ⊗ b)
  mul-neg a b = neg_unique (sym (mul-add a b (⊖ b)) ∙ ap (◌⊗◌ a) (add_neg b) ∙ mul-zero a)

  pub neg-mul : (a b : K) → ⊖ a ⊗ b ≡ ⊖ (a ⊗ b)
  neg-mul a b = mul_comm (⊖ a) b ∙ mul-neg b a ∙ ap ⊖◌ (mul_comm b a)

  pub neg-mul-neg : (a b : K) → ⊖ a ⊗ ⊖ b ≡ a ⊗ b
  neg-mul-neg a b = neg-mul a (⊖ b) ∙ ap ⊖◌ (mul-neg a b) ∙ neg-neg (a ⊗ b)

  pub neg-one-mul : (a : K) → ⊖ 1# ⊗ a ≡ ⊖ a
  neg-one-mul a = neg-mul 1# a ∙ ap ⊖◌ (one-mul a)

  pub mul-sub : (a b c : K) → a ⊗ (b ⊕ ⊖ c) ≡ a ⊗ b ⊕ ⊖ (a ⊗ c)
  mul-sub a b c = mul-add a b (⊖ c) ∙ ap (λ x. a ⊗ b ⊕ x) (mul-neg a c)

  pub sub-mul : (a b c : K) → (a ⊕ ⊖ b) ⊗ c ≡ a ⊗ c ⊕ ⊖ (b ⊗ c)
  sub-mul a b c = add-mul a (⊖ b) c ∙ ap (λ x. a ⊗ c ⊕ x) (neg-mul b c)

module _ {K : Type 0} {R : Ring K} (F : Field R) where
  open R use {0#, 1#, ◌⊗◌, ⊖◌, mul_assoc, mul_comm, mul-one}
  open F use {discrete, inverse, one_nonzero, mul_inverse}

  infixl 70 ◌⊗◌
  infix 80 ⊖◌
  pub inverse-mul : (a : K) → ¬ (a ≡ 0#) → inverse a ⊗ a ≡ 1#
  inverse-mul a h = mul_comm (inverse a) a ∙ mul_inverse a h

  pub inverse-mul-cancel : (a b : K) → ¬ (a ≡ 0#) → inverse a ⊗ (a ⊗ b) ≡ b
  inverse-mul-cancel a b h = sym (mul_assoc (inverse a) a b) ∙ ap (λ x. x ⊗ b) (inverse-mul a h) ∙ one-mul R b

  pub mul-inverse-cancel : (a b : K) → ¬ (a ≡ 0#) → a ⊗ (inverse a ⊗ b) ≡ b
  mul-inverse-cancel a b h = sym (mul_assoc a (inverse a) b) ∙ ap (λ x. x ⊗ b) (mul_inverse a h) ∙ one-mul R b

  pub mul_left_cancel : (a : K) {b c : K} → ¬ (a ≡ 0#) → a ⊗ b ≡ a ⊗ c → b ≡ c
  mul_left_cancel a {b} {c} h e =
      sym (inverse-mul-cancel a b h) ∙ ap (λ x. inverse a ⊗ x) e ∙ inverse-mul-cancel a c h

  pub inverse-unique : {a b : K} → a ⊗ b ≡ 1# → b ≡ inverse a
  inverse-unique {a} {b} e = mul_left_cancel a h (e ∙ sym (mul_inverse a h))
    where
      h : ¬ (a ≡ 0#)
      h z = one_nonzero (sym e ∙ ap (λ x. x ⊗ b) z ∙ zero-mul R b)

  -- A field has no zero divisors.
  pub mul_eq_zero : {a b : K} → a ⊗ b ≡ 0# → (a ≡ 0#) ⊎ (b ≡ 0#)
  mul_eq_zero {a} {b} e = go (discrete a 0#)
    where
      go : Dec (a ≡ 0#) → (a ≡ 0#) ⊎ (b ≡ 0#)
      go (yes z) = inl z
      go (no h) = inr (mul_left_cancel a h (e ∙ sym (mul-zero R a)))

  pub mul-nonzero : {a b : K} → ¬ (a ≡ 0#) → ¬ (b ≡ 0#) → ¬ (a ⊗ b ≡ 0#)
  mul-nonzero {a} {b} h k e = k (mul_left_cancel a h (e ∙ sym (mul-zero R a)))

  pub inverse-nonzero : {a : K} → ¬ (a ≡ 0#) → ¬ (inverse a ≡ 0#)
  inverse-nonzero {a} h z = one_nonzero (sym (mul_inverse a h) ∙ ap (◌⊗◌ a) z ∙ mul-zero R a)

  pub inverse-one : inverse 1# ≡ 1#
  inverse-one = sym (inverse-unique (mul-one 1#))

pub record Hom {K L : Type 0} (R : Ring K) (S : Ring L) (f : K → L) : Type 0 where
  pub zero : f R.0# ≡ S.0#
  pub one : f R.1# ≡ S.1#
  pub add : (a b : K) → f (R.◌⊕◌ a b) ≡ S.◌⊕◌ (f a) (f b)
  pub mul : (a b : K) → f (R.◌⊗◌ a b) ≡ S.◌⊗◌ (f a) (f b)
  pub neg : (a : K) → f (R.⊖◌ a) ≡ S.⊖◌ (f a)

module _ {K L : Type 0} {R : Ring K} {S : Ring L} {f : K → L} where
  open R use {0#, 1#, ◌⊕◌, ◌⊗◌, ⊖◌, add-zero, add_neg}
  open S use {0# as 0', 1# as 1', ◌⊕◌ as ◌⊞◌, ◌⊗◌ as ◌⊠◌, ⊖◌ as ⊟◌, add-zero as add-zero'}

  infixl 60 ◌⊕◌ ◌⊞◌
  infixl 70 ◌⊗◌ ◌⊠◌
  infix 80 ⊖◌ ⊟◌
  -- A map that respects sums respects 0 and negatives.
  pub hom : f 1# ≡ 1' → ((a b : K) → f (a ⊕ b) ≡ f a ⊞ f b) → ((a b : K) → f (a ⊗ b) ≡ f a ⊠ f b) → Hom R S f
  hom one add mul = record { zero = zero; one = one; add = add; mul = mul; neg = neg }
    where
      zero : f 0# ≡ 0'
      zero = add_left_cancel S (f 0#) (sym (add 0# 0#) ∙ ap f (add-zero 0#) ∙ sym (add-zero' (f 0#)))

      neg : (a : K) → f (⊖ a) ≡ ⊟ f a
      neg a = neg_unique S (sym (add a (⊖ a)) ∙ ap f (add_neg a) ∙ zero)

module _
    {K L : Type 0} (S : Ring L) (φ : K → L) (injective : (a b : K) → φ a ≡ φ b → a ≡ b)
    (zero one : K) (add mul : K → K → K) (neg : K → K)
    (φ-zero : φ zero ≡ S.0#) (φ-one : φ one ≡ S.1#) (φ-add : (a b : K) → φ (add a b) ≡ S.◌⊕◌ (φ a) (φ b))
    (φ-mul : (a b : K) → φ (mul a b) ≡ S.◌⊗◌ (φ a) (φ b)) (φ-neg : (a : K) → φ (neg a) ≡ S.⊖◌ (φ a))
  where
    unfoldable pub induced : Ring K
    induced =
        record {
          is_set =
              collapsible→set
              (λ a b e. injective a b (ap φ e))
              (λ a b e e'. ap (injective a b) (S.is_set (φ a) (φ b) (ap φ e) (ap φ e')));
          0# = zero;
          1# = one;
          ◌⊕◌ = add;
          ◌⊗◌ = mul;
          ⊖◌ = neg;
          add_assoc = λ a b c. injective _ _ (simp φ-add (S.add_assoc (φ a) (φ b) (φ c)));
          add_comm = λ a b. injective _ _ (simp φ-add (S.add_comm (φ a) (φ b)));
          add-zero = λ a. injective _ _ (simp (φ-add, φ-zero) (S.add-zero (φ a)));
          add_neg = λ a. injective _ _ (simp (φ-add, φ-neg, φ-zero) (S.add_neg (φ a)));
          mul_assoc = λ a b c. injective _ _ (simp φ-mul (S.mul_assoc (φ a) (φ b) (φ c)));
          mul_comm = λ a b. injective _ _ (simp φ-mul (S.mul_comm (φ a) (φ b)));
          mul-one = λ a. injective _ _ (simp (φ-mul, φ-one) (S.mul-one (φ a)));
          mul-add = λ a b c. injective _ _ (simp (φ-mul, φ-add) (S.mul-add (φ a) (φ b) (φ c)));
        }

    pub induced-hom : Hom induced S φ
    unfolding induced
    induced-hom = record { zero = φ-zero; one = φ-one; add = φ-add; mul = φ-mul; neg = φ-neg }
