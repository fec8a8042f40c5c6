-- Power series over a ring, and lists as series.
--
--   tail f                  == the series f without its coefficient 0, each other one place down
--   product R f g           == the product of two series, by recursion on the place:
--                              f · g = f 0 · g + x · (tail f · g)
--   series R                == the ring of power series: functions ℕ → K with plain equality
--   constant-series R a     == the series a + 0·x + 0·x² + …
--   scale-series R a f      == the series f with each coefficient multiplied by a
--   shift-series R f        == x · f: 0# at place 0, and f one place up
--   x-series R              == the series x
--   coefficient-list R xs   == the series of a list: its elements, constant first, then 0# for ever; [] is 0
--   list-plus, list-scale, list-neg, list-times
--                           == sum, scaling, negative and product of lists; the product goes by the head:
--                              (a ∷ f) · g = a·g + (0# ∷ f · g)
--
-- Powers are taken in the ring of series or of polynomials, not of lists.
-- Sum, product and so on of the ring of series are read at a place by `series-add`, `series-mul-zero`,
-- `series-mul-suc`, `series-mul-sum` and their like.
-- Assumes nothing.
use mathlib.Core.Path.{◌≡◌, refl, sym, ap, ap₂, fun_ext, ◌∙◌}
use mathlib.Core.HLevel.{→_set}
use mathlib.Core.List.{List, [], ◌∷◌, map}
use lib.ListN.{length, get_or, length-map}
use Prim.Native.Nat.{ℕ, zero, suc, ◌+◌, ◌-◌, ◌<◌, max}
use native.Mathlib.Nat as ℕ
use native.Mathlib.Omega.{arith}
use Rattle.algebra.proofs.Rings.Ring.{Ring, Hom, hom}
use Rattle.algebra.proofs.Rings.Ring.{zero-add, one-mul, zero-mul, mul-zero, neg-zero, add-add_comm}
use Rattle.algebra.proofs.Rings.Power.{power, power_zero, power-suc-left}
use Rattle.algebra.proofs.Rings.Sum.{sum, sum_first, sum_one, sum_ext}

abbrev pub tail : {K : Type 0} → (ℕ → K) → ℕ → K
tail f n = f (suc n)

module _ {K : Type 0} (R : Ring K) where
  open R use {0#, 1#, ◌⊕◌, ◌⊗◌, ⊖◌}
  open R use {is_set, add_assoc, add_comm, add-zero, add_neg, mul_assoc, mul_comm, mul-one, mul-add}

  infixl 60 ◌⊕◌
  infixl 70 ◌⊗◌
  infix 80 ⊖◌
  unfoldable pub product : (ℕ → K) → (ℕ → K) → ℕ → K
  product f g zero = f 0 ⊗ g 0
  product f g (suc n) = f 0 ⊗ g (suc n) ⊕ product (tail f) g n

  -- The recursion by the other factor.
  product-suc-right :
      (f g : ℕ → K) (n : ℕ) → product f g (suc n) ≡ product f (tail g) n ⊕ f (suc n) ⊗ g 0
  unfolding product
  product-suc-right f g zero = refl
  product-suc-right f g (suc n) =
      ap (◌⊕◌ (f 0 ⊗ g (suc (suc n)))) (product-suc-right (tail f) g n)
      ∙ sym (add_assoc (f 0 ⊗ g (suc (suc n))) (product (tail f) (tail g) n) (f (suc (suc n)) ⊗ g 0))

  product_comm : (f g : ℕ → K) (n : ℕ) → product f g n ≡ product g f n
  unfolding product
  product_comm f g zero = mul_comm (f 0) (g 0)
  product_comm f g (suc n) =
      ap₂ ◌⊕◌ (mul_comm (f 0) (g (suc n))) (product_comm (tail f) g n)
      ∙ add_comm (g (suc n) ⊗ f 0) (product g (tail f) n)
      ∙ sym (product-suc-right g f n)

  product-add : (f g h : ℕ → K) (n : ℕ) → product f (λ i. g i ⊕ h i) n ≡ product f g n ⊕ product f h n
  unfolding product
  product-add f g h zero = mul-add (f 0) (g 0) (h 0)
  product-add f g h (suc n) =
      ap₂ ◌⊕◌ (mul-add (f 0) (g (suc n)) (h (suc n))) (product-add (tail f) g h n)
      ∙ add-add_comm R (f 0 ⊗ g (suc n)) (f 0 ⊗ h (suc n)) (product (tail f) g n) (product (tail f) h n)

  add-product : (f g h : ℕ → K) (n : ℕ) → product (λ i. f i ⊕ g i) h n ≡ product f h n ⊕ product g h n
  add-product f g h n =
      product_comm (λ i. f i ⊕ g i) h n
      ∙ product-add h f g n
      ∙ ap₂ ◌⊕◌ (product_comm h f n) (product_comm h g n)

  scale-product : (a : K) (f g : ℕ → K) (n : ℕ) → product (λ i. a ⊗ f i) g n ≡ a ⊗ product f g n
  unfolding product
  scale-product a f g zero = mul_assoc a (f 0) (g 0)
  scale-product a f g (suc n) =
      ap₂ ◌⊕◌ (mul_assoc a (f 0) (g (suc n))) (scale-product a (tail f) g n)
      ∙ sym (mul-add a (f 0 ⊗ g (suc n)) (product (tail f) g n))

  product_assoc : (f g h : ℕ → K) (n : ℕ) → product (product f g) h n ≡ product f (product g h) n
  unfolding product
  product_assoc f g h zero = mul_assoc (f 0) (g 0) (h 0)
  product_assoc f g h (suc n) =
      ap₂
      ◌⊕◌
      (mul_assoc (f 0) (g 0) (h (suc n)))
      (
      add-product (λ i. f 0 ⊗ g (suc i)) (product (tail f) g) h n
      ∙ ap₂ ◌⊕◌ (scale-product (f 0) (tail g) h n) (product_assoc (tail f) g h n)
      )
      ∙ sym (add_assoc _ _ _)
      ∙ ap
      (λ z. z ⊕ product (tail f) (product g h) n)
      (sym (mul-add (f 0) (g 0 ⊗ h (suc n)) (product (tail g) h n)))

  zero-product : (g : ℕ → K) (n : ℕ) → product (λ _. 0#) g n ≡ 0#
  unfolding product
  zero-product g zero = zero-mul R (g 0)
  zero-product g (suc n) = ap₂ ◌⊕◌ (zero-mul R (g (suc n))) (zero-product g n) ∙ add-zero 0#

  unfoldable pub constant-series : K → ℕ → K
  constant-series a zero = a
  constant-series a (suc n) = 0#

  constant-product : (a : K) (g : ℕ → K) (n : ℕ) → product (constant-series a) g n ≡ a ⊗ g n
  unfolding product constant-series
  constant-product a g zero = refl
  constant-product a g (suc n) = ap (◌⊕◌ (a ⊗ g (suc n))) (zero-product g n) ∙ add-zero (a ⊗ g (suc n))

  pub series : Ring (ℕ → K)
  series =
      record {
        is_set = →_set is_set;
        0# = λ _. 0#;
        1# = constant-series 1#;
        ◌⊕◌ = λ f g n. f n ⊕ g n;
        ◌⊗◌ = product;
        ⊖◌ = λ f n. ⊖ f n;
        add_assoc = λ f g h. fun_ext (λ n. add_assoc (f n) (g n) (h n));
        add_comm = λ f g. fun_ext (λ n. add_comm (f n) (g n));
        add-zero = λ f. fun_ext (λ n. add-zero (f n));
        add_neg = λ f. fun_ext (λ n. add_neg (f n));
        mul_assoc = λ f g h. fun_ext (product_assoc f g h);
        mul_comm = λ f g. fun_ext (product_comm f g);
        mul-one =
            λ f.
            fun_ext (λ n. product_comm f (constant-series 1#) n ∙ constant-product 1# f n ∙ one-mul R (f n));
        mul-add = λ f g h. fun_ext (product-add f g h);
      }

-- The operations of the ring of series, place by place.
module _ {K : Type 0} (R : Ring K) where
  open R use {0#, 1#, ◌⊕◌, ◌⊗◌, ⊖◌}
  open R use {add-zero}
  open series R use {0# as 0ˢ, 1# as 1ˢ, ◌⊕◌ as ◌⊞◌, ◌⊗◌ as ◌⊠◌, ⊖◌ as ⊟◌}

  infixl 60 ◌⊕◌ ◌⊞◌
  infixl 70 ◌⊗◌ ◌⊠◌
  infix 80 ⊖◌ ⊟◌
  pub series-zero : (n : ℕ) → 0ˢ n ≡ 0#
  unfolding series
  series-zero n = refl

  pub series-one : 1ˢ ≡ constant-series R 1#
  unfolding series
  series-one = refl

  pub series-add : (f g : ℕ → K) (n : ℕ) → (f ⊞ g) n ≡ f n ⊕ g n
  unfolding series
  series-add f g n = refl

  pub series-neg : (f : ℕ → K) (n : ℕ) → (⊟ f) n ≡ ⊖ f n
  unfolding series
  series-neg f n = refl

  pub series-mul-zero : (f g : ℕ → K) → (f ⊠ g) 0 ≡ f 0 ⊗ g 0
  unfolding series product
  series-mul-zero f g = refl

  pub series-mul-suc : (f g : ℕ → K) (n : ℕ) → (f ⊠ g) (suc n) ≡ f 0 ⊗ g (suc n) ⊕ (tail f ⊠ g) n
  unfolding series product
  series-mul-suc f g n = refl

  -- A coefficient of a product as a sum.
  pub series-mul-sum : (f g : ℕ → K) (n : ℕ) → (f ⊠ g) n ≡ sum R (suc n) (λ i. f i ⊗ g (n - i))
  series-mul-sum f g zero = series-mul-zero f g ∙ sym (sum_one R (λ i. f i ⊗ g (0 - i)))
  series-mul-sum f g (suc n) =
      series-mul-suc f g n
      ∙ ap₂
      ◌⊕◌
      (ap (λ k. f 0 ⊗ g k) (sym (ℕ.sub-zero (suc n))))
      (
      series-mul-sum (tail f) g n
      ∙ sum_ext R (suc n) (λ i _. ap (λ k. f (suc i) ⊗ g k) (sym (ℕ.suc-sub-suc n i)))
      )
      ∙ sym (sum_first R (suc n) (λ i. f i ⊗ g (suc n - i)))

  -- Constants and scaling.
  pub constant-zero : (a : K) → constant-series R a 0 ≡ a
  unfolding constant-series
  constant-zero a = refl

  pub constant-suc : (a : K) (n : ℕ) → constant-series R a (suc n) ≡ 0#
  unfolding constant-series
  constant-suc a n = refl

  unfoldable pub scale-series : K → (ℕ → K) → ℕ → K
  scale-series a f n = a ⊗ f n

  pub constant-mul : (a : K) (f : ℕ → K) → constant-series R a ⊠ f ≡ scale-series a f
  unfolding series scale-series
  constant-mul a f = fun_ext (constant-product R a f)

  pub constant-hom : Hom R (series R) (constant-series R)
  constant-hom = hom (sym series-one) add mul
    where
      add : (a b : K) → constant-series R (a ⊕ b) ≡ constant-series R a ⊞ constant-series R b
      add a b = fun_ext (elim [ zero ↦ at_zero | suc n ↦ at_suc n ])
        where
          at_zero : constant-series R (a ⊕ b) 0 ≡ (constant-series R a ⊞ constant-series R b) 0
          at_zero = unfold constant-series series in refl

          at_suc :
              (n : ℕ)
              → constant-series R (a ⊕ b) (suc n) ≡ (constant-series R a ⊞ constant-series R b) (suc n)
          at_suc n = unfold constant-series series in sym (add-zero 0#)

      mul : (a b : K) → constant-series R (a ⊗ b) ≡ constant-series R a ⊠ constant-series R b
      mul a b =
          fun_ext (elim [ zero ↦ at_zero | suc n ↦ at_suc n ]) ∙ sym (constant-mul a (constant-series R b))
        where
          at_zero : constant-series R (a ⊗ b) 0 ≡ scale-series a (constant-series R b) 0
          at_zero = unfold constant-series scale-series in refl

          at_suc : (n : ℕ) → constant-series R (a ⊗ b) (suc n) ≡ scale-series a (constant-series R b) (suc n)
          at_suc n = unfold constant-series scale-series in sym (mul-zero R a)

  -- The shift by x.
  unfoldable pub shift-series : (ℕ → K) → ℕ → K
  shift-series f zero = 0#
  shift-series f (suc n) = f n

  unfoldable pub x-series : ℕ → K
  x-series = shift-series (constant-series R 1#)

  pub shift_zero : (f : ℕ → K) → shift-series f 0 ≡ 0#
  unfolding shift-series
  shift_zero f = refl

  pub shift_suc : (f : ℕ → K) (n : ℕ) → shift-series f (suc n) ≡ f n
  unfolding shift-series
  shift_suc f n = refl

  shift-product : (f g : ℕ → K) (n : ℕ) → product R (shift-series f) g n ≡ shift-series (product R f g) n
  unfolding shift-series product
  shift-product f g zero = zero-mul R (g 0)
  shift-product f g (suc n) =
      ap (λ z. z ⊕ product R f g n) (zero-mul R (g (suc n))) ∙ zero-add R (product R f g n)

  pub shift-mul : (f g : ℕ → K) → shift-series f ⊠ g ≡ shift-series (f ⊠ g)
  unfolding series
  shift-mul f g = fun_ext (shift-product f g)

  pub x-mul : (f : ℕ → K) → x-series ⊠ f ≡ shift-series f
  unfolding x-series
  x-mul f =
      shift-mul (constant-series R 1#) f
      ∙ ap (λ u. shift-series (u ⊠ f)) (sym series-one)
      ∙ ap shift-series (one-mul (series R) f)

  -- Each series is its constant term and x times its tail.
  pub series-split : (f : ℕ → K) → f ≡ constant-series R (f 0) ⊞ shift-series (tail f)
  series-split f = fun_ext (elim [ zero ↦ at_zero | suc n ↦ at_suc n ])
    where
      at_zero : f 0 ≡ (constant-series R (f 0) ⊞ shift-series (tail f)) 0
      at_zero = unfold constant-series shift-series series in sym (add-zero (f 0))

      at_suc : (n : ℕ) → f (suc n) ≡ (constant-series R (f 0) ⊞ shift-series (tail f)) (suc n)
      at_suc n = unfold constant-series shift-series series in sym (zero-add R (f (suc n)))

  -- Coefficients of x^k · f.
  pub x-power-mul-zero : (f : ℕ → K) → power (series R) x-series 0 ⊠ f ≡ f
  x-power-mul-zero f = ap (λ u. u ⊠ f) (power_zero (series R) x-series) ∙ one-mul (series R) f

  pub x-power-mul-suc :
      (k : ℕ) (f : ℕ → K)
      → power (series R) x-series (suc k) ⊠ f ≡ shift-series (power (series R) x-series k ⊠ f)
  x-power-mul-suc k f =
      ap (λ u. u ⊠ f) (power-suc-left (series R) x-series k)
      ∙ (series R).mul_assoc x-series (power (series R) x-series k) f
      ∙ x-mul (power (series R) x-series k ⊠ f)

  pub x-power-mul-above : (k : ℕ) (f : ℕ → K) (n : ℕ) → (power (series R) x-series k ⊠ f) (k + n) ≡ f n
  x-power-mul-above zero f n = ap (λ u. u (0 + n)) (x-power-mul-zero f) ∙ ap f (ℕ.zero-add n)
  x-power-mul-above (suc k) f n =
      ap (power (series R) x-series (suc k) ⊠ f) (ℕ.suc-add k n)
      ∙ ap (λ u. u (suc (k + n))) (x-power-mul-suc k f)
      ∙ shift_suc (power (series R) x-series k ⊠ f) (k + n)
      ∙ x-power-mul-above k f n

  pub x-power-mul-below : (k : ℕ) (f : ℕ → K) (n : ℕ) → n < k → (power (series R) x-series k ⊠ f) n ≡ 0#
  x-power-mul-below zero f n l = absurd (ℕ.not-suc-le-zero l)
  x-power-mul-below (suc k) f zero l =
      ap (λ u. u 0) (x-power-mul-suc k f) ∙ shift_zero (power (series R) x-series k ⊠ f)
  x-power-mul-below (suc k) f (suc n) l =
      ap (λ u. u (suc n)) (x-power-mul-suc k f)
      ∙ shift_suc (power (series R) x-series k ⊠ f) n
      ∙ x-power-mul-below k f n (ℕ.le_of_suc-le-suc l)

  -- Lists as series.
  abbrev pub coefficient-list : List K → ℕ → K
  coefficient-list xs n = get_or xs n 0#

  unfoldable pub list-plus : List K → List K → List K
  list-plus [] ys = ys
  list-plus (a ∷ xs) [] = a ∷ xs
  list-plus (a ∷ xs) (b ∷ ys) = (a ⊕ b) ∷ list-plus xs ys

  unfoldable pub list-scale : K → List K → List K
  list-scale a xs = map (◌⊗◌ a) xs

  unfoldable pub list-neg : List K → List K
  list-neg xs = map ⊖◌ xs

  unfoldable pub list-times : List K → List K → List K
  list-times [] ys = []
  list-times (a ∷ xs) ys = list-plus (list-scale a ys) (0# ∷ list-times xs ys)

  pub list-plus-length : (xs ys : List K) → length (list-plus xs ys) ≡ max (length xs) (length ys)
  unfolding list-plus
  list-plus-length [] ys = sym (ℕ.zero-max (length ys))
  list-plus-length (a ∷ xs) [] = sym (ℕ.max-zero (suc (length xs)))
  list-plus-length (a ∷ xs) (b ∷ ys) =
      ap suc (list-plus-length xs ys) ∙ sym (ℕ.suc-max-suc (length xs) (length ys))

  pub list-scale-length : (a : K) (xs : List K) → length (list-scale a xs) ≡ length xs
  unfolding list-scale
  list-scale-length a xs = length-map xs (◌⊗◌ a)

  -- The product of lists that are not empty is as long as the two together, less one.
  pub list-times-length :
      (xs ys : List K) (n m : ℕ)
      → length xs ≡ suc n
      → length ys ≡ suc m
      → length (list-times xs ys) ≡ suc (n + m)
  unfolding list-times
  list-times-length [] ys n m e f = absurd (ℕ.suc-ne-zero n (sym e))
  list-times-length (a ∷ []) ys n m e f =
      list-plus-length (list-scale a ys) (0# ∷ [])
      ∙ ap (λ k. max k 1) (list-scale-length a ys ∙ f)
      ∙ last (ℕ.suc_inj e)
    where
      last : 0 ≡ n → max (suc m) 1 ≡ suc (n + m)
      last z = omega arith
  list-times-length (a ∷ b ∷ xs) ys zero m e f = absurd (ℕ.suc-ne-zero (length xs) (ℕ.suc_inj e))
  list-times-length (a ∷ b ∷ xs) ys (suc n) m e f =
      list-plus-length (list-scale a ys) (0# ∷ list-times (b ∷ xs) ys)
      ∙ ap₂
      (λ k l. max k (suc l))
      (list-scale-length a ys ∙ f)
      (list-times-length (b ∷ xs) ys n m (ℕ.suc_inj e) f)
      ∙ longer
    where
      longer : max (suc m) (suc (suc (n + m))) ≡ suc (suc n + m)
      longer = omega arith

  pub list-plus-at :
      (xs ys : List K) (n : ℕ)
      → coefficient-list (list-plus xs ys) n ≡ coefficient-list xs n ⊕ coefficient-list ys n
  unfolding list-plus
  list-plus-at [] ys n = sym (zero-add R (coefficient-list ys n))
  list-plus-at (a ∷ xs) [] n = sym (add-zero (coefficient-list (a ∷ xs) n))
  list-plus-at (a ∷ xs) (b ∷ ys) zero = refl
  list-plus-at (a ∷ xs) (b ∷ ys) (suc n) = list-plus-at xs ys n

  pub list-scale-at :
      (a : K) (xs : List K) (n : ℕ) → coefficient-list (list-scale a xs) n ≡ a ⊗ coefficient-list xs n
  unfolding list-scale
  list-scale-at a [] n = sym (mul-zero R a)
  list-scale-at a (b ∷ xs) zero = refl
  list-scale-at a (b ∷ xs) (suc n) = list-scale-at a xs n

  pub list-neg-at : (xs : List K) (n : ℕ) → coefficient-list (list-neg xs) n ≡ ⊖ coefficient-list xs n
  unfolding list-neg
  list-neg-at [] n = sym (neg-zero R)
  list-neg-at (b ∷ xs) zero = refl
  list-neg-at (b ∷ xs) (suc n) = list-neg-at xs n

  pub list-times-at :
      (xs ys : List K) (n : ℕ)
      → coefficient-list (list-times xs ys) n ≡ product R (coefficient-list xs) (coefficient-list ys) n
  unfolding list-times product
  list-times-at [] ys n = sym (zero-product R (coefficient-list ys) n)
  list-times-at (a ∷ xs) ys zero =
      list-plus-at (list-scale a ys) (0# ∷ list-times xs ys) 0 ∙ add-zero _ ∙ list-scale-at a ys 0
  list-times-at (a ∷ xs) ys (suc n) =
      list-plus-at (list-scale a ys) (0# ∷ list-times xs ys) (suc n)
      ∙ ap₂ ◌⊕◌ (list-scale-at a ys (suc n)) (list-times-at xs ys n)

  pub list-nil-series : coefficient-list [] ≡ 0ˢ
  unfolding series
  list-nil-series = refl

  pub list-plus-series :
      (xs ys : List K) → coefficient-list (list-plus xs ys) ≡ coefficient-list xs ⊞ coefficient-list ys
  unfolding series
  list-plus-series xs ys = fun_ext (list-plus-at xs ys)

  pub list-neg-series : (xs : List K) → coefficient-list (list-neg xs) ≡ ⊟ coefficient-list xs
  unfolding series
  list-neg-series xs = fun_ext (list-neg-at xs)

  pub list-times-series :
      (xs ys : List K) → coefficient-list (list-times xs ys) ≡ coefficient-list xs ⊠ coefficient-list ys
  unfolding series
  list-times-series xs ys = fun_ext (list-times-at xs ys)

  -- A list by its head: an element and x times the rest.
  pub list-cons-series :
      (a : K) (xs : List K)
      → coefficient-list (a ∷ xs) ≡ constant-series R a ⊞ shift-series (coefficient-list xs)
  list-cons-series a xs = series-split (coefficient-list (a ∷ xs))

  pub list-constant-series : (a : K) → coefficient-list (a ∷ []) ≡ constant-series R a
  list-constant-series a = fun_ext (elim [ zero ↦ sym (constant-zero a) | suc n ↦ sym (constant-suc a n) ])
