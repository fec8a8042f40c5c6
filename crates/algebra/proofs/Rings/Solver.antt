-- A solver for equations of commutative rings, by reflection.
--
--   solve R n (λ x₁ … xₙ. l := r) refl
--                 == (x₁ … xₙ : K) → l ≡ r, for expressions l and r that are equal in every commutative ring
--   Expr          == expressions: variables, :0, :1, numerals `num k`, sums :+, products :*, negatives :-
--   value R ρ e   == the value of the expression e where variable v has the value ρ v
--   normal e      == the normal form of e: its monomials, sorted, each with its integer coefficient, none 0
--
-- Write `:0` and `:1` for 0# and 1#, and `num k` for `numeral R k`. The values may be any terms of the ring.
-- Assumes nothing.
use mathlib.Core.Path.{◌≡◌, refl, sym, ap, ap₂, subst⁻¹, subst, ◌∙◌}
use mathlib.Core.List.{List, [], ◌∷◌, map}
use lib.ListN.{get_or}
use Prim.Native.Nat.compare
use Prim.Native.Nat.{
  ℕ,
  zero,
  suc,
  ◌+◌,
  ◌*◌,
  ◌-◌,
  min,
  compare,
  Ordering,
}
use native.Mathlib.Decide.{IsEq, eq_by_compare, compare_of_eq}
use native.Mathlib.Omega.{arith}
use Rattle.algebra.proofs.Rings.Ring.{
  Ring,
  zero-add,
  one-mul,
  zero-mul,
  mul-zero,
  add-mul,
  neg-zero,
  neg-neg,
  neg-add,
  neg-mul,
  mul-neg,
  neg-mul-neg,
  add_left_comm,
  add-add_comm,
  mul_left_comm,
}
use Rattle.algebra.proofs.Rings.Multiple.{multiple, numeral}
use Rattle.algebra.proofs.Rings.Multiple.{multiple-zero, multiple-one, multiple-add, multiple-mul}

-- Expressions.

infix 50 ◌:=◌
infixl 60 ◌:+◌
infixl 70 ◌:*◌
infix 80 :-◌
pub data Expr : Type 0 where
  var : ℕ → Expr
  :0 : Expr
  :1 : Expr
  num : ℕ → Expr
  ◌:+◌ : Expr → Expr → Expr
  ◌:*◌ : Expr → Expr → Expr
  :-◌ : Expr → Expr

pub record Equation : Type 0 where
  pub left : Expr
  pub right : Expr

abbrev pub ◌:=◌ : Expr → Expr → Equation
◌:=◌ l r = record { left = l; right = r }

-- Monomials are sorted lists of variables; a term has a coefficient `more - less` and a monomial.

pub data Term : Type 0 where
  term : ℕ → ℕ → List ℕ → Term

abbrev pub first_of : Ordering → (Unit {0} → Ordering) → Ordering
first_of Ordering.lt o = Ordering.lt
first_of Ordering.eq o = o tt
first_of Ordering.gt o = Ordering.gt

abbrev pub order : List ℕ → List ℕ → Ordering
order [] [] = Ordering.eq
order [] (b ∷ n) = Ordering.lt
order (a ∷ m) [] = Ordering.gt
order (a ∷ m) (b ∷ n) = first_of (compare a b) (λ _. order m n)

abbrev pub place_variable : Ordering → ℕ → ℕ → List ℕ → (Unit {0} → List ℕ) → List ℕ
place_variable Ordering.lt v w m rest = v ∷ w ∷ m
place_variable Ordering.eq v w m rest = v ∷ w ∷ m
place_variable Ordering.gt v w m rest = w ∷ rest tt

abbrev pub insert_variable : ℕ → List ℕ → List ℕ
insert_variable v [] = v ∷ []
insert_variable v (w ∷ m) = place_variable (compare v w) v w m (λ _. insert_variable v m)

abbrev pub times-monomial : List ℕ → List ℕ → List ℕ
times-monomial [] n = n
times-monomial (v ∷ m) n = insert_variable v (times-monomial m n)

abbrev pub join : Term → Term → Term
join (term a b m) (term c d n) = term (a + c) (b + d) m

abbrev pub monomial : Term → List ℕ
monomial (term a b m) = m

abbrev pub place : Ordering → Term → Term → List Term → (Unit {0} → List Term) → List Term
place Ordering.lt t s ts rest = t ∷ s ∷ ts
place Ordering.eq t s ts rest = join t s ∷ ts
place Ordering.gt t s ts rest = s ∷ rest tt

abbrev pub insert : Term → List Term → List Term
insert t [] = t ∷ []
insert t (s ∷ ts) = place (order (monomial t) (monomial s)) t s ts (λ _. insert t ts)

abbrev pub plus : List Term → List Term → List Term
plus [] us = us
plus (t ∷ ts) us = insert t (plus ts us)

abbrev pub times-term : Term → Term → Term
times-term (term a b m) (term c d n) = term (a * c + b * d) (a * d + b * c) (times-monomial m n)

abbrev pub scale : Term → List Term → List Term → List Term
scale t [] us = us
scale t (s ∷ ts) us = insert (times-term t s) (scale t ts us)

abbrev pub times : List Term → List Term → List Term
times [] us = []
times (t ∷ ts) us = scale t us (times ts us)

abbrev pub opposite : Term → Term
opposite (term a b m) = term b a m

abbrev pub expand : Expr → List Term
expand (var v) = term 1 0 (v ∷ []) ∷ []
expand :0 = []
expand :1 = term 1 0 [] ∷ []
expand (num k) = term k 0 [] ∷ []
expand (a :+ b) = plus (expand a) (expand b)
expand (a :* b) = times (expand a) (expand b)
expand (:- a) = map opposite (expand a)

-- The integer coefficient, reduced: one of the two numbers is 0; both are 0 where the term vanishes.
abbrev pub keep : ℕ → ℕ → List ℕ → List Term → List Term
keep zero zero m ts = ts
keep zero (suc b) m ts = term zero (suc b) m ∷ ts
keep (suc a) b m ts = term (suc a) b m ∷ ts

abbrev pub reduce : List Term → List Term
reduce [] = []
reduce (term a b m ∷ ts) = keep (a - b) (b - a) m (reduce ts)

abbrev pub normal : Expr → List Term
normal e = reduce (expand e)

-- What the comparison says.

equal_code : IsEq Ordering.eq
equal_code = subst IsEq compare.zero-zero (compare_of_eq 0 0 refl)

compare_equal : (a b : ℕ) → compare a b ≡ Ordering.eq → a ≡ b
compare_equal a b e = eq_by_compare a b (subst⁻¹ IsEq e equal_code)

order-equal : (m n : List ℕ) → order m n ≡ Ordering.eq → m ≡ n
order-equal [] [] e = refl
order-equal [] (b ∷ n) e = cc
order-equal (a ∷ m) [] e = cc
order-equal (a ∷ m) (b ∷ n) e = go (compare a b) refl e (λ k. order-equal m n k)
  where
    go :
        (o : Ordering)
        → compare a b ≡ o
        → first_of o (λ _. order m n) ≡ Ordering.eq
        → (order m n ≡ Ordering.eq → m ≡ n)
        → a ∷ m ≡ b ∷ n
    go Ordering.lt h k r = cc
    go Ordering.eq h k r = ap₂ ◌∷◌ (compare_equal a b h) (r k)
    go Ordering.gt h k r = cc

-- The normal form has the value of the expression.

module _ {K : Type 0} (R : Ring K) (ρ : ℕ → K) where
  open R use {0#, 1#, ◌⊕◌, ◌⊗◌, ⊖◌}
  open R use {add_assoc, add_comm, add-zero, add_neg, mul_assoc, mul-one, mul-add}

  infixl 60 ◌⊕◌
  infixl 70 ◌⊗◌
  infix 80 ⊖◌
  abbrev pub value : Expr → K
  value (var v) = ρ v
  value :0 = 0#
  value :1 = 1#
  value (num k) = numeral R k
  value (a :+ b) = value a ⊕ value b
  value (a :* b) = value a ⊗ value b
  value (:- a) = ⊖ value a

  abbrev value-monomial : List ℕ → K
  value-monomial [] = 1#
  value-monomial (v ∷ m) = ρ v ⊗ value-monomial m

  abbrev value-term : Term → K
  value-term (term a b m) = multiple R a (value-monomial m) ⊕ ⊖ multiple R b (value-monomial m)

  abbrev value-sum : List Term → K
  value-sum [] = 0#
  value-sum (t ∷ ts) = value-term t ⊕ value-sum ts

  insert_variable_value : (v : ℕ) (m : List ℕ) → value-monomial (insert_variable v m) ≡ ρ v ⊗ value-monomial m
  insert_variable_value v [] = refl
  insert_variable_value v (w ∷ m) = go (compare v w) (insert_variable_value v m)
    where
      go :
          (o : Ordering)
          → value-monomial (insert_variable v m) ≡ ρ v ⊗ value-monomial m
          → value-monomial (place_variable o v w m (λ _. insert_variable v m))
          ≡ ρ v ⊗ (ρ w ⊗ value-monomial m)
      go Ordering.lt e = refl
      go Ordering.eq e = refl
      go Ordering.gt e = ap (λ x. ρ w ⊗ x) e ∙ mul_left_comm R (ρ w) (ρ v) (value-monomial m)

  times-monomial-value :
      (m n : List ℕ) → value-monomial (times-monomial m n) ≡ value-monomial m ⊗ value-monomial n
  times-monomial-value [] n = sym (one-mul R (value-monomial n))
  times-monomial-value (v ∷ m) n =
      insert_variable_value v (times-monomial m n)
      ∙ ap (λ x. ρ v ⊗ x) (times-monomial-value m n)
      ∙ sym (mul_assoc (ρ v) (value-monomial m) (value-monomial n))

  sum_of_differences : (a b c d : K) → a ⊕ c ⊕ ⊖ (b ⊕ d) ≡ a ⊕ ⊖ b ⊕ (c ⊕ ⊖ d)
  sum_of_differences a b c d = ap (λ x. a ⊕ c ⊕ x) (neg-add R b d) ∙ add-add_comm R a c (⊖ b) (⊖ d)

  join-value :
      (t s : Term) → monomial t ≡ monomial s → value-term (join t s) ≡ value-term t ⊕ value-term s
  join-value (term a b m) (term c d n) e =
      ap₂ (λ x y. x ⊕ ⊖ y) (multiple-add R a c (value-monomial m)) (multiple-add R b d (value-monomial m))
      ∙ sum_of_differences _ _ _ _
      ∙ ap (λ k. value-term (term a b m) ⊕ value-term (term c d k)) e

  insert-value : (t : Term) (ts : List Term) → value-sum (insert t ts) ≡ value-term t ⊕ value-sum ts
  insert-value t [] = refl
  insert-value t (s ∷ ts) = go (order (monomial t) (monomial s)) refl (insert-value t ts)
    where
      go :
          (o : Ordering)
          → order (monomial t) (monomial s) ≡ o
          → value-sum (insert t ts) ≡ value-term t ⊕ value-sum ts
          → value-sum (place o t s ts (λ _. insert t ts)) ≡ value-term t ⊕ (value-term s ⊕ value-sum ts)
      go Ordering.lt h e = refl
      go Ordering.eq h e =
          ap (λ x. x ⊕ value-sum ts) (join-value t s (order-equal (monomial t) (monomial s) h))
          ∙ add_assoc (value-term t) (value-term s) (value-sum ts)
      go Ordering.gt h e =
          ap (λ x. value-term s ⊕ x) e ∙ add_left_comm R (value-term s) (value-term t) (value-sum ts)

  plus-value : (ts us : List Term) → value-sum (plus ts us) ≡ value-sum ts ⊕ value-sum us
  plus-value [] us = sym (zero-add R (value-sum us))
  plus-value (t ∷ ts) us =
      insert-value t (plus ts us)
      ∙ ap (λ x. value-term t ⊕ x) (plus-value ts us)
      ∙ sym (add_assoc (value-term t) (value-sum ts) (value-sum us))

  product_of_differences :
      (a b c d : K) → a ⊗ c ⊕ b ⊗ d ⊕ ⊖ (a ⊗ d ⊕ b ⊗ c) ≡ (a ⊕ ⊖ b) ⊗ (c ⊕ ⊖ d)
  product_of_differences a b c d =
      sum_of_differences (a ⊗ c) (a ⊗ d) (b ⊗ d) (b ⊗ c)
      ∙ ap₂
      ◌⊕◌
      (ap (λ x. a ⊗ c ⊕ x) (sym (mul-neg R a d)) ∙ sym (mul-add a c (⊖ d)))
      (
      add_comm (b ⊗ d) (⊖ (b ⊗ c))
      ∙ ap₂ ◌⊕◌ (sym (neg-mul R b c)) (sym (neg-mul-neg R b d))
      ∙ sym (mul-add (⊖ b) c (⊖ d))
      )
      ∙ sym (add-mul R a (⊖ b) (c ⊕ ⊖ d))

  times-term-value : (t s : Term) → value-term (times-term t s) ≡ value-term t ⊗ value-term s
  times-term-value (term a b m) (term c d n) =
      ap (λ x. multiple R (a * c + b * d) x ⊕ ⊖ multiple R (a * d + b * c) x) (times-monomial-value m n)
      ∙ ap₂ (λ x y. x ⊕ ⊖ y) (split a c b d) (split a d b c)
      ∙ product_of_differences _ _ _ _
    where
      split :
          (a c b d : ℕ)
          → multiple R (a * c + b * d) (value-monomial m ⊗ value-monomial n)
          ≡ multiple R a (value-monomial m) ⊗ multiple R c (value-monomial n)
          ⊕ multiple R b (value-monomial m) ⊗ multiple R d (value-monomial n)
      split a c b d =
          multiple-add R (a * c) (b * d) (value-monomial m ⊗ value-monomial n)
          ∙ sym
          (
          ap₂
          ◌⊕◌
          (multiple-mul R a c (value-monomial m) (value-monomial n))
          (multiple-mul R b d (value-monomial m) (value-monomial n))
          )

  scale-value :
      (t : Term) (ts us : List Term) → value-sum (scale t ts us) ≡ value-term t ⊗ value-sum ts ⊕ value-sum us
  scale-value t [] us =
      sym (ap (λ x. x ⊕ value-sum us) (mul-zero R (value-term t)) ∙ zero-add R (value-sum us))
  scale-value t (s ∷ ts) us =
      insert-value (times-term t s) (scale t ts us)
      ∙ ap₂ ◌⊕◌ (times-term-value t s) (scale-value t ts us)
      ∙ sym (add_assoc (value-term t ⊗ value-term s) (value-term t ⊗ value-sum ts) (value-sum us))
      ∙ ap (λ x. x ⊕ value-sum us) (sym (mul-add (value-term t) (value-term s) (value-sum ts)))

  times-value : (ts us : List Term) → value-sum (times ts us) ≡ value-sum ts ⊗ value-sum us
  times-value [] us = sym (zero-mul R (value-sum us))
  times-value (t ∷ ts) us =
      scale-value t us (times ts us)
      ∙ ap (λ x. value-term t ⊗ value-sum us ⊕ x) (times-value ts us)
      ∙ sym (add-mul R (value-term t) (value-sum ts) (value-sum us))

  opposite-value : (t : Term) → value-term (opposite t) ≡ ⊖ value-term t
  opposite-value (term a b m) =
      opposite-difference (multiple R a (value-monomial m)) (multiple R b (value-monomial m))
    where
      opposite-difference : (x y : K) → y ⊕ ⊖ x ≡ ⊖ (x ⊕ ⊖ y)
      opposite-difference x y = sym (neg-add R x (⊖ y) ∙ ap (λ z. ⊖ x ⊕ z) (neg-neg R y) ∙ add_comm (⊖ x) y)

  opposites_value : (ts : List Term) → value-sum (map opposite ts) ≡ ⊖ value-sum ts
  opposites_value [] = sym (neg-zero R)
  opposites_value (t ∷ ts) =
      ap₂ ◌⊕◌ (opposite-value t) (opposites_value ts) ∙ sym (neg-add R (value-term t) (value-sum ts))

  value_of_count : (k : ℕ) (m : List ℕ) → value-sum (term k 0 m ∷ []) ≡ multiple R k (value-monomial m)
  value_of_count k m =
      add-zero _
      ∙ ap (λ x. multiple R k (value-monomial m) ⊕ ⊖ x) (multiple-zero R (value-monomial m))
      ∙ ap (λ x. multiple R k (value-monomial m) ⊕ x) (neg-zero R)
      ∙ add-zero _

  expand-value : (e : Expr) → value-sum (expand e) ≡ value e
  unfolding numeral
  expand-value (var v) = value_of_count 1 (v ∷ []) ∙ multiple-one R (ρ v ⊗ 1#) ∙ mul-one (ρ v)
  expand-value :0 = refl
  expand-value :1 = value_of_count 1 [] ∙ multiple-one R 1#
  expand-value (num k) = value_of_count k []
  expand-value (a :+ b) = plus-value (expand a) (expand b) ∙ ap₂ ◌⊕◌ (expand-value a) (expand-value b)
  expand-value (a :* b) = times-value (expand a) (expand b) ∙ ap₂ ◌⊗◌ (expand-value a) (expand-value b)
  expand-value (:- a) = opposites_value (expand a) ∙ ap ⊖◌ (expand-value a)

  cancel_common : (a b c : K) → a ⊕ c ⊕ ⊖ (b ⊕ c) ≡ a ⊕ ⊖ b
  cancel_common a b c = sum_of_differences a b c c ∙ ap (λ x. a ⊕ ⊖ b ⊕ x) (add_neg c) ∙ add-zero (a ⊕ ⊖ b)

  reduce-term-value : (a b : ℕ) (m : List ℕ) → value-term (term (a - b) (b - a) m) ≡ value-term (term a b m)
  reduce-term-value a b m =
      sym
      (
      ap₂ (λ x y. multiple R x (value-monomial m) ⊕ ⊖ multiple R y (value-monomial m)) left right
      ∙ ap₂ (λ x y. x ⊕ ⊖ y) (multiple-add R (a - b) (min a b) _) (multiple-add R (b - a) (min a b) _)
      ∙ cancel_common _ _ _
      )
    where
      left : a ≡ a - b + min a b
      left = omega arith

      right : b ≡ b - a + min a b
      right = omega arith

  keep-value :
      (a b : ℕ) (m : List ℕ) (ts : List Term)
      → value-sum (keep a b m ts) ≡ value-term (term a b m) ⊕ value-sum ts
  keep-value zero zero m ts =
      sym (ap (λ x. x ⊕ value-sum ts) (add_neg (multiple R 0 (value-monomial m))) ∙ zero-add R (value-sum ts))
  keep-value zero (suc b) m ts = refl
  keep-value (suc a) b m ts = refl

  reduce-value : (ts : List Term) → value-sum (reduce ts) ≡ value-sum ts
  reduce-value [] = refl
  reduce-value (term a b m ∷ ts) =
      keep-value (a - b) (b - a) m (reduce ts)
      ∙ ap₂ ◌⊕◌ (reduce-term-value a b m) (reduce-value ts)

  pub normal-value : (e : Expr) → value-sum (normal e) ≡ value e
  normal-value e = reduce-value (expand e) ∙ expand-value e

  pub equal-values :
      (e : Equation) → normal e.left ≡ normal e.right → value e.left ≡ value e.right
  equal-values e h = sym (normal-value e.left) ∙ ap value-sum h ∙ normal-value e.right

-- Equations in n variables, and what they claim.

abbrev pub Equations : ℕ → Type 0
Equations zero = Equation
Equations (suc n) = Expr → Equations n

abbrev pub equation : (n : ℕ) → Equations n → Equation
equation zero e = e
equation (suc n) f = equation n (f (var n))

module _ {K : Type 0} (R : Ring K) where
  abbrev pub Claim : ℕ → List K → Equation → Type 0
  Claim zero ρ e =
      ◌≡◌ {A = K} (value R (λ v. get_or ρ v R.0#) e.left) (value R (λ v. get_or ρ v R.0#) e.right)
  Claim (suc n) ρ e = (x : K) → Claim n (x ∷ ρ) e

  claim : (n : ℕ) (ρ : List K) (e : Equation) → normal e.left ≡ normal e.right → Claim n ρ e
  claim zero ρ e h = equal-values R (λ v. get_or ρ v R.0#) e h
  claim (suc n) ρ e h = λ x. claim n (x ∷ ρ) e h

  pub solve :
      (n : ℕ) (f : Equations n)
      → normal (equation n f).left ≡ normal (equation n f).right
      → Claim n [] (equation n f)
  solve n f h = claim n [] (equation n f) h

-- Examples.
