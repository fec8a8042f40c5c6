-- Ideals of a commutative ring, divisibility and coprime elements.
--
--   Ideal R I       == the property I of ring elements holds of 0, of sums and of multiples of what has it
--   Divides R a h   == a divides h, with its quotient: h = quotient·a; all divide 0, and 0 divides 0 alone
--   Coprime R a b   == left·a + right·b = 1 for the two elements given; 0 and 1 are coprime
--   Atom R f        == for every h, f divides h or is coprime to h, with which of the two: the multiples of f
--                      are a maximal ideal or the whole ring, decided, which is more than irreducible; every
--                      unit is one, and 0 is one exactly where every element is 0 or a unit, decided
--   Generator R I g == g is in I and divides all of I
--   multiples-ideal == the multiples of one element
--   quotient-ideal  == what a given element multiplies into I
--   coprime-member  == coprime a and b with a·c and b·c in I have c in I
--   coprime-whole   == an ideal that holds coprime elements holds 1
--   coprime-product-divides
--                   == coprime divisors of h have a product that divides h
--   coprime-cancel  == a that is coprime to b and divides b·c divides c
--   coprime-congruent
--                   == being coprime to a depends on the residue modulo a alone
--   atom-product    == an atom that divides a product divides a factor
--
-- "a = b modulo I" is `I (a ⊕ ⊖ b)`; its laws are `congruent-refl`, `congruent_sym`, `congruent_trans`,
-- `congruent-mul` and `congruent-power`.
-- Assumes nothing.
use mathlib.Core.Path.{◌≡◌, refl, sym, ap, ap₂, subst, subst⁻¹, ◌∙◌}
use mathlib.Core.Logic.{◌⊎◌, inl, inr}
use Prim.Native.Nat.{ℕ, zero, suc, ◌≤◌}
use Rattle.algebra.proofs.Rings.Power.{power, power_zero, power-suc, power-split, power-mul}
use Rattle.algebra.proofs.Rings.Solver.{solve, ◌:=◌, ◌:+◌, ◌:*◌, :-◌}
use Rattle.algebra.proofs.Rings.Ring.{Ring, zero-add, one-mul, zero-mul, add-mul}
use Rattle.algebra.proofs.Rings.Ring.{mul-zero, mul_left_comm, mul-mul_comm, neg-one-mul}
use Rattle.algebra.proofs.Rings.Ring.{sub_add_cancel}

module _ {K : Type 0} (R : Ring K) where
  open R use {0#, 1#, ◌⊕◌, ◌⊗◌, ⊖◌, add_comm, add_neg, mul_assoc, mul_comm, mul-one, mul-add}

  infixl 60 ◌⊕◌
  infixl 70 ◌⊗◌
  infix 80 ⊖◌
  pub record Ideal (I : K → Type 0) : Type 0 where
    pub has_zero : I 0#
    pub sum : {a b : K} → I a → I b → I (a ⊕ b)
    pub multiple : (q : K) {a : K} → I a → I (q ⊗ a)

  pub record Divides (a h : K) : Type 0 where
    pub quotient : K
    pub equation : h ≡ quotient ⊗ a

  pub record Coprime (a b : K) : Type 0 where
    pub left : K
    pub right : K
    pub bezout : left ⊗ a ⊕ right ⊗ b ≡ 1#

  abbrev pub Atom : K → Type 0
  Atom f = (h : K) → Divides f h ⊎ Coprime f h

  pub record Generator (I : K → Type 0) (g : K) : Type 0 where
    pub member : I g
    pub divides : (h : K) → I h → Divides g h

  -- Divisibility
  pub divides-multiple : (q a : K) → Divides a (q ⊗ a)
  divides-multiple q a = record { quotient = q; equation = refl }

  pub divides-product : (a q : K) → Divides a (a ⊗ q)
  divides-product a q = record { quotient = q; equation = mul_comm a q }

  pub divides-refl : (a : K) → Divides a a
  divides-refl a = record { quotient = 1#; equation = sym (one-mul R a) }

  pub one-divides : (h : K) → Divides 1# h
  one-divides h = record { quotient = h; equation = sym (mul-one h) }

  pub divides_trans : {a b c : K} → Divides a b → Divides b c → Divides a c
  divides_trans {a} d e = record {
    quotient = e.quotient ⊗ d.quotient;
    equation = e.equation ∙ ap (λ x. e.quotient ⊗ x) d.equation ∙ sym (mul_assoc _ _ a);
  }

  pub divides-mul : {a b c d : K} → Divides a b → Divides c d → Divides (a ⊗ c) (b ⊗ d)
  divides-mul {a} {c = c} d e = record {
    quotient = d.quotient ⊗ e.quotient;
    equation = rw (d.equation, e.equation) (mul-mul_comm R _ a _ c);
  }

  pub divides-power : (a : K) {m n : ℕ} → m ≤ n → Divides (power R a m) (power R a n)
  divides-power a l = record { quotient = _; equation = power-split R a l }

  pub divides-powers : {a b : K} (n : ℕ) → Divides a b → Divides (power R a n) (power R b n)
  divides-powers {a} n d = record {
    quotient = power R d.quotient n;
    equation = ap (λ x. power R x n) d.equation ∙ power-mul R d.quotient a n;
  }

  pub multiples-ideal : (a : K) → Ideal (Divides a)
  multiples-ideal a = record {
    has_zero = record { quotient = 0#; equation = sym (zero-mul R a) };
    sum = λ d e. record {
      quotient = d.quotient ⊕ e.quotient;
      equation = rw (d.equation, e.equation) (sym (add-mul R _ _ a));
    };
    multiple = λ q d. divides_trans d (divides-multiple q _);
  }

  bezout-split : {a b : K} (p : Coprime a b) (c : K) → c ≡ p.left ⊗ (a ⊗ c) ⊕ p.right ⊗ (b ⊗ c)
  bezout-split {a} {b} p c =
      sym (one-mul R c)
      ∙ ap (λ x. x ⊗ c) (sym p.bezout)
      ∙ add-mul R _ _ c
      ∙ ap₂ ◌⊕◌ (mul_assoc _ a c) (mul_assoc _ b c)

  -- Members of an ideal
  module _ {I : K → Type 0} (ideal : Ideal I) where
    open ideal use {has_zero, sum, multiple}

    pub divides-member : {a h : K} → Divides a h → I a → I h
    divides-member d m = rw d.equation (multiple _ m)

    pub one-member : (h : K) → I 1# → I h
    one-member h m = divides-member (one-divides h) m

    pub quotient-ideal : (b : K) → Ideal (λ c. I (b ⊗ c))
    quotient-ideal b = record {
      has_zero = rw mul-zero has_zero;
      sum = λ m n. rw mul-add (sum m n);
      multiple = λ q m. rw mul_left_comm (multiple q m);
    }

    pub coprime-member : {a b c : K} → Coprime a b → I (a ⊗ c) → I (b ⊗ c) → I c
    coprime-member {c = c} p m n = subst⁻¹ I (bezout-split p c) (sum (multiple _ m) (multiple _ n))

    -- An ideal that holds coprime elements is the whole ring.
    pub coprime-whole : {a b : K} → Coprime a b → I a → I b → I 1#
    coprime-whole p m n = coprime-member p (rw mul-one m) (rw mul-one n)

    -- Differences of members, and congruence modulo I.
    pub neg-member : {a : K} → I a → I (⊖ a)
    neg-member m = rw neg-one-mul at (multiple (⊖ 1#) m)

    pub sub-member : {a b : K} → I a → I b → I (a ⊕ ⊖ b)
    sub-member m n = sum m (neg-member n)

    pub congruent-member : {a b : K} → I (a ⊕ ⊖ b) → I b → I a
    congruent-member m n = rw sub_add_cancel at (sum m n)

    pub congruent-refl : (a : K) → I (a ⊕ ⊖ a)
    congruent-refl a = rw add_neg has_zero

    pub congruent_sym : {a b : K} → I (a ⊕ ⊖ b) → I (b ⊕ ⊖ a)
    congruent_sym {a} {b} m = subst I (solve R 2 (λ a b. :- (a :+ :- b) := b :+ :- a) refl a b) (neg-member m)

    pub congruent_trans : {a b c : K} → I (a ⊕ ⊖ b) → I (b ⊕ ⊖ c) → I (a ⊕ ⊖ c)
    congruent_trans {a} {b} {c} m n =
        subst I (solve R 3 (λ a b c. a :+ :- b :+ (b :+ :- c) := a :+ :- c) refl a b c) (sum m n)

    pub congruent-mul : {a b c d : K} → I (a ⊕ ⊖ b) → I (c ⊕ ⊖ d) → I (a ⊗ c ⊕ ⊖ (b ⊗ d))
    congruent-mul {a} {b} {c} {d} m n =
        subst I
        (solve R 4 (λ a b c d. c :* (a :+ :- b) :+ b :* (c :+ :- d) := a :* c :+ :- (b :* d)) refl a b c d)
        (sum (multiple c m) (multiple b n))

    pub congruent-power : {a b : K} (n : ℕ) → I (a ⊕ ⊖ b) → I (power R a n ⊕ ⊖ power R b n)
    congruent-power {a} {b} zero m = rw (power_zero R a, power_zero R b) (congruent-refl 1#)
    congruent-power {a} {b} (suc n) m =
        rw (power-suc R a n, power-suc R b n) (congruent-mul (congruent-power n m) m)

  -- Coprime elements
  pub coprime_sym : {a b : K} → Coprime a b → Coprime b a
  coprime_sym p = record { left = p.right; right = p.left; bezout = add_comm _ _ ∙ p.bezout }

  pub coprime-one : (a : K) → Coprime a 1#
  coprime-one a = record {
    left = 0#;
    right = 1#;
    bezout = rw (zero-mul R a, mul-one) (zero-add R 1#);
  }

  pub coprime-mul : {a b c : K} → Coprime a b → Coprime a c → Coprime a (b ⊗ c)
  coprime-mul {a} {b} {c} p q = record {
    left = q.left ⊕ q.right ⊗ (p.left ⊗ c);
    right = q.right ⊗ p.right;
    bezout =
        solve R 7 (λ a b c u v x y.
        (x :+ y :* (u :* c)) :* a :+ y :* v :* (b :* c) := x :* a :+ y :* (u :* (a :* c) :+ v :* (b :* c)))
        refl a b c p.left p.right q.left q.right
        ∙ ap (λ x. q.left ⊗ a ⊕ q.right ⊗ x) (sym (bezout-split p c))
        ∙ q.bezout;
  }

  pub coprime-power-right : {a b : K} → Coprime a b → (n : ℕ) → Coprime a (power R b n)
  coprime-power-right {a} p zero = rw power_zero (coprime-one a)
  coprime-power-right p (suc n) = rw power-suc (coprime-mul (coprime-power-right p n) p)

  pub coprime-power : {a b : K} → Coprime a b → (m n : ℕ) → Coprime (power R a m) (power R b n)
  coprime-power p m n = coprime_sym (coprime-power-right (coprime_sym (coprime-power-right p n)) m)

  pub coprime-congruent : {a b c : K} → Divides a (b ⊕ ⊖ c) → Coprime a b → Coprime a c
  coprime-congruent {a} {b} {c} d p = record {
    left = p.left ⊕ p.right ⊗ d.quotient;
    right = p.right;
    bezout =
        solve R 5 (λ a c l r q. (l :+ r :* q) :* a :+ r :* c := l :* a :+ r :* (q :* a :+ c))
        refl a c p.left p.right d.quotient
        ∙ ap (λ u. p.left ⊗ a ⊕ p.right ⊗ (u ⊕ c)) (sym d.equation)
        ∙ ap (λ u. p.left ⊗ a ⊕ p.right ⊗ u) (solve R 2 (λ b c. b :+ :- c :+ c := b) refl b c)
        ∙ p.bezout;
  }

  pub coprime-product-divides : {a b h : K} → Coprime a b → Divides a h → Divides b h → Divides (a ⊗ b) h
  coprime-product-divides {a} {b} p d e = coprime-member (multiples-ideal (a ⊗ b)) p
      (divides-mul (divides-refl a) e)
      (rw (mul_comm b) (divides-mul d (divides-refl b)))

  pub coprime-cancel : {a b c : K} → Coprime a b → Divides a (b ⊗ c) → Divides a c
  coprime-cancel {a} {c = c} p d = coprime-member (multiples-ideal a) p (divides-product a c) d

  pub atom-product : {f a b : K} → Atom f → Divides f (a ⊗ b) → Divides f a ⊎ Divides f b
  atom-product {a = a} atom d = elim (atom a) [ inl e ↦ inl e | inr p ↦ inr (coprime-cancel p d) ]
