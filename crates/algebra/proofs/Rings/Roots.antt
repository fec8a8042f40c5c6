-- Roots modulo a prime ideal: a monic polynomial of degree n has at most n of them.
--
--   monic-value R cs y  == c₀ + c₁·y + … + y^n for the list cs of n elements c₀, c₁, …: the value at y of the
--                          monic polynomial of degree n with these lower coefficients; 1# for the empty list
--   root_count          == modulo a prime ideal, incongruent roots are at most as many as the degree
--   fixed-count         == where a^n = a modulo a prime ideal for every a, n > 1, the residues are at most n
--
-- "a = b modulo I" is `I (a ⊕ ⊖ b)`, as in Ideal.
-- Assumes nothing.
use mathlib.Core.Path.{◌≡◌, refl, sym, ap, subst, ◌∙◌}
use mathlib.Core.Logic.{inl, inr}
use mathlib.Core.List.{List, [], ◌∷◌, Mem, mem-cons_self, mem-cons_of_mem}
use mathlib.Core.List.Pairwise
use mathlib.Core.List.{Pairwise}
use lib.ListN.{length}
use Prim.Native.Nat.{ℕ, zero, suc, ◌≤◌, ◌<◌, zero-le, suc-le-suc}
use native.Mathlib.Omega.{arith}
use Rattle.algebra.proofs.Rings.Ring.{Ring}
use Rattle.algebra.proofs.Rings.Solver.{solve, ◌:=◌, ◌:+◌, ◌:*◌, :-◌, :0, :1}
use Rattle.algebra.proofs.Rings.Power.{power, power_zero, power-suc-left}
use Rattle.algebra.proofs.Rings.Ideal.{sub-member}
use Rattle.algebra.proofs.Rings.Residues.{PrimeIdeal, Residues}

module _ {K : Type 0} (R : Ring K) where
  open R use {0#, 1#, ◌⊕◌, ◌⊗◌, ⊖◌}

  infixl 60 ◌⊕◌
  infixl 70 ◌⊗◌
  infix 80 ⊖◌
  pub monic-value : List K → K → K
  monic-value [] y = 1#
  monic-value (c ∷ cs) y = c ⊕ y ⊗ monic-value cs y

  -- The value at y less that at a is y - a times the value at y of a monic polynomial of a degree less by
  -- one, which does not depend on the constant coefficient c.
  quotient : K → List K → List K
  quotient a [] = []
  quotient a (c ∷ cs) = monic-value (c ∷ cs) a ∷ quotient a cs

  quotient-length : (a : K) (cs : List K) → length (quotient a cs) ≡ length cs
  unfolding quotient
  quotient-length a [] = refl
  quotient-length a (c ∷ cs) = ap suc (quotient-length a cs)

  value-difference :
      (a y c : K) (cs : List K)
      → monic-value (c ∷ cs) y ⊕ ⊖ monic-value (c ∷ cs) a ≡ (y ⊕ ⊖ a) ⊗ monic-value (quotient a cs) y
  unfolding monic-value quotient
  value-difference a y c [] =
      solve R 3 (λ a y c. c :+ y :* :1 :+ :- (c :+ a :* :1) := (y :+ :- a) :* :1) refl a y c
  value-difference a y c (e ∷ cs) =
      solve R 5 (λ a y c m n. c :+ y :* m :+ :- (c :+ a :* n) := y :* (m :+ :- n) :+ (y :+ :- a) :* n)
      refl a y c (monic-value (e ∷ cs) y) (monic-value (e ∷ cs) a)
      ∙ ap (λ u. y ⊗ u ⊕ (y ⊕ ⊖ a) ⊗ monic-value (e ∷ cs) a) (value-difference a y e cs)
      ∙ solve R 4 (λ a y n z. y :* ((y :+ :- a) :* z) :+ (y :+ :- a) :* n := (y :+ :- a) :* (n :+ y :* z))
      refl a y (monic-value (e ∷ cs) a) (monic-value (quotient a cs) y)

  -- The polynomial y^n - y
  zeros : ℕ → List K
  zeros zero = []
  zeros (suc n) = 0# ∷ zeros n

  zeros-length : (n : ℕ) → length (zeros n) ≡ n
  unfolding zeros
  zeros-length zero = refl
  zeros-length (suc n) = ap suc (zeros-length n)

  zeros-value : (n : ℕ) (y : K) → monic-value (zeros n) y ≡ power R y n
  unfolding monic-value zeros
  zeros-value zero y = sym (power_zero R y)
  zeros-value (suc n) y =
      solve R 2 (λ y z. :0 :+ y :* z := y :* z) refl y (monic-value (zeros n) y)
      ∙ ap (◌⊗◌ y) (zeros-value n y)
      ∙ sym (power-suc-left R y n)

  fixed-value :
      (n : ℕ) (y : K) → monic-value (0# ∷ ⊖ 1# ∷ zeros n) y ≡ power R y (suc (suc n)) ⊕ ⊖ y
  unfolding monic-value
  fixed-value n y =
      solve R 2 (λ y z. :0 :+ y :* (:- :1 :+ y :* z) := y :* (y :* z) :+ :- y) refl
      y (monic-value (zeros n) y)
      ∙ ap (λ u. y ⊗ (y ⊗ u) ⊕ ⊖ y) (zeros-value n y)
      ∙ ap (λ u. y ⊗ u ⊕ ⊖ y) (sym (power-suc-left R y n))
      ∙ ap (λ u. u ⊕ ⊖ y) (sym (power-suc-left R y (suc n)))

  module _ {I : K → Type 0} (prime : PrimeIdeal R I) where
    open prime use {ideal, proper, factor}

    pub root_count :
        (xs cs : List K)
        → Pairwise (λ a b. ¬ I (b ⊕ ⊖ a)) xs
        → ((a : K) → Mem a xs → I (monic-value cs a))
        → length xs ≤ length cs
    unfolding monic-value
    root_count [] cs p h = zero-le
    root_count (a ∷ xs) [] p h = absurd (proper (h a mem-cons_self))
    root_count (a ∷ xs) (c ∷ cs) (Pairwise.cons u v) h =
        suc-le-suc (subst (λ n. length xs ≤ n) (quotient-length a cs) (root_count xs (quotient a cs) v next))
      where
        next : (b : K) → Mem b xs → I (monic-value (quotient a cs) b)
        next b m =
            let d = sub-member R ideal (h b (mem-cons_of_mem a m)) (h a mem-cons_self) in
            elim (factor (subst I (value-difference a b c cs) d)) [ inl i ↦ absurd (u b m i) | inr i ↦ i ]

    pub fixed-count :
        {xs : List K} (n : ℕ)
        → 1 < n
        → Residues R I xs
        → ((a : K) → I (power R a n ⊕ ⊖ a))
        → length xs ≤ n
    fixed-count zero l r h = absurd (omega arith)
    fixed-count (suc zero) l r h = absurd (omega arith)
    fixed-count {xs} (suc (suc n)) l r h =
        subst (λ k. length xs ≤ suc (suc k)) (zeros-length n)
        (root_count xs (0# ∷ ⊖ 1# ∷ zeros n) incongruent (λ a _. subst I (sym (fixed-value n a)) (h a)))
      where
        incongruent : Pairwise (λ a b. ¬ I (b ⊕ ⊖ a)) xs
        incongruent = Pairwise.imp_of_mem (λ a b i j e d. e (sym (r.apart j i d))) r.once
