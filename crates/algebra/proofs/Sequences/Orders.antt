-- Orders: the numbers n for which a polynomial divides x^n − 1, and so the periods of a sequence by the
-- powers of the factors of its minimal polynomial.
--
--   Unity R x f n      == f divides x^n − 1, in any ring
--   unity-zero, unity-add, unity-rest, unity-multiple
--                      == these n are closed under sums, differences and multiples
--   Order R x f n      == n is the least positive number of this kind: the order of x modulo f
--   power-unity, power-unity-base
--                      == f irreducible, in characteristic p, N = p^w·M and p does not divide M: where f^r
--                         divides x^N − 1, r ≤ p^w, and f divides x^M − 1 if r is not 0
--   unity-power-divides == the converse: where r ≤ p^t and f divides x^k − 1, f^r divides x^(p^t·k) − 1
--   Factored fs r s t  == the minimal polynomial of the sequence s is the product of the irreducibles f_i of
--                         fs, all different, to the powers r_i, and t is least with r_i ≤ p^t for all i
--   period-level       == p^t divides every period of s
--   unity-period, period-unity
--                      == it repeats every p^t·k terms exactly where each f_i with r_i > 0 divides x^k − 1
--   product-least-period
--                      == so its least period is p^t times the least common multiple of the orders of
--                         these f_i
--   period_exists      == over a finite field there is one, unless one of these f_i is x
--
-- Assumes nothing.
use mathlib.Core.Path.{◌≡◌, refl, sym, ap, subst, ◌∙◌}
use mathlib.Core.Logic.{◌⊎◌, inl, inr}
use mathlib.Core.List.{List}
use Prim.Native.Nat.{ℕ, zero, suc, ◌+◌, ◌*◌, ◌-◌, ◌^◌, ◌/◌, ◌∣◌, ◌≤◌, ◌<◌}
use native.Mathlib.Nat as ℕ
use native.Mathlib.Omega.{arith}
use lib.ListN.{length, get_or}
use lib.Pow.{pow-add}
use Rattle.algebra.proofs.Numbers.Number.{Least, prime-power-pos}
use Rattle.algebra.proofs.Rings.Ring.{Ring, Field}
use Rattle.algebra.proofs.Rings.Solver.{solve, ◌:=◌, ◌:+◌, ◌:*◌, :-◌, :1}
use Rattle.algebra.proofs.Rings.Power.{power, power_zero, power-add}
use Rattle.algebra.proofs.Rings.Characteristic.{Characteristic}
use Rattle.algebra.proofs.Rings.Ideal.{
  Divides,
  Generator,
  one-divides,
  divides-refl,
  divides_trans,
  divides-power,
  divides-powers,
  divides-member,
  multiples-ideal,
}
use Rattle.algebra.proofs.Rings.PowerProduct.{
  power-product,
  CoprimeAtoms,
  power-divides-product,
  powers-product-divides,
}
use Rattle.algebra.proofs.Polynomials.Polynomial.{Polynomial, polynomials, X}
use Rattle.algebra.proofs.Polynomials.Frobenius.{polynomial_characteristic}
use Rattle.algebra.proofs.Polynomials.Derivative.{unity}
use Rattle.algebra.proofs.Polynomials.Monic.{monic-degree, monic-power}
use Rattle.algebra.proofs.Polynomials.Division.{divisor-degree}
use Rattle.algebra.proofs.Polynomials.Irreducible.{Irreducible, irreducible-atom}
use Rattle.algebra.proofs.Sequences.Action.{Kills}
use Rattle.algebra.proofs.Sequences.Annihilator.{kills-ideal}
use Rattle.algebra.proofs.Sequences.Cut.{Periodic, periodic-kills}
use Rattle.algebra.proofs.Sequences.Period.{
  Valuation,
  valuation,
  unity-power,
  period-least,
  period-divides,
}
use Rattle.algebra.proofs.FiniteFields.FiniteField.{Elements, residues-two}
use Rattle.algebra.proofs.FiniteFields.Order.{LeastPeriod, x-order}

-- In any ring
module _ {K : Type 0} (R : Ring K) (x f : K) where
  open R use {1#, ◌⊕◌, ◌⊗◌, ⊖◌}

  infixl 60 ◌⊕◌
  infixl 70 ◌⊗◌
  infix 80 ⊖◌
  abbrev pub Unity : ℕ → Type 0
  Unity n = Divides R f (unity R x n)

  pub unity-zero : Unity 0
  unity-zero =
      subst (Divides R f) (sym (ap (λ u. u ⊕ ⊖ 1#) (power_zero R x) ∙ R.add_neg 1#))
      (multiples-ideal R f).has_zero

  unity-sum : (a b : ℕ) → unity R x (a + b) ≡ power R x a ⊗ unity R x b ⊕ unity R x a
  unity-sum a b =
      ap (λ u. u ⊕ ⊖ 1#) (power-add R x a b)
      ∙ solve R 2 (λ y z. y :* z :+ :- :1 := y :* (z :+ :- :1) :+ (y :+ :- :1)) refl
      (power R x a) (power R x b)

  pub unity-add : (a b : ℕ) → Unity a → Unity b → Unity (a + b)
  unity-add a b h k =
      subst (Divides R f) (sym (unity-sum a b))
      ((multiples-ideal R f).sum ((multiples-ideal R f).multiple (power R x a) k) h)

  pub unity-rest : (a b : ℕ) → Unity (a + b) → Unity b → Unity a
  unity-rest a b h k =
      subst (Divides R f)
      (ap (λ u. u ⊕ ⊖ 1# ⊗ (power R x a ⊗ unity R x b)) (unity-sum a b)
      ∙ solve R 2 (λ z y. z :+ y :+ :- :1 :* z := y) refl (power R x a ⊗ unity R x b) (unity R x a))
      ((multiples-ideal R f).sum h
      ((multiples-ideal R f).multiple (⊖ 1#) ((multiples-ideal R f).multiple (power R x a) k)))

  pub unity-multiple : (k n : ℕ) → Unity n → Unity (k * n)
  unity-multiple zero n h = subst Unity (omega (arith, ℕ.zero-mul n)) unity-zero
  unity-multiple (suc k) n h =
      subst Unity (omega (arith, ℕ.suc-mul k n)) (unity-add (k * n) n (unity-multiple k n h) h)

  abbrev pub Order : ℕ → Type 0
  Order = Least (λ n. (0 < n) × Unity n)

-- what has positive multiples one by one has one together
common_multiple :
    {Q : ℕ → ℕ → Type 0}
    → ((i k n : ℕ) → Q i n → Q i (k * n))
    → (n : ℕ)
    → ((i : ℕ) → i < n → (k : ℕ) × (0 < k) × Q i k)
    → (k : ℕ) × (0 < k) × ((i : ℕ) → i < n → Q i k)
common_multiple closed zero each = (1, omega arith, λ i l. absurd (ℕ.not-suc-le-zero l))
common_multiple {Q} closed (suc n) each =
    let (a, ha, rest) = common_multiple closed n (λ i l. each i (omega arith)) in
    let (b, hb, last) = each n (omega arith) in
    (a * b, ℕ.mul-pos ha hb, λ i l. go a b rest last i (ℕ.eq-or-lt_of_le (ℕ.le_of_suc-le-suc l)))
  where
    go :
        (a b : ℕ)
        → ((i : ℕ) → i < n → Q i a)
        → Q n b
        → (i : ℕ)
        → (i ≡ n) ⊎ (i < n)
        → Q i (a * b)
    go a b rest last i (inl e) = subst (λ j. Q j (a * b)) (sym e) (closed n a b last)
    go a b rest last i (inr l) = subst (Q i) (ℕ.mul_comm b a) (closed i b a (rest i l))

module _ {K : Type 0} {R : Ring K} {D : Discrete K} {p : ℕ} (F : Field R) (C : Characteristic R p) where
  abbrev S : Ring (Polynomial R D)
  S = polynomials R D

  -- Powers of an irreducible polynomial
  module _ {f : Polynomial R D} {d : ℕ} (i : Irreducible f d) where
    power-divides-power : (r k : ℕ) → Divides S (power S f r) (power S f k) → r ≤ k
    power-divides-power r k h =
        let l : d * r ≤ d * k =
        divisor-degree (monic-power r i.monic)
        (monic-degree F.one_nonzero (monic-power k i.monic)) h in
        ℕ.le_of_mul-le-mul_left l i.positive

    least-multiple : (r : ℕ) → Least (λ k. Divides S (power S f r) (power S f k)) r
    least-multiple r = record {
      holds = divides-refl S (power S f r);
      least = λ m l h. omega (arith, power-divides-power r m h);
    }

    module _ {N w M r : ℕ} (v : Valuation p N w M) (h : Divides S (power S f r) (unity S (X R D) N)) where
      pub power-unity : r ≤ p ^ w
      power-unity =
          period-least (multiples-ideal S (power S f r)) C v h (irreducible-atom F i) (least-multiple r)

      pub power-unity-base : 0 < r → Unity S (X R D) f M
      power-unity-base l =
          period-divides (multiples-ideal S (power S f r)) C v h (irreducible-atom F i) proper
          r (divides-refl S (power S f r))
        where
          proper : ¬ Divides S (power S f r) S.1#
          proper z =
              let k = power-divides-power r 0 (subst (Divides S (power S f r)) (sym (power_zero S f)) z) in
              omega arith

  pub unity-power-divides :
      {f : Polynomial R D} {r : ℕ} (t k : ℕ)
      → r ≤ p ^ t
      → (0 < r → Unity S (X R D) f k)
      → Divides S (power S f r) (unity S (X R D) (p ^ t * k))
  unity-power-divides {f} {r} t k l h = elim (ℕ.eq-zero-or-pos r) [
    | inl z ↦
        subst (λ u. Divides S u (unity S (X R D) (p ^ t * k))) (sym (ap (power S f) z ∙ power_zero S f))
        (one-divides S _)
    | inr b ↦
        divides_trans S (divides-power S f l)
        (rw (← unity-power (polynomial_characteristic C D)) (divides-powers S (p ^ t) (h b)))
  ]

  -- The periods of a sequence, by the powers of the factors of its minimal polynomial
  pub record Factored (fs : List (Polynomial R D)) (r : ℕ → ℕ) (s : ℕ → K) (t : ℕ) : Type 0 where
    pub irreducibles : (i : ℕ) → i < length fs → (d : ℕ) × Irreducible (get_or fs i S.0#) d
    pub atoms : CoprimeAtoms S fs
    pub generator : Generator S (Kills s) (power-product S fs r)
    pub reaches : (i : ℕ) → i < length fs → r i ≤ p ^ t
    pub least : (w : ℕ) → ((i : ℕ) → i < length fs → r i ≤ p ^ w) → t ≤ w

  abbrev pub Unities : List (Polynomial R D) → (ℕ → ℕ) → ℕ → Type 0
  Unities fs r k = (i : ℕ) → i < length fs → 0 < r i → Unity S (X R D) (get_or fs i S.0#) k

  module _ {fs : List (Polynomial R D)} {r : ℕ → ℕ} {s : ℕ → K} {t : ℕ} (x : Factored fs r s t) where
    open x use {irreducibles, atoms, generator, reaches, least}

    pub unity-period : (k : ℕ) → Unities fs r k → Periodic s (p ^ t * k)
    unity-period k h =
        (periodic-kills R D s (p ^ t * k)).1
        (divides-member S (kills-ideal s)
        (powers-product-divides S fs r atoms (λ i l. unity-power-divides t k (reaches i l) (h i l)))
        generator.member)

    -- each power divides x^m − 1 for a period m
    power-period :
        (m : ℕ) → Periodic s m → (i : ℕ) → i < length fs
        → Divides S (power S (get_or fs i S.0#) (r i)) (unity S (X R D) m)
    power-period m h i l =
        divides_trans S (power-divides-product S fs r i l)
        (generator.divides (unity S (X R D) m) ((periodic-kills R D s m).0 h))

    -- a period p^w·M, where p does not divide M
    module _ {m w M : ℕ} (v : Valuation p m w M) (h : Periodic s m) where
      level-below : t ≤ w
      level-below = least w (λ i l. power-unity (irreducibles i l).1 v (power-period m h i l))

      split : p ^ t * (p ^ (w - t) * M) ≡ m
      split =
          let e : w ≡ t + (w - t) = omega (arith, level-below) in
          sym (ℕ.mul_assoc (p ^ t) (p ^ (w - t)) M)
          ∙ ap (λ n. n * M) (sym (ap (◌^◌ p) e ∙ pow-add p t (w - t)))
          ∙ sym v.product

      rests : Unities fs r (p ^ (w - t) * M)
      rests i l k =
          unity-multiple S (X R D) (get_or fs i S.0#) (p ^ (w - t)) M
          (power-unity-base (irreducibles i l).1 v (power-period m h i l) k)

    pub period-level : (m : ℕ) → 0 < m → Periodic s m → p ^ t ∣ m
    period-level m pos h =
        let (w, M, v) = valuation C.prime m pos in
        subst (λ n. p ^ t ∣ n) (split v h) (ℕ.dvd-mul_right (p ^ t) (p ^ (w - t) * M))

    pub period-unity : (k : ℕ) → 0 < k → Periodic s (p ^ t * k) → Unities fs r k
    period-unity k pos h =
        let positive = prime-power-pos C.prime t in
        let (w, M, v) = valuation C.prime (p ^ t * k) (ℕ.mul-pos positive pos) in
        subst (Unities fs r) (ℕ.eq_of_mul-eq-mul_left (p ^ t) positive _ k (split v h)) (rests v h)

    pub product-least-period :
        (E : ℕ) → 0 < E → Unities fs r E → ((m : ℕ) → Unities fs r m → E ∣ m) → LeastPeriod s (p ^ t * E)
    product-least-period E pos h common = record {
      holds = (ℕ.mul-pos positive pos, unity-period E h);
      least = λ m l q. omega (arith, not-below m q.0 q.1);
    }
      where
        positive : 0 < p ^ t
        positive = prime-power-pos C.prime t

        not-below : (m : ℕ) → 0 < m → Periodic s m → p ^ t * E ≤ m
        not-below m l q =
            let e : p ^ t * (m / p ^ t) ≡ m = ℕ.mul-div_cancel' (p ^ t) (period-level m l q) in
            let b : 0 < m / p ^ t =
            ℕ.pos_of_ne-zero (λ z. omega (arith, ap (◌*◌ (p ^ t)) z, ℕ.mul-zero (p ^ t))) in
            let q' = period-unity (m / p ^ t) b (subst (Periodic s) (sym e) q) in
            subst (λ n. p ^ t * E ≤ n) e (ℕ.mul-le-mul_left (p ^ t) (ℕ.le_of_dvd b (common (m / p ^ t) q')))

    pub period_exists :
        {q : ℕ}
        → Elements K q
        → ((i : ℕ) → i < length fs → 0 < r i → ¬ (get_or fs i S.0# ≡ X R D))
        → (m : ℕ) × (0 < m) × Periodic s m
    period_exists {q} E not-x =
        let (k, pos, h) =
        common_multiple
        {Q = λ i k. 0 < r i → Unity S (X R D) (get_or fs i S.0#) k}
        (λ i k n h l. unity-multiple S (X R D) (get_or fs i S.0#) k n (h l))
        (length fs)
        each in
        (p ^ t * k, ℕ.mul-pos (prime-power-pos C.prime t) pos, unity-period k h)
      where
        each :
            (i : ℕ) → i < length fs
            → (k : ℕ) × (0 < k) × (0 < r i → Unity S (X R D) (get_or fs i S.0#) k)
        each i l =
            let (d, f) = irreducibles i l in
            let many : 1 < q ^ d = residues-two F E d f.positive in
            (q ^ d - 1, omega arith, λ b. x-order F E f (not-x i l b))
