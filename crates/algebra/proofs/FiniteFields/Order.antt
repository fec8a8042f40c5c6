-- The order of x modulo an irreducible polynomial, and the least period of a sequence.
--
--   LeastPeriod s n      == n is the least positive number such that s repeats every n terms
--   least-period         == a sequence that repeats every m terms, m > 0, has a least period, at most m
--   periodic_agree       == where s repeats every m terms, m > 0, as many terms tell whether it does every n
--   least-period-divides == the least period divides every period
--   x-order              == over a field of q elements, f irreducible of degree d, not x: f divides
--                           x^(q^d-1) - 1
--
-- Assumes nothing.
use mathlib.Core.Path.{◌≡◌, sym, ap, ◌∙◌}
use mathlib.Core.Logic.Dec
use Prim.Native.Nat.{ℕ, ◌+◌, ◌-◌, ◌^◌, ◌/◌, ◌%◌, ◌∣◌, ◌≤◌, ◌<◌}
use native.Mathlib.Nat as ℕ
use native.Mathlib.Decide.{dec_lt}
use native.Mathlib.Omega.{arith}
use Rattle.algebra.proofs.Numbers.Number.{Least, least-below}
use Rattle.algebra.proofs.Rings.Ring.{Ring, Field}
use Rattle.algebra.proofs.Rings.Ideal.{Divides}
use Rattle.algebra.proofs.Polynomials.Polynomial.{Polynomial, polynomials, X}
use Rattle.algebra.proofs.Polynomials.Derivative.{unity}
use Rattle.algebra.proofs.Polynomials.Irreducible.{Irreducible, irreducible-not-divides-x}
use Rattle.algebra.proofs.Sequences.Action.{Agree, agree_decided}
use Rattle.algebra.proofs.Sequences.Cut.{Periodic, periodic-multiple, periodic-equal}
use Rattle.algebra.proofs.FiniteFields.FiniteField.{Elements, irreducible-power}

-- Least periods
abbrev pub LeastPeriod : {K : Type 0} → (ℕ → K) → ℕ → Type 0
LeastPeriod s = Least (λ n. (0 < n) × Periodic s n)

module _ {K : Type 0} {s : ℕ → K} where
  -- The terms of one period tell whether s repeats every n terms
  pub periodic_agree : (m n : ℕ) → 0 < m → Periodic s m → Agree m (λ i. s (i + n)) s → Periodic s n
  periodic_agree m n l h = periodic-equal m l (λ i. ap s (omega arith) ∙ h (i + n)) h

  pub periodic-decided : Discrete K → (m : ℕ) → 0 < m → Periodic s m → (n : ℕ) → Dec (Periodic s n)
  periodic-decided D m l h n = elim (agree_decided D m (λ i. s (i + n)) s) [
    | yes a ↦ yes (periodic_agree m n l h a)
    | no k ↦ no (λ p. k (λ i _. p i))
  ]

  pub least-period : Discrete K → (m : ℕ) → 0 < m → Periodic s m → (n : ℕ) × (n ≤ m) × LeastPeriod s n
  least-period D m l h = least-below (λ n. Dec.and (dec_lt 0 n) (periodic-decided D m l h n)) m (l, h)

  periodic-rest : (n m : ℕ) → Periodic s n → Periodic s m → Periodic s (m % n)
  periodic-rest n m h k i =
      sym (periodic-multiple n h (i + m % n) (m / n)) ∙ ap s (omega (arith, ℕ.mod-add-div' m n)) ∙ k i

  pub least-period-divides : {n : ℕ} (m : ℕ) → LeastPeriod s n → Periodic s m → n ∣ m
  least-period-divides {n} m p h =
      let h' = periodic-rest n m p.holds.1 h in
      let small : m % n < n = ℕ.mod-lt m p.holds.0 in
      let not : ¬ (0 < m % n) = λ l. p.least (m % n) small (l, h') in
      ℕ.dvd_of_mod-eq-zero n (omega arith)

-- The order of x modulo f
module _ {K : Type 0} {R : Ring K} {D : Discrete K} {q : ℕ} (F : Field R) (E : Elements K q) where
  pub x-order :
      {f : Polynomial R D} {d : ℕ}
      → Irreducible f d
      → ¬ (f ≡ X R D)
      → Divides (polynomials R D) f (unity (polynomials R D) (X R D) (q ^ d - 1))
  x-order i k = irreducible-power F E i (irreducible-not-divides-x F.one_nonzero i k)
