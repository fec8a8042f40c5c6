-- The impulse response of a monic list g of positive degree D: the sequence that begins 0, …, 0, 1, D terms
-- in all, and is continued by g. Its minimal polynomial is g, and its first D − 1 terms are those of the zero
-- sequence.
--
--   impulse F g        == that sequence
--   impulse_continues  == it is over the field, begins with these terms, and g annihilates it
--   impulse-cut        == its first D − 1 terms are 0
--   impulse-minimal    == its minimal polynomial is g
--
-- Assumes nothing.
use Prim.Native.Nat.{ℕ, zero, suc, ◌+◌, ◌-◌, ◌≤◌, ◌<◌}
use mathlib.Core.Path.{◌≡◌, sym, ap, subst, ◌∙◌}
use mathlib.Core.List.{List, [], ◌∷◌, ◌++◌}
use native.Mathlib.Decide.{dec_lt}
use native.Mathlib.Omega.{arith}
use lib.ListN.{length, get_or, replicate, length-append, length-replicate, get_or-append}
use lib.Seq.{get_or_at}
use lib.Dec.{T}
use Rattle.meaning.specs.Field.{Field, are_elements}
use Rattle.meaning.specs.Polynomial.{Polynomial, degree, is_monic_over}
use Rattle.meaning.specs.Sequence.{Sequence, continuation, Continues, MinimalPolynomial, cut}
use Rattle.algebra.proofs.Polynomials.Monic.{Monic}
use Rattle.algebra.proofs.Sequences.Action.{Kills}
use Rattle.algebra.proofs.Sequences.Continuation.{monic-zero}
use Rattle.bridge.proofs.Basics.Interpretation.{IsField, size-two, size-positive}
use Rattle.bridge.proofs.Lists.Polynomials.{Poly, monic-poly, elements-nil, elements-cons}
use Rattle.bridge.proofs.Lists.Coefficients.{get_or-zeros}
use Rattle.bridge.proofs.Sequences.Actions.{sequence, endless-kills, cut-equal}
use Rattle.bridge.proofs.Sequences.Continuations.{continuation_continues, continuation-start}
use Rattle.bridge.proofs.Sequences.Minimal.{algebra_minimal}

unfoldable pub impulse_start : Polynomial → List ℕ
impulse_start g = replicate (degree g - 1) 0 ++ (1 ∷ [])

unfoldable pub impulse : Field → Polynomial → Sequence
impulse F g = continuation F g (impulse_start g)

module _ {F : Field} (I : IsField F) (g : Polynomial) (m : T (is_monic_over F g)) (pos : 1 ≤ degree g) where
  start-length : length (impulse_start g) ≡ degree g
  unfolding impulse_start
  start-length =
      length-append (replicate (degree g - 1) 0) (1 ∷ [])
      ∙ omega (arith, length-replicate {A = ℕ} (degree g - 1) 0)

  start-elements : T (are_elements F (impulse_start g))
  unfolding impulse_start
  start-elements = zeros-one (degree g - 1)
    where
      zeros-one : (n : ℕ) → T (are_elements F (replicate n 0 ++ (1 ∷ [])))
      zeros-one zero = elements-cons F [] (size-two I) (elements-nil F)
      zeros-one (suc n) = elements-cons F (replicate n 0 ++ (1 ∷ [])) (size-positive I) (zeros-one n)

  pub impulse_continues : Continues F g (impulse_start g) (impulse F g)
  unfolding impulse
  impulse_continues = continuation_continues I g m (impulse_start g) start-length start-elements

  -- THE FIRST D TERMS
  term : (i : ℕ) → i < degree g → impulse F g i ≡ get_or (impulse_start g) i 0
  unfolding impulse
  term i l =
      continuation-start I g m (impulse_start g) start-length start-elements i
      (subst (λ n. i < n) (sym start-length) l)

  impulse-zeros : (i : ℕ) → i < degree g - 1 → impulse F g i ≡ 0
  unfolding impulse_start
  impulse-zeros i l =
      term i (omega arith)
      ∙ get_or-append (replicate (degree g - 1) 0) (1 ∷ []) 0 i
      (subst (λ n. i < n) (sym (length-replicate {A = ℕ} (degree g - 1) 0)) l)
      ∙ get_or-zeros (degree g - 1) i

  impulse-one : impulse F g (degree g - 1) ≡ 1
  unfolding impulse_start
  impulse-one =
      term (degree g - 1) (omega arith)
      ∙ get_or_at (replicate (degree g - 1) 0) 1 [] 0 (degree g - 1)
      (length-replicate {A = ℕ} (degree g - 1) 0)

  pub impulse-cut : cut (impulse F g) 0 (degree g - 1) ≡ cut (λ _. 0) 0 (degree g - 1)
  impulse-cut =
      cut-equal (impulse F g) (λ _. 0) 0 0 (degree g - 1)
      (λ i l. let e : 0 + i < degree g - 1 = omega arith in impulse-zeros (0 + i) e)

  -- MINIMAL: a monic polynomial of degree k < D that annihilates it finds k zeros, and would make it zero
  pub impulse-minimal : MinimalPolynomial F g (impulse F g)
  impulse-minimal =
      algebra_minimal I g (impulse F g) m
      (record {
        monic = monic-poly I g m;
        kills = endless-kills I g (impulse F g) impulse_continues.annihilated;
        least = least;
      })
    where
      least : (h : Poly I) (k : ℕ) → Monic h k → Kills (sequence I (impulse F g)) h → degree g ≤ k
      least h k x z = go (dec_lt k (degree g))
        where
          go : Dec (k < degree g) → degree g ≤ k
          go (no l) = omega arith
          go (yes l) = absurd (I.field.one_nonzero (sym I.element_one ∙ nothing))
            where
              zeros : (i : ℕ) → i < k → sequence I (impulse F g) i ≡ I.ring.0#
              zeros i e = ap I.element (impulse-zeros i (omega arith)) ∙ I.element-zero

              nothing : I.element 1 ≡ I.ring.0#
              nothing = ap I.element (sym impulse-one) ∙ monic-zero x z zeros (degree g - 1)
