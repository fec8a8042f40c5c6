-- A monic polynomial of degree d and d terms determine a sequence.
--
--   terms s n               == the list of the first n terms of the sequence s
--   next R cs w             == the term after the window w that makes the action of the coefficients cs and a
--                              leading 1 vanish at the first place of w
--   advance R cs w          == the window one place on: w without its first term, and `next` at its end
--   continuation R cs w     == the sequence that begins with w, each further term the `next` of the window
--                              before it; w is as long as cs; the zero sequence for empty lists
--   Continues g w s         == s begins with the terms w, and g annihilates it
--   monic_agree             == sequences with the same first d terms, on which a monic polynomial of degree d
--                              acts alike at j places, have the same first d + j terms
--   continuation_continues  == each w of d terms has a continuation annihilated by a monic g of degree d
--   continues_unique        == and only one
--
-- Assumes nothing.
use mathlib.Core.Path.{◌≡◌, refl, sym, ap, ap₂, subst, ◌∙◌}
use mathlib.Core.List.{List, [], ◌∷◌, ◌++◌}
use lib.ListN.{length, get_or, drop, length-append, length-drop, get_or-append, get_or-eq_default}
use lib.Seq.{get_or-drop, get_or_at}
use Prim.Native.Nat.{ℕ, zero, suc, ◌+◌, ◌≤◌, ◌<◌}
use native.Mathlib.Nat as ℕ
use native.Mathlib.Decide.{dec_lt}
use native.Mathlib.Omega.{arith}
use Rattle.algebra.proofs.Rings.Ring.{Ring}
use Rattle.algebra.proofs.Rings.Ring.{one-mul, neg-zero, add_left_cancel}
use Rattle.algebra.proofs.Rings.Sum.{sum, sum-last, sum_ext}
use Rattle.algebra.proofs.Polynomials.Series.{tail, coefficient-list}
use Rattle.algebra.proofs.Polynomials.Polynomial.{
  Polynomial,
  polynomial_ext,
  coefficient,
  coefficient-from_list,
  from_list,
}
use Rattle.algebra.proofs.Polynomials.Monic.{Monic}
use Rattle.algebra.proofs.Sequences.Action.{
  list-act,
  list-act-one,
  list-act_local,
  list-act-append,
  list-act-sequence-zero,
  act,
  act-from_list,
  act-sum,
  act-sequence-zero,
  Agree,
  agree_suc,
  Kills,
}

-- Sequences that a monic polynomial takes to the same sequence.
module _ {K : Type 0} {R : Ring K} {D : Discrete K} where
  open R use {0#, ◌⊕◌, ◌⊗◌}

  infixl 60 ◌⊕◌
  infixl 70 ◌⊗◌
  pub act-monic :
      {g : Polynomial R D} {d : ℕ} → Monic g d → (s : ℕ → K) (k : ℕ)
      → act g s k ≡ sum R d (λ i. coefficient g i ⊗ s (k + i)) ⊕ s (k + d)
  act-monic {g} {d} m s k =
      act-sum m.below s k
      ∙ sum-last R d (λ i. coefficient g i ⊗ s (k + i))
      ∙ ap
      (◌⊕◌ (sum R d (λ i. coefficient g i ⊗ s (k + i))))
      (ap (λ c. c ⊗ s (k + d)) m.leading ∙ one-mul R (s (k + d)))

  -- One place more.
  next_agrees :
      {g : Polynomial R D} {d : ℕ} → Monic g d → (s t : ℕ → K) (j : ℕ)
      → Agree (d + j) s t
      → act g s j ≡ act g t j
      → s (d + j) ≡ t (d + j)
  next_agrees {g} {d} m s t j h e =
      subst
      (λ k. s k ≡ t k)
      (ℕ.add_comm j d)
      (
      add_left_cancel
      R
      (sum R d (λ i. coefficient g i ⊗ s (j + i)))
      (
      sym (act-monic m s j)
      ∙ e
      ∙ act-monic m t j
      ∙ ap
      (λ x. x ⊕ t (j + d))
      (sum_ext R d (λ i l. ap (◌⊗◌ (coefficient g i)) (sym (h (j + i) (omega arith)))))
      )
      )

  pub monic_agree :
      {g : Polynomial R D} {d : ℕ} → Monic g d → (s t : ℕ → K) → Agree d s t
      → (j : ℕ) → Agree j (act g s) (act g t)
      → Agree (d + j) s t
  monic_agree {d = d} m s t h zero e = λ i l. h i (omega arith)
  monic_agree {g} {d} m s t h (suc j) e =
      rw
      (ℕ.add-suc d j)
      (
      agree_suc
      (monic_agree m s t h j (λ i l. e i (ℕ.le_step l)))
      (next_agrees m s t j (monic_agree m s t h j (λ i l. e i (ℕ.le_step l))) (e j (ℕ.le_refl (suc j))))
      )

  pub monic-equal :
      {g : Polynomial R D} {d : ℕ} → Monic g d → (s t : ℕ → K) → Agree d s t
      → ((k : ℕ) → act g s k ≡ act g t k)
      → (i : ℕ) → s i ≡ t i
  monic-equal m s t h e i = monic_agree m s t h (suc i) (λ k _. e k) i (omega arith)

  -- Zeros: at finitely many places, and at all.
  pub monic-zeros :
      {g : Polynomial R D} {d : ℕ} → Monic g d → (s : ℕ → K) → Agree d s (λ _. 0#)
      → (j : ℕ) → Agree j (act g s) (λ _. 0#)
      → Agree (d + j) s (λ _. 0#)
  monic-zeros {g} m s h j e =
      monic_agree m s (λ _. 0#) h j (λ i l. e i l ∙ sym (act-sequence-zero g i))

  pub monic-zero :
      {g : Polynomial R D} {d : ℕ} {s : ℕ → K} → Monic g d → Kills s g → Agree d s (λ _. 0#)
      → (i : ℕ) → s i ≡ 0#
  monic-zero {s = s} m z h i = monic-zeros m s h (suc i) (λ k _. z.vanishes k) i (omega arith)

  -- Two sequences that g annihilates and that agree on d terms are equal.
  pub kills-equal :
      {g : Polynomial R D} {d : ℕ} {s t : ℕ → K} → Monic g d → Kills s g → Kills t g → Agree d s t
      → (i : ℕ) → s i ≡ t i
  kills-equal {s = s} {t = t} m y z h =
      monic-equal m s t h (λ k. y.vanishes k ∙ sym (z.vanishes k))

-- The first terms of a sequence as a list.
module _ {K : Type 0} where
  unfoldable pub terms : (ℕ → K) → ℕ → List K
  terms s zero = []
  terms s (suc n) = s 0 ∷ terms (tail s) n

  pub length-terms : (s : ℕ → K) (n : ℕ) → length (terms s n) ≡ n
  unfolding terms
  length-terms s zero = refl
  length-terms s (suc n) = ap suc (length-terms (tail s) n)

  pub get_or-terms : (s : ℕ → K) (n i : ℕ) (z : K) → i < n → get_or (terms s n) i z ≡ s i
  unfolding terms
  get_or-terms s zero i z l = absurd (ℕ.not-suc-le-zero l)
  get_or-terms s (suc n) zero z l = refl
  get_or-terms s (suc n) (suc i) z l = get_or-terms (tail s) n i z (ℕ.le_of_suc-le-suc l)

-- The continuation, from a list of coefficients below the leading 1.
module _ {K : Type 0} (R : Ring K) where
  open R use {0#, 1#, ◌⊕◌, ⊖◌, add_neg}

  infixl 60 ◌⊕◌
  infix 80 ⊖◌
  unfoldable pub next : List K → List K → K
  next cs w = ⊖ list-act R cs (coefficient-list R w) 0

  unfoldable pub advance : List K → List K → List K
  advance cs w = drop 1 (w ++ (next cs w ∷ []))

  unfoldable pub continuation : List K → List K → ℕ → K
  continuation cs w zero = coefficient-list R w 0
  continuation cs w (suc i) = continuation cs (advance cs w) i

  next_of_empty : (cs : List K) → next cs [] ≡ 0#
  unfolding next
  next_of_empty cs = ap ⊖◌ (list-act-sequence-zero R cs 0) ∙ neg-zero R

  length-advance : (cs w : List K) → length (advance cs w) ≡ length w
  unfolding advance
  length-advance cs w = simp (length-drop, length-append) (omega arith)

  advance-at :
      (cs w : List K) (i : ℕ)
      → coefficient-list R (advance cs w) i ≡ coefficient-list R (w ++ (next cs w ∷ [])) (suc i)
  unfolding advance
  advance-at cs w i =
      get_or-drop 1 (w ++ (next cs w ∷ [])) i 0#
      ∙ ap (coefficient-list R (w ++ (next cs w ∷ []))) (omega arith)

  -- Within the window and one place beyond it.
  continuation-at :
      (cs w : List K) (i : ℕ)
      → i ≤ length w
      → continuation cs w i ≡ coefficient-list R (w ++ (next cs w ∷ [])) i
  unfolding continuation
  continuation-at cs [] zero l = sym (next_of_empty cs)
  continuation-at cs (a ∷ w) zero l = refl
  continuation-at cs w (suc i) l =
      let e : length (advance cs w) ≡ length w = length-advance cs w in
      continuation-at cs (advance cs w) i (omega arith)
      ∙ get_or-append (advance cs w) (next cs (advance cs w) ∷ []) 0# i (omega arith)
      ∙ advance-at cs w i

  pub continuation-begins : (cs w : List K) → Agree (length w) (continuation cs w) (coefficient-list R w)
  continuation-begins cs w i l =
      continuation-at cs w i (ℕ.le_of_lt l) ∙ get_or-append w (next cs w ∷ []) 0# i l

  continuation-next : (cs w : List K) → continuation cs w (length w) ≡ next cs w
  continuation-next cs w =
      continuation-at cs w (length w) (ℕ.le_refl (length w)) ∙ get_or_at w (next cs w) [] 0# (length w) refl

  annihilated-first :
      (cs w : List K) → length w ≡ length cs → list-act R (cs ++ (1# ∷ [])) (continuation cs w) 0 ≡ 0#
  unfolding next
  annihilated-first cs w e =
      list-act-append R cs (1# ∷ []) (continuation cs w) 0
      ∙ ap₂
      ◌⊕◌
      (
      list-act_local
      R
      cs
      (continuation cs w)
      (coefficient-list R w)
      0
      0
      (λ i l. continuation-begins cs w (0 + i) (omega arith))
      )
      (
      list-act-one R 1# (continuation cs w) (length cs + 0)
      ∙ one-mul R (continuation cs w (length cs + 0))
      ∙ ap (continuation cs w) (omega arith)
      ∙ continuation-next cs w
      )
      ∙ add_neg (list-act R cs (coefficient-list R w) 0)

  pub continuation-annihilated :
      (cs w : List K) (k : ℕ)
      → length w ≡ length cs
      → list-act R (cs ++ (1# ∷ [])) (continuation cs w) k ≡ 0#
  unfolding continuation
  continuation-annihilated cs w zero e = annihilated-first cs w e
  continuation-annihilated cs w (suc k) e =
      list-act_local
      R
      (cs ++ (1# ∷ []))
      (continuation cs w)
      (continuation cs (advance cs w))
      (suc k)
      k
      (λ i _. ap (continuation cs w) (ℕ.suc-add k i))
      ∙ continuation-annihilated cs (advance cs w) k (length-advance cs w ∙ e)

pub record Continues {K : Type 0} {R : Ring K} {D : Discrete K} (g : Polynomial R D) (w : List K) (s : ℕ → K)
    : Type 0 where
  pub begins : Agree (length w) s (coefficient-list R w)
  pub annihilated : Kills s g

-- From the list of coefficients below the leading 1.
module _ {K : Type 0} (R : Ring K) (D : Discrete K) where
  open R use {1#}

  pub list-continuation_continues :
      (cs w : List K)
      → length w ≡ length cs
      → Continues (from_list R D (cs ++ (1# ∷ []))) w (continuation R cs w)
  list-continuation_continues cs w e =
      record {
        begins = continuation-begins R cs w;
        annihilated =
            record {
              vanishes =
                  λ k.
                  act-from_list R D (cs ++ (1# ∷ [])) (continuation R cs w) k
                  ∙ continuation-annihilated R cs w k e;
            };
      }

-- From a monic polynomial.
module _ {K : Type 0} {R : Ring K} {D : Discrete K} where
  open R use {0#, 1#}

  monic-coefficients :
      {g : Polynomial R D} {d : ℕ}
      → Monic g d
      → (i : ℕ)
      → coefficient-list R (terms (coefficient g) d ++ (1# ∷ [])) i ≡ coefficient g i
  monic-coefficients {g} {d} m i = go (dec_lt i d) (dec_lt d i)
    where
      e : length (terms (coefficient g) d) ≡ d
      e = length-terms (coefficient g) d

      go :
          Dec (i < d)
          → Dec (d < i)
          → coefficient-list R (terms (coefficient g) d ++ (1# ∷ [])) i ≡ coefficient g i
      go (yes l) _ =
          get_or-append (terms (coefficient g) d) (1# ∷ []) 0# i (omega (arith, e))
          ∙ get_or-terms (coefficient g) d i 0# l
      go (no _) (yes l) =
          get_or-eq_default
          (terms (coefficient g) d ++ (1# ∷ []))
          0#
          (simp length-append (omega (arith, e)))
          ∙ sym (m.below.above i l)
      go (no h) (no l) =
          let z : i ≡ d = omega arith in
          get_or_at (terms (coefficient g) d) 1# [] 0# i (omega (arith, e))
          ∙ sym (ap (coefficient g) z ∙ m.leading)

  pub monic-from_list-terms :
      {g : Polynomial R D} {d : ℕ} → Monic g d → from_list R D (terms (coefficient g) d ++ (1# ∷ [])) ≡ g
  monic-from_list-terms {g} {d} m =
      polynomial_ext
      (
      λ i.
      ap (λ u. u i) (coefficient-from_list R D (terms (coefficient g) d ++ (1# ∷ []))) ∙ monic-coefficients
      m i
      )

  pub continuation_continues :
      {g : Polynomial R D} {d : ℕ} (w : List K)
      → Monic g d
      → length w ≡ d
      → Continues g w (continuation R (terms (coefficient g) d) w)
  continuation_continues {g} {d} w m e =
      subst
      (λ h. Continues h w (continuation R (terms (coefficient g) d) w))
      (monic-from_list-terms m)
      (list-continuation_continues R D (terms (coefficient g) d) w (e ∙ sym (length-terms (coefficient g) d)))

  pub continues_unique :
      {g : Polynomial R D} {w : List K} {s t : ℕ → K}
      → Monic g (length w)
      → Continues g w s
      → Continues g w t
      → (i : ℕ)
      → s i ≡ t i
  continues_unique m a b =
      kills-equal m a.annihilated b.annihilated (λ i l. a.begins i l ∙ sym (b.begins i l))
