-- The largest number of a list, and tests of all its numbers by it.
-- Assumes nothing.
use Prim.Native.Nat.{ℕ, zero, suc, max, ◌≤◌}
use native.Mathlib.Nat.{max-zero, max-eq_left, max-eq_right, le-max_left, le-max_right, max-le, le_trans}
use native.Mathlib.Nat.{le_antisymm}
use native.Mathlib.Decide.{dec_le}
use native.Mathlib.Omega.{arith}
use mathlib.Core.Path.{◌≡◌, refl, sym, ap, ◌∙◌}
use mathlib.Core.Bool.{Bool, true, false, not, ◌&&◌, and-true, and-false, and_comm}
use mathlib.Core.List.{List, [], ◌∷◌}
use lib.Dec.{leb, ltb, eqb, eqb-suc-zero}
use lib.ListN.{length}
use borrow.Author.Tests.{lt-ltb, le-ltb, le-leb, lt-leb, ltb-true, eq-eqb, eqb-true}
use Rattle.std.specs.Prelude.{Option, Some, None, fold, unwrap_or, option_map}
use Rattle.std.specs.List.{reduce}
use Rattle.meaning.specs.Search.{holds_for_all}
use Rattle.meaning.specs.Field.{Field, is_element, are_elements}
use Rattle.meaning.specs.Conditions.{term_out_of_field}
use Rattle.refusals.specs.conditions.lists.Lists.{largest}
use Rattle.refusals.proofs.conditions.numbers.Tests.{all_cons}

max_assoc : (a b c : ℕ) → max (max a b) c ≡ max a (max b c)
max_assoc a b c =
    le_antisymm
    (max-le (max-le (le-max_left a _) (le_trans (le-max_left b c) (le-max_right a _)))
    (le_trans (le-max_right b c) (le-max_right a _)))
    (max-le (le_trans (le-max_left a b) (le-max_left _ c))
    (max-le (le_trans (le-max_right a b) (le-max_left _ c)) (le-max_right (max a b) c)))

largest_fold : (a : ℕ) (l : List ℕ) → fold max a l ≡ max a (largest l)
unfolding largest
largest_fold a [] = sym (max-zero a)
largest_fold a (c ∷ l) = largest_fold (max a c) l ∙ max_assoc a c (largest l)

-- The library's word for the largest number of a list.
pub largest_is : (r : Option ℕ) (l : List ℕ) → option_map (λ x. x) r ≡ reduce max l
    → unwrap_or r 0 ≡ largest l
unfolding largest
largest_is r l e = ap (λ o. unwrap_or o 0) (same r ∙ e) ∙ reduced l
  where
    same : (o : Option ℕ) → o ≡ option_map (λ x. x) o
    same None = refl
    same (Some x) = refl

    reduced : (k : List ℕ) → unwrap_or (reduce max k) 0 ≡ largest k
    reduced [] = refl
    reduced (a ∷ k) = largest_fold a k

-- A test that passes on all numbers below one on which it passes.
abbrev Downward : (ℕ → Bool) → Type 0
Downward t = (a b : ℕ) → a ≤ b → t b ≡ true → t a ≡ true

absorbed : (x y : Bool) → (y ≡ true → x ≡ true) → y ≡ x && y
absorbed x true h = rw (h refl)
absorbed x false h = sym (and-false x)

down_max : (t : ℕ → Bool) → Downward t → (a b : ℕ) → t (max a b) ≡ t a && t b
down_max t down a b =
    elim (dec_le a b) [
      | yes h ↦ rw (max-eq_right h) (absorbed (t a) (t b) (down a b h))
      | no h ↦ rw (max-eq_left (le h)) (absorbed (t b) (t a) (down b a (le h)) ∙ and_comm (t b) (t a))
    ]
  where
    le : (a ≤ b → ⊥) → b ≤ a
    le h = omega arith

all-largest : (t : ℕ → Bool) → Downward t → (a : ℕ) (l : List ℕ)
    → holds_for_all t (a ∷ l) ≡ t (largest (a ∷ l))
unfolding holds_for_all largest
all-largest t down a [] = all_cons t a [] ∙ rw (and-true, max-zero)
all-largest t down a (b ∷ l) =
    all_cons t a (b ∷ l)
    ∙ ap (λ (x : Bool). t a && x) (all-largest t down b l)
    ∙ sym (down_max t down a (largest (b ∷ l)))

below_down : (s : ℕ) → Downward (λ a. ltb a s)
below_down s a b l h = lt-ltb a s (omega (arith, ltb-true b s h))

zero_down : Downward (λ a. eqb a 0)
zero_down a b l h = eq-eqb a 0 (omega (arith, eqb-true b 0 h))

positive : (a : ℕ) → ltb 0 a ≡ not (eqb a 0)
positive zero = refl
positive (suc a) = lt-ltb 0 (suc a) (omega arith) ∙ ap not (sym (eqb-suc-zero a))

not-below : (a b : ℕ) → leb b a ≡ not (ltb a b)
not-below a b =
    elim (dec_le b a) [
      | yes h ↦ le-leb b a h ∙ ap not (sym (le-ltb a b h))
      | no h ↦ lt-leb b a (omega arith) ∙ ap not (sym (lt-ltb a b (omega arith)))
    ]

pub terms-largest : (F : Field) (ts : List ℕ) → (length ts ≡ 0 → ⊥)
    → leb F.size (largest ts) ≡ term_out_of_field F ts
unfolding term_out_of_field are_elements is_element
terms-largest F [] h = absurd (h refl)
terms-largest F (a ∷ l) h =
    not-below (largest (a ∷ l)) F.size
    ∙ ap not (sym (all-largest (is_element F) (below_down F.size) a l))

pub zeros-largest : (l : List ℕ) → ltb 0 (largest l) ≡ not (holds_for_all (λ c. eqb c 0) l)
unfolding holds_for_all largest
zeros-largest [] = refl
zeros-largest (a ∷ l) = positive (largest (a ∷ l)) ∙ ap not (sym (all-largest (λ c. eqb c 0) zero_down a l))
