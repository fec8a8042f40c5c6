-- The coefficients of the polynomial of a number, one after another.
--
--   Unpacking n w rest i == the first i bytes of w, and after them the polynomial of the rest, are that of n
--   unpacking_none, unpacking_more, unpacking_done == before the first, one more, and all
-- Assumes nothing.
use Prim.Native.Nat.{ℕ, suc, ◌+◌, ◌-◌, ◌/◌, ◌%◌, ◌≤◌, ◌<◌}
use mathlib.Core.Path.{◌≡◌, refl, sym, ap, ◌∙◌}
use mathlib.Core.Logic.{◌⊎◌, inl, inr, ◌≢◌}
use mathlib.Core.List.{List, [], ◌∷◌, ◌++◌, append_assoc, append-nil}
use native.Mathlib.Numerals.{add-one}
use native.Mathlib.Omega.{arith}
use lib.ListN.{length, take, set, length-set}
use lib.Seq.{take-suc-set}
use Rattle.meaning.specs.Catalogue.{bits_up_to, entry_polynomial}
use Rattle.bridge.proofs.Binary.Catalogue.{bits-zero, bits-suc}
use Rattle.find_entry.specs.Search.{Unpacked}

pub record Unpacking (n : ℕ) (w : List ℕ) (rest i : ℕ) : Type 0 where
  pub few : i ≤ 11
  pub size : length w ≡ 11
  pub joined : take i w ++ bits_up_to (11 - i) rest ≡ entry_polynomial n

pub unpacking_none : (n : ℕ) {w : List ℕ} → length w ≡ 11 → Unpacking n w n 0
unfolding entry_polynomial
unpacking_none n e = record { few = omega arith; size = e; joined = refl }

module _ {n : ℕ} {w : List ℕ} {rest i : ℕ} (x : Unpacking n w rest i) where
  pub unpacking_more : i < 11 → rest ≢ 0 → Unpacking n (set w i (rest % 2)) (rest / 2) (i + 1)
  unpacking_more l z =
      record {
        few = omega arith;
        size = length-set w i (rest % 2) ∙ x.size;
        joined =
            ap (λ k. take k (set w i (rest % 2)) ++ bits_up_to (11 - k) (rest / 2)) (add-one i)
            ∙ ap (λ t. t ++ bits_up_to (11 - suc i) (rest / 2))
            (take-suc-set w i (rest % 2) (omega (arith, x.size)))
            ∙ append_assoc (take i w) (rest % 2 ∷ []) (bits_up_to (11 - suc i) (rest / 2))
            ∙ ap (λ t. take i w ++ t) (sym (bits-suc (11 - suc i) rest z))
            ∙ ap (λ k. take i w ++ bits_up_to k rest) left
            ∙ x.joined;
      }
    where
      left : suc (11 - suc i) ≡ 11 - i
      left = omega arith

  pub unpacking_done : (rest ≡ 0) ⊎ (11 ≤ i) → Unpacked n w i
  unfolding bits_up_to
  unpacking_done d =
      record {
        few = x.few;
        size = x.size;
        front = sym (append-nil (take i w)) ∙ ap (λ t. take i w ++ t) (sym (ends d)) ∙ x.joined;
      }
    where
      ends : (rest ≡ 0) ⊎ (11 ≤ i) → bits_up_to (11 - i) rest ≡ []
      ends (inl z) = ap (bits_up_to (11 - i)) z ∙ bits-zero (11 - i)
      ends (inr l) = ap (λ k. bits_up_to k rest) (none l)
        where
          none : 11 ≤ i → 11 - i ≡ 0
          none l = omega arith
