-- An action within lent bytes, where they have room for the period and its values.
--
--   room_block        == where there is room, there is a block
--   act-kept, act-acted == what a leaf leaves: something is not as it asks, and all is
--
-- Assumes nothing.
use Prim.Native.Nat.{ℕ, ◌+◌}
use native.Mathlib.Omega.{arith}
use mathlib.Core.Path.{◌≡◌, refl, sym, subst, ◌∙◌}
use mathlib.Core.Bool.{Bool, true, false, ◌&&◌}
use mathlib.Core.List.{List}
use lib.Dec.{T, leb, leb→le}
use lib.ListN.{length}
use Rattle.meaning.specs.Field.{Field}
use Rattle.meaning.specs.Polynomial.{Polynomial}
use Rattle.bridge.proofs.Basics.Searches.{T_and, false-T, true-T}
use Rattle.lent.specs.blocks.Blocks.{Block, BlockActed}
use Rattle.leaves.specs.binary.Acted.{has_room, Acted}

module _ (w : List ℕ) (n : ℕ) {b : Bool} (e : b ≡ has_room n (length w)) (h : b ≡ true) where
  first : T (leb 1 n) × T (leb n 256 && leb (n + n) (length w))
  unfolding has_room
  first = T_and (leb 1 n) _ (subst T (sym h ∙ e) tt)

  second : T (leb n 256) × T (leb (n + n) (length w))
  second = T_and (leb n 256) (leb (n + n) (length w)) first.1

  pub room_block : Block w 0 n 0 n n
  room_block =
      let s = leb→le 1 n first.0 in
      let l = leb→le n 256 second.0 in
      let m = leb→le (n + n) (length w) second.1 in
      record { period = omega arith; place = s; few = omega arith; small = l; room = m }

module _ {b : Bool} {F : Field} {w : List ℕ} {n : ℕ} {f : Polynomial} {q : ℕ} where
  pub act-kept : b ≡ false → Acted b F w n f q w false
  act-kept h = record { acted = λ t. absurd (false-T h t); kept = λ _. (refl, refl) }

  pub act-acted : {G : Field} {w' : List ℕ} {r : Bool} → b ≡ true → G ≡ F → BlockActed G w 0 n 0 f q n n w' r
      → Acted b F w n f q w' r
  act-acted {w' = w'} {r = r} h e a =
      record {
        acted = λ t. subst (λ H. BlockActed H w 0 n 0 f q n n w' r) e a;
        kept = λ k. absurd (false-T k (true-T h));
      }
