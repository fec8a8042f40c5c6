-- The bits of a word and the table of irreducible polynomials, compared for all the numbers at once.
--
--   ReducingBits k w  == the bits of w say which numbers from 64·k to 64·k + 63 are those of irreducible
--                        polynomials over GF(2): bit i is 1 exactly where 64·k + i is one
--   word-bits         == a word that agrees with the table at each of its bits
--   reducing-bits     == as the eight words do
--
-- Assumes nothing.
use Prim.Native.Nat.{ℕ, zero, suc, ◌+◌, ◌*◌, ◌/◌, ◌%◌, ◌^◌, ◌<◌}
use mathlib.Core.Path.{◌≡◌, refl}
use mathlib.Core.Bool.{Bool, true, false, beq}
use native.Mathlib.Omega.{arith}
use lib.Dec.{T, eqb}
use lib.ListN.{get_or}
use Rattle.meaning.specs.Search.{range, holds_for_all, holds_for_some}
use Rattle.bridge.proofs.Basics.Searches.{all_first}
use Rattle.bridge.proofs.Binary.CatalogueTable.{table}
use Rattle.bridge.proofs.Binary.ReducingPolynomials.{is_reducing}
use Rattle.arith.specs.declared.reducing.TheConstants.{REDUCING}

pub record ReducingBits (k w : ℕ) : Type 0 where
  pub bit : (i : ℕ) → i < 64 → eqb ((w / 2 ^ i) % 2) 1 ≡ is_reducing (64 * k + i)

equal : (a b : Bool) → T (beq a b) → a ≡ b
equal true true h = refl
equal true false h = absurd h
equal false true h = absurd h
equal false false h = refl

module _ (k w : ℕ) where
  abbrev pub same_bit : ℕ → Bool
  same_bit i = beq (eqb ((w / 2 ^ i) % 2) 1) (is_reducing (64 * k + i))

  pub word-bits : T (holds_for_all same_bit (range 0 64)) → ReducingBits k w
  word-bits h = record { bit = λ i l. equal _ _ (all_first same_bit 64 h i l) }

pub reducing-bits : (k : ℕ) → k < 8 → ReducingBits k (get_or REDUCING k 0)
unfolding holds_for_all holds_for_some range is_reducing table
reducing-bits zero l = word-bits 0 _ tt
reducing-bits (suc zero) l = word-bits 1 _ tt
reducing-bits (suc (suc zero)) l = word-bits 2 _ tt
reducing-bits (suc (suc (suc zero))) l = word-bits 3 _ tt
reducing-bits (suc (suc (suc (suc zero)))) l = word-bits 4 _ tt
reducing-bits (suc (suc (suc (suc (suc zero))))) l = word-bits 5 _ tt
reducing-bits (suc (suc (suc (suc (suc (suc zero)))))) l = word-bits 6 _ tt
reducing-bits (suc (suc (suc (suc (suc (suc (suc zero))))))) l = word-bits 7 _ tt
reducing-bits (suc (suc (suc (suc (suc (suc (suc (suc k)))))))) l = absurd (omega arith)
