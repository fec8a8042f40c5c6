-- What the contracts of sums of products in fields of 2^n elements cite.
--
--   plane_of bit c s k    == the exclusive or of the terms of s from k on at the places where c has the bit
--   Collecting bit c s i x == x and that from place i on make the whole: what a loop over i keeps
use Rattle.std.specs.Prelude.{ℕ, suc, ◌≡◌, List, [], ◌∷◌, drop}
use Rattle.std.specs.Int.Bits.{bit_and, bit_xor}
use Rattle.meaning.specs.Sequence.{Sequence, known}
use Rattle.bridge.proofs.Binary.BinaryNumbers.{picked}

unfoldable pub plane_of : ℕ → List ℕ → Sequence → ℕ → ℕ
plane_of bit [] s k = 0
plane_of bit (c ∷ g) s k = bit_xor (picked (bit_and c bit) (s k)) (plane_of bit g s (suc k))

abbrev pub Collecting : ℕ → List ℕ → List ℕ → ℕ → ℕ → Type 0
Collecting bit c s i x = bit_xor x (plane_of bit (drop i c) (known s) i) ≡ plane_of bit c (known s) 0
