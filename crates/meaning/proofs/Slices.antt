-- Laws of the lists in a slice of slices.
--
--   nowhere          == what a place past the end of a slice of slices reads as: the empty list
-- Assumes nothing.
use Prim.Native.Nat.{ℕ}
use mathlib.Core.Path.{◌≡◌}
use mathlib.Core.List.{List, []}
use lib.ListN.{length, get_or, length-map, get_or-map}
use denote.Ref.{Bor}
use Rattle.meaning.specs.Slices.{lists_of}

abbrev pub nowhere : Bor (List ℕ)
nowhere = record { ref_ptr = (0, 0); now = [] }

pub lists_length : (fs : List (Bor (List ℕ))) → length (lists_of fs) ≡ length fs
unfolding lists_of
lists_length fs = length-map fs (λ x. x.now)

pub lists_at : (fs : List (Bor (List ℕ))) (i : ℕ) → get_or (lists_of fs) i [] ≡ (get_or fs i nowhere).now
unfolding lists_of
lists_at fs i = get_or-map (λ x. x.now) fs i nowhere
