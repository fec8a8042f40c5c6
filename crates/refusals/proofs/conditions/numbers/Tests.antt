-- The tests of crate meaning by conjunctions and disjunctions.
-- Assumes nothing.
use Prim.Native.Nat.{ℕ, ◌^◌, ◌/◌}
use mathlib.Core.Path.{◌≡◌, refl}
use mathlib.Core.Bool.{Bool, true, false, ◌&&◌, ◌||◌}
use mathlib.Core.List.{List, ◌∷◌}
use lib.Dec.{ltb, eqb}
use Rattle.meaning.specs.Search.{holds_for_all}
use Rattle.meaning.specs.Field.{Field}
use Rattle.meaning.specs.Conditions.{degree_out_of_range}

pub either : (a b : Bool) → elim a [ true ↦ true | false ↦ b ] ≡ a || b
either true b = refl
either false b = refl

pub both : (a b : Bool) → elim a [ true ↦ b | false ↦ false ] ≡ a && b
both true b = refl
both false b = refl

pub degree-tests : (F : Field) (d : ℕ)
    → degree_out_of_range F d ≡ (eqb d 0 || ltb 32 d) || ltb 65536 (F.size ^ (d / 2))
unfolding degree_out_of_range
degree-tests F d = either (eqb d 0 || ltb 32 d) (ltb 65536 (F.size ^ (d / 2)))

pub all_cons : {A : Type 0} (t : A → Bool) (a : A) (l : List A)
    → holds_for_all t (a ∷ l) ≡ t a && holds_for_all t l
unfolding holds_for_all
all_cons t a l = both (t a) (holds_for_all t l)
