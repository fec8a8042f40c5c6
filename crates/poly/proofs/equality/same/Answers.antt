-- `equality::same` meets its contract: `==` on slices decides whether the lists are equal, and so does
-- `same`.
-- Assumes nothing.
use mathlib.Core.Bool.{Bool, true, false, ◌&&◌}
use mathlib.Core.List.{List, ◌∷◌}
use mathlib.Core.Path.{◌≡◌, refl}
use Prim.Native.Nat.{ℕ}
use lib.Dec.{eqb}
use Rattle.std.proofs.lemmas.Bool.Decides.{same_from_decides, Decides-eqb}
use Rattle.std.proofs.lemmas.Slice.Eq.{slice_eq-Decides, compares_Decides}
use Rattle.meaning.specs.Polynomial.{same}
use Rattle.poly.proofs.equality.same.Goals as goal

same-heads : (a b : ℕ) (f g : List ℕ) → same (a ∷ f) (b ∷ g) ≡ (eqb a b && same f g)
unfolding same
same-heads a b f g = by_test (eqb a b)
  where
    by_test : (x : Bool) → elim x [ true ↦ same f g | false ↦ false ] ≡ x && same f g
    by_test true = refl
    by_test false = refl

pub returns : goal.returns
unfolding same
returns c =
    same_from_decides _ (same c.args.f.now c.args.g.now)
    (slice_eq-Decides Decides-eqb _ _ _ c.eq.ensures)
    (compares_Decides same
    (record { empty = refl; shorter = λ y ys. refl; longer = λ x xs. refl; heads = same-heads })
    c.args.f.now c.args.g.now)
