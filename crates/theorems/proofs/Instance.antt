-- The statement `cut_anywhere` is not empty: over GF(2) with the factor x + 1 and the upper power 3 the
-- sequence 1, 0, 1, 0, … meets its hypotheses, the contracts of all three ways are met on stretches of it,
-- and the polynomial is x² + 1, which is neither the factor nor its upper power. What is computed of it
-- stands in proofs/Stretches.antt of crate meaning.
--
--   two        == the name of GF(2)
--   instance   == the theorem for this sequence; `polynomial`: its polynomial
--   short-instance, short-polynomial == the same with the upper power 2
--   alternating-set, -period, -free == the contracts, met on a stretch or a period
--   degree_in  == the degree that a call of the set way tells
-- Assumes nothing.
use Prim.Native.Nat.{ℕ, suc}
use mathlib.Core.Path.{◌≡◌, sym, ◌∙◌, ap}
use mathlib.Core.List.{[], ◌∷◌}
use lib.ListN.{take}
use lib.Dec.{lit≤}
use Rattle.meaning.specs.Answers.{told}
use Rattle.meaning.specs.declared.FieldName.{FieldName}
use Rattle.meaning.specs.Polynomial.{degree}
use Rattle.meaning.specs.Conditions.{named, total_degree}
use Rattle.meaning.specs.FieldNames.{named_field}
use Rattle.meaning.specs.Answers.{SetTold, told_set}
use Rattle.meaning.specs.Result.{Result, answered, refused}
use Rattle.meaning.proofs.Stretches.{answer, work, lent, after-x²+1, factors, accepted-2}
use Rattle.meaning.proofs.Stretches.{accepted-3, plain, alternating, alternating-in_field, alternating-short}
use Rattle.meaning.proofs.Stretches.{alternating-annihilated-2, alternating-annihilated-3}
use Rattle.theorems.specs.CutAnywhere.{CutAnywhere}
use Rattle.theorems.proofs.CutAnywhere.{cut_anywhere}
pub use Rattle.meaning.proofs.Stretches.{alternating-set, alternating-period, alternating-free}

unfoldable pub degree_in : Result SetTold → ℕ
degree_in (refused n) = 9
degree_in (answered a) = a.degree

-- the name of GF(2)
abbrev pub two : FieldName
two = FieldName.Prime 2

pub instance : CutAnywhere two factors (3 ∷ []) alternating
unfolding named_field
instance =
    cut_anywhere two factors (3 ∷ []) alternating accepted-3 plain alternating-in_field
    alternating-annihilated-3

-- so the polynomial of the theorem is the one in the answer bytes
pub polynomial : instance.g ≡ 1 ∷ 0 ∷ 1 ∷ []
unfolding total_degree named degree told_set degree_in told
polynomial =
    let x = instance.set-way 1 3 (lit≤ tt) (lit≤ tt) answer work lent _ _ _ alternating-set in
    sym (ap (λ (n : ℕ). take (suc n) after-x²+1) (ap degree_in x.1) ∙ x.2.coefficients)

-- With the upper power 2
pub short-instance : CutAnywhere two factors (2 ∷ []) alternating
unfolding named_field
short-instance =
    cut_anywhere two factors (2 ∷ []) alternating accepted-2 plain alternating-in_field
    alternating-annihilated-2

pub short-polynomial : short-instance.g ≡ 1 ∷ 0 ∷ 1 ∷ []
unfolding total_degree named degree told_set degree_in told
short-polynomial =
    let x = short-instance.set-way 0 2 (lit≤ tt) (lit≤ tt) answer work lent _ _ _ alternating-short in
    sym (ap (λ (n : ℕ). take (suc n) after-x²+1) (ap degree_in x.1) ∙ x.2.coefficients)
