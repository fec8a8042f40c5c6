-- Searches over numbers and lists, from which the definitions of paper 01 are made.
--
--   range a n        == a, a + 1, …, a + n − 1; empty for n = 0
--   holds_for_all t l  == the test t passes on every element of l; true on the empty list
--   holds_for_some t l == the test t passes on some element of l; false on the empty list
--   first_that t l    == the first element of l that passes the test t, or none
--   selected t l     == the elements of l that pass the test t, in their order
--   map_option f o    == f of the value of o, or none where o has none
--   is_none o         == o has no value
--   least b t        == the least number r from 0 to b that passes t, or none; never a bound in place of an
--                       answer
--   bind o g         == g of the value of o, or none where o has none
--   together l       == all the values of a list of answers, or none where one of them is missing
use Rattle.std.specs.Prelude.{ℕ, zero, suc, Bool, true, false, List, [], ◌∷◌}
use Rattle.std.proofs.Math.Option.{Option, none, some}

unfoldable pub range : ℕ → ℕ → List ℕ
range a zero = []
range a (suc n) = a ∷ range (suc a) n

unfoldable pub holds_for_all : {A : Type 0} → (A → Bool) → List A → Bool
holds_for_all t [] = true
holds_for_all t (a ∷ l) = elim (t a) [ true ↦ holds_for_all t l | false ↦ false ]

unfoldable pub holds_for_some : {A : Type 0} → (A → Bool) → List A → Bool
holds_for_some t [] = false
holds_for_some t (a ∷ l) = elim (t a) [ true ↦ true | false ↦ holds_for_some t l ]

unfoldable pub first_that : {A : Type 0} → (A → Bool) → List A → Option A
first_that t [] = none
first_that t (a ∷ l) = elim (t a) [ true ↦ some a | false ↦ first_that t l ]

unfoldable pub selected : {A : Type 0} → (A → Bool) → List A → List A
selected t [] = []
selected t (a ∷ l) = elim (t a) [ true ↦ a ∷ selected t l | false ↦ selected t l ]

unfoldable pub map_option : {A B : Type 0} → (A → B) → Option A → Option B
map_option f none = none
map_option f (some a) = some (f a)

unfoldable pub bind : {A B : Type 0} → Option A → (A → Option B) → Option B
bind none g = none
bind (some a) g = g a

unfoldable pub is_none : {A : Type 0} → Option A → Bool
is_none none = true
is_none (some a) = false

unfoldable pub least : ℕ → (ℕ → Bool) → Option ℕ
least zero t = elim (t zero) [ true ↦ some zero | false ↦ none ]
least (suc b) t = elim (t zero) [ true ↦ some zero | false ↦ map_option suc (least b (λ r. t (suc r))) ]

unfoldable pub together : {A : Type 0} → List (Option A) → Option (List A)
together [] = some []
together (o ∷ l) = elim o [ none ↦ none | some a ↦ map_option (λ rest. a ∷ rest) (together l) ]
