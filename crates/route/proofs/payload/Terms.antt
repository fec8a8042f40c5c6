-- Laws of the terms of a file: those of one record, and then those of the others.
--
--   holds_terms k      == a record of kind k holds terms
-- Assumes nothing.
use Prim.Native.Nat.{ℕ, ◌+◌, ◌≤◌}
use mathlib.Core.Path.{◌≡◌, ap, ◌∙◌}
use mathlib.Core.Bool.{Bool, true, false, ◌||◌}
use mathlib.Core.List.{List, [], ◌∷◌}
use native.Mathlib.Omega.{arith}
use borrow.Author.Tests.{eq-eqb, ne_eqb}
use lib.Dec.{eqb}
use lib.ListN.{length, length-append}
use lib.Seq.{sets}
use Rattle.meaning.specs.Route.{RouteRecord}
use Rattle.meaning.specs.File.{terms_of}
use Rattle.route.specs.framing.Iterating.{size_of}
use Rattle.route.specs.payload.Payload.{HoldsTerms}
use Rattle.route.proofs.payload.Stores.{sets_append}

abbrev pub holds_terms : ℕ → Bool
holds_terms k = eqb k 5 || eqb k 6

-- the first of the two kinds, or else the second alone
pub held_first : (k : ℕ) → k ≡ 5 → holds_terms k ≡ true
held_first k e = rw (eq-eqb k 5 e)

pub held_second : (k : ℕ) → (k ≡ 5 → ⊥) → holds_terms k ≡ eqb k 6
held_second k n = rw (ne_eqb k 5 n)

module _ (r : RouteRecord) where
  pub terms_held : holds_terms r.kind ≡ true → HoldsTerms r r.body
  unfolding terms_of
  terms_held e = record { terms = λ rs. rw (e, terms_of); short = omega arith }

  pub terms_none : holds_terms r.kind ≡ false → HoldsTerms r []
  unfolding terms_of
  terms_none e = record { terms = λ rs. rw (e, terms_of); short = omega arith }

-- the terms of a record, stored, and then those of the others
module _ {r : RouteRecord} {ts : List ℕ} (t : HoldsTerms r ts) (rs : List RouteRecord) where
  pub count_split : length (terms_of (r ∷ rs)) ≡ length ts + length (terms_of rs)
  count_split = ap length (t.terms rs) ∙ length-append ts _

  pub stores_split : (to : List ℕ) (count : ℕ)
      → sets to count (terms_of (r ∷ rs)) ≡ sets (sets to count ts) (count + length ts) (terms_of rs)
  stores_split to count = rw (t.terms rs) (sets_append to ts _ count)

  pub size_split : length ts + size_of rs ≤ size_of (r ∷ rs)
  size_split = omega (arith, t.short)
