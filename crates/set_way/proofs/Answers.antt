-- The answers of the set way, from what was decided and found.
--
--   front-input       == accepted terms are accepted when they are cut to their first D, D the total degree
--   set_powers_front   == the powers are those of the first D terms
--   found-powers, found_nothing == the answer of the set way where the product annihilates, and where not
--   answer-none, answer-some == an answer says whether the product annihilates the terms
--   answer-powers     == and then the eight places are the powers, and zeros after them
--
-- Assumes nothing.
use Prim.Native.Nat.{ℕ, ◌≤◌, min}
use mathlib.Core.Path.{◌≡◌, refl, sym, ap, subst, fun_ext, ◌∙◌}
use mathlib.Core.Bool.{Bool, true, false}
use mathlib.Core.List.{List, [], map}
use mathlib.Core.Option as maybe
use mathlib.Core.Option.{none, some, some-injective}
use native.Mathlib.Nat as ℕ
use native.Mathlib.Omega.{arith}
use lib.ListN.{length, get_or, take}
use lib.Seq.{take-take, length-take-le}
use Rattle.std.specs.Prelude.{Option, Some, None}
use Rattle.meaning.specs.Search.{range, map_option, together, least}
use Rattle.meaning.specs.Field.{Field}
use Rattle.meaning.specs.Polynomial.{Polynomial, product}
use Rattle.meaning.specs.Sequence.{annihilates_known}
use Rattle.meaning.specs.Conditions.{named, total_degree}
use Rattle.meaning.specs.Portion.{with_power, least_at, set_powers}
use Rattle.meaning.specs.Answers.{padded}
use Rattle.bridge.proofs.Basics.Searches.{map_option-none, map_option-some}
use Rattle.bridge.proofs.Basics.Interpretation.{IsField}
use Rattle.bridge.proofs.Lists.Products.{Nonempties, monics-nonempty}
use Rattle.bridge.proofs.Sequences.Continuations.{take-elements}
use Rattle.bridge.proofs.Ways.Portions.{set_powers_exists}
use Rattle.poly.proofs.factors.Totals.{total-known}
use Rattle.set_way.specs.actions.SetActions.{SetInput}
use Rattle.set_way.proofs.actions.Inputs.{input-monics}
use Rattle.set_way.specs.SetWay.{powers_found, told_powers}

-- The first D terms
pub least_at_front :
    (F : Field) (l : List (Polynomial × ℕ)) (ts : List ℕ) (i : ℕ)
    → least_at F l (take (total_degree l) ts) i ≡ least_at F l ts i
unfolding least_at
least_at_front F l ts i =
    ap
    (λ s.
    least (get_or l i ([], 0)).1 (λ r. annihilates_known F (product F (with_power i r l)) s))
    (take-take (total_degree l) (total_degree l) ts (ℕ.le_refl (total_degree l)))

pub set_powers_front :
    (F : Field) (l : List (Polynomial × ℕ)) (ts : List ℕ)
    → set_powers F l (take (total_degree l) ts) ≡ set_powers F l ts
unfolding set_powers
set_powers_front F l ts =
    ap (λ (t : ℕ → maybe.Option ℕ). together (map t (range 0 (length l)))) (fun_ext (least_at_front F l ts))

pub powers_found_some :
    (F : Field) (l : List (Polynomial × ℕ)) (ts : List ℕ)
    → annihilates_known F (product F l) ts ≡ true
    → powers_found F l ts ≡ set_powers F l ts
unfolding powers_found
powers_found_some F l ts h = rw (h, powers_found)

pub powers_found_none :
    (F : Field) (l : List (Polynomial × ℕ)) (ts : List ℕ)
    → annihilates_known F (product F l) ts ≡ false
    → powers_found F l ts ≡ none
unfolding powers_found
powers_found_none F l ts h = rw (h, powers_found)

module _ {F : Field} {fs : List Polynomial} {us ts : List ℕ} (x : SetInput F fs us ts) where
  abbrev front : List ℕ
  front = take (total_degree (named fs us)) ts

  front_length : length front ≡ total_degree (named fs us)
  front_length = length-take-le (total_degree (named fs us)) ts x.enough

  pub front-input : SetInput F fs us (take (total_degree (named fs us)) ts)
  front-input =
      record {
        factors = x.factors;
        short = x.short;
        eight = x.eight;
        uppers = x.uppers;
        enough = ℕ.le_of_eq (sym front_length);
        in_field = take-elements F (total_degree (named fs us)) ts x.in_field;
        not_many = omega (arith, front_length, x.enough, x.not_many);
      }

  -- the total degree as it is computed, and the terms that are lent on
  module _ {d : ℕ} (e : d ≡ min (total_degree (named fs us)) 4097) where
    total : d ≡ total_degree (named fs us)
    total = e ∙ (total-known (named fs us) x.uppers).1

    pub front-end : d ≤ length ts
    front-end = omega (arith, total, x.enough)

    lent-front : take d ts ≡ take (total_degree (named fs us)) ts
    lent-front = ap (λ n. take n ts) total

    pub lent-input : SetInput F fs us (take d ts)
    lent-input = subst (SetInput F fs us) (sym lent-front) front-input

    pub lent_length : length (take d ts) ≡ total_degree (named fs us)
    lent_length = ap length lent-front ∙ front_length

    pub found-powers :
        {powers : List ℕ} {b : Bool}
        → b ≡ annihilates_known F (product F (named fs us)) ts
        → b ≡ true
        → map_option padded (set_powers F (named fs us) (take d ts)) ≡ some powers
        → told_powers (Some powers) ≡ map_option padded (powers_found F (named fs us) ts)
    unfolding told_powers
    found-powers decided h y =
        sym (ap (map_option padded)
        (powers_found_some F (named fs us) ts (sym decided ∙ h)
        ∙ sym (set_powers_front F (named fs us) ts)
        ∙ ap (set_powers F (named fs us)) (sym lent-front))
        ∙ y)

  pub found_nothing :
      {b : Bool}
      → b ≡ annihilates_known F (product F (named fs us)) ts
      → b ≡ false
      → told_powers None ≡ map_option padded (powers_found F (named fs us) ts)
  unfolding told_powers map_option
  found_nothing decided h =
      sym (ap (map_option padded) (powers_found_none F (named fs us) ts (sym decided ∙ h)))

-- What an answer says
some-none : {A : Type 0} {a : A} → ¬ (◌≡◌ {A = maybe.Option A} (some a) none)
some-none {A} {a} e = let z : ◌≡◌ {A = ℕ} 0 1 = cc in omega arith

module _ {F : Field} (I : IsField F) {fs : List Polynomial} {us ts : List ℕ} (r : Option (List ℕ))
    (x : SetInput F fs us ts) (y : told_powers r ≡ map_option padded (powers_found F (named fs us) ts)) where
  nonempties : Nonempties (named fs us)
  nonempties = monics-nonempty F (named fs us) (input-monics x)

  pub answer-none : r ≡ None → annihilates_known F (product F (named fs us)) ts ≡ false
  unfolding told_powers
  answer-none e = go (annihilates_known F (product F (named fs us)) ts) refl
    where
      go : (c : Bool) → annihilates_known F (product F (named fs us)) ts ≡ c → c ≡ false
      go false h = refl
      go true h =
          absurd (some-none
          (sym (map_option-some padded (set_powers_exists I (named fs us) nonempties ts).1)
          ∙ ap (map_option padded) (sym (powers_found_some F (named fs us) ts h))
          ∙ sym y
          ∙ ap told_powers e))

  pub answer-some : {powers : List ℕ} → r ≡ Some powers
      → annihilates_known F (product F (named fs us)) ts ≡ true
  unfolding told_powers
  answer-some {powers} e = go (annihilates_known F (product F (named fs us)) ts) refl
    where
      go : (c : Bool) → annihilates_known F (product F (named fs us)) ts ≡ c → c ≡ true
      go true h = refl
      go false h =
          absurd (some-none
          (sym (ap told_powers e)
          ∙ y
          ∙ ap (map_option padded) (powers_found_none F (named fs us) ts h)
          ∙ map_option-none padded))

  pub answer-powers :
      {powers rs : List ℕ}
      → r ≡ Some powers
      → set_powers F (named fs us) ts ≡ some rs
      → powers ≡ padded rs
  unfolding told_powers
  answer-powers {powers} {rs} e h =
      some-injective powers (padded rs)
      (sym (ap told_powers e)
      ∙ y
      ∙ ap (map_option padded) (powers_found_some F (named fs us) ts (answer-some e))
      ∙ map_option-some padded h)
