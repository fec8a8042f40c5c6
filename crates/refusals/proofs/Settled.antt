-- What a verdict settles: the result of a call whose table it has tried, but for the last condition where
-- the call meets 17.
--
--   verdict_passes   == an accepted call meets no condition of the table
--   settle-…         == the result of the call: for a whole table, for one of which what is given is refused,
--                       and for one whose last condition is open
--   period-last, set_last == the tables of the two ways with factors end with 17
-- Assumes nothing.
use Prim.Native.Nat.{ℕ}
use mathlib.Core.Path.{◌≡◌, refl, sym, ap, ◌∙◌}
use mathlib.Core.Bool.{true, false, not}
use mathlib.Core.List.{List, [], ◌∷◌, ◌++◌}
use mathlib.Core.Option.{Option}
use Rattle.meaning.specs.declared.Refusal.{Refusal}
use Rattle.meaning.specs.Search.{is_none}
use Rattle.meaning.specs.Field.{Field}
use Rattle.meaning.specs.Polynomial.{Polynomial, product}
use Rattle.meaning.specs.Sequence.{annihilates_known}
use Rattle.meaning.specs.Conditions.{named}
use Rattle.meaning.specs.Result.{refused, Check, first_of, settle, value_of}
use Rattle.meaning.specs.Period.{period_table, period_power}
use Rattle.meaning.specs.Portion.{set_table}
use Rattle.meaning.specs.Answers.{number_of}
use Rattle.meaning.proofs.Tables.{settle-none}
use Rattle.meaning.proofs.Passes.{Passes, first_of_passes}
use Rattle.std.specs.Prelude.{Ok, Err}
use Rattle.meaning.specs.Answers.{Reply}
use Rattle.refusals.specs.Verdicts.{number_in, all_but_last, period_checks, set_checks}
use Rattle.refusals.proofs.Order.{refused_before, accepted-before, first_here, first_skip}
use Rattle.refusals.proofs.Order.{first-nowhere}

settle-some : {A : Type 0} (table : List Check) (v : Unit {0} → Option A) (r : Refusal)
    → number_in (Err r) ≡ first_of table
    → settle table v ≡ refused (number_of r)
unfolding settle number_in
settle-some table v r e = rw (sym e, settle)

-- what an accepted call has passed: no condition of the table holds
pub verdict_passes : (table : List Check) {r : Reply (Unit {0})} → number_in r ≡ first_of table → r ≡ Ok tt
    → Passes table
unfolding number_in
verdict_passes table e q = first_of_passes table (sym e ∙ ap number_in q)

-- a whole table
module _ {A : Type 0} (table : List Check) (v : Unit {0} → Option A) {r : Reply (Unit {0})}
    (e : number_in r ≡ first_of table) where
  pub settle_refused : {x : Refusal} → r ≡ Err x → settle table v ≡ refused (number_of x)
  settle_refused {x} q = settle-some table v x (sym (ap number_in q) ∙ e)

  pub settle-accepted : r ≡ Ok tt → settle table v ≡ value_of (v tt)
  unfolding number_in
  settle-accepted q = settle-none table v (sym e ∙ ap number_in q)

-- a table that begins with A, by the verdict on A
pub settle-given : {A : Type 0} (first rest : List Check) (v : Unit {0} → Option A)
    {r : Reply (Unit {0})} {x : Refusal}
    → number_in r ≡ first_of first
    → r ≡ Err x
    → settle (first ++ rest) v ≡ refused (number_of x)
settle-given first rest v {x = x} e q = settle-some _ v x (refused_before first rest e q)

-- all of a table but its last condition c
module _ {A : Type 0} (table : List Check) (c : Check) (v : Unit {0} → Option A) {r : Reply (Unit {0})}
    (e : number_in r ≡ first_of table) where
  pub settle-early : {x : Refusal} → r ≡ Err x
      → settle (table ++ (c ∷ [])) v ≡ refused (number_of x)
  settle-early {x} q = settle-some _ v x (refused_before table (c ∷ []) e q)

  pub settle-last : r ≡ Ok tt → c.1 tt ≡ true → settle (table ++ (c ∷ [])) v ≡ refused c.0
  unfolding settle
  settle-last q h = rw (accepted-before table (c ∷ []) e q ∙ sym (first_here c [] refl h), settle)

  pub settle_over : r ≡ Ok tt → c.1 tt ≡ false
      → settle (table ++ (c ∷ [])) v ≡ value_of (v tt)
  settle_over q h =
      settle-none _ v (accepted-before table (c ∷ []) e q ∙ first_skip c [] refl h ∙ sym first-nowhere)

module _ (F : Field) (ts : List ℕ) (answer work : ℕ) where
  pub period-last : (g : Polynomial)
      → period_table F false false g ts answer work
      ≡ period_checks F g ts answer work ++ ((17, λ _. is_none (period_power F g ts)) ∷ [])
  unfolding period_table period_checks all_but_last
  period-last g = refl

  pub set_last : (gs : List Polynomial) (us : List ℕ)
      → set_table F false false (named gs us) ts answer work
      ≡ set_checks F gs us ts answer work
      ++ ((17, λ _. not (annihilates_known F (product F (named gs us)) ts)) ∷ [])
  unfolding set_table set_checks all_but_last
  set_last gs us = refl
