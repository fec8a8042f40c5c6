-- The first condition of a table that holds: one condition after another, and one verdict after another.
--
--   Passed k table   == the first k conditions do not decide: the others do
-- Assumes nothing.
use Prim.Native.Nat.{ℕ}
use mathlib.Core.Path.{◌≡◌, refl, sym, ap, ◌∙◌}
use mathlib.Core.Bool.{Bool, true, false}
use mathlib.Core.List.{List, [], ◌∷◌, ◌++◌}
use mathlib.Core.Option.{Option, none, some}
use lib.ListN.{drop}
use Rattle.meaning.specs.declared.Refusal.{Refusal}
use Rattle.meaning.specs.Result.{Check, first_of}
use Rattle.meaning.proofs.Tables.{first_of_skip, first_of_stop}
use Rattle.meaning.proofs.Passes.{nothing}
use Rattle.std.specs.Prelude.{Ok, Err}
use Rattle.meaning.specs.Answers.{Reply}
use Rattle.refusals.specs.Verdicts.{number_in}

abbrev pub Passed : ℕ → List Check → Type 0
Passed k table = first_of table ≡ first_of (drop k table)

pub first-nowhere : none ≡ first_of []
first-nowhere = sym nothing.none_holds

-- A test b of the next condition: it holds, or the rest decides.
module _ (c : Check) (table : List Check) {b : Bool} (e : b ≡ c.1 tt) where
  pub first_here : b ≡ true → some c.0 ≡ first_of (c ∷ table)
  first_here h = sym (first_of_stop c table (sym e ∙ h))

  pub first_skip : b ≡ false → first_of (c ∷ table) ≡ first_of table
  first_skip h = first_of_skip c table (sym e ∙ h)

-- Tables one after the other: the first decides, or else the second.
abbrev otherwise : Option ℕ → Option ℕ → Option ℕ
otherwise none y = y
otherwise (some n) y = some n

first-append : (A B : List Check) → first_of (A ++ B) ≡ otherwise (first_of A) (first_of B)
first-append [] B = rw nothing.none_holds
first-append (c ∷ A) B = go (first-append A B) (c.1 tt) refl
  where
    go :
        first_of (A ++ B) ≡ otherwise (first_of A) (first_of B)
        → (b : Bool)
        → c.1 tt ≡ b
        → first_of (c ∷ (A ++ B)) ≡ otherwise (first_of (c ∷ A)) (first_of B)
    go rest true e = rw (first_of_stop c (A ++ B) e, first_of_stop c A e)
    go rest false e = rw (first_of_skip c (A ++ B) e, first_of_skip c A e) rest

-- A verdict v by the table A, before a table B.
told-before : (A B : List Check) (v : Reply (Unit {0})) → number_in v ≡ first_of A
    → first_of (A ++ B) ≡ otherwise (number_in v) (first_of B)
told-before A B v e = first-append A B ∙ ap (λ (x : Option ℕ). otherwise x (first_of B)) (sym e)

module _ (A B : List Check) {v : Reply (Unit {0})} (e : number_in v ≡ first_of A) where
  pub refused_before : {r : Refusal} → v ≡ Err r → number_in (Err r) ≡ first_of
      (A ++ B)
  unfolding number_in
  refused_before q =
      sym (told-before A B v e ∙ ap (λ (x : Reply (Unit {0})). otherwise (number_in x) (first_of B)) q)

  pub accepted-before : v ≡ Ok tt → first_of (A ++ B) ≡ first_of B
  unfolding number_in
  accepted-before q = told-before A B v e
      ∙ ap (λ (x : Reply (Unit {0})). otherwise (number_in x) (first_of B)) q

-- Two verdicts, u by the table A and v by the table B, before a table C.
module _ (A B C : List Check) {u v : Reply (Unit {0})} (eu : number_in u ≡ first_of A)
    (ev : number_in v ≡ first_of B)
    (first : u ≡ Ok tt) where
  pub refused_second : {r : Refusal} → v ≡ Err r
      → number_in (Err r) ≡ first_of (A ++ (B ++ C))
  refused_second q = refused_before B C ev q ∙ sym (accepted-before A (B ++ C) eu first)
