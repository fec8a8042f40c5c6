-- The call: what the verdict refuses, and what it answers where the verdict accepts.
--
--   entry_checks      == the refusals of the search without 19, which are those of the free way over GF(2)
--   entry_refused    == the call that the verdict refuses
--   work-enough, searched-period == what the search asks
--   entry_call       == the call with what the search finds
-- Assumes nothing.
use Prim.Native.Nat.{ℕ, ◌≤◌}
use mathlib.Core.Path.{◌≡◌, refl, sym, ap, ◌∙◌}
use mathlib.Core.Bool.{Bool, false}
use mathlib.Core.List.{List, ◌++◌}
use mathlib.Core.Option as maybe
use mathlib.Core.Option.{none, some}
use lib.ListN.{length, drop, replicate}
use lib.Dec.{T}
use Rattle.std.specs.Prelude.{Option, Some, None, Ok, Err, ok_or}
use Rattle.meaning.specs.declared.FieldName.{FieldName}
use Rattle.meaning.specs.declared.EntryRating.{EntryRating}
use Rattle.meaning.specs.declared.Refusal.{Refusal}
use Rattle.meaning.specs.Search.{holds_for_some, is_none}
use Rattle.meaning.specs.Field.{prime, are_elements}
use Rattle.meaning.specs.Result.{Result, refused, answered, Check, first_of, value_of, clearing, clears}
use Rattle.meaning.specs.Result.{cleared, work_after}
use Rattle.meaning.specs.Free.{free_table}
use Rattle.meaning.specs.Catalogue.{EntryFigures, first_entry, entry_table, find_entry}
use Rattle.meaning.specs.Answers.{number_of, Reply, told, told_entry}
use Rattle.meaning.specs.Calls.{EntryCall}
use Rattle.meaning.proofs.Passes.{Passes}
use Rattle.bridge.proofs.Ways.Accepted.{count-accepted, terms-accepted, lent-enough}
use Rattle.arith.specs.Represented.{field_of, FieldNamed}
use Rattle.arith.specs.declared.field.GaloisField.{GaloisField}
use Rattle.refusals.specs.Verdicts.{number_in}
use Rattle.refusals.proofs.Settled.{verdict_passes, settle-early, settle-last, settle_over}
use Rattle.refusals.proofs.Lent.{never-clears}
use Rattle.find_entry.specs.Search.{BinaryPeriod, entry_found}
use Rattle.find_entry.proofs.Looking.{field-two}

abbrev entry_checks : List ℕ → ℕ → List Check
entry_checks ts work = free_table (prime 2) ts 4097 work

entry_verdict :
    {field : GaloisField}
    → FieldNamed (FieldName.Prime 2) field
    → (ts : List ℕ) (work : ℕ) {x : maybe.Option ℕ}
    → x ≡ first_of (free_table (field_of field) ts 4097 work)
    → x ≡ first_of (entry_checks ts work)
entry_verdict f ts work k = k ∙ ap (λ F. first_of (free_table F ts 4097 work)) (field-two f)

abbrev no_entry : List ℕ → Unit {0} → Bool
no_entry ts _ = is_none (first_entry ts)

-- what a search finds: 19 where it finds nothing
found_in : maybe.Option EntryFigures → Result EntryFigures
found_in none = refused 19
found_in (some a) = answered a

-- an answer and 19 leave the work bytes cleared
work-found : (o : maybe.Option EntryFigures) (work : List ℕ) → work_after (found_in o) work ≡ cleared work
unfolding work_after clears clearing holds_for_some found_in
work-found none work = refl
work-found (some a) work = refl

work-kept : (n : ℕ) (work : List ℕ) → clears n ≡ false → work_after {A = EntryFigures} (refused n) work ≡ work
unfolding work_after
work-kept n work h = rw (h, work_after)

-- the answer tells what is found
told-found : (r : Option EntryRating) → told_entry (ok_or r Refusal.NoEntry) ≡ found_in (entry_found r)
unfolding told_entry told number_of found_in entry_found
told-found (Some a) = refl
told-found None = refl

module _ {field : GaloisField} (f : FieldNamed (FieldName.Prime 2) field) (ts work : List ℕ)
    {v : Reply (Unit {0})} (k : number_in v ≡ first_of (free_table (field_of field) ts 4097 (length work)))
  where
    pub entry_refused : {x : Refusal} {r : Reply EntryRating} → v ≡ Err x → r ≡ Err x
        → EntryCall ts work r work
    unfolding find_entry entry_table free_table told_entry told clears clearing holds_for_some
    entry_refused {x} q p =
        let e : find_entry ts (length work) ≡ refused (number_of x) =
        settle-early (entry_checks ts (length work)) (19, no_entry ts) (λ _. first_entry ts)
        (entry_verdict f ts (length work) k) q in
        let h : clears (number_of x) ≡ false =
        never-clears (entry_checks ts (length work)) refl (entry_verdict f ts (length work) k) q in
        record {
          finding = ap told_entry p ∙ sym e;
          work_bytes = sym (work-kept (number_of x) work h) ∙ ap (λ r. work_after r work) (sym e);
        }

    module _ (q : v ≡ Ok tt) where
      passes : Passes (entry_checks ts (length work))
      passes = verdict_passes (entry_checks ts (length work)) (entry_verdict f ts (length work) k) q

      count_in_range : (1 ≤ length ts) × (length ts ≤ 4096)
      unfolding free_table
      count_in_range = count-accepted (length ts) passes.count_in_range

      pub work-enough : 8192 ≤ length work
      unfolding free_table
      work-enough = (lent-enough 4097 (length work) passes.lent_enough).1

      terms-binary : T (are_elements (prime 2) ts)
      unfolding free_table
      terms-binary = terms-accepted (prime 2) ts passes.terms_in_field

      find_entry-first : find_entry ts (length work) ≡ found_in (first_entry ts)
      unfolding find_entry entry_table free_table found_in is_none value_of
      find_entry-first = go (first_entry ts) refl
        where
          go : (o : maybe.Option EntryFigures) → first_entry ts ≡ o
              → find_entry ts (length work) ≡ found_in (first_entry ts)
          go none e =
              settle-last (entry_checks ts (length work)) (19, no_entry ts) (λ _. first_entry ts)
              (entry_verdict f ts (length work) k) q (ap is_none e)
              ∙ ap found_in (sym e)
          go (some a) e =
              settle_over (entry_checks ts (length work)) (19, no_entry ts) (λ _. first_entry ts)
              (entry_verdict f ts (length work) k) q (ap is_none e)
              ∙ ap value_of e
              ∙ ap found_in (sym e)

      pub searched-period : BinaryPeriod ts
      searched-period =
          record { at_least_one = count_in_range.0; not_many = count_in_range.1; binary = terms-binary }

      pub entry_call :
          (r : Option EntryRating) {told : Reply EntryRating} {zeros : List ℕ}
          → entry_found r ≡ first_entry ts
          → told ≡ ok_or r Refusal.NoEntry
          → zeros ≡ replicate 8192 0
          → EntryCall ts work told (zeros ++ drop 8192 work)
      unfolding cleared
      entry_call r found e z =
          record {
            finding = ap told_entry e ∙ told-found r ∙ ap found_in found ∙ sym find_entry-first;
            work_bytes =
                ap (λ l. l ++ drop 8192 work) z
                ∙ sym (work-found (first_entry ts) work)
                ∙ ap (λ x. work_after x work) (sym find_entry-first);
          }
