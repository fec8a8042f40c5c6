-- The rating of the records of an accepted file, whose terms 7 and 8 accept, by its mode.
-- Assumes nothing.
use Prim.Native.Nat.{ℕ, ◌≤◌}
use native.Mathlib.Omega.{arith}
use mathlib.Core.Path.{◌≡◌, refl, sym, ap, ◌∙◌}
use mathlib.Core.Bool.{false}
use mathlib.Core.List.{List, [], map}
use mathlib.Core.Option.{some}
use lib.ListN.{length, get_or}
use Rattle.meaning.specs.declared.FieldName.{FieldName}
use Rattle.meaning.specs.declared.FileOutcome.{FileOutcome}
use Rattle.meaning.specs.declared.Refusal.{Refusal}
use Rattle.meaning.specs.Search.{holds_for_some}
use Rattle.meaning.specs.Field.{Field}
use Rattle.meaning.specs.Result.{refused, first_of, clearing, clears}
use Rattle.meaning.specs.Period.{period_answer}
use Rattle.meaning.specs.Portion.{set_answer}
use Rattle.meaning.specs.Conditions.{named}
use Rattle.meaning.specs.Free.{free_in}
use Rattle.meaning.specs.Route.{RouteRecord, Mode, period_mode, set_mode, free_mode, mode_of, byte_of}
use Rattle.meaning.specs.File.{terms_of, of_period, of_set, of_free, rate_mode}
use Rattle.meaning.specs.File.{field_in, rate_records}
use Rattle.meaning.specs.FieldNames.{in_field}
use Rattle.std.specs.Prelude.{Ok, Err}
use Rattle.meaning.specs.Answers.{Reply, number_of}
use Rattle.route.specs.framing.Framing.{records_from}
use Rattle.route.specs.declared.mode.Mode as route
use Rattle.route.specs.mode.Modes.{mode_told}
use Rattle.arith.specs.declared.field.GaloisField.{GaloisField}
use Rattle.arith.specs.Represented.{field_of, FieldMade}
use Rattle.arith.proofs.Door.{made-named, made_declined, behind_door, at_door}
use Rattle.refusals.specs.Verdicts.{number_in, terms_table}
use Rattle.refusals.proofs.Lent.{never-clears, name-keeps}
use Rattle.rate_file.specs.factors.Written.{factors_in, polynomials_in, written_table}
use Rattle.rate_file.proofs.factors.Places.{factors-count}
use Rattle.bridge.proofs.Files.WrittenFactors.{AllFull}
use Rattle.rate_file.proofs.factors.Polynomials.{factors-whole}
use Rattle.bridge.proofs.Basics.Interpretation.{IsField}
use Rattle.rate_file.specs.modes.Checked.{CheckedFactor, CheckedFactors}
use Rattle.rate_file.specs.records.Accepted.{AcceptedRecords, Rateable, rated_in}
use Rattle.rate_file.proofs.records.Suited.{one-factor, some-factors, rated-by, rated_refused, records_in}
use Rattle.rate_file.specs.modes.Outcomes.{RatedFile}
use Rattle.rate_file.proofs.modes.Calls.{rated_as, refused_rated}
use Rattle.rate_file.proofs.records.Terms.{cut_terms, cut-terms, cut-accepted}
use Rattle.rate_file.proofs.records.Modes.{mode-terms, period-factors, set-factors, period-way}
use Rattle.rate_file.proofs.records.Modes.{period_checked, set_checked, set-way}

-- a refusal of the terms leaves the work bytes as they were
pub terms-number : (F : Field) (ts : List ℕ) {v : Reply (Unit {0})} {x : Refusal}
    → number_in v ≡ first_of (terms_table F ts)
    → v ≡ Err x
    → clears (number_of x) ≡ false
unfolding terms_table holds_for_some clears clearing
terms-number F ts e q = never-clears (terms_table F ts) refl e q

-- the terms as they were read, cut after 4,097, and u the verdict on them
module _ {F : Field} (I : IsField F) (file ts : List ℕ) (ok : AcceptedRecords (records_from file 0))
    (cut : ts ≡ cut_terms (terms_of (records_from file 0)))
    {u : Reply (Unit {0})} (eu : number_in u ≡ first_of (terms_table F ts)) where
  pub rateable : u ≡ Ok tt → Rateable F file ts
  unfolding number_in
  rateable q =
      record {
        accepted = ok;
        terms = cut ∙ cut-accepted F (terms_of (records_from file 0)) (rw (← cut) eu) q;
        passed = sym eu ∙ ap number_in q;
      }

  pub records-terms : (answer work : ℕ) {x : Refusal} → u ≡ Err x
      → rated_in F (records_from file 0) answer work ≡ refused (number_of x)
  records-terms answer work q =
      let rs = records_from file 0 in
      rated_refused F file answer work ok.suited
      (λ m. mode-terms I (factors_in file) (terms_of rs) answer work
      (eu ∙ rw cut (cut-terms F (terms_of (records_from file 0))))
      m
      q)

-- the mode, as it was read
pub mode-asked : {byte : ℕ} {m m' : route.Mode} (rs : List RouteRecord) → byte ≡ byte_of 3 rs
    → mode_of byte ≡ some (mode_told m) → m ≡ m'
    → mode_of (byte_of 3 rs) ≡ some (mode_told m')
mode-asked rs is e q = sym (ap mode_of is) ∙ e ∙ ap (λ m. some (mode_told m)) q

module _ {F : Field} (I : IsField F) (file ts : List ℕ) (answer work : ℕ) (ok : Rateable F file ts) where
  abbrev Asks : Mode → Type 0
  Asks m = mode_of (byte_of 3 (records_from file 0)) ≡ some m

  rated-in : {m : Mode} → Asks m
      → rated_in F (records_from file 0) answer work ≡ rate_mode m F (factors_in file) ts answer work
  rated-in e = rw ok.terms (rated-by F file answer work e)

  pub records-free : Asks free_mode
      → rated_in F (records_from file 0) answer work ≡ of_free (length ts) (free_in F ts answer work)
  unfolding rate_mode
  records-free e = rated-in e

  factors-full : AllFull (factors_in file)
  factors-full = factors-whole file ok.accepted.whole

  terms-accepted : number_in (Ok tt) ≡ first_of (terms_table F ts)
  unfolding number_in
  terms-accepted = sym ok.passed

  period-one : Asks period_mode → 1 ≤ length (factors_in file)
  period-one e =
      omega (arith, factors-count file, one-factor (records_from file 0) ok.accepted.suited e)

  set_several : Asks set_mode → (1 ≤ length (factors_in file)) × (length (factors_in file) ≤ 8)
  set_several e = rw (factors-count file) (some-factors (records_from file 0) ok.accepted.suited e)

  -- v is the verdict on the factors
  module _ {v : Reply (Unit {0})} (ev : number_in v ≡ first_of (written_table F (factors_in file))) where
    pub period_refused : {x : Refusal} → Asks period_mode → v ≡ Err x
        → rated_in F (records_from file 0) answer work ≡ refused (number_of x)
    period_refused e q =
        rated-in e ∙ period-factors I (factors_in file) ts answer work terms-accepted refl ev q

    pub set_refused : {x : Refusal} → Asks set_mode → v ≡ Err x
        → rated_in F (records_from file 0) answer work ≡ refused (number_of x)
    set_refused e q =
        rated-in e
        ∙ set-factors I (factors_in file) ts answer work terms-accepted refl ev (set_several e).0
        (set_several e).1
        q

    pub factors-number : {x : Refusal} → v ≡ Err x → clears (number_of x) ≡ false
    unfolding written_table holds_for_some clears clearing
    factors-number q = never-clears (written_table F (factors_in file)) refl ev q

    module _ (q : v ≡ Ok tt) where
      pub records-period : Asks period_mode
          → rated_in F (records_from file 0) answer work
          ≡ of_period (period_answer F false false (get_or (polynomials_in file) 0 []) ts answer work)
      records-period e =
          rated-in e ∙ period-way I (factors_in file) ts answer work terms-accepted refl ev q

      pub records-set : Asks set_mode
          → rated_in F (records_from file 0) answer work
          ≡ of_set (length ts)
          (set_answer F false false (named (polynomials_in file) (map (λ f. f.upper) (factors_in file))) ts
          answer work)
      records-set e = rated-in e ∙ set-way I (factors_in file) ts answer work terms-accepted refl ev q

      pub one_checked : Asks period_mode → CheckedFactor F file ts
      one_checked e =
          record {
            some = period-one e;
            checked =
                period_checked I (factors_in file) ts answer work terms-accepted refl ev q factors-full
                (period-one e);
          }

      pub all_checked : Asks set_mode → CheckedFactors F file ts
      all_checked e =
          let (low, high) = set_several e in
          record {
            checked =
                set_checked I (factors_in file) ts answer work terms-accepted refl ev q factors-full low
                high;
          }

-- the rating of the records, by the field that they name
in_records : (file : List ℕ) {name : FieldName} (answer work : ℕ)
    → name ≡ field_in (records_from file 0)
    → AcceptedRecords (records_from file 0)
    → rate_records (records_from file 0) answer work
    ≡ in_field name (λ F. rated_in F (records_from file 0) answer work)
in_records file answer work is ok = rw is (records_in (records_from file 0) answer work ok.suited)

module _ {name : FieldName} {made : Reply GaloisField} (h : FieldMade name made) (file : List ℕ)
    (is : name ≡ field_in (records_from file 0)) (ok : AcceptedRecords (records_from file 0)) where
  pub name_refused : {answer work : List ℕ} {x : Refusal} {r : Reply FileOutcome} → made ≡ Err x → r ≡ Err x
      → RatedFile (rate_records (records_from file 0) (length answer) (length work)) answer work r answer work
  name_refused {answer = answer} {work} e t =
      let d = made_declined h e in
      rated_as (in_records file (length answer) (length work) is ok)
      (refused_rated t (at_door _ d) (name-keeps d))

  pub name-made : {answer work answer' work' : List ℕ} {field : GaloisField} {r : Reply FileOutcome}
      → made ≡ Ok field
      → RatedFile (rated_in (field_of field) (records_from file 0) (length answer) (length work)) answer
      work r answer' work'
      → RatedFile (rate_records (records_from file 0) (length answer) (length work)) answer work r
      answer' work'
  name-made {answer = answer} {work} e t =
      rated_as
      (in_records file (length answer) (length work) is ok
      ∙ behind_door (λ F. rated_in F (records_from file 0) _ _)
      (made-named h e))
      t
