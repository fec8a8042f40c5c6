-- The set call, from what is given to the rating of the monic multiples.
--
--   given-set_refused  == 7 to 11 refuse
--   given-set_few      == accepted: at most eight factors
--   given-set-packable, given_checked == accepted: what the packing of the multiples and their rating ask
--   given-set-rated    == the contract in a field, where the multiples are rated
--   call_refused, call_made == the contract of the call, where the name is refused and where the field is
--                        made
-- Assumes nothing.
use Rattle.std.specs.Prelude.{Ok, Err}
use Rattle.meaning.specs.Answers.{Reply}
use Prim.Native.Nat.{ℕ, ◌≤◌, ◌<◌}
use native.Mathlib.Omega.{arith}
use mathlib.Core.Path.{◌≡◌, refl, sym, ap, ap₂, subst, ◌∙◌}
use mathlib.Core.Bool.{false}
use mathlib.Core.List.{List, [], map}
use lib.ListN.{length, get_or, length-map}
use lib.Dec.{eqb, ltb}
use borrow.Author.Tests.{ltb-false}
use Rattle.meaning.specs.declared.FieldName.{FieldName}
use Rattle.meaning.specs.declared.Refusal.{Refusal}
use Rattle.meaning.specs.declared.SetRating.{SetRating}
use Rattle.meaning.specs.Search.{holds_for_some, map_option}
use Rattle.meaning.specs.Field.{Field}
use Rattle.meaning.specs.Polynomial.{Polynomial, monic_multiple}
use Rattle.meaning.specs.Conditions.{named, factor_count_out_of_range, factor_degree_out_of_range}
use Rattle.meaning.specs.Conditions.{coefficient_out_of_range}
use Rattle.meaning.specs.Result.{Result, map_result, first_of, settle, Rated, figures_of, clearing, clears}
use Rattle.meaning.specs.Portion.{SetFigures, set_powers, set_rating, set_answer, set_in, rate_set}
use Rattle.meaning.specs.Answers.{set_figures_told, set_padded}
use Rattle.meaning.specs.Calls.{SetCall}
use Rattle.meaning.proofs.Passes.{Passes}
use Rattle.bridge.proofs.Basics.Searches.{or-false, none-at}
use Rattle.bridge.proofs.Basics.Interpretation.{IsField}
use Rattle.bridge.proofs.Lists.Multiples.{Leads, coefficients_lead, multiple-ten, multiple-eleven}
use Rattle.bridge.proofs.Lists.Multiples.{multiples-ten, multiples-eleven}
use Rattle.arith.specs.declared.field.GaloisField.{GaloisField}
use Rattle.arith.specs.Represented.{field_of, FieldNamed, Declined}
use Rattle.arith.proofs.Door.{behind_door, at_door}
use Rattle.irreducible.proofs.Accepted.{accepted-short}
use Rattle.poly.specs.multiples.Packable.{Packable}
use Rattle.poly.proofs.parts.Packing.{flatten_short}
use Rattle.bridge.proofs.Lists.Monics.{get_or_mapped}
use Rattle.refusals.specs.Verdicts.{number_in, terms_table, factors_table, given_set_table}
use Rattle.refusals.proofs.Settled.{verdict_passes, settle-given}
use Rattle.refusals.proofs.Ways.{set-parts}
use Rattle.refusals.proofs.Lent.{never-clears, lent_refused, lent_declined, lent_behind}
use Rattle.rate_set.specs.Ratings.{Checked, SetRatedAs}
use Rattle.rate_set.proofs.SetWay.{refused_call}

module _ {F : Field} (I : IsField F) (fs : List Polynomial) (ts : List ℕ) {v : Reply (Unit {0})}
    (e : number_in v ≡ first_of (given_set_table F fs ts)) (q : v ≡ Ok tt) where
  given : Passes (given_set_table F fs ts)
  given = verdict_passes (given_set_table F fs ts) e q

  given-ten : holds_for_some (factor_degree_out_of_range F) fs ≡ false
  unfolding given_set_table terms_table factors_table
  given-ten = given.degrees_in_range

  given-eleven : holds_for_some (coefficient_out_of_range F) fs ≡ false
  unfolding given_set_table terms_table factors_table
  given-eleven = given.coefficients_in_range

  pub given-set_few : length fs ≤ 8
  unfolding given_set_table terms_table factors_table factor_count_out_of_range
  given-set_few =
      ltb-false 8 (length fs) (or-false (eqb (length fs) 0) (ltb 8 (length fs)) given.factor_count).1

  leads : (i : ℕ) → i < length fs → Leads F (get_or fs i [])
  leads i l =
      coefficients_lead F (get_or fs i [])
      (none-at (coefficient_out_of_range F) [] fs i given-eleven l)

  short : (i : ℕ) → i < length fs → length (monic_multiple F (get_or fs i [])) ≤ 33
  unfolding given_set_table terms_table factors_table
  short i l =
      let x = leads i l in
      accepted-short
      (record {
        degree_in_range =
            multiple-ten I x ∙ none-at (factor_degree_out_of_range F) [] fs i given-ten l;
        monic_over = multiple-eleven I x;
      })

  pub given-set-packable : {w : List ℕ} → length w ≡ 264 → Packable F fs w
  given-set-packable n =
      let size = length-map fs (monic_multiple F) in
      let all = flatten_short (map (monic_multiple F) fs) 33
      (λ i l. let k : i < length fs = omega (arith, size) in
      subst (λ g. length g ≤ 33) (sym (get_or_mapped (monic_multiple F) fs i [] [] k)) (short i k)) in
      record { few = given-set_few; leads = leads; room = omega (arith, all, size, given-set_few) }

  pub given_checked : Checked F (map (monic_multiple F) fs) ts
  unfolding given_set_table terms_table factors_table
  given_checked =
      record {
        count_in_range = given.count_in_range;
        terms_in_field = given.terms_in_field;
        factor_count =
            ap factor_count_out_of_range (length-map fs (monic_multiple F)) ∙ given.factor_count;
        degrees_in_range = multiples-ten I fs given-eleven given-ten;
        monic = multiples-eleven I fs given-eleven;
      }

-- the rating in the field
module _ {F : Field} (I : IsField F) (fs : List Polynomial) (us ts answer work : List ℕ)
    {v : Reply (Unit {0})}
    (e : number_in v ≡ first_of (given_set_table F fs ts)) where
  pub given-set_refused :
      {x : Refusal}
      → v ≡ Err x
      → SetRatedAs (set_in F fs us ts (length answer) (length work)) answer work (Err x) answer work
  unfolding set_in set_answer given_set_table terms_table factors_table holds_for_some clears clearing
  given-set_refused q =
      let gs = map (monic_multiple F) fs in
      let z =
      ap
      (λ table. settle table (λ _. map_option (set_rating F (named gs us) ts)
      (set_powers F (named gs us) ts)))
      (set-parts F ts (length answer) (length work) fs gs us (length-map fs (monic_multiple F)))
      ∙ settle-given (given_set_table F fs ts) _ _ e q in
      refused_call z (lent_refused z (never-clears (given_set_table F fs ts) refl e q))

  pub given-set-rated :
      {r : Reply SetRating} {answer' work' : List ℕ}
      → v ≡ Ok tt
      → SetRatedAs
      (set_answer F false false (named (map (monic_multiple F) fs) us) ts (length answer) (length work))
      answer work r answer' work'
      → SetRatedAs (set_in F fs us ts (length answer) (length work)) answer work r answer' work'
  unfolding set_in
  given-set-rated {r} {answer'} {work'} q x =
      let gs = map (monic_multiple F) fs in
      let same =
      ap₂ (λ a b. set_answer F a b (named gs us) ts (length answer) (length work))
      (given-ten I fs ts e q) (given-eleven I fs ts e q) in
      subst (λ z. SetRatedAs z answer work r answer' work') (sym same) x

-- the call, by its field
abbrev rated : List Polynomial → List ℕ → List ℕ → List ℕ → List ℕ → Field → Result (Rated SetFigures)
rated fs us ts answer work F = set_in F fs us ts (length answer) (length work)

module _ {name : FieldName} (fs : List Polynomial) (us ts answer work : List ℕ) where
  pub call_refused : {x : Refusal} → Declined name x → SetCall name fs us ts answer work (Err x) answer work
  unfolding rate_set
  call_refused d =
      let k = rated fs us ts answer work in
      let y = refused_call (at_door k d) (lent_declined k d) in
      record { rating = y.rating; powers = y.powers; lent = y.lent }

  pub call_made : {field : GaloisField} {r : Reply SetRating} {answer' work' : List ℕ}
      → FieldNamed name field
      → SetRatedAs (rated fs us ts answer work (field_of field)) answer work r answer' work'
      → SetCall name fs us ts answer work r answer' work'
  unfolding rate_set
  call_made o x =
      let k = rated fs us ts answer work in
      let same = sym (behind_door k o) in
      record {
        rating = x.rating ∙ ap (λ z. map_result set_figures_told (figures_of z)) same;
        powers = x.powers ∙ ap (λ z. set_padded (figures_of z)) same;
        lent = lent_behind k o x.lent;
      }
