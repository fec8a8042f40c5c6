-- The period way with the factor that is given, which stands for its monic multiple.
--
--   given-leads, given_checked == a factor that 10 and 11 let pass leads, and its monic multiple is one that
--                        7, 8, 10 and 11 let pass
--   given-short, given-front, given-room == where the multiple stands
--   given_refused, given-rated == the contract in a field, where what is given is refused, and where it is
--                        rated
--   call_refused, call_made == the contract of the call, where the name is refused and where the field is
--                        made
--
-- Assumes nothing.
use Rattle.meaning.specs.Answers.{Reply, told}
use Rattle.std.specs.Prelude.{Ok, Err}
use Prim.Native.Nat.{ℕ, ◌-◌, ◌≤◌}
use mathlib.Core.Path.{◌≡◌, refl, sym, ap, subst, ◌∙◌, ap₂}
use mathlib.Core.Bool.{false}
use mathlib.Core.List.{List, ◌++◌}
use native.Mathlib.Nat.{sub-zero}
use native.Mathlib.Omega.{arith}
use lib.ListN.{length, take, drop, length-append}
use lib.Seq.{take_at}
use Rattle.meaning.specs.declared.FieldName.{FieldName}
use Rattle.meaning.specs.declared.Refusal.{Refusal}
use Rattle.meaning.specs.declared.PowerRating.{PowerRating}
use Rattle.meaning.specs.Search.{bind, holds_for_some}
use Rattle.meaning.specs.Field.{Field}
use Rattle.meaning.specs.Polynomial.{Polynomial, monic_multiple}
use Rattle.meaning.specs.Result.{Result, map_result, first_of, settle, Rated, figures_of, clearing, clears}
use Rattle.meaning.specs.Conditions.{factor_degree_out_of_range, coefficient_out_of_range}
use Rattle.meaning.specs.Power.{PowerFigures, power_rating}
use Rattle.meaning.specs.Answers.{told_power}
use Rattle.meaning.specs.Calls.{PeriodCall}
use Rattle.bridge.proofs.Basics.Interpretation.{IsField}
use Rattle.bridge.proofs.Lists.Multiples.{Leads, coefficients_lead, multiple-ten, multiple-eleven}
use Rattle.bridge.proofs.Lists.Multiples.{multiple-length}
use Rattle.meaning.proofs.Passes.{Passes}
use Rattle.arith.specs.declared.field.GaloisField.{GaloisField}
use Rattle.arith.specs.Represented.{field_of, FieldNamed, Declined}
use Rattle.arith.proofs.Door.{behind_door, at_door}
use Rattle.irreducible.proofs.Accepted.{accepted-short}
use Rattle.meaning.specs.Irreducibility.{irreducible_table}
use Rattle.refusals.specs.Verdicts.{number_in, terms_table, given_table}
use Rattle.refusals.proofs.Settled.{verdict_passes, settle-given}
use Rattle.refusals.proofs.Lent.{never-clears, lent_declined, lent_behind}
use Rattle.rate_period.specs.Ratings.{Checked, RatedAs}
use Rattle.meaning.specs.Period.{period_power, period_answer, period_in, rate_period}
use Rattle.refusals.proofs.Ways.{period-parts}
use Rattle.rate_period.proofs.PeriodAnswer.{refused_as}

-- what is given, where 7, 8, 10 and 11 let it pass
module _ {F : Field} (I : IsField F) (f : Polynomial) (ts : List ℕ) {v : Reply (Unit {0})}
    (e : number_in v ≡ first_of (given_table F f ts)) (q : v ≡ Ok tt) where
  given : Passes (given_table F f ts)
  given = verdict_passes (given_table F f ts) e q

  pub given-leads : Leads F f
  unfolding given_table terms_table irreducible_table
  given-leads = coefficients_lead F f given.coefficients_in_range

  pub given_checked : Checked F (monic_multiple F f) ts
  unfolding given_table terms_table irreducible_table
  given_checked =
      record {
        accepted =
            record {
              degree_in_range = multiple-ten I given-leads ∙ given.degrees_in_range;
              monic_over = multiple-eleven I given-leads;
            };
        count_in_range = given.count_in_range;
        terms_in_field = given.terms_in_field;
      }

  pub given-ten : factor_degree_out_of_range F f ≡ false
  unfolding given_table terms_table irreducible_table
  given-ten = given.degrees_in_range

  pub given-eleven : coefficient_out_of_range F f ≡ false
  unfolding given_table terms_table irreducible_table
  given-eleven = given.coefficients_in_range

  -- there is room for the multiple
  pub given-short : length f ≤ 33
  given-short =
      subst (λ n. n ≤ 33) (multiple-length I given-leads) (accepted-short given_checked.accepted)

  -- it stands at the front of the room
  module _ (room : List ℕ) {w : List ℕ} (k : w ≡ monic_multiple F f ++ drop (length f) room) where
    pub given-front : take (length f - 0) w ≡ monic_multiple F f
    given-front =
        ap (take (length f - 0)) k
        ∙ take_at (monic_multiple F f) (drop (length f) room) (length f - 0)
        (multiple-length I given-leads ∙ sym (sub-zero (length f)))

    pub given-room : length f ≤ length w
    given-room =
        subst (λ (l : List ℕ). length f ≤ length l) (sym k)
        (omega (
          arith,
          length-append (monic_multiple F f) (drop (length f) room),
          multiple-length I given-leads,
        ))

-- the rating in the field
module _ {F : Field} (I : IsField F) (f ts answer work : List ℕ) {v : Reply (Unit {0})}
    (e : number_in v ≡ first_of (given_table F f ts)) where
  pub given_refused :
      {x : Refusal}
      → v ≡ Err x
      → RatedAs (period_in F f ts (length answer) (length work)) answer work (Err x) answer
      work
  unfolding period_in period_answer given_table terms_table irreducible_table holds_for_some clears clearing
  given_refused q =
      let g = monic_multiple F f in
      let z =
      ap (λ table. settle table (λ _. bind (period_power F g ts) (power_rating F g ts)))
      (period-parts F ts (length answer) (length work) f g)
      ∙ settle-given (given_table F f ts) _ _ e q in
      refused_as z (never-clears (given_table F f ts) refl e q)

  pub given-rated :
      {r : Reply PowerRating} {answer' work' g : List ℕ}
      → v ≡ Ok tt
      → g ≡ monic_multiple F f
      → RatedAs (period_answer F false false g ts (length answer) (length work)) answer work r answer' work'
      → RatedAs (period_in F f ts (length answer) (length work)) answer work r answer' work'
  unfolding period_in
  given-rated {r} {answer'} {work'} q k x =
      let same : period_answer F false false _ ts (length answer) (length work)
      ≡ period_in F f ts (length answer) (length work) =
      ap (λ (g : Polynomial). period_answer F false false g ts (length answer) (length work)) k
      ∙ sym
      (ap₂ (λ a b. period_answer F a b (monic_multiple F f) ts (length answer) (length work))
      (given-ten I f ts e q) (given-eleven I f ts e q)) in
      subst (λ z. RatedAs z answer work r answer' work') same x

-- the call, by its field
abbrev rated : List ℕ → List ℕ → List ℕ → List ℕ → Field → Result (Rated PowerFigures)
rated f ts answer work F = period_in F f ts (length answer) (length work)

module _ {name : FieldName} (f ts answer work : List ℕ) where
  pub call_refused : {x : Refusal} → Declined name x → PeriodCall name f ts answer work (Err x) answer work
  unfolding rate_period told_power told figures_of map_result
  call_refused d =
      record {
        rating = ap figures_of (sym (at_door (rated f ts answer work) d));
        lent = lent_declined (rated f ts answer work) d;
      }

  pub call_made : {field : GaloisField} {r : Reply PowerRating} {answer' work' : List ℕ}
      → FieldNamed name field
      → RatedAs (rated f ts answer work (field_of field)) answer work r answer' work'
      → PeriodCall name f ts answer work r answer' work'
  unfolding rate_period
  call_made o k =
      record {
        rating = k.rating ∙ ap figures_of (sym (behind_door (rated f ts answer work) o));
        lent = lent_behind (rated f ts answer work) o k.lent;
      }
