-- The period way with a monic factor that 7, 8, 10 and 11 let pass, from the verdict and the power found
-- to the result.
--
--   factor-monic, factor-positive == of a monic factor that 10 lets pass
--   refused_as        == a refusal that does not clear the work bytes is told, and leaves all as it was
--   period_refused    == 12 or 16 refuses the factor
--   period-lent, period-input == accepted: what the way asks
--   period_answerable == what the answer asks of the power found
--   period-rated      == the result where the verdict accepts
--
-- Assumes nothing.
use Rattle.meaning.specs.Answers.{Reply, told as reply_told}
use Rattle.std.specs.Prelude.{Ok, Err}
use Prim.Native.Nat.{ℕ, ◌≤◌}
use mathlib.Core.Path.{◌≡◌, refl, sym, ap, ◌∙◌}
use mathlib.Core.Bool.{Bool, false}
use mathlib.Core.List.{List, [], ◌∷◌, ◌++◌}
use mathlib.Core.Option as maybe
use Rattle.std.specs.Prelude.{Option}
use mathlib.Core.Option.{none, some}
use native.Mathlib.Omega.{arith}
use lib.ListN.{length}
use lib.Dec.{T}
use Rattle.meaning.specs.declared.Refusal.{Refusal}
use Rattle.meaning.specs.declared.PowerRating.{PowerRating}
use Rattle.meaning.specs.Search.{bind, holds_for_some, is_none}
use Rattle.meaning.specs.Field.{Field}
use Rattle.meaning.specs.Polynomial.{Polynomial, degree, is_monic_over}
use Rattle.meaning.specs.Result.{Result, refused, map_result, first_of, settle, Rated, figures_of, clearing}
use Rattle.meaning.specs.Result.{clears}
use Rattle.meaning.specs.Power.{PowerFigures, power_rating}
use Rattle.meaning.specs.Answers.{number_of, told_power}
use Rattle.bridge.proofs.Basics.Interpretation.{IsField}
use Rattle.bridge.proofs.Lists.Polynomials.{monic-nonempty}
use Rattle.bridge.proofs.Lists.Products.{accepted-monic}
use Rattle.bridge.proofs.Lists.Irreducibles.{accepted-degree, accepted-irreducible}
use Rattle.bridge.proofs.Ways.Accepted.{count-accepted, terms-accepted, lent-enough}
use Rattle.meaning.proofs.Passes.{Passes}
use Rattle.irreducible.specs.Accepted.{Accepted}
use Rattle.irreducible.proofs.Accepted.{accepted-short}
use Rattle.refusals.specs.Verdicts.{number_in, lent_table, period_rest, period_checks}
use Rattle.refusals.proofs.Settled.{verdict_passes, settle-early, period-last}
use Rattle.refusals.proofs.Lent.{lent_refused, never-clears}
use Rattle.period_way.specs.Period.{told, PeriodInput, PeriodFound}
use Rattle.rate_period.specs.Ratings.{rating_found, Answerable, FoundRated, Checked, RatedAs}
use Rattle.meaning.specs.Period.{period_power, period_answer}
use Rattle.bridge.proofs.Ways.Periods.{period_power-least}
use Rattle.refusals.proofs.Ways.{period-rest}
use Rattle.period_way.proofs.Sizes.{period-small}
use Rattle.rate_period.proofs.Answer.{call_rating, call_lent, settled-none, settled-some}

-- a factor that 10, 11 and 12 do not turn down
module _ {F : Field} {f : Polynomial} (a : Accepted F f) where
  pub factor-monic : T (is_monic_over F f)
  factor-monic = accepted-monic F f a.monic_over

  pub factor-positive : 1 ≤ degree f
  factor-positive =
      accepted-degree F f (monic-nonempty F f factor-monic) a.degree_in_range

-- a refusal before 17
pub refused_as :
    {result : Result (Rated PowerFigures)} {answer work : List ℕ} {x : Refusal}
    → result ≡ refused (number_of x)
    → clears (number_of x) ≡ false
    → RatedAs result answer work (Err x) answer work
unfolding told_power reply_told figures_of map_result
refused_as e other = record { rating = sym (ap figures_of e); lent = lent_refused e other }

module _ (F : Field) (f : Polynomial) (ts : List ℕ) (answer work : ℕ) (x : Checked F f ts) where
  -- the result with the monic multiple f
  abbrev result : Result (Rated PowerFigures)
  result = period_answer F false false f ts answer work

  -- no power of f annihilates the period
  abbrev seventeen : Unit {0} → Bool
  seventeen _ = is_none (period_power F f ts)

  period-settled :
      result
      ≡ settle (period_checks F f ts answer work ++ ((17, seventeen) ∷ []))
      (λ _. bind (period_power F f ts) (power_rating F f ts))
  unfolding period_answer
  period-settled =
      ap (λ table. settle table (λ _. bind (period_power F f ts) (power_rating F f ts)))
      (period-last F ts answer work f)

  rest_decides : first_of (period_rest F f answer work) ≡ first_of (period_checks F f ts answer work)
  rest_decides =
      sym (period-rest F ts answer work x.count_in_range x.terms_in_field f)

  module _ {v : Reply (Unit {0})} (k : number_in v ≡ first_of (period_rest F f answer work)) where
    period-early : {r : Refusal} → v ≡ Err r → result ≡ refused (number_of r)
    period-early q = period-settled ∙ settle-early (period_checks F f ts answer work) _ _ (k ∙ rest_decides) q

    module _ (q : v ≡ Ok tt) where
      passes : Passes (period_rest F f answer work)
      passes = verdict_passes (period_rest F f answer work) k q

      pub period-lent : (4097 ≤ answer) × (8192 ≤ work)
      unfolding period_rest lent_table
      period-lent = lent-enough answer work passes.lent_enough

      pub period-input : PeriodInput F f ts
      unfolding period_rest lent_table
      period-input =
          let (some-terms, few) = count-accepted (length ts) x.count_in_range in
          let a = x.accepted in
          record {
            monic = factor-monic a;
            positive = factor-positive a;
            irreducibility =
                accepted-irreducible F f a.degree_in_range a.monic_over
                passes.irreducible;
            short = omega (arith, accepted-short a);
            in_field = terms-accepted F ts x.terms_in_field;
            at_least_one = some-terms;
            not_many = few;
          }

      period-rating : result ≡ rating_found F f ts (period_power F f ts)
      unfolding is_none
      period-rating = go (period_power F f ts) refl
        where
          go :
              (o : maybe.Option ℕ)
              → period_power F f ts ≡ o
              → result ≡ rating_found F f ts (period_power F f ts)
          go none z =
              period-settled
              ∙ settled-none F f ts _ seventeen _ (k ∙ rest_decides) q (ap is_none z)
              ∙ ap (rating_found F f ts) (sym z)
          go (some r) z =
              period-settled
              ∙ settled-some F f ts _ seventeen _ (k ∙ rest_decides) q (ap is_none z) z
              ∙ ap (rating_found F f ts) (sym z)

      pub period_answerable :
          IsField F
          → {found : Option ℕ} {w w' : List ℕ}
          → PeriodFound F f ts w w' found
          → Answerable F f ts (told found)
      period_answerable I y =
          record {
            at_least_one = (count-accepted (length ts) x.count_in_range).0;
            monic = factor-monic x.accepted;
            degree_in_range = x.accepted.degree_in_range;
            short = accepted-short x.accepted;
            in_field = period-input.in_field;
            annihilates =
                λ r z. (period_power-least F f ts period-input.at_least_one (sym y.power ∙ z)).annihilates;
            small = λ r z. period-small I period-input (sym y.power ∙ z);
          }

-- the inner function
module _ (F : Field) (f ts answer work : List ℕ) (m : Checked F f ts) {v : Reply (Unit {0})}
    (e : number_in v ≡ first_of (period_rest F f (length answer) (length work))) where
  pub period_refused :
      {x : Refusal}
      → v ≡ Err x
      → RatedAs (period_answer F false false f ts (length answer) (length work)) answer work
      (Err x) answer work
  unfolding period_rest lent_table holds_for_some clears clearing
  period_refused q =
      refused_as (period-early F f ts (length answer) (length work) m e q)
      (never-clears (period_rest F f (length answer) (length work)) refl e q)

  pub period-rated :
      {found : Option ℕ} {r : Reply PowerRating} {answer' work' : List ℕ}
      → v ≡ Ok tt
      → PeriodFound F f ts work work' found
      → FoundRated F f ts (told found) answer r answer'
      → RatedAs (period_answer F false false f ts (length answer) (length work)) answer work r answer' work'
  period-rated q x y =
      let z = period-rating F f ts (length answer) (length work) m e q in
      record {
        rating = call_rating F f ts x.power y z;
        lent = call_lent F f ts x.power y z (count-accepted (length ts) m.count_in_range).0 x.work;
      }
