-- What the contracts of the period call cite, beside crate meaning.
-- ts are the terms of the period, and o is the power that a way found.
--
--   rating_found F f ts o == the answer with f to the power found, or 17 where none was found
--   Answerable F f ts o == there are terms, of F; f is monic over F, of a degree of at most 32 that 10 lets
--                        pass; and f to the power found annihilates their endless repetition and has a
--                        degree of at most 4,096
--   FoundRated F f ts o answer r answer' == r tells the answer, and the answer bytes have become answer'
--   Checked F g ts    == 7, 8 and 10 let the terms and the factor g pass, and g is monic
--   RatedAs result answer work r answer' work' == r tells the result of a call, and the lent bytes are left
--                        as it says
use Rattle.std.specs.Prelude.{ℕ, ◌*◌, ◌≤◌, ◌<◌, ◌≡◌, false, List, length, T}
use Rattle.std.proofs.Math.Option.{Option, none, some}
use Rattle.meaning.specs.declared.PowerRating.{PowerRating}
use Rattle.meaning.specs.Field.{Field, are_elements}
use Rattle.meaning.specs.Polynomial.{Polynomial, degree, is_monic_over, power}
use Rattle.meaning.specs.Sequence.{periodic, AnnihilatesEndless}
use Rattle.meaning.specs.Result.{Result, refused, value_of, Rated, figures_of, answer_after}
use Rattle.meaning.specs.Conditions.{factor_degree_out_of_range, count_out_of_range, term_out_of_field}
use Rattle.meaning.specs.Power.{PowerFigures, power_rating}
use Rattle.meaning.specs.Answers.{told_power, Reply}
use Rattle.meaning.specs.Calls.{LentAfter}
use Rattle.irreducible.specs.Accepted.{Accepted}

unfoldable pub rating_found : Field → Polynomial → List ℕ → Option ℕ → Result (Rated PowerFigures)
rating_found F f ts none = refused 17
rating_found F f ts (some r) = value_of (power_rating F f ts r)

pub record Answerable (F : Field) (f : Polynomial) (ts : List ℕ) (o : Option ℕ) : Type 0 where
  pub at_least_one : 0 < length ts
  pub monic : T (is_monic_over F f)
  pub degree_in_range : factor_degree_out_of_range F f ≡ false
  pub short : length f ≤ 33
  pub in_field : T (are_elements F ts)
  pub annihilates : (r : ℕ) → o ≡ some r → AnnihilatesEndless F (power F f r) (periodic ts)
  pub small : (r : ℕ) → o ≡ some r → r * degree f ≤ 4096

pub record FoundRated (F : Field) (f : Polynomial) (ts : List ℕ) (o : Option ℕ) (answer : List ℕ)
    (r : Reply PowerRating) (answer' : List ℕ) : Type 0 where
  pub rating : told_power r ≡ figures_of (rating_found F f ts o)
  pub answer_bytes : answer' ≡ answer_after (rating_found F f ts o) answer

pub record Checked (F : Field) (g : Polynomial) (ts : List ℕ) : Type 0 where
  pub accepted : Accepted F g
  pub count_in_range : count_out_of_range (length ts) ≡ false
  pub terms_in_field : term_out_of_field F ts ≡ false

pub record RatedAs (result : Result (Rated PowerFigures)) (answer work : List ℕ) (r : Reply PowerRating)
    (answer' work' : List ℕ) : Type 0 where
  pub rating : told_power r ≡ figures_of result
  pub lent : LentAfter result answer work answer' work'
