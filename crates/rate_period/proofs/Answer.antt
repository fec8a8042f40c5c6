-- The answer of the period way, from the power that it has found.
--
--   power-input       == what the writer of a power asks
--   degree_decides    == as many terms as the degree of the answer decide how the repetition repeats
--   nothing-rated, power-rated == the answer where nothing is found, and where a power is
--   call_rating, call_lent == what a call answers and leaves, where its result is that of the power found
--   settled-none, settled-some == the result where the verdict accepts: 17 is the last condition of the table
--
-- Assumes nothing.
use Rattle.meaning.specs.Answers.{Reply, told as reply_told}
use Rattle.std.specs.Prelude.{Ok, Err}
use Prim.Native.Nat.{ℕ, ◌<◌}
use mathlib.Core.Path.{◌≡◌, refl, sym, ap, subst, ◌∙◌}
use mathlib.Core.Bool.{Bool, true, false}
use mathlib.Core.List.{List, [], ◌∷◌, ◌++◌}
use mathlib.Core.Option as maybe
use mathlib.Core.Option.{none, some}
use lib.ListN.{length}
use Rattle.meaning.specs.declared.Refusal.{Refusal}
use Rattle.meaning.specs.declared.PowerRating.{PowerRating}
use Rattle.meaning.specs.Search.{bind, holds_for_some}
use Rattle.meaning.specs.Field.{Field}
use Rattle.meaning.specs.Polynomial.{Polynomial, degree, power}
use Rattle.meaning.specs.Result.{Result, answered, map_result, Check, first_of, value_of, settle, Rated}
use Rattle.meaning.specs.Result.{figures_of, cleared, answer_after, clearing, clears, work_after}
use Rattle.meaning.specs.Power.{PowerFigures, power_rating}
use Rattle.meaning.specs.Repeat.{shortest_period}
use Rattle.meaning.specs.Answers.{number_of, told_power}
use Rattle.meaning.specs.Calls.{LentAfter}
use Rattle.bridge.proofs.Basics.Searches.{map_option-some, bind-some}
use Rattle.bridge.proofs.Basics.Interpretation.{IsField}
use Rattle.bridge.proofs.Lists.Polynomials.{monic-nonempty}
use Rattle.bridge.proofs.Lists.Products.{power-monic}
use Rattle.bridge.proofs.Lists.Irreducibles.{accepted-degree}
use Rattle.bridge.proofs.Sequences.Repeats.{shortest_exists}
use Rattle.refusals.specs.Verdicts.{number_in}
use Rattle.refusals.proofs.Settled.{settle-last, settle_over}
use Rattle.repeat.specs.shortest.Shortest.{Deciding}
use Rattle.repeat.proofs.shortest.Deciding.{annihilated_decide}
use Rattle.powers.specs.product.Writing.{PowerInput, PowerWritten}
use Rattle.std.specs.Prelude.{Option, Some, None}
use Rattle.period_way.specs.Period.{told}
use Rattle.rate_period.specs.Ratings.{rating_found, Answerable, FoundRated}

-- The answer
abbrev rating : Field → Polynomial → ℕ → ℕ → Rated PowerFigures
rating F f r n =
    record {
      figures = record { power = r; degree = degree (power F f r); repeat = n };
      polynomial = power F f r;
    }

rating-found :
    (F : Field) (f : Polynomial) (ts : List ℕ) {r n : ℕ}
    → shortest_period ts ≡ some n
    → rating_found F f ts (some r) ≡ answered (rating F f r n)
unfolding rating_found power_rating value_of
rating-found F f ts e = ap value_of (map_option-some _ e)

module _ {F : Field} {f : Polynomial} {ts : List ℕ} {found : Option ℕ} where
  module _ (x : Answerable F f ts (told found)) {r : ℕ} (q : found ≡ Some r) where
    pub power-input : PowerInput F f r
    unfolding told
    power-input =
        record {
          monic = x.monic;
          positive = accepted-degree F f (monic-nonempty F f x.monic) x.degree_in_range;
          short = x.short;
          small = x.small r (ap told q);
        }

    -- as many terms as the degree of the answer decide how the repetition repeats
    pub degree_decides :
        IsField F → {a a' : List ℕ} {d : ℕ} → PowerWritten F f r a a' d → Deciding ts d
    unfolding told
    degree_decides I w =
        subst (Deciding ts) (sym w.new_degree)
        (annihilated_decide I (power F f r) (power-monic I f r x.monic) ts x.in_field
        (x.annihilates r (ap told q)))

  module _ {answer : List ℕ} where
    pub nothing-rated :
        found ≡ None
        → FoundRated F f ts (told found) answer (Err Refusal.NotAnnihilated) answer
    unfolding told rating_found told_power reply_told number_of figures_of map_result answer_after
    nothing-rated q = rw q (record { rating = refl; answer_bytes = refl })

    pub power-rated :
        {r d n : ℕ} {answer' : List ℕ}
        → found ≡ Some r
        → PowerWritten F f r answer answer' d
        → shortest_period ts ≡ some n
        → FoundRated F f ts (told found) answer (Ok (record { power = r; degree = d; repeat = n })) answer'
    unfolding told told_power reply_told figures_of map_result answer_after
    power-rated {r} {d} {n} q w e =
        let z : rating_found F f ts (told found) ≡ answered (rating F f r n)
        = ap (λ g. rating_found F f ts (told g)) q ∙ rating-found F f ts e in
        record {
          rating =
              ap (λ k. answered (record { power = r; degree = k; repeat = n })) w.new_degree
              ∙ sym (ap figures_of z);
          answer_bytes = w.answer ∙ sym (ap (λ (a : Result (Rated PowerFigures)). answer_after a answer) z);
        }

-- an answer and 17 leave the work bytes cleared
work-found :
    (F : Field) (f : Polynomial) (ts : List ℕ)
    → 0 < length ts
    → (o : maybe.Option ℕ) (work : List ℕ)
    → work_after (rating_found F f ts o) work ≡ cleared work
unfolding work_after clears clearing holds_for_some rating_found
work-found F f ts l none work = refl
work-found F f ts l (some r) work =
    let (n, e, _) = shortest_exists ts l in
    ap (λ (a : Result (Rated PowerFigures)). work_after a work) (rating-found F f ts e)

-- A call whose verdict has passed
module _ (F : Field) (f : Polynomial) (ts : List ℕ) {o o' : maybe.Option ℕ} (k : o' ≡ o)
    {answer answer' : List ℕ} {q : Reply PowerRating} (x : FoundRated F f ts o' answer q answer')
    {result : Result (Rated PowerFigures)} (e : result ≡ rating_found F f ts o) where
  same-result : rating_found F f ts o' ≡ result
  same-result = ap (rating_found F f ts) k ∙ sym e

  pub call_rating : told_power q ≡ figures_of result
  call_rating = x.rating ∙ ap figures_of same-result

  pub call_lent :
      0 < length ts
      → {work work' : List ℕ}
      → work' ≡ cleared work
      → LentAfter result answer work answer' work'
  call_lent l {work} w =
      record {
        answer_bytes =
            x.answer_bytes ∙ ap (λ (a : Result (Rated PowerFigures)). answer_after a answer) same-result;
        work_bytes =
            w
            ∙ sym (work-found F f ts l o work)
            ∙ ap (λ (a : Result (Rated PowerFigures)). work_after a work) (sym e);
      }

-- 17 is the last condition of a table whose others the verdict has tried
module _ (F : Field) (f : Polynomial) (ts : List ℕ) (table : List Check) (test : Unit {0} → Bool)
    (o : maybe.Option ℕ) {v : Reply (Unit {0})} (e : number_in v ≡ first_of table) (q : v ≡ Ok tt) where
  pub settled-none :
      test tt ≡ true
      → settle (table ++ ((17, test) ∷ [])) (λ _. bind o (power_rating F f ts)) ≡ rating_found F f ts none
  unfolding rating_found
  settled-none h = settle-last table (17, test) _ e q h

  pub settled-some :
      {r : ℕ}
      → test tt ≡ false
      → o ≡ some r
      → settle (table ++ ((17, test) ∷ [])) (λ _. bind o (power_rating F f ts)) ≡ rating_found F f ts (some r)
  unfolding rating_found
  settled-some h k = settle_over table (17, test) _ e q h ∙ ap value_of (bind-some (power_rating F f ts) k)
