-- The set way, by its verdict, the powers that are found and the product that is written.
--
--   refused_call     == a refusal by its number, and no powers
--   set_refused      == the monic multiples are refused by one of the conditions 12 to 16
--   set-lent, set-input == what an accepted call may hand on
--   set-seventeen    == refused by 17
--   set-powers-eight, set-powers-input, set-powered == the powers that are found stand in eight places, can
--                       be written as a product, and tell the repeat length
--   set-rated        == rated
-- Assumes nothing.
use Prim.Native.Nat.{ℕ, ◌≤◌}
use mathlib.Core.Path.{◌≡◌, refl, sym, ap, subst, ◌∙◌}
use mathlib.Core.Bool.{Bool, true, false, not}
use mathlib.Core.List.{List}
use mathlib.Core.Option as maybe
use mathlib.Core.Option.{some, none, none-ne-some, some-injective}
use Rattle.std.specs.Prelude.{Ok, Err, Option, Some, None}
use lib.ListN.{length}
use Rattle.meaning.specs.declared.Refusal.{Refusal}
use Rattle.meaning.specs.Search.{holds_for_some, map_option}
use Rattle.meaning.specs.Field.{Field}
use Rattle.meaning.specs.Polynomial.{Polynomial, degree, product}
use Rattle.meaning.specs.Sequence.{annihilates_known}
use Rattle.meaning.specs.Conditions.{named, total_degree}
use Rattle.meaning.specs.Result.{Result, refused, answered, map_result, first_of, value_of, Rated, figures_of}
use Rattle.meaning.specs.Result.{written, cleared, clearing, clears}
use Rattle.meaning.specs.RepeatLength.{repeat_length}
use Rattle.meaning.specs.Portion.{SetFigures, factors_of, set_powers, onward, set_rating, set_answer}
use Rattle.meaning.specs.Answers.{number_of, told, told_set, set_figures_told, padded, set_padded}
use Rattle.meaning.specs.Answers.{set_places, Reply}
use Rattle.meaning.specs.Calls.{LentAfter}
use Rattle.meaning.proofs.Passes.{Passes}
use Rattle.bridge.proofs.Basics.Searches.{map_option-some}
use Rattle.bridge.proofs.Basics.Interpretation.{IsField}
use Rattle.bridge.proofs.Ways.Accepted.{count-accepted, terms-accepted, enough-accepted, lent-enough}
use Rattle.bridge.proofs.Lists.Products.{monics-nonempty, factors_of-named}
use Rattle.bridge.proofs.Lists.Irreducibles.{Factors, accepted-factors}
use Rattle.bridge.proofs.Ways.Portions.{set_powers_exists}
use Rattle.bridge.proofs.Sequences.CommonOrders.{repeat_by_orders}
use Rattle.bridge.proofs.Sequences.RepeatLengths.{set-repeat_length}
use Rattle.arith.specs.declared.field.GaloisField.{GaloisField}
use Rattle.arith.specs.Represented.{field_of}
use Rattle.refusals.specs.Verdicts.{number_in, multiples_table, powers_table, lent_table, set_rest}
use Rattle.refusals.specs.Verdicts.{set_checks}
use Rattle.refusals.proofs.Settled.{verdict_passes, settle-early, settle-last, settle_over, set_last}
use Rattle.refusals.proofs.Ways.{set_rest_lem}
use Rattle.powers.specs.product.Writing.{ProductInput, ProductWritten}
use Rattle.set_way.specs.actions.SetActions.{SetInput}
use Rattle.set_way.specs.SetWay.{powers_found, told_powers}
use Rattle.set_way.proofs.actions.Inputs.{input-monics}
use Rattle.set_way.proofs.Sizes.{set-count, set-eight, set-product, named-padded}
use Rattle.refusals.proofs.Lent.{clearing_in, never-clears, lent_refused, lent-seventeen, lent-rated}
use Rattle.repeat.specs.Factors.{PoweredFactors}
use Rattle.rate_set.specs.Ratings.{Checked, SetRatedAs}
use Rattle.rate_set.proofs.Powered.{product-powered, checked_few, accepted-lengths, factors-suited}

-- A refusal tells its number and no powers.
pub refused_call :
    {result : Result (Rated SetFigures)} {answer work answer' work' : List ℕ} {x : Refusal}
    → result ≡ refused (number_of x)
    → LentAfter result answer work answer' work'
    → SetRatedAs result answer work (Err x) answer' work'
unfolding told_set told set_places map_result figures_of set_padded padded
refused_call e l =
    record {
      rating = ap (λ (r : Result (Rated SetFigures)). map_result set_figures_told (figures_of r)) (sym e);
      powers = ap (λ (r : Result (Rated SetFigures)). set_padded (figures_of r)) (sym e);
      lent = l;
    }

-- The answer with the powers rs, when the polynomial is written from them as they stand in eight places.
answer-polynomial :
    (F : Field) (fs : List Polynomial) (us rs : List ℕ)
    → length rs ≡ length fs
    → product F (named fs (padded rs)) ≡ product F (named (factors_of (named fs us)) rs)
answer-polynomial F fs us rs size =
    ap (product F) (named-padded fs rs size)
    ∙ ap (λ gs. product F (named gs rs)) (sym (factors_of-named fs us))

rated_call :
    {result : Result (Rated SetFigures)} {fs : List Polynomial} (us ts : List ℕ) {answer work : List ℕ}
    {F : Field}
    (rs : List ℕ)
    {powers answer' work' : List ℕ} {n b k : ℕ}
    → length rs ≡ length fs
    → result ≡ answered (set_rating F (named fs us) ts rs)
    → b ≡ repeat_length (product F (named (factors_of (named fs us)) rs)) (onward F (named fs us) ts)
    → powers ≡ padded rs
    → k ≡ length fs
    → ProductWritten F fs (padded rs) answer answer' n
    → work' ≡ cleared work
    → SetRatedAs result answer work
    (Ok (record { degree = n; repeat = b; count = k; powers = powers })) answer' work'
unfolding told_set told set_places set_figures_told map_result figures_of set_padded set_rating
rated_call {fs = fs} us ts {answer = answer} {F = F} rs {n = n} {b = b} size e j i k y w =
    let g = answer-polynomial F fs us rs size in
    record {
      rating =
          ap (λ c. answered (record { degree = n; repeat = b; count = c })) (k ∙ sym size)
          ∙ ap (λ d. answered (record { degree = d; repeat = b; count = length rs }))
          (y.new_degree ∙ ap degree g)
          ∙ ap (λ m. answered (record {
            degree = degree (product F (named (factors_of (named fs us)) rs));
            repeat = m;
            count = length rs;
          })) j
          ∙ ap (λ (r : Result (Rated SetFigures)). map_result set_figures_told (figures_of r)) (sym e);
      powers = i ∙ ap (λ (r : Result (Rated SetFigures)). set_padded (figures_of r)) (sym e);
      lent = lent-rated e (y.answer ∙ ap (λ h. written h answer) g) w;
    }

-- what the search answers
module _ (F : Field) (l : List (Polynomial × ℕ)) (ts : List ℕ) {found : Option (List ℕ)}
    (y : told_powers found ≡ map_option padded (powers_found F l ts)) where
  powers_told :
      {powers : List ℕ}
      → found ≡ Some powers
      → (rs : List ℕ)
      × (annihilates_known F (product F l) ts ≡ true)
      × (set_powers F l ts ≡ some rs)
      × (powers ≡ padded rs)
  unfolding told_powers map_option powers_found
  powers_told {powers} n = go (annihilates_known F (product F l) ts) refl (set_powers F l ts) refl
    where
      told : some powers ≡ map_option padded (powers_found F l ts)
      told = sym (ap told_powers n) ∙ y

      go : (b : Bool)
          → annihilates_known F (product F l) ts ≡ b
          → (o : maybe.Option (List ℕ))
          → set_powers F l ts ≡ o
          → (rs : List ℕ)
          × (annihilates_known F (product F l) ts ≡ true)
          × (set_powers F l ts ≡ some rs)
          × (powers ≡ padded rs)
      go false e o s = absurd (none-ne-some _ (sym (rw (e, powers_found, map_option) at told)))
      go true e none s = absurd (none-ne-some _ (sym (rw (e, s, powers_found, map_option) at told)))
      go true e (some rs) s =
          (rs, e, s, some-injective powers (padded rs) (rw (e, s, powers_found, map_option) at told))

  nothing_told : found ≡ None → {rs : List ℕ} → set_powers F l ts ≡ some rs
      → annihilates_known F (product F l) ts ≡ false
  unfolding told_powers map_option powers_found
  nothing_told n {rs} s = go (annihilates_known F (product F l) ts) refl
    where
      told : none ≡ map_option padded (powers_found F l ts)
      told = sym (ap told_powers n) ∙ y

      go : (b : Bool) → annihilates_known F (product F l) ts ≡ b
          → annihilates_known F (product F l) ts ≡ false
      go false e = e
      go true e = absurd (none-ne-some _ (rw (e, s, powers_found, map_option) at told))

none-clears :
    (F : Field) (fs : List Polynomial) (us ts : List ℕ) (answer work : ℕ)
    → clearing_in (set_rest F fs us ts answer work) ≡ false
unfolding set_rest multiples_table powers_table lent_table holds_for_some clears clearing
none-clears F fs us ts answer work = refl

module _ (F : Field) (fs : List Polynomial) (us ts : List ℕ) (answer work : ℕ) (m : Checked F fs ts) where
  -- the result with the monic multiples
  abbrev result : Result (Rated SetFigures)
  result = set_answer F false false (named fs us) ts answer work

  rest_decides : first_of (set_rest F fs us ts answer work) ≡ first_of (set_checks F fs us ts answer work)
  rest_decides =
      sym
      (set_rest_lem F ts answer work m.count_in_range m.terms_in_field fs us m.factor_count)

  module _ {v : Reply (Unit {0})} (k : number_in v ≡ first_of (set_rest F fs us ts answer work)) where
    set-early : {x : Refusal} → v ≡ Err x → result ≡ refused (number_of x)
    unfolding set_answer
    set-early q = rw (set_last F ts answer work fs us) (settle-early _ _ _ (k ∙ rest_decides) q)

    module _ (q : v ≡ Ok tt) where
      passes : Passes (set_rest F fs us ts answer work)
      passes = verdict_passes _ k q

      pub set-lent : (4097 ≤ answer) × (8192 ≤ work)
      unfolding set_rest multiples_table powers_table lent_table
      set-lent = lent-enough answer work passes.lent_enough

      pub set-input : SetInput F fs us ts
      unfolding set_rest multiples_table powers_table lent_table
      set-input =
          record {
            factors =
                accepted-factors F fs m.degrees_in_range m.monic passes.irreducible
                passes.different;
            short = accepted-lengths m;
            eight = checked_few m;
            uppers = passes.uppers_in_range;
            enough = enough-accepted (total_degree (named fs us)) ts passes.enough_terms;
            in_field = terms-accepted F ts m.terms_in_field;
            not_many = (count-accepted (length ts) m.count_in_range).1;
          }

      not-annihilated :
          annihilates_known F (product F (named fs us)) ts ≡ false
          → result ≡ refused 17
      unfolding set_answer
      not-annihilated h =
          rw (set_last F ts answer work fs us) (settle-last _ _ _ (k ∙ rest_decides) q (ap not h))

      annihilated :
          (rs : List ℕ)
          → annihilates_known F (product F (named fs us)) ts ≡ true
          → set_powers F (named fs us) ts ≡ some rs
          → result ≡ answered (set_rating F (named fs us) ts rs)
      unfolding set_answer value_of
      annihilated rs h i =
          rw (set_last F ts answer work fs us)
          (settle_over _ _ _ (k ∙ rest_decides) q (ap not h)
          ∙ ap value_of (map_option-some (set_rating F (named fs us) ts) i))

      powers_exist : IsField F → (rs : List ℕ) × (set_powers F (named fs us) ts ≡ some rs)
      powers_exist I =
          set_powers_exists I (named fs us) (monics-nonempty F (named fs us) (input-monics set-input)) ts

      module _ (I : IsField F) {found : Option (List ℕ)}
          (y : told_powers found ≡ map_option padded (powers_found F (named fs us) ts)) where
        pub set-powers-eight : {powers : List ℕ} → found ≡ Some powers → 8 ≡ length powers
        set-powers-eight n =
            let (rs, _, s, i) = powers_told F (named fs us) ts y n in
            sym (ap length i ∙ set-eight I set-input s)

        pub set-powers-input : {powers : List ℕ} → found ≡ Some powers → ProductInput F fs powers
        set-powers-input n =
            let (rs, _, s, i) = powers_told F (named fs us) ts y n in
            subst (ProductInput F fs) (sym i) (set-product I set-input s)

module _ (F : Field) (fs : List Polynomial) (us ts answer work : List ℕ) (m : Checked F fs ts)
    {v : Reply (Unit {0})} (e : number_in v ≡ first_of (set_rest F fs us ts (length answer)
    (length work))) where
  pub set_refused :
      {x : Refusal}
      → v ≡ Err x
      → SetRatedAs (set_answer F false false (named fs us) ts (length answer) (length work)) answer work
      (Err x)
      answer work
  set_refused q =
      let k = set-early F fs us ts (length answer) (length work) m e q in
      refused_call k
      (lent_refused k (never-clears _ (none-clears F fs us ts (length answer) (length work)) e q))

  input : v ≡ Ok tt → SetInput F fs us ts
  input q = set-input F fs us ts (length answer) (length work) m e q

  module _ (q : v ≡ Ok tt) (I : IsField F) {found : Option (List ℕ)} {work' : List ℕ}
      (y : told_powers found ≡ map_option padded (powers_found F (named fs us) ts))
      (w : work' ≡ cleared work) where
    pub set-seventeen :
        found ≡ None
        → SetRatedAs (set_answer F false false (named fs us) ts (length answer) (length work)) answer work
        (Err Refusal.NotAnnihilated) answer work'
    unfolding number_of
    set-seventeen n =
        let (rs, s) = powers_exist F fs us ts (length answer) (length work) m e q I in
        let tried = nothing_told F (named fs us) ts y n s in
        let k = not-annihilated F fs us ts (length answer) (length work) m e q tried in
        refused_call k (lent-seventeen k w)

    pub set-rated :
        {powers answer' : List ℕ} {d r k : ℕ}
        → found ≡ Some powers
        → k ≡ length fs
        → ProductWritten F fs powers answer answer' d
        → r ≡ repeat_by_orders F (named fs powers)
        → SetRatedAs (set_answer F false false (named fs us) ts (length answer) (length work)) answer work
        (Ok (record { degree = d; repeat = r; count = k; powers = powers })) answer' work'
    set-rated {powers} {answer'} {d} n k z j =
        let (rs, tried, s, i) = powers_told F (named fs us) ts y n in
        let size = set-count I (input q) s in
        let factors = subst (Factors F) (sym (factors_of-named fs us)) (input q).factors in
        let repeat =
        j
        ∙ ap (λ l. repeat_by_orders F (named fs l)) i
        ∙ ap (repeat_by_orders F) (named-padded fs rs size)
        ∙ ap (λ (gs : List Polynomial). repeat_by_orders F (named gs rs)) (sym (factors_of-named fs us))
        ∙ sym (set-repeat_length I (named fs us) factors ts (input q).in_field (input q).enough s) in
        rated_call us ts rs
        size
        (annihilated F fs us ts (length answer) (length work) m e q rs tried s)
        repeat
        i
        k
        (subst (λ l. ProductWritten F fs l answer answer' d) i z)
        w

-- over the field as the code has it, what the repeat length asks
pub set-powered :
    (field : GaloisField) {fs : List Polynomial} {us ts powers : List ℕ}
    → Checked (field_of field) fs ts
    → SetInput (field_of field) fs us ts
    → ProductInput (field_of field) fs powers
    → PoweredFactors (field_of field) fs powers
set-powered field m x y = product-powered y (factors-suited field m x.factors)
