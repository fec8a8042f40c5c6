-- 19 on a short period. No entry of the catalogue has a power that annihilates 0, 0, 1, 0, 0, 1, … over
-- GF(2): the minimal polynomial is x³ + 1, the product of x + 1 and x² + x + 1. The laws say so, and the
-- catalogue is not tried: 2 does not divide the 3 terms, so an entry with a power annihilates the sequence
-- itself; then its degree is at most 3, and so its number is less than 16; and of these numbers none is of an
-- irreducible polynomial that annihilates it.
--
--   no_entry          == no entry has a power
--   nineteen_instance == whatever meets the contract of the search on this period, with enough work bytes, is
--                        the refusal by 19
-- Assumes nothing.
use Prim.Native.Nat.{ℕ, suc, ◌^◌, ◌*◌, ◌%◌, ◌≤◌, ◌<◌}
use native.Mathlib.Nat.{le_trans, pow-le-pow_right}
use native.Mathlib.Omega.{arith}
use mathlib.Core.Path.{◌≡◌, refl, sym, subst, ◌∙◌}
use mathlib.Core.Logic.{inl, inr, ◌≢◌}
use mathlib.Core.Bool.{Bool, not, ◌&&◌}
use mathlib.Core.List.{List, [], ◌∷◌}
use lib.ListN.{length}
use lib.Dec.{T, T_not}
use Rattle.meaning.specs.Answers.{Reply, told}
use Rattle.std.specs.Prelude.{Err}
use Rattle.meaning.specs.declared.EntryRating.{EntryRating}
use Rattle.meaning.specs.declared.Refusal.TheVariants.{NoEntry}
use Rattle.meaning.specs.Search.{range, holds_for_all}
use Rattle.meaning.specs.Field.{are_elements}
use Rattle.meaning.specs.Polynomial.{Polynomial, degree, is_monic_over, power, irreducible}
use Rattle.meaning.specs.Sequence.{periodic, annihilates_period, AnnihilatesEndless}
use Rattle.meaning.specs.Conditions.{count_out_of_range, term_out_of_field}
use Rattle.meaning.specs.Period.{NoPower}
use Rattle.meaning.specs.Catalogue.{entry_polynomial}
use Rattle.meaning.specs.Answers.{number_of, told_entry}
use Rattle.meaning.specs.Calls.{EntryCall}
use Rattle.meaning.proofs.Computed.{computed}
use Rattle.bridge.proofs.Basics.Searches.{all-range, and_T}
use Rattle.bridge.proofs.Lists.Polynomials.{monic-nonempty, monic-elements, degree-length}
use Rattle.bridge.proofs.Basics.Interpretation.{prime-size}
use Rattle.bridge.proofs.Binary.Words.{Below, elements-below, value-below}
use Rattle.bridge.proofs.Binary.Bits.{binary-is_field}
use Rattle.bridge.proofs.Binary.Catalogue.{Listed, entry-monic, entry-positive, entry-number}
use Rattle.bridge.proofs.Sequences.KnownActions.{all_zero}
use Rattle.bridge.proofs.Ways.Periods.{period-whole, period-size}
use Rattle.theorems.specs.Answering.{FirstThatHolds}
use Rattle.theorems.specs.Catalogue.{GF2, Entry, search_conditions}
use Rattle.theorems.proofs.Catalogue.{entry_listed, search_answers}

abbrev pub period : List ℕ
period = 0 ∷ 0 ∷ 1 ∷ []

-- the polynomial of n is irreducible and annihilates the period
fits : ℕ → Bool
fits n =
    irreducible GF2 (entry_polynomial n)
    && annihilates_period GF2 (power GF2 (entry_polynomial n) (GF2.characteristic ^ 0)) period

none-fits : T (holds_for_all (λ n. not (fits n)) (range 2 14))
unfolding computed fits
none-fits = tt

-- what is computed of the period
three-odd : length period ≡ GF2.characteristic ^ 0 * 3
unfolding computed
three-odd = refl

not_divided : 3 % GF2.characteristic ≢ 0
unfolding computed
not_divided e = omega arith

in_field_lem : T (are_elements GF2 period)
unfolding computed
in_field_lem = tt

-- not all of it is zero
not-zero : ¬ T (all_zero period)
unfolding computed all_zero
not-zero h = h

module _ {n : ℕ} (x : Listed n) (e : ℕ)
    (z : AnnihilatesEndless GF2 (power GF2 (entry_polynomial n) e) (periodic period)) where
  abbrev f : Polynomial
  f = entry_polynomial n

  monic : T (is_monic_over GF2 f)
  monic = entry-monic n x.at_least x.less

  positive : 1 ≤ degree f
  positive = entry-positive n x.at_least x.less

  itself : T (annihilates_period GF2 (power GF2 f (GF2.characteristic ^ 0)) period)
  itself =
      period-whole binary-is_field f monic positive x.irreducibility period (omega arith) 0 3 three-odd
      not_divided e z

  small : degree f ≤ 3
  unfolding computed
  small =
      let l : GF2.characteristic ^ 0 * degree f ≤ 3 =
      period-size binary-is_field f monic positive x.irreducibility period (omega arith) 0 3 three-odd
      not_divided in_field_lem not-zero itself in
      omega (arith, l)

  below-16 : n < 16
  below-16 =
      let size : length f ≡ suc (degree f) = degree-length f (monic-nonempty GF2 f monic) in
      let digits : Below 2 f =
      subst (λ q. Below q f) (prime-size 2) (elements-below GF2 f (monic-elements GF2 f monic)) in
      let few : length f ≤ 4 = omega (arith, size, small) in
      subst (λ m. m < 16) (entry-number n x.at_least x.less)
      (le_trans (value-below digits) (pow-le-pow_right {n = 2} (omega arith) few))

  contradiction : ⊥
  unfolding fits
  contradiction =
      T_not (fits n)
      (all-range (λ n. not (fits n)) 2 14 none-fits n x.at_least (omega (arith, below-16)))
      (and_T (irreducible GF2 f) _ x.irreducibility itself)

pub no_entry : (n : ℕ) → Entry n → NoPower GF2 (entry_polynomial n) period
no_entry n y e z = contradiction (entry_listed y) e z

-- 7, 8 and 16 do not hold
counted : T (count_out_of_range (length period)) → ⊥
unfolding computed
counted h = h

all-elements : T (term_out_of_field GF2 period) → ⊥
unfolding computed
all-elements h = h

pub nineteen_instance : (work : List ℕ) → 8192 ≤ length work → (r : Reply EntryRating) (work' : List ℕ)
    → EntryCall period work r work'
    → r ≡ Err NoEntry
unfolding told_entry number_of told
nineteen_instance work room r work' c =
    let first : FirstThatHolds 19 (search_conditions period (length work)) =
    inr (counted, inr (all-elements, inr (λ l. absurd (omega arith), inl (refl, no_entry)))) in
    let answers = search_answers period work in
    let told = ((answers.each r work' c).decided.refuses 19).1 first in
    (answers.one r (Err NoEntry) work' work' c
    (record { finding = sym told ∙ c.finding; work_bytes = c.work_bytes })).0
