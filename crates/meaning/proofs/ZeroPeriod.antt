-- Row D of paper 01: a period of zeros has power 0 and the polynomial 1, with every accepted factor.
-- Assumes nothing.
use Prim.Native.Nat.{ℕ, zero, suc, ◌+◌, ◌-◌, ◌%◌, ◌≤◌, ◌<◌}
use native.Mathlib.Nat.{zero-mod, mul-zero, zero-mul}
use native.Mathlib.Omega.{arith}
use mathlib.Core.Path.{◌≡◌, refl, sym, ◌∙◌, ap, ap₂}
use mathlib.Core.Bool.{Bool, true, false, not, true≢false}
use mathlib.Core.List.{List, [], ◌∷◌}
use mathlib.Core.Option.{some}
use lib.ListN.{length, get_or, take, replicate, length-replicate}
use lib.Dec.{T, eqb}
use lib.Pow.{pow_pos}
use borrow.Author.Tests.{eq-eqb, ne_eqb, le-ltb, lt-ltb}
use Rattle.meaning.specs.declared.FieldName.{FieldName}
use Rattle.meaning.specs.Search.{range, holds_for_all, is_none, bind, map_option}
use Rattle.meaning.specs.Field.{Field, prime, is_element, are_elements, prime_in_range, is_prime}
use Rattle.meaning.specs.Field.{largest_prime}
use Rattle.meaning.specs.Extension.{bits, of_bits, times_y, reduced, binary}
use Rattle.meaning.specs.Polynomial.{Polynomial, plus, scale, times, power, degree, monic_multiple}
use Rattle.meaning.specs.Sequence.{act_at, periodic, annihilates_period}
use Rattle.meaning.specs.Result.{value_of, answered, Rated}
use Rattle.meaning.specs.Power.{PowerFigures, power_rating}
use Rattle.meaning.specs.Repeat.{repeats_every, shortest_period}
use Rattle.meaning.specs.Conditions.{not_prime, count_out_of_range, term_out_of_field}
use Rattle.meaning.specs.Conditions.{coefficient_out_of_range}
use Rattle.meaning.specs.Conditions.{factor_degree_out_of_range, lent_too_short, accepted_lent}
use Rattle.meaning.specs.FieldNames.{named_field, not_field}
use Rattle.meaning.specs.Portion.{accepted_factors, factor_table}
use Rattle.meaning.specs.Period.{period_power, period_table, period_answer, period_in, rate_period}
use Rattle.meaning.proofs.Tables.{settle-none, in_field_lem, holds_for_all-every, of_one, least_zero}
use Rattle.meaning.proofs.Tables.{least-one}
use Rattle.meaning.proofs.Passes.{Passes, ◌&◌, nothing, accepted-field, accepted-passes}

abbrev pub zeros : ℕ → List ℕ
zeros n = replicate n 0

zero-at : (n i : ℕ) → ◌≡◌ {A = ℕ} (get_or (zeros n) i 0) 0
zero-at zero i = refl
zero-at (suc n) zero = refl
zero-at (suc n) (suc i) = zero-at n i

-- GF(2^n): lists of zeros stay such under what a sum and a product of elements are made of
abbrev OfZeros : List ℕ → Type 0
OfZeros l = (k : ℕ) × (l ≡ zeros k)

zero_bits : (n : ℕ) → bits n 0 ≡ zeros n
unfolding bits
zero_bits zero = refl
zero_bits (suc n) = ap (◌∷◌ 0) (zero_bits n)

zeros-scaled : (c n : ℕ) → scale (prime 2) c (zeros n) ≡ zeros n
unfolding scale prime
zeros-scaled c zero = refl
zeros-scaled c (suc n) = rw (mul-zero c) (ap (◌∷◌ 0) (zeros-scaled c n))

scaled-zero : (l : List ℕ) → OfZeros (scale (prime 2) 0 l)
unfolding scale prime
scaled-zero [] = (0, refl)
scaled-zero (a ∷ l) = let (k, e) = scaled-zero l in (suc k, rw (zero-mul a) (ap (◌∷◌ 0) e))

zeros-added : (m n : ℕ) → OfZeros (plus (prime 2) (zeros m) (zeros n))
unfolding plus prime
zeros-added zero n = (n, refl)
zeros-added (suc m) zero = (suc m, refl)
zeros-added (suc m) (suc n) = let (k, e) = zeros-added m n in (suc k, ap (◌∷◌ 0) e)

zeros-multiplied : (f : Polynomial) (n : ℕ) → OfZeros (times (prime 2) f (zeros n))
unfolding times
zeros-multiplied [] n = (0, refl)
zeros-multiplied (a ∷ f) n =
    let (k, e) = zeros-multiplied f n in
    let (j, d) = zeros-added n (suc k) in
    (j, ap₂ (plus (prime 2)) (zeros-scaled a n) (ap (◌∷◌ 0) e) ∙ d)

zeros_taken : (m n : ℕ) → OfZeros (take m (zeros n))
zeros_taken zero n = (0, refl)
zeros_taken (suc m) zero = (0, refl)
zeros_taken (suc m) (suc n) = let (k, e) = zeros_taken m n in (suc k, ap (◌∷◌ 0) e)

zeros-reduced : (low : List ℕ) (n : ℕ) → OfZeros (reduced low (zeros n))
unfolding reduced times_y
zeros-reduced low zero = scaled-zero low
zeros-reduced low (suc n) =
    let (k, e) = zeros-reduced low n in
    let (i, t) = zeros_taken (length low - 1) k in
    let (m, z) = scaled-zero low in
    let (j, d) = zeros-added (suc i) m in
    let moved : List ℕ = 0 ∷ take (length low - 1) (zeros k) in (
      j,
      ap (times_y low 0) e
          ∙ ap (λ c. plus (prime 2) moved (scale (prime 2) c low)) (zero-at k _)
          ∙ ap₂ (plus (prime 2)) (ap (◌∷◌ 0) t) z
          ∙ d,
    )

zeros-number : (n : ℕ) → of_bits (zeros n) ≡ 0
unfolding of_bits
zeros-number zero = refl
zeros-number (suc n) = rw (zeros-number n) refl

number-zero : {l : List ℕ} → OfZeros l → of_bits l ≡ 0
number-zero (k, e) = ap of_bits e ∙ zeros-number k

binary-nothing : (d low : ℕ) → (binary d low).add ((binary d low).mul 1 0) 0 ≡ 0
unfolding binary
binary-nothing d low =
    let (k, e) = zeros-multiplied (bits d 1) d in
    let (j, r) = zeros-reduced (bits d low) k in
    let product : (binary d low).mul 1 0 ≡ 0 =
    number-zero (
      j,
      ap (λ l. reduced (bits d low) (times (prime 2) (bits d 1) l)) (zero_bits d)
          ∙ ap (reduced (bits d low)) e
          ∙ r,
    ) in
    let (m, s) = zeros-added d d in
    ap (λ a. (binary d low).add a 0) product
    ∙ number-zero (m, ap₂ (plus (prime 2)) (zero_bits d) (zero_bits d) ∙ s)

-- the action of the polynomial 1 on zeros
one_on_zeros :
    (name : FieldName) (n k : ℕ)
    → not_field name ≡ false
    → act_at (named_field name) (1 ∷ []) (periodic (zeros n)) k ≡ 0
unfolding act_at periodic prime named_field not_field
one_on_zeros (FieldName.Prime p) n k h = rw (zero-at n, zero-mod, zero-mod)
one_on_zeros (FieldName.Binary d low) n k h =
    ap (λ x. (binary d low).add ((binary d low).mul 1 x) 0) (zero-at n _) ∙ binary-nothing d low

pub power_zero :
    (name : FieldName) (f : Polynomial) (n : ℕ)
    → not_field name ≡ false
    → period_power (named_field name) f (zeros n) ≡ some 0
unfolding period_power annihilates_period power
power_zero name f n h = least_zero _ _ (holds_for_all-every _ (λ k. eq-eqb _ 0 (one_on_zeros name n k h)) _)

-- zeros repeat every term
zero-periodic : (n i : ℕ) → periodic (zeros n) i ≡ 0
unfolding periodic
zero-periodic n i = zero-at n (i % length (zeros n))

zeros_repeat : (n : ℕ) → repeats_every (zeros n) 1 ≡ true
unfolding repeats_every
zeros_repeat n =
    holds_for_all-every (λ i. eqb (periodic (zeros n) (i + 1)) (periodic (zeros n) i))
    (λ i. eq-eqb _ _ (zero-periodic n (i + 1) ∙ sym (zero-periodic n i)))
    (range 0 (length (zeros n)))

pub repeat_one : (n : ℕ) → 1 ≤ n → shortest_period (zeros n) ≡ some 1
unfolding shortest_period repeats_every
repeat_one zero l = absurd (omega arith)
repeat_one (suc n) l =
    least-one (length (zeros n)) (repeats_every (zeros (suc n))) refl (zeros_repeat (suc n))

-- 7 passes
pub count-passes : (n : ℕ) → 1 ≤ n → n ≤ 4096 → count_out_of_range (length (zeros n)) ≡ false
unfolding count_out_of_range
count-passes n l h = rw (length-replicate {A = ℕ} n 0, ne_eqb n 0 (omega arith), le-ltb 4096 n h)

-- 8 passes: 0 is an element
zeros-elements : (F : Field) (n : ℕ) → 0 < F.size → are_elements F (zeros n) ≡ true
unfolding are_elements holds_for_all is_element
zeros-elements F zero l = refl
zeros-elements F (suc n) l = rw (lt-ltb 0 F.size l, holds_for_all) (zeros-elements F n l)

pub terms_pass :
    (name : FieldName) (n : ℕ) → not_field name ≡ false → term_out_of_field (named_field name) (zeros n) ≡
    false
unfolding named_field not_field term_out_of_field not_prime prime_in_range is_prime largest_prime prime binary
terms_pass (FieldName.Prime zero) n h = absurd (true≢false h)
terms_pass (FieldName.Prime (suc p)) n h = rw (zeros-elements (prime (suc p)) n (omega arith))
terms_pass (FieldName.Binary d low) n h = rw (zeros-elements (binary d low) n (pow_pos d))

not_false_of : (b : Bool) → T (not b) → b ≡ false
not_false_of true h = absurd h
not_false_of false h = refl

-- nothing refuses a period of zeros
zeros-passes : (name : FieldName) (n : ℕ) (f : Polynomial) (answer work : ℕ)
    → T (accepted_factors name (f ∷ []) (1 ∷ []))
    → lent_too_short answer work ≡ false
    → 1 ≤ n
    → n ≤ 4096
    → Passes
    (period_table (named_field name) (factor_degree_out_of_range (named_field name) f)
    (coefficient_out_of_range (named_field name) f)
    (monic_multiple (named_field name) f) (zeros n) answer work)
unfolding period_table factor_table is_none
zeros-passes name n f answer work h a l m =
    let q = accepted-passes name (f ∷ []) (1 ∷ []) h in
    let exists = accepted-field name (f ∷ []) (1 ∷ []) h in
    count-passes n l m
    & terms_pass name n exists
    & of_one _ f q.degrees_in_range
    & of_one _ f q.coefficients_in_range
    & of_one _ (monic_multiple (named_field name) f) q.irreducible
    & a
    & ap is_none (power_zero name (monic_multiple (named_field name) f) n exists)
    & nothing

abbrev zero-rating : ℕ → Rated PowerFigures
zero-rating k = record { figures = record { power = 0; degree = 0; repeat = k }; polynomial = 1 ∷ [] }

pub zero-period : (name : FieldName) (n : ℕ) (f : Polynomial) (answer work : ℕ)
    → T (accepted_factors name (f ∷ []) (1 ∷ []))
    → T (accepted_lent answer work)
    → 1 ≤ n
    → n ≤ 4096
    → rate_period name f (zeros n) answer work
    ≡ answered (zero-rating 1)
unfolding rate_period period_in period_answer accepted_lent value_of bind power_rating map_option power degree
zero-period name n f answer work h a l m =
    let exists = accepted-field name (f ∷ []) (1 ∷ []) h in
    in_field_lem name _ exists
    ∙ settle-none _ _ (zeros-passes name n f answer work h (not_false_of _ a) l m).none_holds
    ∙ ap (λ o. value_of (bind o (power_rating (named_field name) (monic_multiple (named_field name) f)
    (zeros n))))
    (power_zero name (monic_multiple (named_field name) f) n exists)
    ∙ ap (λ o. value_of (map_option zero-rating o)) (repeat_one n l)
