-- Computed rows: factors and polynomials with any leading coefficient other than 0.
--
--   MultipleRows == the table: a field for each row      multiple-rows == every row holds
-- Assumes nothing.
use Prim.Native.Nat.{ℕ}
use mathlib.Core.Path.{◌≡◌, refl}
use mathlib.Core.Bool.{true, false}
use mathlib.Core.List.{List, [], ◌∷◌}
use lib.ListN.{replicate}
use Rattle.meaning.specs.Field.{prime}
use Rattle.meaning.specs.Polynomial.{Polynomial, monic_multiple}
use Rattle.meaning.specs.Result.{Result, refused, answered, Rated, answer_after, work_after}
use Rattle.meaning.specs.Power.{PowerFigures}
use Rattle.meaning.specs.Period.{rate_period}
use Rattle.meaning.specs.Portion.{rate_set, accepted_factors}
use Rattle.meaning.specs.Continuation.{continue_sequence}
use Rattle.meaning.specs.Irreducibility.{ask_irreducible}
use Rattle.meaning.proofs.Computed.{GF, computed}
use Rattle.meaning.proofs.Rows.{power_answer, set_answer}

-- the terms of row E, and the period way on them over GF(3)
abbrev row-E : Polynomial → Result (Rated PowerFigures)
row-E f = rate_period (GF 3) f (0 ∷ 1 ∷ 2 ∷ []) 4097 8192

-- over GF(3) the continuation of the starting terms by f, from place 1 of a buffer of five bytes
abbrev continued : Polynomial → List ℕ → Result (List ℕ)
continued f start = continue_sequence (GF 3) f start 1 (9 ∷ 9 ∷ 9 ∷ 9 ∷ 9 ∷ [])

pub record MultipleRows : Type 0 where
  -- the monic multiple
  pub twice : monic_multiple (prime 3) (1 ∷ 2 ∷ []) ≡ 2 ∷ 1 ∷ []
  pub itself : monic_multiple (prime 3) (2 ∷ 1 ∷ []) ≡ 2 ∷ 1 ∷ []
  pub largest : monic_multiple (prime 251) (7 ∷ 250 ∷ []) ≡ 244 ∷ 1 ∷ []
  pub constant : monic_multiple (prime 5) (3 ∷ []) ≡ 1 ∷ []
  pub leading_zero : monic_multiple (prime 3) (1 ∷ 0 ∷ []) ≡ []
  pub empty : monic_multiple (prime 3) [] ≡ []
  -- row E with the factor 2x + 1, twice x + 2; 2x is x
  pub E : row-E (1 ∷ 2 ∷ []) ≡ power_answer 2 2 3 (1 ∷ 1 ∷ 1 ∷ [])
  pub x : row-E (0 ∷ 2 ∷ []) ≡ refused 17
  pub x_on_zeros : rate_period (GF 3) (0 ∷ 2 ∷ []) (0 ∷ 0 ∷ []) 4097 8192 ≡ power_answer 0 0 1 (1 ∷ [])
  -- 11 of the list as it is given, in its place after 10
  pub zero_leading : row-E (1 ∷ 0 ∷ []) ≡ refused 11
  pub leading_p : row-E (1 ∷ 3 ∷ []) ≡ refused 11
  pub above_p : row-E (1 ∷ 4 ∷ []) ≡ refused 11
  pub empty_list : row-E [] ≡ refused 11
  pub degree_first : row-E (0 ∷ []) ≡ refused 10
  pub degree_first_two : row-E (2 ∷ []) ≡ refused 10
  -- 11 leaves all lent bytes
  pub answer_kept : answer_after (row-E (1 ∷ 0 ∷ [])) (5 ∷ 6 ∷ []) ≡ 5 ∷ 6 ∷ []
  pub work-kept : work_after (row-E (1 ∷ 0 ∷ [])) (5 ∷ 6 ∷ []) ≡ 5 ∷ 6 ∷ []
  -- row J over GF(3) with 2x: it does not repeat, as with x
  pub J : rate_set (GF 3) ((0 ∷ 2 ∷ []) ∷ []) (3 ∷ []) (1 ∷ 1 ∷ 0 ∷ []) 4097 8192
      ≡ set_answer (2 ∷ []) 2 0 (0 ∷ 0 ∷ 1 ∷ [])
  pub single_seventeen : rate_set (GF 3) ((1 ∷ 2 ∷ []) ∷ []) (1 ∷ []) (1 ∷ 0 ∷ []) 4097 8192 ≡ refused 17
  pub single_leading_zero : rate_set (GF 3) ((1 ∷ 0 ∷ []) ∷ []) (1 ∷ []) (1 ∷ 0 ∷ []) 4097 8192 ≡ refused 11
  -- 2x + 2 and 2x + 1; equal are multiples of one another, whatever their upper powers
  pub both : rate_set (GF 3) ((2 ∷ 2 ∷ []) ∷ (1 ∷ 2 ∷ []) ∷ []) (1 ∷ 1 ∷ []) (0 ∷ 1 ∷ 0 ∷ []) 4097 8192
      ≡ set_answer (1 ∷ 1 ∷ []) 2 2 (2 ∷ 0 ∷ 1 ∷ [])
  pub equal : rate_set (GF 3) ((1 ∷ 1 ∷ []) ∷ (2 ∷ 2 ∷ []) ∷ []) (1 ∷ 2 ∷ []) (0 ∷ 1 ∷ 1 ∷ []) 4097 8192
      ≡ refused 13
  pub reducible : rate_set (GF 3) ((2 ∷ 2 ∷ []) ∷ (1 ∷ 0 ∷ 2 ∷ []) ∷ []) (1 ∷ 1 ∷ []) (0 ∷ 1 ∷ 1 ∷ []) 4097
      8192
      ≡ refused 12
  pub zero_among : rate_set (GF 3) ((1 ∷ 0 ∷ 2 ∷ []) ∷ (1 ∷ 0 ∷ []) ∷ []) (1 ∷ 1 ∷ []) (0 ∷ 1 ∷ 1 ∷ []) 4097
      8192
      ≡ refused 11
  pub accepted : accepted_factors (GF 3) ((2 ∷ 2 ∷ []) ∷ (1 ∷ 2 ∷ []) ∷ []) (1 ∷ 1 ∷ []) ≡ true
  pub not_accepted : accepted_factors (GF 3) ((1 ∷ 1 ∷ []) ∷ (2 ∷ 2 ∷ []) ∷ []) (1 ∷ 1 ∷ []) ≡ false
  -- 2x² + 2 and 2x² + 1
  pub irreducible : ask_irreducible (GF 3) (2 ∷ 0 ∷ 2 ∷ []) ≡ answered true
  pub has_factors : ask_irreducible (GF 3) (1 ∷ 0 ∷ 2 ∷ []) ≡ answered false
  pub of_degree_one : ask_irreducible (GF 251) (0 ∷ 250 ∷ []) ≡ answered true
  pub asked_leading_zero : ask_irreducible (GF 3) (1 ∷ 0 ∷ []) ≡ refused 11
  pub asked_leading_p : ask_irreducible (GF 3) (1 ∷ 3 ∷ []) ≡ refused 11
  -- the continuation: 2x² + 1, twice x² + 2; any constant but 0 fills zeros
  pub continues : continued (1 ∷ 0 ∷ 2 ∷ []) (1 ∷ 2 ∷ []) ≡ answered (9 ∷ 1 ∷ 2 ∷ 1 ∷ 2 ∷ [])
  pub continues_constant : continued (2 ∷ []) [] ≡ answered (9 ∷ 0 ∷ 0 ∷ 0 ∷ 0 ∷ [])
  pub continues_zero : continued (0 ∷ []) [] ≡ refused 11
  pub continues_empty : continued [] [] ≡ refused 11
  pub continues_leading_p : continued (1 ∷ 3 ∷ []) (1 ∷ []) ≡ refused 11
  pub eleven_before_fifteen : continued (1 ∷ 0 ∷ []) [] ≡ refused 11
  -- no multiple is looked for where an earlier condition holds
  pub seven_first : rate_period (GF 251) (replicate 40 5) (replicate 4097 0) 4097 8192 ≡ refused 7
  pub ten_first : rate_period (GF 251) (replicate 40 5) (replicate 3 0) 4097 8192 ≡ refused 10

pub multiple-rows : MultipleRows
unfolding computed
multiple-rows =
    record {
      twice = refl;
      itself = refl;
      largest = refl;
      constant = refl;
      leading_zero = refl;
      empty = refl;
      E = refl;
      x = refl;
      x_on_zeros = refl;
      zero_leading = refl;
      leading_p = refl;
      above_p = refl;
      empty_list = refl;
      degree_first = refl;
      degree_first_two = refl;
      answer_kept = refl;
      work-kept = refl;
      J = refl;
      single_seventeen = refl;
      single_leading_zero = refl;
      both = refl;
      equal = refl;
      reducible = refl;
      zero_among = refl;
      accepted = refl;
      not_accepted = refl;
      irreducible = refl;
      has_factors = refl;
      of_degree_one = refl;
      asked_leading_zero = refl;
      asked_leading_p = refl;
      continues = refl;
      continues_constant = refl;
      continues_zero = refl;
      continues_empty = refl;
      continues_leading_p = refl;
      eleven_before_fifteen = refl;
      seven_first = refl;
      ten_first = refl;
    }
