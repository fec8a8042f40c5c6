-- Computed rows: the boundaries of paper 01, tried on both sides. `none` stands where nothing is refused.
--
--   Boundaries == the table: a field for each row      boundaries == every row holds
-- Assumes nothing.
use Prim.Native.Nat.{ℕ, ◌^◌, ◌-◌}
use mathlib.Core.Path.{◌≡◌, refl}
use mathlib.Core.Bool.{true, false}
use mathlib.Core.List.{List, [], ◌∷◌, ◌++◌}
use mathlib.Core.Option.{Option, none, some}
use lib.ListN.{replicate}
use Rattle.meaning.specs.Field.{prime_in_range}
use Rattle.meaning.specs.Polynomial.{Polynomial}
use Rattle.meaning.specs.Result.{answered, figures_of}
use Rattle.meaning.specs.Period.{rate_period}
use Rattle.meaning.specs.Portion.{rate_set}
use Rattle.meaning.specs.Free.{rate_free}
use Rattle.meaning.specs.Continuation.{continue_sequence}
use Rattle.meaning.specs.Irreducibility.{ask_irreducible}
use Rattle.meaning.specs.Route.{box_of}
use Rattle.meaning.specs.File.{rate_file}
use Rattle.meaning.proofs.Computed.{GF, computed}
use Rattle.meaning.proofs.Rows.{number_in, set_answer, box, field, mode, factor, term, end, x+1, x²+x+1}

-- a list of degree d whose leading coefficient is 0: it meets 11 where 10 lets its degree pass
abbrev of_degree : ℕ → Polynomial
of_degree d = 1 ∷ replicate d 0

abbrev ask : ℕ → Polynomial → Option ℕ
ask p f = number_in (ask_irreducible (GF p) f)

abbrev period : ℕ → List ℕ → Option ℕ
period p ts = number_in (rate_period (GF p) x+1 ts 4097 8192)

abbrev portion : Polynomial → ℕ → List ℕ → Option ℕ
portion f v ts = number_in (rate_set (GF 2) (f ∷ []) (v ∷ []) ts 4097 8192)

abbrev continued : Polynomial → List ℕ → ℕ → ℕ → Option ℕ
continued g start place size = number_in (continue_sequence (GF 2) g start place (replicate size 0))

abbrev of_file : List ℕ → Option ℕ
of_file file = number_in (rate_file file 4097 8192)

-- a file whose header names the field GF(2) and the mode m
abbrev headed : ℕ → List ℕ → List ℕ
headed m rest = box 7 ++ (field 2 ++ (mode m ++ rest))

-- eight different factors of degree 1 over GF(11), each with upper power 1
abbrev eight : List ℕ
eight =
    factor 1 1 (0 ∷ [])
    ++ (factor 1 1 (1 ∷ [])
    ++ (factor 1 1 (2 ∷ [])
    ++ (factor 1 1 (3 ∷ [])
    ++ (factor 1 1 (4 ∷ []) ++ (factor 1 1 (5 ∷ []) ++ (factor 1 1 (6 ∷ []) ++ factor 1 1 (7 ∷ [])))))))

pub record Boundaries : Type 0 where
  -- 6: the primes from 2 to 251
  pub prime0 : prime_in_range 0 ≡ false
  pub prime1 : prime_in_range 1 ≡ false
  pub prime2 : prime_in_range 2 ≡ true
  pub prime3 : prime_in_range 3 ≡ true
  pub prime4 : prime_in_range 4 ≡ false
  pub prime241 : prime_in_range 241 ≡ true
  pub prime247 : prime_in_range 247 ≡ false
  pub prime249 : prime_in_range 249 ≡ false
  pub prime251 : prime_in_range 251 ≡ true
  pub prime253 : prime_in_range 253 ≡ false
  pub prime257 : prime_in_range 257 ≡ false
  pub prime_huge : prime_in_range (2 ^ 64 - 1) ≡ false
  pub p251 : period 251 (251 ∷ []) ≡ some 8
  pub p253 : period 253 (253 ∷ []) ≡ some 6
  -- 7 and 8: 1 to 4,096 terms, each below p; that a number of terms passes shows in reaching 8
  pub no_terms : period 2 [] ≡ some 7
  pub one_term : period 2 (2 ∷ []) ≡ some 8
  pub terms4096 : period 2 (replicate 4096 2) ≡ some 8
  pub terms4097 : period 2 (replicate 4097 2) ≡ some 7
  pub largest_term : period 251 (250 ∷ []) ≡ some 17
  pub term_equal : period 251 (251 ∷ []) ≡ some 8
  pub last_term_equal : period 251 (250 ∷ 251 ∷ []) ≡ some 8
  pub free_term_below : number_in (rate_free (GF 3) (2 ∷ []) 4097 8192) ≡ none
  pub free_term_equal : number_in (rate_free (GF 3) (3 ∷ []) 4097 8192) ≡ some 8
  -- 9: one to eight factors; that their number passes shows in reaching 10
  pub no_factor : number_in (rate_set (GF 2) [] [] (0 ∷ []) 4097 8192) ≡ some 9
  pub eight_factors : number_in (rate_set (GF 2) (replicate 8 (1 ∷ [])) [] (0 ∷ []) 4097 8192) ≡ some 10
  pub nine_factors : number_in (rate_set (GF 2) (replicate 9 (1 ∷ [])) [] (0 ∷ []) 4097 8192) ≡ some 9
  -- 10: degrees 1 to 32 with p^(d div 2) at most 65,536; that a degree passes shows in reaching 11
  pub p2takes32 : ask 2 (of_degree 32) ≡ some 11
  pub p2refuses33 : ask 2 (of_degree 33) ≡ some 10
  pub p3takes21 : ask 3 (of_degree 21) ≡ some 11
  pub p3refuses22 : ask 3 (of_degree 22) ≡ some 10
  pub p5takes13 : ask 5 (of_degree 13) ≡ some 11
  pub p5refuses14 : ask 5 (of_degree 14) ≡ some 10
  pub p7takes11 : ask 7 (of_degree 11) ≡ some 11
  pub p7refuses12 : ask 7 (of_degree 12) ≡ some 10
  pub p251takes5 : ask 251 (of_degree 5) ≡ some 11
  pub p251refuses6 : ask 251 (of_degree 6) ≡ some 10
  pub degree0 : ask 2 (1 ∷ []) ≡ some 10
  pub degree0zero : ask 2 (0 ∷ []) ≡ some 10
  pub degree1 : ask 2 x+1 ≡ none
  pub degree_huge : ask 2 (of_degree 4096) ≡ some 10
  -- 11: lists over the field whose leading coefficient is not 0
  pub empty_list : ask 2 [] ≡ some 11
  pub coefficient_below : ask 3 (2 ∷ 1 ∷ []) ≡ none
  pub coefficient_equal : ask 3 (3 ∷ 1 ∷ []) ≡ some 11
  pub leading_two : ask 3 (1 ∷ 2 ∷ []) ≡ none
  pub leading_three : ask 3 (1 ∷ 3 ∷ []) ≡ some 11
  pub leading_largest : ask 251 (1 ∷ 250 ∷ []) ≡ none
  pub leading_equal : ask 251 (1 ∷ 251 ∷ []) ≡ some 11
  pub leading_one_before_zero : ask 3 (0 ∷ 1 ∷ 0 ∷ []) ≡ some 11
  -- 14 and 15: upper powers from 1, total degree at most 4,096 and at most the number of terms
  pub upper0 : portion x+1 0 (0 ∷ []) ≡ some 14
  pub upper1 : portion x+1 1 (0 ∷ []) ≡ none
  pub total4096 : portion x+1 4096 (0 ∷ []) ≡ some 15
  pub total4097 : portion x+1 4097 (0 ∷ []) ≡ some 14
  pub total_twice2048 : portion x²+x+1 2048 (0 ∷ []) ≡ some 15
  pub total_twice2049 : portion x²+x+1 2049 (0 ∷ []) ≡ some 14
  pub upper_huge : portion x+1 (2 ^ 64 - 1) (0 ∷ []) ≡ some 14
  pub as_many_terms : portion x+1 2 (0 ∷ 1 ∷ []) ≡ none
  pub one_term_fewer : portion x+1 3 (0 ∷ 1 ∷ []) ≡ some 15
  pub upper_missing : number_in (rate_set (GF 2) (x+1 ∷ (0 ∷ 1 ∷ []) ∷ []) (1 ∷ []) (0 ∷ 1 ∷ []) 4097 8192)
      ≡ some 14
  pub upper_beyond : number_in (rate_set (GF 2) (x+1 ∷ []) (1 ∷ 0 ∷ []) (1 ∷ []) 4097 8192) ≡ none
  -- the repeat length: with one factor and with several, whatever the number of upper powers; 1 on zeros,
  -- also with x among the factors; 0 where x has a power
  pub repeat_of_one : rate_set (GF 2) (x+1 ∷ []) (2 ∷ 0 ∷ 7 ∷ []) (1 ∷ 0 ∷ []) 4097 8192
      ≡ set_answer (2 ∷ []) 2 2 (1 ∷ 0 ∷ 1 ∷ [])
  pub repeat_on_zeros : rate_set (GF 2) (x+1 ∷ []) (1 ∷ []) (0 ∷ []) 4097 8192 ≡ set_answer (0 ∷ []) 0 1
      (1 ∷ [])
  pub repeat_of_one_power : rate_set (GF 2) (x+1 ∷ x²+x+1 ∷ []) (1 ∷ 1 ∷ []) (1 ∷ 1 ∷ 1 ∷ []) 4097 8192
      ≡ set_answer (1 ∷ 0 ∷ []) 1 1 x+1
  pub repeat_of_both : rate_set (GF 2) (x+1 ∷ x²+x+1 ∷ []) (2 ∷ 1 ∷ []) (0 ∷ 0 ∷ 0 ∷ 1 ∷ []) 4097 8192
      ≡ set_answer (2 ∷ 1 ∷ []) 4 6 (1 ∷ 1 ∷ 0 ∷ 1 ∷ 1 ∷ [])
  pub repeat_of_no_power : rate_set (GF 2) (x+1 ∷ x²+x+1 ∷ []) (1 ∷ 1 ∷ []) (0 ∷ 0 ∷ 0 ∷ []) 4097 8192
      ≡ set_answer (0 ∷ 0 ∷ []) 0 1 (1 ∷ [])
  pub repeat_of_zeros_with_x : rate_set (GF 2) ((0 ∷ 1 ∷ []) ∷ x+1 ∷ []) (1 ∷ 1 ∷ []) (0 ∷ 0 ∷ []) 4097 8192
      ≡ set_answer (0 ∷ 0 ∷ []) 0 1 (1 ∷ [])
  pub repeat_ofXWith_power : rate_set (GF 2) ((0 ∷ 1 ∷ []) ∷ x+1 ∷ []) (1 ∷ 1 ∷ []) (0 ∷ 1 ∷ []) 4097 8192
      ≡ set_answer (1 ∷ 1 ∷ []) 2 0 (0 ∷ 1 ∷ 1 ∷ [])
  pub repeat_ofXWithout_power : rate_set (GF 2) ((0 ∷ 1 ∷ []) ∷ x+1 ∷ []) (1 ∷ 1 ∷ []) (1 ∷ 1 ∷ []) 4097 8192
      ≡ set_answer (0 ∷ 1 ∷ []) 1 1 x+1
  -- 16: 4,097 answer bytes and 8,192 work bytes
  pub lent_exactly : number_in (rate_period (GF 2) x+1 (1 ∷ []) 4097 8192) ≡ none
  pub answer_short : number_in (rate_period (GF 2) x+1 (1 ∷ []) 4096 8192) ≡ some 16
  pub work_short : number_in (rate_period (GF 2) x+1 (1 ∷ []) 4097 8191) ≡ some 16
  pub lent_more : number_in (rate_period (GF 2) x+1 (1 ∷ []) 5000 9000) ≡ none
  pub lent_nothing : number_in (rate_period (GF 2) x+1 (1 ∷ []) 0 0) ≡ some 16
  -- 17: with the factor x every nonzero period is refused, and no zero period; with as many terms as the
  -- total degree nothing is; all further terms count
  pub x_on_nonzero : number_in (rate_period (GF 2) (0 ∷ 1 ∷ []) (0 ∷ 1 ∷ []) 4097 8192) ≡ some 17
  pub x_on_zero : number_in (rate_period (GF 2) (0 ∷ 1 ∷ []) (0 ∷ 0 ∷ []) 4097 8192) ≡ none
  pub x_in_portion : portion (0 ∷ 1 ∷ []) 2 (1 ∷ 1 ∷ []) ≡ none
  pub x_one_more : portion (0 ∷ 1 ∷ []) 2 (1 ∷ 1 ∷ 1 ∷ []) ≡ some 17
  pub second_further_term : portion x+1 1 (1 ∷ 1 ∷ 0 ∷ []) ≡ some 17
  -- free way: `one` where 2L is at most m, `some` beyond; on zeros the degree is 0; the degree may be m
  pub one_at_twice : figures_of (rate_free (GF 2) (1 ∷ 0 ∷ []) 4097 8192)
      ≡ answered (record { degree = 1; unique = true })
  pub some_at_twice_less_one : figures_of (rate_free (GF 2) (1 ∷ []) 4097 8192)
      ≡ answered (record { degree = 1; unique = false })
  pub free_zeros : figures_of (rate_free (GF 5) (0 ∷ 0 ∷ 0 ∷ []) 4097 8192)
      ≡ answered (record { degree = 0; unique = true })
  pub degree_as_terms : figures_of (rate_free (GF 2) (0 ∷ 0 ∷ 1 ∷ []) 4097 8192)
      ≡ answered (record { degree = 3; unique = false })
  -- continuation: 1 to 4,096 places to fill, a degree up to 4,096, as many starting terms as the degree
  pub place_at_end : continued x+1 (1 ∷ []) 3 3 ≡ some 7
  pub place_before_end : continued x+1 (1 ∷ []) 2 3 ≡ none
  pub place_past_end : continued x+1 (1 ∷ []) 4 3 ≡ some 7
  pub fill4096 : continued x+1 (2 ∷ []) 1 4097 ≡ some 8
  pub fill4097 : continued x+1 (2 ∷ []) 0 4097 ≡ some 7
  pub no_buffer : continued x+1 (1 ∷ []) 0 0 ≡ some 7
  pub start_element : continued x+1 (2 ∷ []) 0 3 ≡ some 8
  pub continue_degree4096 : continued (of_degree 4096) [] 0 3 ≡ some 11
  pub continue_degree4097 : continued (of_degree 4097) [] 0 3 ≡ some 10
  pub continue_empty : continued [] [] 0 3 ≡ some 11
  pub start_too_short : continued x+1 [] 0 3 ≡ some 15
  pub start_too_long : continued x+1 (1 ∷ 1 ∷ []) 0 3 ≡ some 15
  pub continue_degree0 : continued (1 ∷ []) [] 0 3 ≡ none
  -- 1: 16,384 bytes; that they pass shows in reaching 2
  pub file16384 : of_file (replicate 16384 0) ≡ some 2
  pub file16385 : of_file (replicate 16385 0) ≡ some 1
  -- 5: the factors of each mode; that their number passes shows in reaching a later refusal
  pub mode0 : of_file (headed 0 end) ≡ some 5
  pub mode1none : of_file (headed 1 (term 1 ++ end)) ≡ some 5
  pub mode1one : of_file (headed 1 (factor 1 0 (1 ∷ []) ++ (term 1 ++ end))) ≡ none
  pub mode1two : of_file (headed 1 (factor 1 0 (1 ∷ []) ++ (factor 1 0 [] ++ (term 1 ++ end)))) ≡ some 5
  pub mode1upper1 : of_file (headed 1 (factor 1 1 (1 ∷ []) ++ (term 1 ++ end))) ≡ some 5
  pub mode1upper256 : of_file (headed 1 (4 ∷ 1 ∷ 1 ∷ 0 ∷ 1 ∷ (replicate 31 0 ++ (term 1 ++ end)))) ≡ some 5
  pub mode2none : of_file (headed 2 (term 1 ++ end)) ≡ some 5
  pub mode2eight : of_file (box 7 ++ (field 11 ++ (mode 2 ++ (eight ++ (term 1 ++ end))))) ≡ some 15
  pub mode2nine : of_file
      (box 7 ++ (field 11 ++ (mode 2 ++ (eight ++ (factor 1 1 (8 ∷ []) ++ (term 1 ++ end))))))
      ≡ some 5
  pub mode3none : of_file (headed 3 (term 1 ++ end)) ≡ none
  pub mode3one : of_file (headed 3 (factor 1 1 (1 ∷ []) ++ (term 1 ++ end))) ≡ some 5
  -- the box is told where the file begins with a whole box record, whatever follows
  pub box_whole : box_of (box 7) ≡ 7
  pub box_cut : box_of (1 ∷ 0 ∷ 0 ∷ 7 ∷ []) ≡ 0
  pub box_absent : box_of (field 2 ++ box 7) ≡ 0
  pub box_large : box_of (1 ∷ 255 ∷ 255 ∷ 255 ∷ 255 ∷ []) ≡ 4294967295
  pub box_bytes : box_of (1 ∷ 1 ∷ 2 ∷ 3 ∷ 4 ∷ []) ≡ 16909060
  pub box_file16384 : box_of (box 7 ++ replicate 16379 0) ≡ 7
  pub box_file16385 : box_of (box 7 ++ replicate 16380 0) ≡ 0

pub boundaries : Boundaries
unfolding computed
boundaries =
    record {
      prime0 = refl;
      prime1 = refl;
      prime2 = refl;
      prime3 = refl;
      prime4 = refl;
      prime241 = refl;
      prime247 = refl;
      prime249 = refl;
      prime251 = refl;
      prime253 = refl;
      prime257 = refl;
      prime_huge = refl;
      p251 = refl;
      p253 = refl;
      no_terms = refl;
      one_term = refl;
      terms4096 = refl;
      terms4097 = refl;
      largest_term = refl;
      term_equal = refl;
      last_term_equal = refl;
      free_term_below = refl;
      free_term_equal = refl;
      no_factor = refl;
      eight_factors = refl;
      nine_factors = refl;
      p2takes32 = refl;
      p2refuses33 = refl;
      p3takes21 = refl;
      p3refuses22 = refl;
      p5takes13 = refl;
      p5refuses14 = refl;
      p7takes11 = refl;
      p7refuses12 = refl;
      p251takes5 = refl;
      p251refuses6 = refl;
      degree0 = refl;
      degree0zero = refl;
      degree1 = refl;
      degree_huge = refl;
      empty_list = refl;
      coefficient_below = refl;
      coefficient_equal = refl;
      leading_two = refl;
      leading_three = refl;
      leading_largest = refl;
      leading_equal = refl;
      leading_one_before_zero = refl;
      upper0 = refl;
      upper1 = refl;
      total4096 = refl;
      total4097 = refl;
      total_twice2048 = refl;
      total_twice2049 = refl;
      upper_huge = refl;
      as_many_terms = refl;
      one_term_fewer = refl;
      upper_missing = refl;
      upper_beyond = refl;
      repeat_of_one = refl;
      repeat_on_zeros = refl;
      repeat_of_one_power = refl;
      repeat_of_both = refl;
      repeat_of_no_power = refl;
      repeat_of_zeros_with_x = refl;
      repeat_ofXWith_power = refl;
      repeat_ofXWithout_power = refl;
      lent_exactly = refl;
      answer_short = refl;
      work_short = refl;
      lent_more = refl;
      lent_nothing = refl;
      x_on_nonzero = refl;
      x_on_zero = refl;
      x_in_portion = refl;
      x_one_more = refl;
      second_further_term = refl;
      one_at_twice = refl;
      some_at_twice_less_one = refl;
      free_zeros = refl;
      degree_as_terms = refl;
      place_at_end = refl;
      place_before_end = refl;
      place_past_end = refl;
      fill4096 = refl;
      fill4097 = refl;
      no_buffer = refl;
      start_element = refl;
      continue_degree4096 = refl;
      continue_degree4097 = refl;
      continue_empty = refl;
      start_too_short = refl;
      start_too_long = refl;
      continue_degree0 = refl;
      file16384 = refl;
      file16385 = refl;
      mode0 = refl;
      mode1none = refl;
      mode1one = refl;
      mode1two = refl;
      mode1upper1 = refl;
      mode1upper256 = refl;
      mode2none = refl;
      mode2eight = refl;
      mode2nine = refl;
      mode3none = refl;
      mode3one = refl;
      box_whole = refl;
      box_cut = refl;
      box_absent = refl;
      box_large = refl;
      box_bytes = refl;
      box_file16384 = refl;
      box_file16385 = refl;
    }
