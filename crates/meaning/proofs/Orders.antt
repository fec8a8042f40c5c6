-- Computed rows: the order of the checks, on inputs that meet two refusals. `none` stands where nothing is
-- refused.
--
--   Orders == the table: a field for each row      orders == every row holds
-- Assumes nothing.
use Prim.Native.Nat.{ℕ}
use mathlib.Core.Path.{◌≡◌, refl}
use mathlib.Core.List.{List, [], ◌∷◌, ◌++◌}
use mathlib.Core.Option.{Option, none, some}
use lib.ListN.{replicate}
use Rattle.meaning.specs.Polynomial.{Polynomial}
use Rattle.meaning.specs.Period.{rate_period}
use Rattle.meaning.specs.Portion.{rate_set}
use Rattle.meaning.specs.Free.{rate_free}
use Rattle.meaning.specs.Continuation.{continue_sequence}
use Rattle.meaning.specs.Irreducibility.{ask_irreducible}
use Rattle.meaning.specs.File.{rate_file}
use Rattle.meaning.proofs.Computed.{GF, computed}
use Rattle.meaning.proofs.Rows.{number_in, box, field, mode, factor, term, stop, end, x+1, x²+1}
use Rattle.meaning.proofs.Rows.{x²+x+1, headed}

-- over GF(2): a coefficient that is no element, a leading coefficient of 0, a degree of 0
abbrev bad_coefficient : Polynomial
bad_coefficient = 2 ∷ 1 ∷ []

abbrev bad_leading : Polynomial
bad_leading = 1 ∷ 0 ∷ []

abbrev bad_degree : Polynomial
bad_degree = 1 ∷ []

abbrev set : List Polynomial → List ℕ → List ℕ → Option ℕ
set fs vs ts = number_in (rate_set (GF 2) fs vs ts 4097 8192)

-- with one factor
abbrev single : Polynomial → ℕ → List ℕ → Option ℕ
single f v ts = set (f ∷ []) (v ∷ []) ts

abbrev of_file : List ℕ → Option ℕ
of_file file = number_in (rate_file file 4097 8192)

pub record Orders : Type 0 where
  -- the period way: the lower number is given
  pub period6and7 : number_in (rate_period (GF 4) x+1 [] 4097 8192) ≡ some 6
  pub period7and8 : number_in (rate_period (GF 2) x+1 (replicate 4097 2) 4097 8192) ≡ some 7
  pub period8and10 : number_in (rate_period (GF 2) bad_degree (2 ∷ []) 4097 8192) ≡ some 8
  pub period10and11 : number_in (rate_period (GF 2) (2 ∷ []) (0 ∷ []) 4097 8192) ≡ some 10
  pub period12and16 : number_in (rate_period (GF 2) x²+1 (0 ∷ []) 0 0) ≡ some 12
  pub period16and17 : number_in (rate_period (GF 2) x²+x+1 (0 ∷ 0 ∷ 0 ∷ 1 ∷ []) 4097 0) ≡ some 16
  -- the set way, with no factor, one and several: 9 stands between 8 and 10, and 13 between 12 and 14; of one
  -- factor neither holds
  pub set6and7 : number_in (rate_set (GF 4) (x+1 ∷ []) (1 ∷ []) [] 4097 8192) ≡ some 6
  pub set7and8 : single x+1 1 (replicate 4097 2) ≡ some 7
  pub set8and9 : set [] [] (2 ∷ []) ≡ some 8
  pub set8and10 : single bad_degree 1 (2 ∷ []) ≡ some 8
  pub set9and10 : set (replicate 9 bad_degree) [] (0 ∷ []) ≡ some 9
  pub set9and11 : set (replicate 9 bad_leading) [] (0 ∷ []) ≡ some 9
  pub set10and11 : single (2 ∷ []) 1 (0 ∷ []) ≡ some 10
  pub set11and14 : single bad_leading 0 (0 ∷ []) ≡ some 11
  pub set12and13 : set (x²+1 ∷ x²+1 ∷ []) [] (0 ∷ []) ≡ some 12
  pub set12and14 : single x²+1 0 (0 ∷ []) ≡ some 12
  pub set13and14 : set (x+1 ∷ x+1 ∷ []) [] (0 ∷ []) ≡ some 13
  pub set14and15 : single x+1 4097 (0 ∷ []) ≡ some 14
  pub set15and16 : number_in (rate_set (GF 2) (x+1 ∷ []) (2 ∷ []) (0 ∷ []) 0 0) ≡ some 15
  pub set16and17 : number_in (rate_set (GF 2) (x+1 ∷ []) (1 ∷ []) (1 ∷ 0 ∷ []) 0 0) ≡ some 16
  -- the free way, the continuation, the question whether a polynomial is irreducible
  pub free6and7 : number_in (rate_free (GF 4) [] 4097 8192) ≡ some 6
  pub free7and8 : number_in (rate_free (GF 2) (replicate 4097 2) 4097 8192) ≡ some 7
  pub free8and16 : number_in (rate_free (GF 2) (2 ∷ []) 0 0) ≡ some 8
  pub continue6and7 : number_in (continue_sequence (GF 4) x+1 (1 ∷ []) 0 []) ≡ some 6
  pub continue7and8 : number_in (continue_sequence (GF 2) x+1 (2 ∷ []) 0 []) ≡ some 7
  pub continue8and10 : number_in (continue_sequence (GF 2) (replicate 4098 0) (2 ∷ []) 0 (0 ∷ [])) ≡ some 8
  pub continue10and11 : number_in (continue_sequence (GF 2) (replicate 4098 0) [] 0 (0 ∷ [])) ≡ some 10
  pub continue11and15 : number_in (continue_sequence (GF 2) [] (1 ∷ []) 0 (0 ∷ [])) ≡ some 11
  pub ask6and10 : number_in (ask_irreducible (GF 4) bad_degree) ≡ some 6
  pub ask10and11 : number_in (ask_irreducible (GF 2) (2 ∷ [])) ≡ some 10
  -- each check goes over all factors before the next begins
  pub ten_over_all : set (bad_coefficient ∷ bad_degree ∷ []) [] (0 ∷ []) ≡ some 10
  pub eleven_over_all : set (x²+1 ∷ bad_leading ∷ []) [] (0 ∷ []) ≡ some 11
  pub twelve_over_all : set (x+1 ∷ x+1 ∷ x²+1 ∷ []) [] (0 ∷ []) ≡ some 12
  pub thirteen_over_all : set (x+1 ∷ (0 ∷ 1 ∷ []) ∷ x+1 ∷ []) (0 ∷ 0 ∷ 0 ∷ []) (0 ∷ []) ≡ some 13
  pub thirteen_forgets_uppers : set (x+1 ∷ x+1 ∷ []) (1 ∷ 2 ∷ []) (0 ∷ 0 ∷ 0 ∷ []) ≡ some 13
  pub file_ten_over_all : of_file (headed 2 2 (factor 1 1 (2 ∷ []) ++ (factor 0 1 [] ++ (term 0 ++ end))))
      ≡ some 10
  pub file_eleven_over_all : of_file
      (headed 2 2 (factor 2 1 (1 ∷ []) ++ (factor 1 1 (2 ∷ []) ++ (term 0 ++ end))))
      ≡ some 11
  -- files: the first bad record decides, and at a record 2, 3 and 4 are tried in turn
  pub long_before_kind : of_file (10 ∷ replicate 16384 10) ≡ some 1
  pub kind_before_cut : of_file (box 7 ++ (10 ∷ [])) ≡ some 2
  pub cut_before_place : of_file (box 7 ++ (3 ∷ [])) ≡ some 3
  pub place_before_missing_end : of_file (box 7 ++ mode 1) ≡ some 4
  pub place_before_later_kind : of_file (mode 1 ++ (10 ∷ [])) ≡ some 4
  pub over_at_start : of_file [] ≡ some 3
  pub over_after_box : of_file (box 7) ≡ some 3
  pub over_after_field : of_file (box 7 ++ field 2) ≡ some 3
  pub over_after_mode : of_file (headed 2 3 []) ≡ some 3
  pub over_after_factor : of_file (headed 2 2 (factor 1 1 [])) ≡ some 3
  pub over_after_term : of_file (headed 2 3 (term 0)) ≡ some 3
  pub end_before_field : of_file (box 7 ++ end) ≡ some 4
  pub end_before_mode : of_file (box 7 ++ (field 2 ++ end)) ≡ some 4
  pub factor_after_term : of_file (headed 2 2 (term 0 ++ (factor 1 1 (1 ∷ []) ++ end))) ≡ some 4
  pub box_twice : of_file (box 7 ++ headed 2 3 (term 0 ++ end)) ≡ some 4
  pub field_twice : of_file (box 7 ++ (field 2 ++ (field 2 ++ (mode 3 ++ (term 0 ++ end))))) ≡ some 4
  pub mode_twice : of_file (headed 2 3 (mode 3 ++ (term 0 ++ end))) ≡ some 4
  pub mode_before_field : of_file (box 7 ++ (mode 3 ++ (field 2 ++ (term 0 ++ end)))) ≡ some 4
  pub stop_first : of_file (stop ++ headed 2 3 (term 0 ++ end)) ≡ some 4
  pub unknown_after_end : of_file (headed 2 3 (term 0 ++ (end ++ (0 ∷ [])))) ≡ some 2
  pub cut_after_end : of_file (headed 2 3 (term 0 ++ (end ++ (7 ∷ [])))) ≡ some 3
  pub place_after_end : of_file (headed 2 3 (term 0 ++ (end ++ end))) ≡ some 4
  pub stop_after_end : of_file (headed 2 3 (term 0 ++ (end ++ stop))) ≡ some 4
  pub stops_between : of_file
      (box 7 ++ (stop ++ (field 2 ++ (stop ++ (mode 3 ++ (stop ++ (term 0 ++ (stop ++ end))))))))
      ≡ none
  -- files: 4 before 5, 5 before 6, and then the checks of the mode
  pub place_before_mode : of_file (headed 2 9 (end ++ end)) ≡ some 4
  pub mode_before_prime : of_file (headed 4 9 end) ≡ some 5
  pub prime_before_terms : of_file (headed 4 3 end) ≡ some 6
  pub file_degree33 : of_file (headed 2 2 (factor 33 1 (replicate 32 9) ++ (term 0 ++ end))) ≡ some 10
  pub file_degree32 : of_file (headed 2 2 (factor 32 1 (replicate 32 9) ++ (term 0 ++ end))) ≡ some 11
  pub file_coefficient_beyond : of_file (headed 2 2 (factor 1 1 (1 ∷ 1 ∷ []) ++ (term 0 ++ end))) ≡ some 11
  pub file_coefficient_last : of_file
      (headed 2 2 (factor 1 1 (1 ∷ (replicate 30 0 ++ (1 ∷ []))) ++ (term 0 ++ end)))
      ≡ some 11
  pub file_upper_last : of_file (headed 2 2 (factor 1 0 (1 ∷ []) ++ end)) ≡ some 7

pub orders : Orders
unfolding computed
orders =
    record {
      period6and7 = refl;
      period7and8 = refl;
      period8and10 = refl;
      period10and11 = refl;
      period12and16 = refl;
      period16and17 = refl;
      set6and7 = refl;
      set7and8 = refl;
      set8and9 = refl;
      set8and10 = refl;
      set9and10 = refl;
      set9and11 = refl;
      set10and11 = refl;
      set11and14 = refl;
      set12and13 = refl;
      set12and14 = refl;
      set13and14 = refl;
      set14and15 = refl;
      set15and16 = refl;
      set16and17 = refl;
      free6and7 = refl;
      free7and8 = refl;
      free8and16 = refl;
      continue6and7 = refl;
      continue7and8 = refl;
      continue8and10 = refl;
      continue10and11 = refl;
      continue11and15 = refl;
      ask6and10 = refl;
      ask10and11 = refl;
      ten_over_all = refl;
      eleven_over_all = refl;
      twelve_over_all = refl;
      thirteen_over_all = refl;
      thirteen_forgets_uppers = refl;
      file_ten_over_all = refl;
      file_eleven_over_all = refl;
      long_before_kind = refl;
      kind_before_cut = refl;
      cut_before_place = refl;
      place_before_missing_end = refl;
      place_before_later_kind = refl;
      over_at_start = refl;
      over_after_box = refl;
      over_after_field = refl;
      over_after_mode = refl;
      over_after_factor = refl;
      over_after_term = refl;
      end_before_field = refl;
      end_before_mode = refl;
      factor_after_term = refl;
      box_twice = refl;
      field_twice = refl;
      mode_twice = refl;
      mode_before_field = refl;
      stop_first = refl;
      unknown_after_end = refl;
      cut_after_end = refl;
      place_after_end = refl;
      stop_after_end = refl;
      stops_between = refl;
      place_before_mode = refl;
      mode_before_prime = refl;
      prime_before_terms = refl;
      file_degree33 = refl;
      file_degree32 = refl;
      file_coefficient_beyond = refl;
      file_coefficient_last = refl;
      file_upper_last = refl;
    }
