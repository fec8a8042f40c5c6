-- Computed rows: GF(2^n).
--
--   ExtensionRows == the table: a field for each row      extension_rows == every row holds
-- Assumes nothing.
use Prim.Native.Nat.{ℕ}
use mathlib.Core.Path.{◌≡◌, refl}
use mathlib.Core.Bool.{true, false}
use mathlib.Core.List.{List, [], ◌∷◌, ◌++◌}
use mathlib.Core.Option.{Option, none, some}
use Rattle.meaning.specs.declared.FieldName.{FieldName}
use Rattle.meaning.specs.Field.{negative}
use Rattle.meaning.specs.Result.{refused, answered}
use Rattle.meaning.specs.FieldNames.{named_field}
use Rattle.meaning.specs.Extension.{binary}
use Rattle.meaning.specs.Conditions.{not_binary, degree_out_of_range, term_out_of_field}
use Rattle.meaning.specs.Conditions.{coefficient_out_of_range}
use Rattle.meaning.specs.Polynomial.{irreducible, power, monic_multiple}
use Rattle.meaning.specs.Sequence.{continuation}
use Rattle.meaning.specs.Period.{period_power}
use Rattle.meaning.specs.Portion.{set_powers}
use Rattle.meaning.specs.RepeatLength.{repeat_length}
use Rattle.meaning.specs.Free.{least_degree, rate_free}
use Rattle.meaning.specs.Continuation.{continue_sequence}
use Rattle.meaning.specs.Meter.{start_meter, take_term}
use Rattle.meaning.specs.File.{rate_file}
use Rattle.meaning.specs.Print.{text, printed}
use Rattle.meaning.proofs.Computed.{computed}
use Rattle.meaning.proofs.Rows.{number_in, box, field, mode, factor, term, terms, end}

pub record ExtensionRows : Type 0 where
  -- GF(256) by y^8 + y^4 + y^3 + y + 1
  pub product : (binary 8 27).mul 87 131 ≡ 193
  -- so does its name stand for it; a name of no field is refused by 20
  pub name : (named_field (FieldName.Binary 8 27)).mul 87 131 ≡ 193
  pub free20 : rate_free (FieldName.Binary 2 1) (1 ∷ []) 4097 8192 ≡ refused 20
  pub start20 : start_meter (FieldName.Binary 9 17) ≡ refused 20
  -- y^8 + 1 is reducible; n is 0, 1, 9; low has a bit at n
  pub named : (not_binary 8 27 ≡ false) × (not_binary 3 3 ≡ false) × (not_binary 2 3 ≡ false)
  pub splits : not_binary 8 1 ≡ true
  pub degrees :
      (not_binary 0 2 ≡ true) × (not_binary 0 3 ≡ true) × (not_binary 1 1 ≡ true) × (not_binary 9 3 ≡ true)
  pub high : not_binary 3 11 ≡ true
  -- GF(4): 3 is its own negative; (x + 2)^2 = x^2 + 3; 2·x + 3 stands for x + 2
  pub own : negative (binary 2 3) 3 ≡ 3
  pub square : power (binary 2 3) (2 ∷ 1 ∷ []) 2 ≡ 3 ∷ 0 ∷ 1 ∷ []
  pub multiple : monic_multiple (binary 2 3) (3 ∷ 2 ∷ []) ≡ 2 ∷ 1 ∷ []
  -- periods over GF(4) and GF(256)
  pub period : period_power (binary 2 3) (2 ∷ 1 ∷ []) (1 ∷ 2 ∷ 3 ∷ []) ≡ some 1
  pub longer : period_power (binary 2 3) (2 ∷ 1 ∷ []) (1 ∷ 0 ∷ 3 ∷ 0 ∷ 2 ∷ 0 ∷ []) ≡ some 2
  pub without : period_power (binary 8 27) (3 ∷ 1 ∷ []) (1 ∷ 3 ∷ 5 ∷ 15 ∷ []) ≡ none
  -- (x + 2)^2 = x^2 + 3 annihilates sequences with the least period 6
  pub repeat : repeat_length (3 ∷ 0 ∷ 1 ∷ []) (continuation (binary 2 3) (3 ∷ 0 ∷ 1 ∷ []) (1 ∷ 0 ∷ [])) ≡ 6
  pub set : set_powers (binary 2 3) ((2 ∷ 1 ∷ [], 2) ∷ []) (1 ∷ 0 ∷ []) ≡ some (2 ∷ [])
  pub free : least_degree (binary 2 3) (1 ∷ 0 ∷ 3 ∷ 0 ∷ 2 ∷ []) ≡ some 2
  -- x^2 + x + 2 is irreducible over GF(4), x^2 + x + 1 is not: it splits there
  pub whole : irreducible (binary 2 3) (2 ∷ 1 ∷ 1 ∷ []) ≡ true
  pub parted : irreducible (binary 2 3) (1 ∷ 1 ∷ 1 ∷ []) ≡ false
  -- 8 and 11 over GF(8)
  pub eight : (term_out_of_field (binary 3 3) (7 ∷ []) ≡ false) ×
      (term_out_of_field (binary 3 3) (8 ∷ []) ≡ true)
  pub eleven :
      (coefficient_out_of_range (binary 3 3) (1 ∷ 7 ∷ []) ≡ false)
      × (coefficient_out_of_range (binary 3 3) (8 ∷ 1 ∷ []) ≡ true)
  -- 10 at the largest degrees: 17, 11, 9, 7, 5, 5, 5 for n from 2 to 8
  pub ten :
      (degree_out_of_range (binary 2 3) 17 ≡ false) × (degree_out_of_range (binary 2 3) 18 ≡ true)
      × (degree_out_of_range (binary 3 3) 11 ≡ false) × (degree_out_of_range (binary 3 3) 12 ≡ true)
      × (degree_out_of_range (binary 4 3) 9 ≡ false) × (degree_out_of_range (binary 4 3) 10 ≡ true)
      × (degree_out_of_range (binary 5 5) 7 ≡ false) × (degree_out_of_range (binary 5 5) 8 ≡ true)
      × (degree_out_of_range (binary 6 3) 5 ≡ false) × (degree_out_of_range (binary 6 3) 6 ≡ true)
      × (degree_out_of_range (binary 7 3) 5 ≡ false) × (degree_out_of_range (binary 7 3) 6 ≡ true)
      × (degree_out_of_range (binary 8 27) 5 ≡ false) × (degree_out_of_range (binary 8 27) 6 ≡ true)

-- a file of box 7 that names its field by kind 9
abbrev nine : ℕ → ℕ → List ℕ
nine n low = 9 ∷ n ∷ low ∷ []

abbrev headed : ℕ → ℕ → ℕ → List ℕ → List ℕ
headed n low m rest = box 7 ++ (nine n low ++ (mode m ++ rest))

abbrev of_file : List ℕ → Option ℕ
of_file file = number_in (rate_file file 4097 8192)

pub record ExtensionFiles : Type 0 where
  -- GF(4): the period 1 2 3 with x + 2, and with 2·x + 3 as a continuation; the same terms to a meter
  pub printed_period : printed (headed 2 3 1 (factor 1 0 (2 ∷ []) ++ (terms (1 ∷ 2 ∷ 3 ∷ []) ++ end)))
      ≡ text "box result density powers\n7 ok 1/3 1\npoly 2 1\n"
  pub continued : continue_sequence (FieldName.Binary 2 3) (3 ∷ 2 ∷ []) (1 ∷ []) 1 (9 ∷ 9 ∷ 9 ∷ 9 ∷ 9 ∷ [])
      ≡ answered (9 ∷ 1 ∷ 2 ∷ 3 ∷ 1 ∷ [])
  pub metered : take_term (binary 2 3) (1 ∷ 2 ∷ []) 3 ≡ answered (record { degree = 1; unique = true })
  pub metered8 : take_term (binary 2 3) (1 ∷ 2 ∷ []) 4 ≡ refused 8
  -- 20: n is 0, 1, 9; low has a bit at n; y^8 + 1 and y^2 are reducible.
  pub named20 :
      (of_file (headed 0 2 3 (term 0 ++ end)) ≡ some 20) × (of_file (headed 0 3 3 (term 0 ++ end)) ≡ some 20)
      × (of_file (headed 1 1 3 (term 0 ++ end)) ≡ some 20) ×
      (of_file (headed 9 3 3 (term 0 ++ end)) ≡ some 20)
      × (of_file (headed 3 11 3 (term 0 ++ end)) ≡ some 20) ×
      (of_file (headed 8 1 3 (term 0 ++ end)) ≡ some 20)
      × (of_file (headed 2 0 3 (term 0 ++ end)) ≡ some 20) × (of_file (headed 2 3 3 (term 0 ++ end)) ≡ none)
  -- 5 before 20, 20 before 7 and 8
  pub five_first : of_file (headed 8 1 4 end) ≡ some 5
  pub twenty_before7 : (of_file (headed 8 1 3 end) ≡ some 20) × (of_file (headed 2 3 3 end) ≡ some 7)
  pub twenty_before8 : of_file (headed 1 1 3 (term 2 ++ end)) ≡ some 20
  pub terms8 :
      (of_file (headed 2 3 3 (term 3 ++ end)) ≡ none) × (of_file (headed 2 3 3 (term 4 ++ end)) ≡ some 8)
  -- kind 9 in place of kind 2, and only there: with it, twice, after the mode, before the box; cut short
  pub both_kinds :
      (of_file (box 7 ++ (field 2 ++ (nine 2 3 ++ (mode 3 ++ (term 0 ++ end))))) ≡ some 4)
      × (of_file (box 7 ++ (nine 2 3 ++ (field 2 ++ (mode 3 ++ (term 0 ++ end))))) ≡ some 4)
  pub twice : of_file (box 7 ++ (nine 2 3 ++ (nine 2 3 ++ (mode 3 ++ (term 0 ++ end))))) ≡ some 4
  pub after_mode : of_file (box 7 ++ (mode 3 ++ (nine 2 3 ++ (term 0 ++ end)))) ≡ some 4
  pub before_box : of_file (nine 2 3 ++ (box 7 ++ (mode 3 ++ (term 0 ++ end)))) ≡ some 4
  pub for_the_box : of_file (nine 2 3 ++ (mode 3 ++ (term 0 ++ end))) ≡ some 4
  -- a second one in every later place: after the mode, among the terms, after the end
  pub later :
      (of_file (headed 2 3 3 (nine 2 3 ++ (term 0 ++ end))) ≡ some 4)
      × (of_file (headed 2 3 2 (factor 1 1 (2 ∷ []) ++ (nine 2 3 ++ (term 0 ++ end)))) ≡ some 4)
      × (of_file (headed 2 3 3 (term 0 ++ (nine 2 3 ++ end))) ≡ some 4)
      × (of_file (headed 2 3 3 (term 0 ++ (end ++ nine 2 3))) ≡ some 4)
  pub later_prime :
      (of_file (headed 2 3 3 (field 2 ++ (term 0 ++ end))) ≡ some 4)
      × (of_file (headed 2 3 3 (term 0 ++ (field 2 ++ end))) ≡ some 4)
      × (of_file (headed 2 3 3 (term 0 ++ (end ++ field 2))) ≡ some 4)
  pub cut_short : (of_file (box 7 ++ (9 ∷ [])) ≡ some 3) × (of_file (box 7 ++ (9 ∷ 2 ∷ [])) ≡ some 3)

pub extension_rows : ExtensionRows
unfolding computed
extension_rows =
    record {
      product = refl;
      name = refl;
      free20 = refl;
      start20 = refl;
      named = (refl, refl, refl);
      splits = refl;
      degrees = (refl, refl, refl, refl);
      high = refl;
      own = refl;
      square = refl;
      multiple = refl;
      period = refl;
      longer = refl;
      without = refl;
      repeat = refl;
      set = refl;
      free = refl;
      whole = refl;
      parted = refl;
      eight = (refl, refl);
      eleven = (refl, refl);
      ten = (refl, refl, refl, refl, refl, refl, refl, refl, refl, refl, refl, refl, refl, refl);
    }

pub extension_files : ExtensionFiles
unfolding computed
extension_files =
    record {
      printed_period = refl;
      continued = refl;
      metered = refl;
      metered8 = refl;
      named20 = (refl, refl, refl, refl, refl, refl, refl, refl);
      five_first = refl;
      twenty_before7 = (refl, refl);
      twenty_before8 = refl;
      terms8 = (refl, refl);
      both_kinds = (refl, refl);
      twice = refl;
      after_mode = refl;
      before_box = refl;
      for_the_box = refl;
      later = (refl, refl, refl, refl);
      later_prime = (refl, refl, refl);
      cut_short = (refl, refl);
    }
