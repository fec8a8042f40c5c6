-- Computed rows: the numbers that the calls for other languages hand out.
--
--   ExportRows == the table: a field for each row      export_rows == every row holds
-- Assumes nothing.
use Prim.Native.Nat.{ℕ}
use mathlib.Core.Path.{◌≡◌, refl}
use mathlib.Core.List.{List, [], ◌∷◌, ◌++◌}
use lib.ListN.{replicate}
use Rattle.meaning.specs.declared.FieldName.{FieldName}
use Rattle.meaning.specs.declared.FieldNumbers.{FieldNumbers}
use Rattle.meaning.specs.declared.Rating.{Rating}
use Rattle.meaning.specs.declared.Found.{Found}
use Rattle.meaning.specs.Result.{refused, answered, figures_of}
use Rattle.meaning.specs.Period.{rate_period}
use Rattle.meaning.specs.Portion.{rate_set}
use Rattle.meaning.specs.Free.{rate_free}
use Rattle.meaning.specs.Catalogue.{find_entry}
use Rattle.meaning.specs.Irreducibility.{ask_irreducible}
use Rattle.meaning.specs.Route.{records}
use Rattle.meaning.specs.Exports.{version, named_by, status_of, period_told, set_told, free_told, entry_told}
use Rattle.meaning.specs.Exports.{answer_told, record_told}
use Rattle.meaning.proofs.Computed.{computed}
use Rattle.meaning.proofs.Rows.{box, field, mode, factor, terms, stop, end, x+1, x²+1, x²+x+1}

abbrev numbers : ℕ → ℕ → FieldNumbers
numbers n k = record { degree = n; number = k }

-- GF(2) and GF(4) by their numbers
abbrev two : FieldName
two = named_by (numbers 0 2)

abbrev four : FieldName
four = named_by (numbers 2 3)

abbrev rating : (status complexity repeat word : ℕ) → List ℕ → Rating
rating s d n w rs = record { status = s; complexity = d; repeat = n; word = w; powers = rs }

abbrev refused_by : ℕ → Rating
refused_by n = rating n 0 0 0 (replicate 8 0)

abbrev found : (status kind from length : ℕ) → Found
found s k a n = record { status = s; kind = k; from = a; length = n }

abbrev rate_period_by : FieldName → List ℕ → List ℕ → Rating
rate_period_by name f ts = period_told (figures_of (rate_period name f ts 4097 8192))

abbrev rate_set_by : FieldName → List (List ℕ) → List ℕ → List ℕ → Rating
rate_set_by name fs vs ts = set_told (figures_of (rate_set name fs vs ts 4097 8192))

abbrev rate_free_by : FieldName → List ℕ → Rating
rate_free_by name ts = free_told (figures_of (rate_free name ts 4097 8192))

-- the records begin at 0, 5, 7, 9, 45, 54, 56 and 58: box, field, mode, factor, stop, two terms, end
abbrev file : List ℕ
file =
    box 7
    ++ (field 2
    ++ (mode 1 ++ (factor 1 0 (1 ∷ []) ++ (stop ++ (terms (0 ∷ 1 ∷ []) ++ end)))))

pub record ExportRows : Type 0 where
  pub the_version : version ≡ 4
  -- the field by its numbers; no numbers are the name of a field of one element
  pub prime : named_by (numbers 0 251) ≡ FieldName.Prime 251
  pub no_prime : named_by (numbers 0 0) ≡ FieldName.Prime 0
  pub binary : named_by (numbers 8 27) ≡ FieldName.Binary 8 27
  pub degree_one : named_by (numbers 1 3) ≡ FieldName.Binary 1 3
  -- the status: 0 for an answer, else the number of the refusal
  pub status_answered : status_of {A = ℕ} (answered 5) ≡ 0
  pub status_refused : status_of {A = ℕ} (refused 17) ≡ 17
  -- the period way over GF(2) and GF(4); 17, 6 and 20
  pub period : rate_period_by two x+1 (0 ∷ 0 ∷ 0 ∷ 1 ∷ []) ≡ rating 0 4 4 0 (4 ∷ replicate 7 0)
  pub period_four : rate_period_by four (2 ∷ 1 ∷ []) (1 ∷ 0 ∷ 3 ∷ 0 ∷ 2 ∷ 0 ∷ [])
      ≡ rating 0 2 6 0 (2 ∷ replicate 7 0)
  pub period-seventeen : rate_period_by two x²+x+1 (0 ∷ 0 ∷ 0 ∷ 1 ∷ []) ≡ refused_by 17
  pub period_six : rate_period_by (named_by (numbers 0 4)) x+1 (0 ∷ []) ≡ refused_by 6
  pub period_twenty : rate_period_by (named_by (numbers 1 1)) x+1 (0 ∷ []) ≡ refused_by 20
  -- the set way: the powers in the order of the factors
  pub set : rate_set_by two (x+1 ∷ x²+x+1 ∷ []) (1 ∷ 1 ∷ []) (0 ∷ 1 ∷ 1 ∷ [])
      ≡ rating 0 2 3 0 (0 ∷ 1 ∷ replicate 6 0)
  pub set_four : rate_set_by four ((2 ∷ 1 ∷ []) ∷ []) (2 ∷ []) (1 ∷ 0 ∷ []) ≡ rating 0 2 6 0
      (2 ∷ replicate 7 0)
  pub set_nine : rate_set_by two [] [] (0 ∷ []) ≡ refused_by 9
  -- the free way: 1 for `one`, 2 for `some`, 0 where refused
  pub one : rate_free_by two (1 ∷ 0 ∷ []) ≡ rating 0 1 0 1 (replicate 8 0)
  pub some : rate_free_by two (0 ∷ 1 ∷ []) ≡ rating 0 2 0 2 (replicate 8 0)
  pub one_four : rate_free_by four (1 ∷ 2 ∷ 3 ∷ 1 ∷ []) ≡ rating 0 1 0 1 (replicate 8 0)
  pub free_eight : rate_free_by four (4 ∷ []) ≡ refused_by 8
  -- the question
  pub yes : answer_told (ask_irreducible two x²+x+1) ≡ record { status = 0; yes = 1 }
  pub no : answer_told (ask_irreducible two x²+1) ≡ record { status = 0; yes = 0 }
  pub no_four : answer_told (ask_irreducible four x²+x+1) ≡ record { status = 0; yes = 0 }
  pub asked_twenty : answer_told (ask_irreducible (named_by (numbers 2 1)) x+1) ≡ record
      { status = 20; yes = 0 }
  -- the search
  pub entry : entry_told (find_entry (0 ∷ 0 ∷ 0 ∷ 1 ∷ []) 8192) ≡ record { status = 0; entry = 3; power = 4 }
  pub no_entry : entry_told (find_entry [] 8192) ≡ record { status = 7; entry = 0; power = 0 }
  -- the records of a file: the box, the factor, the last term, the end and beyond it; a file that is refused
  pub first : record_told (records file) 0 ≡ found 0 1 1 4
  pub fourth : record_told (records file) 3 ≡ found 0 4 10 35
  pub seventh : record_told (records file) 6 ≡ found 0 6 57 1
  pub last : record_told (records file) 7 ≡ found 0 8 59 0
  pub beyond : record_told (records file) 8 ≡ found 0 8 59 0
  pub cut_short : record_told (records (1 ∷ 0 ∷ [])) 0 ≡ found 3 0 0 0

pub export_rows : ExportRows
unfolding computed
export_rows =
    record {
      the_version = refl;
      prime = refl;
      no_prime = refl;
      binary = refl;
      degree_one = refl;
      status_answered = refl;
      status_refused = refl;
      period = refl;
      period_four = refl;
      period-seventeen = refl;
      period_six = refl;
      period_twenty = refl;
      set = refl;
      set_four = refl;
      set_nine = refl;
      one = refl;
      some = refl;
      one_four = refl;
      free_eight = refl;
      yes = refl;
      no = refl;
      no_four = refl;
      asked_twenty = refl;
      entry = refl;
      no_entry = refl;
      first = refl;
      fourth = refl;
      seventh = refl;
      last = refl;
      beyond = refl;
      cut_short = refl;
    }
