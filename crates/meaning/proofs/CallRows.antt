-- Computed rows for the contracts: each is met by the right answer with the right bytes, accepted and
-- refused. (WrongRaters.antt has the wrong answers that do not meet them.)
--
--   CallRows  == the table of answers that meet their contracts      call_rows  == every row holds
-- Assumes nothing.
use Prim.Native.Nat.{ℕ}
use mathlib.Core.Path.{◌≡◌, refl}
use mathlib.Core.Bool.{true, false}
use mathlib.Core.List.{List, [], ◌∷◌, ◌++◌}
use lib.ListN.{replicate}
use lib.Dec.{eqb}
use borrow.Author.Tests.{eqb-false}
use Rattle.meaning.specs.declared.Refusal.{Refusal}
use Rattle.meaning.specs.declared.PowerRating.{PowerRating}
use Rattle.meaning.specs.declared.FreeRating.{FreeRating}
use Rattle.meaning.specs.declared.FileOutcome.{FileOutcome}
use Rattle.meaning.specs.Calls.{PrimeCall, IrreducibleCall, PeriodCall, SetCall, FreeCall}
use Rattle.meaning.specs.Calls.{ContinueCall, FileCall, RecordCall, ProgramCall}
use Rattle.meaning.specs.Print.{text}
use Rattle.meaning.specs.declared.SetRating.{SetRating}
use Rattle.meaning.specs.Answers.{Reply}
use Rattle.std.specs.Prelude.{Ok, Err}
use Rattle.meaning.proofs.Computed.{GF, computed}
use Rattle.meaning.proofs.Rows.{box, field, mode, factor, terms, end, case_a, x+1, x²+1, x²+x+1}

-- lent bytes, two more than are asked for
abbrev pub answer : List ℕ
answer = replicate 4099 7

abbrev pub work : List ℕ
work = replicate 8194 9

abbrev pub cleared : List ℕ
cleared = replicate 8192 0 ++ (9 ∷ 9 ∷ [])

-- the rows A, B, H and I as files
abbrev pub file_a : List ℕ
file_a = case_a 3 (1 ∷ 1 ∷ [])

abbrev pub file_b : List ℕ
file_b = box 7 ++ (field 2 ++ (mode 1 ++ (factor 1 0 (1 ∷ []) ++ (terms (0 ∷ 0 ∷ 0 ∷ 1 ∷ []) ++ end))))

-- the period 01 twice
abbrev pub file_twice : List ℕ
file_twice = box 7 ++ (field 2 ++ (mode 1 ++ (factor 1 0 (1 ∷ []) ++ (terms (0 ∷ 1 ∷ 0 ∷ 1 ∷ []) ++ end))))

abbrev pub file_i : List ℕ
file_i = box 7 ++ (field 2 ++ (mode 3 ++ (terms (0 ∷ 1 ∷ []) ++ end)))

abbrev pub file_h : List ℕ
file_h = box 7 ++ (field 2 ++ (mode 3 ++ (terms (1 ∷ 0 ∷ []) ++ end)))

abbrev pub eight_zeros : List ℕ
eight_zeros = replicate 8 0

-- the replies of the period way and of the set way
abbrev pub rated_period : (power degree repeat : ℕ) → Reply PowerRating
rated_period r d n = Ok (record { power = r; degree = d; repeat = n })

abbrev pub rated_set : (degree repeat count : ℕ) → List ℕ → Reply SetRating
rated_set d n k rs = Ok (record { degree = d; repeat = n; count = k; powers = rs })

pub record CallRows : Type 0 where
  pub prime251 : PrimeCall 251 true
  pub prime253 : PrimeCall 253 false
  pub irreducible : IrreducibleCall (GF 2) x²+x+1 (Ok true)
  pub reducible : IrreducibleCall (GF 2) x²+1 (Ok false)
  pub irreducible_refused : IrreducibleCall (GF 4) x²+1 (Err Refusal.NotPrime)
  pub period_b : PeriodCall (GF 2) x+1 (0 ∷ 0 ∷ 0 ∷ 1 ∷ []) answer work
      (rated_period 4 4 4)
      (1 ∷ 0 ∷ 0 ∷ 0 ∷ 1 ∷ replicate 4094 7)
      cleared
  pub period_f : PeriodCall (GF 2) x²+x+1 (0 ∷ 0 ∷ 0 ∷ 1 ∷ []) answer work
      (Err Refusal.NotAnnihilated)
      answer
      cleared
  pub period_twelve : PeriodCall (GF 2) x²+1 (0 ∷ []) answer work
      (Err Refusal.Reducible)
      answer
      work
  pub set_g : SetCall (GF 2) (x+1 ∷ []) (2 ∷ []) (1 ∷ 0 ∷ []) answer work
      (rated_set 2 2 1 (2 ∷ replicate 7 0))
      (1 ∷ 0 ∷ 1 ∷ replicate 4096 7)
      cleared
  pub set_l : SetCall (GF 2) (x+1 ∷ []) (1 ∷ []) (1 ∷ 0 ∷ []) answer work
      (Err Refusal.NotAnnihilated)
      answer
      cleared
  pub set_k : SetCall (GF 2) (x+1 ∷ x²+x+1 ∷ []) (1 ∷ 1 ∷ []) (0 ∷ 1 ∷ 1 ∷ []) answer work
      (rated_set 2 3 2 (0 ∷ 1 ∷ 0 ∷ 0 ∷ 0 ∷ 0 ∷ 0 ∷ 0 ∷ []))
      (1 ∷ 1 ∷ 1 ∷ replicate 4096 7)
      cleared
  pub set_nine : SetCall (GF 2) [] [] (0 ∷ []) answer work
      (Err Refusal.FactorCount)
      answer
      work
  pub free_h : FreeCall (GF 2) (1 ∷ 0 ∷ []) answer work
      (Ok (FreeRating.Unique 1))
      (0 ∷ 1 ∷ replicate 4097 7)
      cleared
  pub free_i : FreeCall (GF 2) (0 ∷ 1 ∷ []) answer work
      (Ok (FreeRating.Several 2))
      (0 ∷ 0 ∷ 1 ∷ replicate 4096 7)
      cleared
  pub free_sixteen : FreeCall (GF 2) (0 ∷ 1 ∷ []) answer []
      (Err Refusal.LentTooShort)
      answer
      []
  pub continue_n : ContinueCall (GF 2) x²+x+1 (0 ∷ 1 ∷ []) (9 ∷ 9 ∷ 9 ∷ 9 ∷ []) 1
      (Ok tt)
      (9 ∷ 0 ∷ 1 ∷ 1 ∷ [])
  pub continue_seven : ContinueCall (GF 2) x²+x+1 (0 ∷ 1 ∷ []) (9 ∷ 9 ∷ []) 2
      (Err Refusal.CountOutOfRange)
      (9 ∷ 9 ∷ [])
  pub rated_b : FileCall file_b answer work
      (record { sender = 7; outcome = Ok (FileOutcome.Powers 4 4 1 (4 ∷ 0 ∷ 0 ∷ 0 ∷ 0 ∷ 0 ∷ 0 ∷ 0 ∷ [])) })
      (1 ∷ 0 ∷ 0 ∷ 0 ∷ 1 ∷ replicate 4094 7)
      cleared
  pub rated_twice : FileCall file_twice answer work
      (record { sender = 7; outcome = Ok (FileOutcome.Powers 2 2 1 (2 ∷ replicate 7 0)) })
      (1 ∷ 0 ∷ 1 ∷ replicate 4096 7)
      cleared
  pub rated_a : FileCall file_a answer work
      (record { sender = 7; outcome = Ok (FileOutcome.Powers 12 18 1 (4 ∷ replicate 7 0)) })
      (1 ∷ 0 ∷ 0 ∷ 0 ∷ 1 ∷ 0 ∷ 0 ∷ 0 ∷ 0 ∷ 0 ∷ 0 ∷ 0 ∷ 1 ∷ replicate 4086 7)
      cleared
  pub rated_h : FileCall file_h answer work
      (record { sender = 7; outcome = Ok (FileOutcome.Unique 1 2) })
      ((0 ∷ 1 ∷ []) ++ replicate 4097 7)
      cleared
  pub rated_i : FileCall file_i answer work
      (record { sender = 7; outcome = Ok (FileOutcome.Several 2 2) })
      (0 ∷ 0 ∷ 1 ∷ replicate 4096 7)
      cleared
  pub rated_four : FileCall (box 7 ++ end) answer work
      (record { sender = 7; outcome = Err Refusal.RecordOutOfPlace })
      answer
      work
  pub record_two : RecordCall file_b 2 (Ok 3) (1 ∷ [])
  pub record_refused : RecordCall (box 7) 0 (Err Refusal.FileCutShort) []
  pub program_a : ProgramCall file_a
      (text "box result density powers\n7 ok 12/18 4\npoly 1 0 0 0 1 0 0 0 0 0 0 0 1\n")
  pub program_h : ProgramCall file_h (text "box result density powers\n7 ok 1/2 one\npoly 0 1\n")

-- two numbers that differ
pub differ : (m n : ℕ) → m ≡ n → eqb m n ≡ false → ⊥
differ m n e h = eqb-false m n h e

pub call_rows : CallRows
unfolding computed
call_rows =
    record {
      prime251 = record { answer = refl };
      prime253 = record { answer = refl };
      irreducible = record { answer = refl };
      reducible = record { answer = refl };
      irreducible_refused = record { answer = refl };
      period_b = record { rating = refl; lent = record { answer_bytes = refl; work_bytes = refl } };
      period_f = record { rating = refl; lent = record { answer_bytes = refl; work_bytes = refl } };
      period_twelve = record { rating = refl; lent = record { answer_bytes = refl; work_bytes = refl } };
      set_g = record {
        rating = refl;
        powers = refl;
        lent = record
            { answer_bytes = refl; work_bytes = refl };
      };
      set_l = record {
        rating = refl;
        powers = refl;
        lent = record
            { answer_bytes = refl; work_bytes = refl };
      };
      set_k = record {
        rating = refl;
        powers = refl;
        lent = record
            { answer_bytes = refl; work_bytes = refl };
      };
      set_nine =
          record { rating = refl; powers = refl; lent = record { answer_bytes = refl; work_bytes = refl } };
      free_h =
          record { rating = refl; lent = record { answer_bytes = refl; work_bytes = refl } };
      free_i =
          record { rating = refl; lent = record { answer_bytes = refl; work_bytes = refl } };
      free_sixteen =
          record { rating = refl; lent = record { answer_bytes = refl; work_bytes = refl } };
      continue_n = record { filling = refl; buffer_bytes = refl };
      continue_seven = record { filling = refl; buffer_bytes = refl };
      rated_b =
          record {
            sender = refl;
            rating = refl;
            powers = refl;
            lent = record { answer_bytes = refl; work_bytes = refl };
          };
      rated_twice =
          record {
            sender = refl;
            rating = refl;
            powers = refl;
            lent = record { answer_bytes = refl; work_bytes = refl };
          };
      rated_a =
          record {
            sender = refl;
            rating = refl;
            powers = refl;
            lent = record { answer_bytes = refl; work_bytes = refl };
          };
      rated_h =
          record {
            sender = refl;
            rating = refl;
            powers = refl;
            lent = record { answer_bytes = refl; work_bytes = refl };
          };
      rated_i =
          record {
            sender = refl;
            rating = refl;
            powers = refl;
            lent = record { answer_bytes = refl; work_bytes = refl };
          };
      rated_four =
          record {
            sender = refl;
            rating = refl;
            powers = refl;
            lent = record { answer_bytes = refl; work_bytes = refl };
          };
      record_two = record { found = refl; part = refl };
      record_refused = record { found = refl; part = refl };
      program_a = record { lines = refl };
      program_h = record { lines = refl };
    }
