-- Computed rows: the rows M and N of paper 01, the printed lines, and the reader.
--
--   Lines == the table: a field for each row      lines == every row holds
-- Assumes nothing.
use Prim.Native.Nat.{ℕ}
use mathlib.Core.Path.{◌≡◌, refl}
use mathlib.Core.Bool.{true, false}
use mathlib.Core.List.{List, [], ◌∷◌, ◌++◌}
use lib.ListN.{replicate}
use Rattle.meaning.specs.Result.{answered, refused}
use Rattle.meaning.specs.Period.{rate_period}
use Rattle.meaning.specs.Continuation.{continue_sequence}
use Rattle.meaning.specs.Irreducibility.{ask_irreducible}
use Rattle.meaning.specs.Route.{read_record}
use Rattle.meaning.specs.Print.{text, printed}
use Rattle.meaning.proofs.Computed.{GF, computed}
use Rattle.meaning.proofs.Rows.{box, field, mode, factor, record5, term, terms, stop, end}
use Rattle.meaning.proofs.Rows.{x²+1, x²+x+1, case_a}

-- a file of box 7 over GF(2) in the mode m
abbrev headed : ℕ → List ℕ → List ℕ
headed m rest = box 7 ++ (field 2 ++ (mode m ++ rest))

pub record Lines : Type 0 where
  -- rows M and N of paper 01
  pub M : rate_period (GF 2) x²+1 (0 ∷ []) 4097 8192 ≡ refused 12
  pub M-asked : ask_irreducible (GF 2) x²+1 ≡ answered false
  pub M-over-3 : ask_irreducible (GF 3) x²+1 ≡ answered true
  pub N : continue_sequence (GF 2) x²+x+1 (0 ∷ 1 ∷ []) 0 (9 ∷ 9 ∷ 9 ∷ 9 ∷ 9 ∷ 9 ∷ [])
      ≡ answered (0 ∷ 1 ∷ 1 ∷ 0 ∷ 1 ∷ 1 ∷ [])
  pub N-over-3 : continue_sequence (GF 3) x²+x+1 (0 ∷ 1 ∷ []) 0 (9 ∷ 9 ∷ 9 ∷ 9 ∷ 9 ∷ 9 ∷ [])
      ≡ answered (0 ∷ 1 ∷ 2 ∷ 0 ∷ 1 ∷ 2 ∷ [])
  pub N-from-two : continue_sequence (GF 2) x²+x+1 (0 ∷ 1 ∷ []) 2 (9 ∷ 8 ∷ 7 ∷ []) ≡ answered (9 ∷ 8 ∷ 0 ∷ [])
  pub degree0fills_zeros : continue_sequence (GF 2) (1 ∷ []) [] 1 (9 ∷ 9 ∷ 9 ∷ []) ≡ answered (9 ∷ 0 ∷ 0 ∷ [])
  -- the printed lines: case A as paper 01 shows it, a refusal, each mode, terms of kinds 5 and 6, the
  -- box of a bad file
  pub printed_a : printed (case_a 3 (1 ∷ 1 ∷ []))
      ≡ text "box result density powers\n7 ok 12/18 4\npoly 1 0 0 0 1 0 0 0 0 0 0 0 1\n"
  pub printed_refusal : printed (case_a 2 (1 ∷ 0 ∷ []))
      ≡ text "box result density powers\n7 refused 12\n"
  pub printed_b : printed (headed 1 (factor 1 0 (1 ∷ []) ++ (terms (0 ∷ 0 ∷ 0 ∷ 1 ∷ []) ++ end)))
      ≡ text "box result density powers\n7 ok 4/4 4\npoly 1 0 0 0 1\n"
  pub printed_h : printed (headed 3 (terms (1 ∷ 0 ∷ []) ++ end))
      ≡ text "box result density powers\n7 ok 1/2 one\npoly 0 1\n"
  pub printed_i : printed (headed 3 (terms (0 ∷ 1 ∷ []) ++ end))
      ≡ text "box result density powers\n7 ok 2/2 some\npoly 0 0 1\n"
  pub printed_set : printed
      (headed 2
      (factor 1 1 (1 ∷ []) ++ (stop ++ (factor 1 1 [] ++ (record5 (replicate 64 1) ++ (term 1 ++ end))))))
      ≡ text "box result density powers\n7 ok 1/65 1,0\npoly 1 1\n"
  pub printed_empty : printed [] ≡ text "box result density powers\n0 refused 3\n"
  pub printed_box : printed (1 ∷ 0 ∷ 0 ∷ 1 ∷ 0 ∷ end)
      ≡ text "box result density powers\n256 refused 4\n"
  -- the reader: records by number, a stop among them, the last, and beyond
  pub read_box : read_record (case_a 3 (1 ∷ 1 ∷ [])) 0
      ≡ answered (record { kind = 1; body = 0 ∷ 0 ∷ 0 ∷ 7 ∷ [] })
  pub read_stop : read_record (case_a 3 (1 ∷ 1 ∷ [])) 4
      ≡ answered (record { kind = 7; body = 1 ∷ 2 ∷ 3 ∷ 4 ∷ 5 ∷ 6 ∷ 7 ∷ 8 ∷ [] })
  pub read_second_term : read_record (case_a 3 (1 ∷ 1 ∷ [])) 6 ≡ answered (record { kind = 6; body = 1 ∷ [] })
  pub read_last : read_record (case_a 3 (1 ∷ 1 ∷ [])) 23 ≡ answered (record { kind = 8; body = [] })
  pub read_beyond : read_record (case_a 3 (1 ∷ 1 ∷ [])) 24 ≡ answered (record { kind = 8; body = [] })
  pub read_far_beyond : read_record (case_a 3 (1 ∷ 1 ∷ [])) 999 ≡ answered (record { kind = 8; body = [] })

pub lines : Lines
unfolding computed
lines =
    record {
      M = refl;
      M-asked = refl;
      M-over-3 = refl;
      N = refl;
      N-over-3 = refl;
      N-from-two = refl;
      degree0fills_zeros = refl;
      printed_a = refl;
      printed_refusal = refl;
      printed_b = refl;
      printed_h = refl;
      printed_i = refl;
      printed_set = refl;
      printed_empty = refl;
      printed_box = refl;
      read_box = refl;
      read_stop = refl;
      read_second_term = refl;
      read_last = refl;
      read_beyond = refl;
      read_far_beyond = refl;
    }
