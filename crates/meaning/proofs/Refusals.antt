-- Computed rows: every refusal that a call or a file can meet is reached.
--
--   Refusals == the table: a field for each row      refusals == every row holds
-- Assumes nothing.
use mathlib.Core.Path.{◌≡◌, refl}
use mathlib.Core.Bool.{true, false}
use mathlib.Core.List.{List, [], ◌∷◌, ◌++◌}
use mathlib.Core.Option.{some}
use lib.ListN.{replicate}
use Rattle.meaning.specs.declared.FieldName.{FieldName}
use Rattle.meaning.specs.Polynomial.{Polynomial}
use Rattle.meaning.specs.Period.{rate_period}
use Rattle.meaning.specs.Portion.{rate_set, accepted_factors}
use Rattle.meaning.specs.Free.{rate_free}
use Rattle.meaning.specs.Continuation.{continue_sequence}
use Rattle.meaning.specs.Irreducibility.{ask_irreducible}
use Rattle.meaning.specs.Route.{read_record}
use Rattle.meaning.specs.File.{rate_file}
use Rattle.meaning.proofs.Computed.{GF, computed}
use Rattle.meaning.proofs.Rows.{number_in, box, field, factor, term, terms, end, headed, x+1, x²+1}
use Rattle.meaning.proofs.Rows.{x²+x+1}

-- x, x + 1 and so on over GF(11), the last four times 2
abbrev eight_factors : List Polynomial
eight_factors =
    (0 ∷ 1 ∷ []) ∷ (1 ∷ 1 ∷ []) ∷ (2 ∷ 1 ∷ []) ∷ (3 ∷ 1 ∷ []) ∷ (8 ∷ 2 ∷ []) ∷ (10 ∷ 2 ∷ []) ∷ (1 ∷ 2 ∷ [])
    ∷ (3 ∷ 2 ∷ []) ∷ []

pub record Refusals : Type 0 where
  -- files
  pub file1 : number_in (rate_file (replicate 16385 0) 4097 8192) ≡ some 1
  pub file2 : number_in (rate_file (10 ∷ []) 4097 8192) ≡ some 2
  pub file3 : number_in (rate_file ([]) 4097 8192) ≡ some 3
  pub file4 : number_in (rate_file (field 2) 4097 8192) ≡ some 4
  pub file5 : number_in (rate_file (headed 2 4 end) 4097 8192) ≡ some 5
  pub file6 : number_in (rate_file (headed 4 3 (term 0 ++ end)) 4097 8192) ≡ some 6
  pub file7 : number_in (rate_file (headed 2 3 end) 4097 8192) ≡ some 7
  pub file8 : number_in (rate_file (headed 2 3 (term 2 ++ end)) 4097 8192) ≡ some 8
  pub file10 : number_in (rate_file (headed 2 2 (factor 0 1 [] ++ (term 0 ++ end))) 4097 8192)
      ≡ some 10
  pub file11 : number_in (rate_file (headed 2 2 (factor 1 1 (2 ∷ []) ++ (term 0 ++ end))) 4097 8192)
      ≡ some 11
  pub file12 : number_in (rate_file (headed 2 2 (factor 2 1 (1 ∷ []) ++ (term 0 ++ end))) 4097 8192)
      ≡ some 12
  pub file13 : number_in
      (rate_file (headed 2 2 (factor 1 1 [] ++ (factor 1 1 [] ++ (term 0 ++ end)))) 4097 8192)
      ≡ some 13
  pub file14 : number_in (rate_file (headed 2 2 (factor 1 0 [] ++ (term 0 ++ end))) 4097 8192)
      ≡ some 14
  pub file15 : number_in (rate_file (headed 2 2 (factor 1 2 [] ++ (term 0 ++ end))) 4097 8192)
      ≡ some 15
  pub file16 : number_in (rate_file (headed 2 3 (term 0 ++ end)) 4096 8192) ≡ some 16
  pub file17 : number_in
      (rate_file (headed 2 2 (factor 1 1 [] ++ (terms (1 ∷ 1 ∷ []) ++ end))) 4097 8192)
      ≡ some 17
  pub period_file10 : number_in (rate_file (headed 2 1 (factor 0 0 [] ++ (term 0 ++ end))) 4097 8192)
      ≡ some 10
  pub period_file11 : number_in
      (rate_file (headed 2 1 (factor 1 0 (2 ∷ []) ++ (term 0 ++ end))) 4097 8192)
      ≡ some 11
  pub period_file12 : number_in
      (rate_file (headed 2 1 (factor 2 0 (1 ∷ []) ++ (term 0 ++ end))) 4097 8192)
      ≡ some 12
  pub period_file16 : number_in
      (rate_file (headed 2 1 (factor 1 0 (1 ∷ []) ++ (term 1 ++ end))) 4097 8191)
      ≡ some 16
  pub period_file17 : number_in
      (rate_file (headed 2 1 (factor 2 0 (1 ∷ 1 ∷ []) ++ (terms (0 ∷ 0 ∷ 0 ∷ 1 ∷ []) ++ end)))
      4097 8192)
      ≡ some 17
  -- the period way
  pub period6 : number_in (rate_period (GF 4) x+1 (0 ∷ 1 ∷ []) 4097 8192) ≡ some 6
  pub period7 : number_in (rate_period (GF 2) x+1 [] 4097 8192) ≡ some 7
  pub period8 : number_in (rate_period (GF 2) x+1 (0 ∷ 2 ∷ []) 4097 8192) ≡ some 8
  pub period10 : number_in (rate_period (GF 2) (1 ∷ []) (0 ∷ 1 ∷ []) 4097 8192) ≡ some 10
  pub period11 : number_in (rate_period (GF 2) [] (0 ∷ 1 ∷ []) 4097 8192) ≡ some 11
  pub period12 : number_in (rate_period (GF 2) x²+1 (0 ∷ 1 ∷ []) 4097 8192) ≡ some 12
  pub period16 : number_in (rate_period (GF 2) x+1 (0 ∷ 1 ∷ []) 4096 8192) ≡ some 16
  pub period17 : number_in (rate_period (GF 2) x²+x+1 (0 ∷ 0 ∷ 0 ∷ 1 ∷ []) 4097 8192) ≡ some 17
  -- the set way
  pub set6 : number_in (rate_set (GF 4) (x+1 ∷ x²+x+1 ∷ []) (1 ∷ 1 ∷ []) (0 ∷ 1 ∷ 1 ∷ []) 4097 8192) ≡ some 6
  pub set7 : number_in (rate_set (GF 2) (x+1 ∷ x²+x+1 ∷ []) (1 ∷ 1 ∷ []) [] 4097 8192) ≡ some 7
  pub set8 : number_in (rate_set (GF 2) (x+1 ∷ x²+x+1 ∷ []) (1 ∷ 1 ∷ []) (0 ∷ 1 ∷ 2 ∷ []) 4097 8192) ≡ some 8
  pub set9 : number_in (rate_set (GF 2) [] [] (0 ∷ 1 ∷ 1 ∷ []) 4097 8192) ≡ some 9
  pub set10 : number_in (rate_set (GF 2) (x+1 ∷ (1 ∷ []) ∷ []) (1 ∷ 1 ∷ []) (0 ∷ 1 ∷ 1 ∷ []) 4097 8192) ≡ some
      10
  pub set11 : number_in (rate_set (GF 2) (x+1 ∷ [] ∷ []) (1 ∷ 1 ∷ []) (0 ∷ 1 ∷ 1 ∷ []) 4097 8192) ≡ some 11
  pub set12 : number_in (rate_set (GF 2) (x+1 ∷ x²+1 ∷ []) (1 ∷ 1 ∷ []) (0 ∷ 1 ∷ 1 ∷ []) 4097 8192) ≡ some 12
  pub set13 : number_in (rate_set (GF 2) (x+1 ∷ x+1 ∷ []) (1 ∷ 2 ∷ []) (0 ∷ 1 ∷ 1 ∷ []) 4097 8192) ≡ some 13
  pub set14 : number_in (rate_set (GF 2) (x+1 ∷ x²+x+1 ∷ []) (1 ∷ 0 ∷ []) (0 ∷ 1 ∷ 1 ∷ []) 4097 8192) ≡ some
      14
  pub set15 : number_in (rate_set (GF 2) (x+1 ∷ x²+x+1 ∷ []) (1 ∷ 1 ∷ []) (0 ∷ 1 ∷ []) 4097 8192) ≡ some 15
  pub set16 : number_in (rate_set (GF 2) (x+1 ∷ x²+x+1 ∷ []) (1 ∷ 1 ∷ []) (0 ∷ 1 ∷ 1 ∷ []) 4097 8191) ≡ some
      16
  pub set17 : number_in (rate_set (GF 2) (x+1 ∷ x²+x+1 ∷ []) (1 ∷ 1 ∷ []) (0 ∷ 1 ∷ 1 ∷ 1 ∷ []) 4097 8192) ≡
      some
      17
  -- the free way
  pub free6 : number_in (rate_free (GF 1) (0 ∷ []) 4097 8192) ≡ some 6
  pub free7 : number_in (rate_free (GF 2) [] 4097 8192) ≡ some 7
  pub free8 : number_in (rate_free (GF 2) (2 ∷ []) 4097 8192) ≡ some 8
  pub free16 : number_in (rate_free (GF 2) (0 ∷ []) 4097 8191) ≡ some 16
  -- the continuation way, and the question whether a polynomial is irreducible
  pub continue6 : number_in (continue_sequence (GF 9) x+1 (1 ∷ []) 0 (9 ∷ 9 ∷ [])) ≡ some 6
  pub continue7 : number_in (continue_sequence (GF 2) x+1 (1 ∷ []) 0 []) ≡ some 7
  pub continue8 : number_in (continue_sequence (GF 2) x+1 (2 ∷ []) 0 (9 ∷ 9 ∷ [])) ≡ some 8
  pub continue10 : number_in (continue_sequence (GF 2) (replicate 4098 0) [] 0 (9 ∷ 9 ∷ [])) ≡ some 10
  pub continue11 : number_in (continue_sequence (GF 2) [] [] 0 (9 ∷ 9 ∷ [])) ≡ some 11
  pub continue15 : number_in (continue_sequence (GF 2) x²+x+1 (0 ∷ []) 0 (9 ∷ 9 ∷ [])) ≡ some 15
  pub ask6 : number_in (ask_irreducible (GF 6) x+1) ≡ some 6
  pub ask10 : number_in (ask_irreducible (GF 2) (1 ∷ [])) ≡ some 10
  pub ask11 : number_in (ask_irreducible (GF 2) []) ≡ some 11
  -- the reader refuses the whole file, whatever number is asked for
  pub read1 : number_in (read_record (replicate 16385 0) 0) ≡ some 1
  pub read2 : number_in (read_record (box 7 ++ (10 ∷ [])) 0) ≡ some 2
  pub read3 : number_in (read_record (box 7) 0) ≡ some 3
  pub read4 : number_in (read_record (box 7 ++ end) 0) ≡ some 4
  pub read5 : number_in (read_record (headed 2 4 end) 0) ≡ some 5
  -- factors are accepted when 6 or 20 and 9 to 14 do not turn them down
  pub accepted : accepted_factors (GF 2) (x+1 ∷ x²+x+1 ∷ []) (1 ∷ 1 ∷ []) ≡ true
  pub accepted6 : accepted_factors (GF 4) (x+1 ∷ x²+x+1 ∷ []) (1 ∷ 1 ∷ []) ≡ false
  pub accepted9 : accepted_factors (GF 2) [] [] ≡ false
  pub accepted10 : accepted_factors (GF 2) (x+1 ∷ (1 ∷ []) ∷ []) (1 ∷ 1 ∷ []) ≡ false
  pub accepted11 : accepted_factors (GF 2) ([] ∷ []) (1 ∷ []) ≡ false
  pub accepted12 : accepted_factors (GF 2) (x²+1 ∷ []) (1 ∷ []) ≡ false
  pub accepted13 : accepted_factors (GF 2) (x+1 ∷ x+1 ∷ []) (1 ∷ 1 ∷ []) ≡ false
  pub accepted14 : accepted_factors (GF 2) (x+1 ∷ x²+x+1 ∷ []) (1 ∷ 0 ∷ []) ≡ false
  pub accepted20 : accepted_factors (FieldName.Binary 1 1) (x+1 ∷ []) (1 ∷ []) ≡ false
  -- and all others are: eight factors of total degree 4,096, x and multiples among them, and no more
  pub accepted_most : accepted_factors (GF 11) eight_factors
      (512 ∷ 512 ∷ 512 ∷ 512 ∷ 512 ∷ 512 ∷ 512 ∷ 512 ∷ [])
      ≡ true
  pub accepted_more : accepted_factors (GF 11) eight_factors
      (513 ∷ 512 ∷ 512 ∷ 512 ∷ 512 ∷ 512 ∷ 512 ∷ 512 ∷ [])
      ≡ false

pub refusals : Refusals
unfolding computed
refusals =
    record {
      file1 = refl;
      file2 = refl;
      file3 = refl;
      file4 = refl;
      file5 = refl;
      file6 = refl;
      file7 = refl;
      file8 = refl;
      file10 = refl;
      file11 = refl;
      file12 = refl;
      file13 = refl;
      file14 = refl;
      file15 = refl;
      file16 = refl;
      file17 = refl;
      period_file10 = refl;
      period_file11 = refl;
      period_file12 = refl;
      period_file16 = refl;
      period_file17 = refl;
      period6 = refl;
      period7 = refl;
      period8 = refl;
      period10 = refl;
      period11 = refl;
      period12 = refl;
      period16 = refl;
      period17 = refl;
      set6 = refl;
      set7 = refl;
      set8 = refl;
      set9 = refl;
      set10 = refl;
      set11 = refl;
      set12 = refl;
      set13 = refl;
      set14 = refl;
      set15 = refl;
      set16 = refl;
      set17 = refl;
      free6 = refl;
      free7 = refl;
      free8 = refl;
      free16 = refl;
      continue6 = refl;
      continue7 = refl;
      continue8 = refl;
      continue10 = refl;
      continue11 = refl;
      continue15 = refl;
      ask6 = refl;
      ask10 = refl;
      ask11 = refl;
      read1 = refl;
      read2 = refl;
      read3 = refl;
      read4 = refl;
      read5 = refl;
      accepted = refl;
      accepted6 = refl;
      accepted9 = refl;
      accepted10 = refl;
      accepted11 = refl;
      accepted12 = refl;
      accepted13 = refl;
      accepted14 = refl;
      accepted20 = refl;
      accepted_most = refl;
      accepted_more = refl;
    }
