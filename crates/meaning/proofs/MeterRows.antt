-- Computed rows: the meter, term by term, and a whole profile. Where a meter that holds 4,095 terms accepts
-- one more, a row says it of the table of its conditions: the figures of 4,096 terms would take the
-- definition far too long.
--
--   MeterRows == the table: a field for each row      meter_rows == every row holds
--   reading_first == before the first term 0 and `one`, whatever the field
-- Assumes nothing.
use mathlib.Core.Path.{◌≡◌, refl}
use mathlib.Core.Bool.{Bool, true, false}
use mathlib.Core.List.{[], ◌∷◌}
use mathlib.Core.Option.{none, some}
use Prim.Native.Nat.{ℕ}
use lib.ListN.{replicate}
use Rattle.meaning.specs.Field.{Field, prime}
use Rattle.meaning.specs.Result.{Result, refused, answered, first_of}
use Rattle.meaning.specs.Free.{FreeFigures}
use Rattle.meaning.specs.Meter.{start_meter, meter_full, term_table, take_term, meter_reading}
use Rattle.meaning.specs.Meter.{profile_entry, profile_of}
use Rattle.meaning.proofs.Computed.{GF, computed}

abbrev figures : ℕ → Bool → Result FreeFigures
figures d u = answered (record { degree = d; unique = u })

pub record MeterRows : Type 0 where
  pub started : start_meter (GF 251) ≡ answered tt
  pub start6 : start_meter (GF 253) ≡ refused 6
  -- before the first term, and 0, 1, 0, 0 over GF(2): row I is the second
  pub before_first : meter_reading (prime 2) [] ≡ figures 0 true
  pub first : take_term (prime 2) [] 0 ≡ figures 0 true
  pub second : take_term (prime 2) (0 ∷ []) 1 ≡ figures 2 false
  pub third : take_term (prime 2) (0 ∷ 1 ∷ []) 0 ≡ figures 2 false
  pub fourth : take_term (prime 2) (0 ∷ 1 ∷ 0 ∷ []) 0 ≡ figures 2 true
  pub over3 : take_term (prime 3) (1 ∷ 2 ∷ []) 1 ≡ figures 1 true
  -- 8, and 18 after it
  pub term8 : take_term (prime 2) (0 ∷ 1 ∷ []) 2 ≡ refused 8
  pub largest : take_term (prime 251) [] 250 ≡ figures 1 false
  pub term18 : take_term (prime 2) (replicate 4096 0) 1 ≡ refused 18
  pub term8and18 : take_term (prime 2) (replicate 4096 0) 2 ≡ refused 8
  -- a meter that holds 4,095 terms takes one more, one that holds 4,096 does not
  pub last_open : meter_full 4095 ≡ false
  pub full : meter_full 4096 ≡ true
  pub last_taken : first_of (term_table (prime 2) 4095 1) ≡ none
  pub one_more : first_of (term_table (prime 2) 4096 1) ≡ some 18
  -- a degree of two bytes, the less significant first
  pub two_bytes : profile_entry 0 (record { degree = 513; unique = false }) ≡ 0 ∷ 1 ∷ 2 ∷ 0 ∷ []
  pub byte_full : profile_entry 0 (record { degree = 255; unique = true }) ≡ 0 ∷ 255 ∷ 0 ∷ 1 ∷ []
  pub byte_over : profile_entry 18 (record { degree = 256; unique = true }) ≡ 18 ∷ 0 ∷ 1 ∷ 1 ∷ []
  -- a refused term in the midst: the figures stay, and so does what follows
  pub profile : profile_of (prime 2) [] (0 ∷ 1 ∷ 2 ∷ 0 ∷ 0 ∷ [])
      ≡ (0 ∷ 0 ∷ 0 ∷ 1 ∷ 0 ∷ 2 ∷ 0 ∷ 0 ∷ 8 ∷ 2 ∷ 0 ∷ 0 ∷ 0 ∷ 2 ∷ 0 ∷ 0 ∷ 0 ∷ 2 ∷ 0 ∷ 1 ∷ [])

pub meter_rows : MeterRows
unfolding computed
meter_rows =
    record {
      started = refl;
      start6 = refl;
      before_first = refl;
      first = refl;
      second = refl;
      third = refl;
      fourth = refl;
      over3 = refl;
      term8 = refl;
      largest = refl;
      term18 = refl;
      term8and18 = refl;
      last_open = refl;
      full = refl;
      last_taken = refl;
      one_more = refl;
      two_bytes = refl;
      byte_full = refl;
      byte_over = refl;
      profile = refl;
    }

pub reading_first : (F : Field) → meter_reading F [] ≡ figures 0 true
unfolding computed
reading_first F = refl
