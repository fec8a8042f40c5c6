-- The route file: its records in order, the refusals 1 to 5, and what the file holds. Bytes are numbers.
--
--   look_up k l        == the value beside the first k of a list of pairs, or none
--   body_lengths       == the kinds of record with the lengths of their bodies
--   Stage             == how far the order of records has come
--   admitted stage    == the kinds that may stand next, each with the stage after it: 1, 2 or 9, 3 once each,
--                        then factors, then terms, then the end; a stop (7) anywhere between 1 and 8; nothing
--                        after the end
--   RouteRecord       == a record by its kind and its body
--   walk bytes skip stage == the records from here on, where `skip` bytes are left of the body before: at
--                          each record the refusals 2, 3 and 4 are tried in turn, and the first bad record
--                          decides. Bytes after the end count as one more record
--   bodies k rs       == the bodies of the records of kind k, in order
--   byte_of k rs       == the one byte of the first record of kind k; 0 where there is none
--   factor_upper body  == the upper power that a factor's body names
--   mode_of m          == the mode with the number m: 1 period, 2 set way, 3 free way; none for any other
--                        number
--   suits m bodies    == the factors suit the mode: one with upper power 0, one to eight, none
--   mode_unsuited rs   == refusal 5: the mode is not 1, 2 or 3, or the factors do not suit it
--   records file      == the records of the file, or its refusal by 1 to 5
--   read_record file n == record n, counted from 0; beyond the last the end record
--   number bytes      == the number of several bytes, the most significant first; 0 for none
--   box_of file        == the box number; 0 where the file does not begin with a whole box record or refusal
--                         1
--                        holds
use Rattle.std.specs.Prelude.{ℕ, zero, suc, ◌+◌, ◌*◌, Bool, true, false, not, ◌&&◌, List, [], ◌∷◌, length}
use Rattle.std.specs.Prelude.{get_or, take, drop, leb, ltb, eqb}
use Rattle.std.proofs.Math.Option.{Option, none, some}
use Rattle.meaning.specs.Result.{Result, refused, answered}

unfoldable pub look_up : {A : Type 0} → ℕ → List (ℕ × A) → Option A
look_up k [] = none
look_up k (e ∷ l) = elim (eqb k e.0) [ true ↦ some e.1 | false ↦ look_up k l ]

unfoldable pub body_lengths : List (ℕ × ℕ)
body_lengths = (1, 4) ∷ (2, 1) ∷ (3, 1) ∷ (4, 35) ∷ (5, 64) ∷ (6, 1) ∷ (7, 8) ∷ (8, 0) ∷ (9, 2) ∷ []

pub data Stage : Type 0 where
  at_start : Stage
  after_box : Stage
  after_field : Stage
  in_factors : Stage
  in_terms : Stage
  after_end : Stage

unfoldable pub admitted : Stage → List (ℕ × Stage)
admitted at_start = (1, after_box) ∷ []
admitted after_box = (2, after_field) ∷ (7, after_box) ∷ (9, after_field) ∷ []
admitted after_field = (3, in_factors) ∷ (7, after_field) ∷ []
admitted in_factors = (4, in_factors) ∷ (5, in_terms) ∷ (6, in_terms) ∷ (7, in_factors) ∷ (8, after_end) ∷ []
admitted in_terms = (5, in_terms) ∷ (6, in_terms) ∷ (7, in_terms) ∷ (8, after_end) ∷ []
admitted after_end = []

pub record RouteRecord : Type 0 where
  pub kind : ℕ
  pub body : List ℕ

-- where the bytes are over: all is well after the end record alone
unfoldable pub stopped : Stage → Result (List RouteRecord)
stopped at_start = refused 3
stopped after_box = refused 3
stopped after_field = refused 3
stopped in_factors = refused 3
stopped in_terms = refused 3
stopped after_end = answered []

unfoldable pub before : RouteRecord → Result (List RouteRecord) → Result (List RouteRecord)
before r (refused n) = refused n
before r (answered rs) = answered (r ∷ rs)

unfoldable pub walk : List ℕ → ℕ → Stage → Result (List RouteRecord)
walk [] skip stage = stopped stage
walk (b ∷ rest) (suc skip) stage = walk rest skip stage
walk (kind ∷ rest) zero stage =
    elim (look_up kind body_lengths) [
      | none ↦ refused 2
      | some n ↦ elim (ltb (length rest) n) [
        | true ↦ refused 3
        | false ↦ elim (look_up kind (admitted stage)) [
          | none ↦ refused 4
          | some after ↦ before (record { kind = kind; body = take n rest }) (walk rest n after)
        ]
      ]
    ]

unfoldable pub bodies : ℕ → List RouteRecord → List (List ℕ)
bodies k [] = []
bodies k (r ∷ rs) = elim (eqb r.kind k) [ true ↦ r.body ∷ bodies k rs | false ↦ bodies k rs ]

unfoldable pub appended : ℕ → List ℕ → ℕ
appended n [] = n
appended n (b ∷ rest) = appended (256 * n + b) rest

unfoldable pub number : List ℕ → ℕ
number bytes = appended 0 bytes

unfoldable pub byte_of : ℕ → List RouteRecord → ℕ
byte_of k rs = get_or (get_or (bodies k rs) 0 []) 0 0

unfoldable pub factor_upper : List ℕ → ℕ
factor_upper body = number (take 2 (drop 1 body))

pub data Mode : Type 0 where
  period_mode : Mode
  set_mode : Mode
  free_mode : Mode

unfoldable pub mode_of : ℕ → Option Mode
mode_of m = look_up m ((1, period_mode) ∷ (2, set_mode) ∷ (3, free_mode) ∷ [])

unfoldable pub suits : Mode → List (List ℕ) → Bool
suits period_mode factors = eqb (length factors) 1 && eqb (factor_upper (get_or factors 0 [])) 0
suits set_mode factors = leb 1 (length factors) && leb (length factors) 8
suits free_mode factors = eqb (length factors) 0

unfoldable pub mode_unsuited : List RouteRecord → Bool
mode_unsuited rs = elim (mode_of (byte_of 3 rs)) [ none ↦ true | some m ↦ not (suits m (bodies 4 rs)) ]

unfoldable pub suited : Result (List RouteRecord) → Result (List RouteRecord)
suited (refused n) = refused n
suited (answered rs) = elim (mode_unsuited rs) [ true ↦ refused 5 | false ↦ answered rs ]

unfoldable pub records : List ℕ → Result (List RouteRecord)
records file = elim (ltb 16384 (length file)) [ true ↦ refused 1 | false ↦ suited (walk file 0 at_start) ]

unfoldable pub end_record : RouteRecord
end_record = record { kind = 8; body = [] }

unfoldable pub read_record : List ℕ → ℕ → Result RouteRecord
read_record file n =
    elim (records file) [ refused k ↦ refused k | answered rs ↦ answered (get_or rs n end_record) ]

unfoldable pub box_of : List ℕ → ℕ
box_of file =
    elim (leb 5 (length file) && leb (length file) 16384 && eqb (get_or file 0 0) 1) [
      | true ↦ number (take 4 (drop 1 file))
      | false ↦ 0
    ]
