-- Computed rows: three sequences over GF(2), and contracts that are met on stretches of them. The factor is
-- x + 1, or x for the last of them. Factors over GF(3), one of them a multiple of x, and over GF(4).
--
--   alternating, ones, one_then_zeros == 1, 0, 1, 0, …; 1, 1, 1, …; 1 and then zeros
--   …-in_field            == it is a sequence of GF(2)
--   …-annihilated         == the factor to its upper power annihilates it
--   accepted-…            == the factor with its upper power is accepted; `plain`: its multiple is not x
--   multiples, factor4    == the factors over GF(3) and GF(4)
--   …-product             == the product of the monic multiples of factors to their upper powers
--   lent                  == the lent bytes are accepted
--   …-set, …-period, …-free == the call of that way is met on a stretch, by an answer with its bytes
--   three-…               == of the terms 0, 1, 0: their least degree is 2, two polynomials fit them, and the
--                            free way returns the first
-- Assumes nothing.
use Prim.Native.Nat.{ℕ, zero, suc}
use mathlib.Core.Path.{◌≡◌, refl}
use mathlib.Core.Bool.{false}
use mathlib.Core.List.{List, [], ◌∷◌, map}
use mathlib.Core.Option.{some}
use lib.ListN.{length, replicate}
use lib.Dec.{lit≤, T}
use Rattle.meaning.specs.declared.FieldName.{FieldName}
use Rattle.meaning.specs.declared.Refusal.{Refusal}
use Rattle.meaning.specs.declared.SetRating.{SetRating}
use Rattle.meaning.specs.declared.FreeRating.{FreeRating}
use Rattle.meaning.proofs.CallRows.{rated_period, rated_set}
use Rattle.meaning.specs.Answers.{Reply}
use Rattle.std.specs.Prelude.{Ok, Err}
use Rattle.meaning.specs.Search.{holds_for_some}
use Rattle.meaning.specs.Field.{prime}
use Rattle.meaning.specs.Extension.{binary}
use Rattle.meaning.specs.Polynomial.{Polynomial, product, monic_multiple}
use Rattle.meaning.specs.Sequence.{Sequence, InField, AnnihilatesEndless, cut}
use Rattle.meaning.specs.Conditions.{named, accepted_lent}
use Rattle.meaning.specs.Power.{is_x}
use Rattle.meaning.specs.Portion.{accepted_factors}
use Rattle.meaning.specs.Free.{Fits, least_degree}
use Rattle.meaning.specs.Calls.{PeriodCall, SetCall, FreeCall}
use Rattle.meaning.proofs.Computed.{GF, computed}
use Rattle.meaning.proofs.Rows.{x+1}

-- the lent bytes, the work bytes afterwards, and the answer bytes after x² + 1, x², x and 1
abbrev pub answer : List ℕ
answer = replicate 4097 7

abbrev pub work : List ℕ
work = replicate 8192 9

abbrev pub clean : List ℕ
clean = replicate 8192 0

abbrev pub after-x²+1 : List ℕ
after-x²+1 = 1 ∷ 0 ∷ 1 ∷ replicate 4094 7

abbrev pub after_x² : List ℕ
after_x² = 0 ∷ 0 ∷ 1 ∷ replicate 4094 7

abbrev pub after-x : List ℕ
after-x = 0 ∷ 1 ∷ replicate 4095 7

abbrev pub after-1 : List ℕ
after-1 = 1 ∷ replicate 4096 7

pub lent : T (accepted_lent (length answer) (length work))
unfolding computed
lent = tt

-- what the set way answers with one factor
abbrev pub rated : (degree repeat power : ℕ) → Reply SetRating
rated d n r = rated_set d n 1 (r ∷ 0 ∷ 0 ∷ 0 ∷ 0 ∷ 0 ∷ 0 ∷ 0 ∷ [])

abbrev pub too_few_terms : Reply SetRating
too_few_terms = Err Refusal.TooFewTerms

-- THE FACTOR x + 1
abbrev pub factors : List Polynomial
factors = x+1 ∷ []

pub accepted-2 : T (accepted_factors (GF 2) factors (2 ∷ []))
unfolding computed
accepted-2 = tt

pub accepted-3 : T (accepted_factors (GF 2) factors (3 ∷ []))
unfolding computed
accepted-3 = tt

pub plain : holds_for_some is_x (map (monic_multiple (prime 2)) factors) ≡ false
unfolding computed
plain = refl

-- 1, 0, 1, 0, …
unfoldable pub alternating : Sequence
alternating zero = 1
alternating (suc zero) = 0
alternating (suc (suc k)) = alternating k

pub alternating-in_field : InField (prime 2) alternating
unfolding computed alternating
alternating-in_field zero = lit≤ tt
alternating-in_field (suc zero) = lit≤ tt
alternating-in_field (suc (suc k)) = alternating-in_field k

pub alternating-annihilated-2 :
    AnnihilatesEndless (prime 2) (product (prime 2) (named factors (2 ∷ []))) alternating
unfolding computed alternating
alternating-annihilated-2 zero = refl
alternating-annihilated-2 (suc zero) = refl
alternating-annihilated-2 (suc (suc k)) = alternating-annihilated-2 k

pub alternating-annihilated-3 :
    AnnihilatesEndless (prime 2) (product (prime 2) (named factors (3 ∷ []))) alternating
unfolding computed alternating
alternating-annihilated-3 zero = refl
alternating-annihilated-3 (suc zero) = refl
alternating-annihilated-3 (suc (suc k)) = alternating-annihilated-3 k

-- three terms from place 1 on, the period from place 3 on, four terms from place 1 on
pub alternating-set :
    SetCall (GF 2) factors (3 ∷ []) (cut alternating 1 3) answer work (rated 2 2 2) after-x²+1 clean
unfolding computed alternating
alternating-set =
    record { rating = refl; powers = refl; lent = record { answer_bytes = refl; work_bytes = refl } }

pub alternating-period :
    PeriodCall (GF 2) x+1 (cut alternating 3 2) answer work (rated_period 2 2 2) after-x²+1 clean
unfolding computed alternating
alternating-period = record { rating = refl; lent = record { answer_bytes = refl; work_bytes = refl } }

pub alternating-free :
    FreeCall (GF 2) (cut alternating 1 4) answer work (Ok (FreeRating.Unique 2)) after-x²+1 clean
unfolding computed alternating
alternating-free = record { rating = refl; lent = record { answer_bytes = refl; work_bytes = refl } }

-- with the upper power 2, two terms from place 0 on
pub alternating-short :
    SetCall (GF 2) factors (2 ∷ []) (cut alternating 0 2) answer work (rated 2 2 2) after-x²+1 clean
unfolding computed alternating
alternating-short =
    record { rating = refl; powers = refl; lent = record { answer_bytes = refl; work_bytes = refl } }

-- 1, 1, 1, … with the upper power 2: one term, which is too few
unfoldable pub ones : Sequence
ones k = 1

pub ones_refused : SetCall (GF 2) factors (2 ∷ []) (cut ones 0 1) answer work too_few_terms answer work
unfolding computed ones
ones_refused = record {
  rating = refl;
  powers = refl;
  lent = record
      { answer_bytes = refl; work_bytes = refl };
}

-- THE FACTOR x
abbrev pub x : List Polynomial
x = (0 ∷ 1 ∷ []) ∷ []

pub accepted-x : T (accepted_factors (GF 2) x (1 ∷ []))
unfolding computed
accepted-x = tt

-- 1, and then zeros: one term from place 0 on, and one from place 1 on
unfoldable pub one_then_zeros : Sequence
one_then_zeros zero = 1
one_then_zeros (suc k) = 0

pub one_then_zeros-in_field : InField (prime 2) one_then_zeros
unfolding computed one_then_zeros
one_then_zeros-in_field zero = lit≤ tt
one_then_zeros-in_field (suc k) = lit≤ tt

pub one_then_zeros-annihilated :
    AnnihilatesEndless (prime 2) (product (prime 2) (named x (1 ∷ []))) one_then_zeros
unfolding computed one_then_zeros
one_then_zeros-annihilated zero = refl
one_then_zeros-annihilated (suc k) = refl

pub one_then_zeros-set-0 : SetCall (GF 2) x (1 ∷ []) (cut one_then_zeros 0 1) answer work (rated 1 0 1)
    after-x
    clean
unfolding computed one_then_zeros
one_then_zeros-set-0 =
    record { rating = refl; powers = refl; lent = record { answer_bytes = refl; work_bytes = refl } }

pub one_then_zeros-set-1 : SetCall (GF 2) x (1 ∷ []) (cut one_then_zeros 1 1) answer work (rated 0 1 0)
    after-1
    clean
unfolding computed one_then_zeros
one_then_zeros-set-1 =
    record { rating = refl; powers = refl; lent = record { answer_bytes = refl; work_bytes = refl } }

-- MULTIPLES OF x AND x + 2 over GF(3): 2x and 2x + 1, to the powers 2 and 1
abbrev pub multiples : List Polynomial
multiples = (0 ∷ 2 ∷ []) ∷ (1 ∷ 2 ∷ []) ∷ []

pub accepted-multiples : T (accepted_factors (GF 3) multiples (2 ∷ 1 ∷ []))
unfolding computed
accepted-multiples = tt

pub multiples-product :
    product (prime 3) (named (map (monic_multiple (prime 3)) multiples) (2 ∷ 1 ∷ [])) ≡ 0 ∷ 0 ∷ 2 ∷ 1 ∷ []
unfolding computed
multiples-product = refl

-- OVER GF(4): 2·x + 3, which stands for x + 2, to the power 2
abbrev pub factor4 : List Polynomial
factor4 = (3 ∷ 2 ∷ []) ∷ []

pub accepted_over4 : T (accepted_factors (FieldName.Binary 2 3) factor4 (2 ∷ []))
unfolding computed
accepted_over4 = tt

pub over4_product :
    product (binary 2 3) (named (map (monic_multiple (binary 2 3)) factor4) (2 ∷ [])) ≡ 3 ∷ 0 ∷ 1 ∷ []
unfolding computed
over4_product = refl

-- THE TERMS 0, 1, 0 of 1, 0, 1, 0, …
abbrev pub three : List ℕ
three = 0 ∷ 1 ∷ 0 ∷ []

pub three-least : least_degree (prime 2) three ≡ some 2
unfolding computed
three-least = refl

pub three-first : Fits (prime 2) three 2 (0 ∷ 0 ∷ 1 ∷ [])
unfolding computed
three-first = record { monic = tt; of_degree = refl; annihilates = tt }

pub three-second : Fits (prime 2) three 2 (1 ∷ 0 ∷ 1 ∷ [])
unfolding computed
three-second = record { monic = tt; of_degree = refl; annihilates = tt }

pub three-free : FreeCall (GF 2) three answer work (Ok (FreeRating.Several 2)) after_x² clean
unfolding computed
three-free = record { rating = refl; lent = record { answer_bytes = refl; work_bytes = refl } }
