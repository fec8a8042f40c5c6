-- That demand 3 fails with x among the factors, with D − 1 terms and with 2L − 1 terms, by examples over
-- GF(2); and how many terms it takes over GF(3) and GF(4). What is computed of them stands in
-- proofs/Stretches.antt of crate meaning.
--
--   FactorX      == with x among the factors the statement `CutAnywhere` is false: two cuts of one sequence
--                   are rated differently
--   OneTermShort == D − 1 terms do not settle the rating and D do, an instance of the promises, also with
--                   the factor x; and 15 refuses them
--   OtherFields  == D − 1 terms do not settle it and D do, over GF(3) with multiples of x and of x + 2, and
--                   over GF(4)
--   TwoFit       == with 2L − 1 terms two polynomials of the least degree L fit, and the free way returns the
--                   first of them, which is not the minimal polynomial
-- Assumes nothing.
use Prim.Native.Nat.{ℕ, suc, ◌*◌}
use native.Mathlib.Omega.{arith}
use mathlib.Core.Path.{◌≡◌, refl, sym, ap, subst, ◌∙◌}
use mathlib.Core.List.{[], ◌∷◌}
use mathlib.Core.Option.{some}
use lib.ListN.{length, get_or}
use lib.Dec.{lit≤, T}
use Rattle.meaning.specs.Answers.{told}
use Rattle.meaning.specs.declared.FieldName.{FieldName}
use Rattle.meaning.specs.Polynomial.{Polynomial, degree, product}
use Rattle.meaning.specs.Sequence.{InField, AnnihilatesEndless, MinimalPolynomial, cut}
use Rattle.meaning.specs.Conditions.{named, total_degree}
use Rattle.meaning.specs.FieldNames.{named_field}
use Rattle.meaning.specs.Portion.{accepted_factors}
use Rattle.meaning.specs.Free.{Fits, least_degree}
use Rattle.meaning.specs.Result.{Result, answered, refused}
use Rattle.meaning.specs.Answers.{SetTold, told_set}
use Rattle.meaning.proofs.Stretches.{answer, work, lent, factors, accepted-2, alternating, ones, ones_refused}
use Rattle.meaning.proofs.Stretches.{x, accepted-x, one_then_zeros}
use Rattle.meaning.proofs.Stretches.{one_then_zeros-in_field, one_then_zeros-annihilated}
use Rattle.meaning.proofs.Stretches.{one_then_zeros-set-0, one_then_zeros-set-1}
use Rattle.meaning.proofs.Stretches.{multiples, accepted-multiples, multiples-product}
use Rattle.meaning.proofs.Stretches.{factor4, accepted_over4, over4_product}
use Rattle.meaning.proofs.Stretches.{three, three-least, three-first, three-second, three-free}
use Rattle.theorems.specs.Ratings.{GF}
use Rattle.theorems.specs.CutAnywhere.{CutAnywhere, SetReturns, FreeReturns}
use Rattle.theorems.specs.NoShorter.{Undecided, TooFew, Enough}
use Rattle.theorems.proofs.Instance.{two, degree_in, short-instance, short-polynomial}
use Rattle.theorems.proofs.NoShorter.{no_shorter_promise, no_rater_promise, enough_promise}

-- THE FACTOR X annihilates 1, 0, 0, …; every other hypothesis of `cut_anywhere` holds
pub record FactorX : Type 0 where
  pub accepted : T (accepted_factors two x (1 ∷ []))
  pub in_field : InField (GF two) one_then_zeros
  pub annihilated : AnnihilatesEndless (GF two) (product (GF two) (named x (1 ∷ []))) one_then_zeros
  pub refuted : CutAnywhere two x (1 ∷ []) one_then_zeros → ⊥

x_refuted : CutAnywhere two x (1 ∷ []) one_then_zeros → ⊥
unfolding total_degree named degree told_set degree_in told
x_refuted c =
    let a = c.set-way 0 1 (lit≤ tt) (lit≤ tt) answer work lent _ _ _ one_then_zeros-set-0 in
    let b = c.set-way 1 1 (lit≤ tt) (lit≤ tt) answer work lent _ _ _ one_then_zeros-set-1 in
    let e : ◌≡◌ {A = ℕ} 1 0 =
    ap degree_in a.1 ∙ a.2.degree-told ∙ sym b.2.degree-told ∙ sym (ap degree_in b.1) in
    omega arith

pub factor_x : FactorX
unfolding named_field
factor_x =
    record {
      accepted = accepted-x;
      in_field = one_then_zeros-in_field;
      annihilated = one_then_zeros-annihilated;
      refuted = x_refuted;
    }

-- D − 1 TERMS: with (x + 1)², of total degree 2, one term does not settle the rating, nor the complexity
-- alone, and 15 refuses it; two do. With x no term does not, one does
pub record OneTermShort : Type 0 where
  pub over2 : Undecided two factors (2 ∷ [])
  pub undecided : TooFew two factors (2 ∷ []) 1
  pub decided : Enough two factors (2 ∷ []) 2
  pub with_x : Undecided two x (1 ∷ [])
  pub undecided_x : TooFew two x (1 ∷ []) 0
  pub decided_x : Enough two x (1 ∷ []) 1
  pub refused_by-15 : (g : Polynomial) → SetReturns two factors (2 ∷ []) (cut ones 0 1) g → ⊥

which : Result SetTold → ℕ
which (refused n) = 0
which (answered a) = 1

pub one_term_short : OneTermShort
unfolding told_set which total_degree named degree told
one_term_short =
    record {
      over2 = no_shorter_promise two factors (2 ∷ []) accepted-2;
      undecided = no_rater_promise two factors (2 ∷ []) accepted-2 1 (lit≤ tt);
      decided = enough_promise two factors (2 ∷ []) accepted-2 2 (lit≤ tt);
      with_x = no_shorter_promise two x (1 ∷ []) accepted-x;
      undecided_x = no_rater_promise two x (1 ∷ []) accepted-x 0 (lit≤ tt);
      decided_x = enough_promise two x (1 ∷ []) accepted-x 1 (lit≤ tt);
      refused_by-15 = refused_by-15;
    }
  where
    refused_by-15 : (g : Polynomial) → SetReturns two factors (2 ∷ []) (cut ones 0 1) g → ⊥
    refused_by-15 g h =
        let z = h answer work lent _ _ _ ones_refused in
        let e : ◌≡◌ {A = ℕ} 0 1 = ap which z.1 in
        omega arith

-- the names of GF(3) and GF(4)
abbrev three-elements : FieldName
three-elements = FieldName.Prime 3

abbrev four-elements : FieldName
four-elements = FieldName.Binary 2 3

-- OTHER FIELDS, x AND MULTIPLES: with 2x to the power 2 and 2x + 1 over GF(3), of total degree 3, the one
-- sequence has x²·(x + 2) for its minimal polynomial, two terms do not settle the rating, and three do. Over
-- GF(4) with 2·x + 3, which stands for x + 2, to the power 2 it has x² + 3, and one term does not, two do
pub record OtherFields : Type 0 where
  pub over3 : Undecided three-elements multiples (2 ∷ 1 ∷ [])
  pub minimal3 : MinimalPolynomial (GF three-elements) (0 ∷ 0 ∷ 2 ∷ 1 ∷ []) over3.s
  pub undecided3 : TooFew three-elements multiples (2 ∷ 1 ∷ []) 2
  pub decided3 : Enough three-elements multiples (2 ∷ 1 ∷ []) 3
  pub over4 : Undecided four-elements factor4 (2 ∷ [])
  pub minimal4 : MinimalPolynomial (GF four-elements) (3 ∷ 0 ∷ 1 ∷ []) over4.s
  pub undecided4 : TooFew four-elements factor4 (2 ∷ []) 1
  pub decided4 : Enough four-elements factor4 (2 ∷ []) 2

pub other_fields : OtherFields
unfolding total_degree named degree named_field
other_fields =
    let of3 = no_shorter_promise three-elements multiples (2 ∷ 1 ∷ []) accepted-multiples in
    let of4 = no_shorter_promise four-elements factor4 (2 ∷ []) accepted_over4 in
    record {
      over3 = of3;
      minimal3 =
          subst (λ g. MinimalPolynomial (GF three-elements) g of3.s) multiples-product of3.s_minimal;
      undecided3 = no_rater_promise three-elements multiples (2 ∷ 1 ∷ []) accepted-multiples 2 (lit≤ tt);
      decided3 = enough_promise three-elements multiples (2 ∷ 1 ∷ []) accepted-multiples 3 (lit≤ tt);
      over4 = of4;
      minimal4 = subst (λ g. MinimalPolynomial (GF four-elements) g of4.s) over4_product of4.s_minimal;
      undecided4 = no_rater_promise four-elements factor4 (2 ∷ []) accepted_over4 1 (lit≤ tt);
      decided4 = enough_promise four-elements factor4 (2 ∷ []) accepted_over4 2 (lit≤ tt);
    }

-- 2L − 1 TERMS: 0, 1, 0 of 1, 0, 1, 0, …, whose polynomial is x² + 1; x² fits them as well
pub record TwoFit : Type 0 where
  pub stretch : cut alternating 1 3 ≡ three
  pub short_by_one : 2 * degree short-instance.g ≡ suc (length three)
  pub least : least_degree (GF two) three ≡ some 2
  pub first : Fits (GF two) three 2 (0 ∷ 0 ∷ 1 ∷ [])
  pub second : Fits (GF two) three 2 (1 ∷ 0 ∷ 1 ∷ [])
  pub refuted : FreeReturns two three short-instance.g → ⊥

two_refuted : FreeReturns two three short-instance.g → ⊥
two_refuted h =
    let z = h answer work lent _ _ _ three-free in
    let e : ◌≡◌ {A = ℕ} 0 1 =
    ap (λ (g : Polynomial). get_or g 0 5) (z.2.coefficients ∙ short-polynomial) in
    omega arith

pub two_fit : TwoFit
unfolding named_field cut alternating degree
two_fit =
    record {
      stretch = refl;
      short_by_one = ap (λ (g : Polynomial). 2 * degree g) short-polynomial;
      least = three-least;
      first = three-first;
      second = three-second;
      refuted = two_refuted;
    }
