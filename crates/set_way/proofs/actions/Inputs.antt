-- Accepted factors with their upper powers: what holds of each of them.
--
--   input-…           == what accepted input says of factor i: it has an upper power other than 0, both are
--                        small, and the powers times the degrees are within the total degree
--
-- Assumes nothing.
use Prim.Native.Nat.{ℕ, ◌*◌, ◌≤◌, ◌<◌}
use mathlib.Core.Path.{sym, ap, subst, ◌∙◌}
use mathlib.Core.Logic.{◌≢◌}
use mathlib.Core.List.{List, [], ◌∷◌}
use native.Mathlib.Nat as ℕ
use native.Mathlib.Omega.{arith}
use lib.ListN.{length, get_or, get_or-eq_default}
use lib.Dec.{T, eqb, ltb, nltb→le, not_T}
use borrow.Author.Tests.{eq-eqb}
use Rattle.meaning.specs.Search.{holds_for_some}
use Rattle.meaning.specs.Field.{Field}
use Rattle.meaning.specs.Polynomial.{Polynomial, degree, is_monic_over}
use Rattle.meaning.specs.Conditions.{named, total_degree, upper_powers_out_of_range}
use Rattle.bridge.proofs.Basics.Searches.{or-false, true-T, false-T, none-member, get_or-member}
use Rattle.bridge.proofs.Lists.Products.{factor_at, power_at, MonicFactors, length-named, factor_at-named}
use Rattle.bridge.proofs.Lists.Products.{power_at-named}
use Rattle.powers.proofs.product.Totals.{total-part}
use Rattle.set_way.specs.actions.SetActions.{SetInput}

-- Accepted input
module _ {F : Field} {fs : List Polynomial} {us ts : List ℕ} (x : SetInput F fs us ts) where
  pub input-monics : MonicFactors F (named fs us)
  input-monics i k =
      subst (λ f. T (is_monic_over F f)) (sym (factor_at-named fs us i))
      (x.factors.monic i (subst (λ n. i < n) (length-named fs us) k))

  pub input-total : total_degree (named fs us) ≤ 4096
  unfolding upper_powers_out_of_range
  input-total =
      nltb→le 4096 (total_degree (named fs us))
      (not_T (ltb 4096 (total_degree (named fs us)))
      (false-T (or-false (holds_for_some (λ f. eqb f.1 0) (named fs us)) _ x.uppers).1))

  module _ (i : ℕ) (k : i < length fs) where
    place : i < length (named fs us)
    place = subst (λ n. i < n) (sym (length-named fs us)) k

    pub input-nonzero : get_or us i 0 ≢ 0
    unfolding upper_powers_out_of_range
    input-nonzero z =
        none-member (λ f. eqb f.1 0) (named fs us)
        (false-T (or-false (holds_for_some (λ f. eqb f.1 0) (named fs us)) _ x.uppers).0)
        (get_or (named fs us) i ([], 0)) (get_or-member (named fs us) i ([], 0) place)
        (true-T (eq-eqb (power_at (named fs us) i) 0 (power_at-named fs us i k ∙ z)))

    pub input_index : i < length us
    input_index =
        let no : ¬ (length us ≤ i) = λ h. input-nonzero (get_or-eq_default us 0 h) in omega arith

    pub input-part : get_or us i 0 * degree (get_or fs i []) ≤ total_degree (named fs us)
    input-part =
        omega (
          arith,
          total-part (named fs us) i place,
          ap (λ n. n * degree (factor_at (named fs us) i)) (power_at-named fs us i k)
              ∙ ap (λ f. get_or us i 0 * degree f) (factor_at-named fs us i),
        )

    pub input_few : get_or us i 0 ≤ 4096
    input_few =
        omega (
          arith,
          input-part,
          input-total,
          ℕ.le-mul_of_pos_right (get_or us i 0) (x.factors.positive i k),
        )

-- each factor has a power
pub enough_uppers :
    {F : Field} {fs : List Polynomial} {us ts : List ℕ} → SetInput F fs us ts → length fs ≤ length us
enough_uppers {fs = []} x = omega arith
enough_uppers {fs = f ∷ fs} {us} x =
    let k : length fs < length us = input_index x (length fs) (omega arith) in omega arith
