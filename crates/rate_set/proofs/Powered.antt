-- What the repeat length asks of the factors and the powers that are found.
--
--   product-powered == factors whose powers can be written as a product
--   checked_few     == there are at most eight
--   accepted-lengths == the lengths of monic multiples that 7 to 10 let pass
--   factors-suited  == monic multiples that are not turned down are suited
-- Assumes nothing.
use Prim.Native.Nat.{ℕ, ◌*◌, ◌≤◌, ◌<◌}
use native.Mathlib.Nat.{le-mul_of_pos_right}
use native.Mathlib.Omega.{arith}
use mathlib.Core.Path.{◌≡◌, sym, ap, subst, ◌∙◌}
use mathlib.Core.List.{List, []}
use lib.ListN.{length, get_or}
use lib.Dec.{eqb, ltb}
use borrow.Author.Tests.{ltb-false}
use Rattle.meaning.specs.Field.{Field}
use Rattle.meaning.specs.Polynomial.{Polynomial, degree}
use Rattle.meaning.specs.Conditions.{named, factor_count_out_of_range, factor_degree_out_of_range, not_monic}
use Rattle.bridge.proofs.Lists.Irreducibles.{Factors}
use Rattle.bridge.proofs.Basics.Searches.{or-false, none-at}
use Rattle.bridge.proofs.Lists.Products.{factor_at, power_at, length-named, power_at-named, factor_at-named}
use Rattle.arith.specs.declared.field.GaloisField.{GaloisField}
use Rattle.arith.specs.Represented.{field_of}
use Rattle.irreducible.specs.Accepted.{Accepted}
use Rattle.irreducible.proofs.Accepted.{accepted-short}
use Rattle.powers.specs.product.Writing.{ProductInput}
use Rattle.powers.proofs.product.Totals.{total-part}
use Rattle.repeat.specs.orders.Orders.{Suited}
use Rattle.repeat.specs.Factors.{PoweredFactors}
use Rattle.repeat.proofs.orders.Accepted.{accepted-suited}
use Rattle.rate_set.specs.Ratings.{Checked}

module _ {F : Field} {fs : List Polynomial} {rs : List ℕ} (x : ProductInput F fs rs) where
  part : (i : ℕ) → i < length fs
      → power_at (named fs rs) i * degree (factor_at (named fs rs) i) ≡ get_or rs i 0 * degree
      (get_or fs i [])
  part i k =
      ap (λ r. r * degree (factor_at (named fs rs) i)) (power_at-named fs rs i k)
      ∙ ap (λ f. get_or rs i 0 * degree f) (factor_at-named fs rs i)

  power_few : (i : ℕ) → i < length fs → get_or rs i 0 ≤ 4096
  power_few i k =
      omega (
        arith,
        le-mul_of_pos_right (get_or rs i 0) (x.positive i k),
        part i k,
        total-part (named fs rs) i (subst (λ m. i < m) (sym (length-named fs rs)) k),
        x.small,
      )

  pub product-powered : ((i : ℕ) → i < length fs → Suited F (get_or fs i [])) → PoweredFactors F fs rs
  product-powered suited = record { suited = suited; named = x.enough; small = power_few }

module _ {F : Field} {fs : List Polynomial} {ts : List ℕ} (m : Checked F fs ts) where
  pub accepted-at : (i : ℕ) → i < length fs → Accepted F (get_or fs i [])
  accepted-at i k =
      record {
        degree_in_range = none-at (factor_degree_out_of_range F) [] fs i m.degrees_in_range k;
        monic_over = none-at (not_monic F) [] fs i m.monic k;
      }

  pub checked_few : length fs ≤ 8
  unfolding factor_count_out_of_range
  checked_few =
      let n = length fs in ltb-false 8 n (or-false (eqb n 0) (ltb 8 n) m.factor_count).1

  pub accepted-lengths : (i : ℕ) → i < length fs → length (get_or fs i []) ≤ 33
  accepted-lengths i k = accepted-short (accepted-at i k)

pub factors-suited :
    (field : GaloisField) {fs : List Polynomial} {ts : List ℕ}
    → Checked (field_of field) fs ts
    → Factors (field_of field) fs
    → (i : ℕ)
    → i < length fs
    → Suited (field_of field) (get_or fs i [])
factors-suited field m x i k = accepted-suited field (accepted-at m i k) (x.irreducibles i k)
