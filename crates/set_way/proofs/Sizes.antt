-- The degree of the answer of the set way is at most 4,096: what the writer of products asks.
--
--   named-padded      == the powers in eight places are those of the factors
--   set-eight         == they stand in eight places
--   set-product       == the powers of a set can be written as a product
--
-- Assumes nothing.
use Prim.Native.Nat.{ℕ, suc, ◌-◌, ◌≤◌, ◌<◌}
use mathlib.Core.Path.{◌≡◌, refl, sym, ap, ◌∙◌}
use mathlib.Core.List.{List, [], ◌∷◌, ◌++◌}
use mathlib.Core.Option.{some, some-injective}
use native.Mathlib.Nat as ℕ
use native.Mathlib.Omega.{arith}
use lib.ListN.{length, get_or, replicate, length-append, length-replicate}
use Rattle.meaning.specs.Field.{Field}
use Rattle.meaning.specs.Polynomial.{Polynomial, degree}
use Rattle.meaning.specs.Conditions.{named, total_degree}
use Rattle.meaning.specs.Portion.{set_powers}
use Rattle.meaning.specs.Answers.{padded}
use Rattle.bridge.proofs.Basics.Interpretation.{IsField}
use Rattle.bridge.proofs.Lists.Products.{Nonempties, monics-nonempty, length-named, power_at-named}
use Rattle.bridge.proofs.Ways.Portions.{least_at_exists, set_powers-places}
use Rattle.powers.specs.product.Writing.{ProductInput}
use Rattle.set_way.specs.actions.SetActions.{SetInput}
use Rattle.set_way.proofs.actions.Inputs.{input-monics, input-total}

total-below :
    (fs : List Polynomial) (rs us : List ℕ)
    → ((i : ℕ) → i < length fs → get_or rs i 0 ≤ get_or us i 0)
    → total_degree (named fs rs) ≤ total_degree (named fs us)
unfolding total_degree named
total-below [] rs us h = omega arith
total-below (f ∷ fs) [] [] h = omega arith
total-below (f ∷ fs) [] (u ∷ us) h =
    omega (
      arith,
      ℕ.mul-le-mul_right (degree f) (h 0 (omega arith)),
      total-below fs [] us (λ i k. h (suc i) (omega arith)),
    )
total-below (f ∷ fs) (r ∷ rs) [] h =
    omega (
      arith,
      ℕ.mul-le-mul_right (degree f) (h 0 (omega arith)),
      total-below fs rs [] (λ i k. h (suc i) (omega arith)),
    )
total-below (f ∷ fs) (r ∷ rs) (u ∷ us) h =
    omega (
      arith,
      ℕ.mul-le-mul_right (degree f) (h 0 (omega arith)),
      total-below fs rs us (λ i k. h (suc i) (omega arith)),
    )

named-front :
    (fs : List Polynomial) (rs ss : List ℕ) → length rs ≡ length fs → named fs (rs ++ ss) ≡ named fs rs
unfolding named
named-front [] rs ss h = refl
named-front (f ∷ fs) [] ss h = absurd (omega arith)
named-front (f ∷ fs) (r ∷ rs) ss h = ap (◌∷◌ (f, r)) (named-front fs rs ss (omega arith))

pub named-padded :
    (fs : List Polynomial) (rs : List ℕ) → length rs ≡ length fs → named fs (padded rs) ≡ named fs rs
unfolding padded
named-padded fs rs h = named-front fs rs (replicate (8 - length rs) 0) h

module _ {F : Field} (I : IsField F) {fs : List Polynomial} {us ts : List ℕ} (x : SetInput F fs us ts) where
  nonempties : Nonempties (named fs us)
  nonempties = monics-nonempty F (named fs us) (input-monics x)

  module _ {rs : List ℕ} (e : set_powers F (named fs us) ts ≡ some rs) where
    pub set-count : length rs ≡ length fs
    set-count = (set_powers-places I (named fs us) nonempties ts e).0 ∙ length-named fs us

    pub set-eight : length (padded rs) ≡ 8
    unfolding padded
    set-eight =
        length-append rs (replicate (8 - length rs) 0)
        ∙ omega (arith, set-count, x.eight, length-replicate {A = ℕ} (8 - length rs) 0)

    set_below : (i : ℕ) → i < length fs → get_or rs i 0 ≤ get_or us i 0
    set_below i k =
        let (r, h, b, _) = least_at_exists I (named fs us) nonempties ts i in
        let v : get_or rs i 0 ≡ r
        = some-injective (get_or rs i 0) r
        (sym ((set_powers-places I (named fs us) nonempties ts e).1 i (omega (arith, length-named fs us)))
        ∙ h) in
        omega (arith, power_at-named fs us i k)

    pub set-product : ProductInput F fs (padded rs)
    unfolding padded
    set-product =
        record {
          monic = x.factors.monic;
          positive = x.factors.positive;
          short = x.short;
          enough = omega (arith, set-count, length-append rs (replicate (8 - length rs) 0));
          small =
              omega (
                arith,
                ap total_degree (named-padded fs rs set-count),
                total-below fs rs us set_below,
                input-total x,
              );
        }
