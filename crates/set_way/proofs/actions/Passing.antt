-- The upper powers of the factors, acting one after the other in the halves of the work bytes.
--
--   Passing field fs us ts w₀ w at count j == what the upper powers of the factors before place j leave of
--                        the terms is the `count` terms of half `at` of w; w₀ has become w
--
-- Assumes nothing.
use Prim.Native.Nat.{ℕ, suc, ◌+◌, ◌*◌, ◌-◌, ◌≤◌, ◌<◌}
use mathlib.Core.Path.{◌≡◌, sym, ap, subst, ◌∙◌}
use mathlib.Core.List.{List, []}
use native.Mathlib.Nat as ℕ
use native.Mathlib.Numerals.{add-one}
use native.Mathlib.Omega.{arith}
use lib.ListN.{length, get_or, take}
use lib.Seq.{take-length}
use lib.Dec.{T}
use Rattle.meaning.specs.Field.{are_elements}
use Rattle.meaning.specs.Polynomial.{Polynomial, degree, power, product}
use Rattle.meaning.specs.Sequence.{act_on_known}
use Rattle.meaning.specs.Conditions.{named, total_degree}
use Rattle.bridge.proofs.Lists.Polynomials.{monic-nonempty, monic-elements}
use Rattle.bridge.proofs.Sequences.KnownActions.{act_on_known-elements}
use Rattle.bridge.proofs.Lists.Products.{factor_at, power_at, Nonempties, monics-nonempty, length-named}
use Rattle.bridge.proofs.Lists.Products.{factor_at-named, power_at-named}
use Rattle.bridge.proofs.Ways.Portions.{act_on_known-product-nil, act_on_known-product-take}
use Rattle.arith.specs.declared.field.GaloisField.{GaloisField}
use Rattle.arith.specs.Represented.{field_of}
use Rattle.arith.proofs.Represented.{field-is_field}
use Rattle.lent.specs.halves.Halves.{half, Halves, Placed}
use Rattle.lent.specs.declared.halves.Place.{Place}
use Rattle.lent.specs.halves.Kept.{Kept}
use Rattle.lent.proofs.halves.Bytes.{kept_same, kept_trans, placed-kept}
use Rattle.action.specs.power_action.Acting.{Actable, PowerActed}
use Rattle.set_way.specs.actions.SetActions.{SetInput, AllActed}
use Rattle.powers.proofs.product.Totals.{total-take, total-part}
use Rattle.set_way.proofs.actions.Inputs.{input-monics, input_few}

pub record Passing (field : GaloisField) (fs : List Polynomial) (us ts w₀ w : List ℕ) (at count j : ℕ)
    : Type 0 where
  pub halves : Halves w at count
  pub before : j ≤ length fs
  pub values :
      half w at count ≡ act_on_known (field_of field) (product (field_of field) (take j (named fs us))) ts
  pub size : count ≡ length ts - total_degree (take j (named fs us))
  pub kept : Kept w₀ w

module _
    (field : GaloisField) {fs : List Polynomial} {us ts : List ℕ}
    (x : SetInput (field_of field) fs us ts)
  where
    abbrev l : List (Polynomial × ℕ)
    l = named fs us

    nonempties : Nonempties l
    nonempties = monics-nonempty (field_of field) l (input-monics x)

    pub passing_start :
        {w w₀ : List ℕ} → 8192 ≤ length w → Placed w 0 1 ts w₀ → Passing field fs us ts w₀ w₀ 0 (length ts) 0
    unfolding total_degree
    passing_start {w₀ = w₀} h e =
        record {
          halves = record { enough = omega (arith, e.size); which = omega arith; few = x.not_many };
          before = omega arith;
          values = e.made ∙ sym (act_on_known-product-nil (field-is_field field) ts x.in_field);
          size = sym (ℕ.sub-zero (length ts));
          kept = kept_same w₀;
        }

    module _ {w₀ w : List ℕ} {at count j : ℕ} (y : Passing field fs us ts w₀ w at count j) where
      module _ (k : j < length fs) where
        place : j < length l
        place = subst (λ n. j < n) (sym (length-named fs us)) k

        own : power_at l j * degree (factor_at l j) ≡ get_or us j 0 * degree (get_or fs j [])
        own =
            ap (λ n. n * degree (factor_at l j)) (power_at-named fs us j k)
            ∙ ap (λ f. get_or us j 0 * degree f) (factor_at-named fs us j)

        pub passing_actable : Actable field w at count (get_or fs j []) (get_or us j 0)
        passing_actable =
            record {
              terms =
                  subst (λ t. T (are_elements (field_of field) t)) (sym y.values)
                  (act_on_known-elements (field-is_field field) (product (field_of field) (take j l)) ts);
              elements = monic-elements (field_of field) (get_or fs j []) (x.factors.monic j k);
              nonempty = monic-nonempty (field_of field) (get_or fs j []) (x.factors.monic j k);
              short = x.short j k;
              few = input_few x j k;
              enough = omega (arith, y.size, total-part l j place, own, x.enough);
            }

        pub passing_more :
            {w' : List ℕ} {r : Place}
            → PowerActed field w at count (get_or fs j []) (get_or us j 0) w' r
            → Passing field fs us ts w₀ w' r.half r.count (j + 1)
        passing_more {w'} {r} z =
            record {
              halves =
                  record {
                    enough = omega (arith, y.halves.enough, z.kept.size);
                    which = z.which;
                    few = omega (arith, z.size, y.halves.few);
                  };
              before = omega arith;
              values =
                  z.values
                  ∙ ap (act_on_known (field_of field) (power (field_of field) (get_or fs j [])
                  (get_or us j 0)))
                  y.values
                  ∙ ap
                  (λ f. act_on_known (field_of field) (power (field_of field) f (get_or us j 0)) (front j))
                  (sym (factor_at-named fs us j))
                  ∙ ap
                  (λ n. act_on_known (field_of field) (power (field_of field) (factor_at l j) n) (front j))
                  (sym (power_at-named fs us j k))
                  ∙ sym (act_on_known-product-take (field-is_field field) j l ts place nonempties)
                  ∙ ap front (sym (add-one j));
              size =
                  let e : r.count ≡ length ts - total_degree (take (suc j) l)
                  = omega (arith, z.size, y.size, total-take l j place, own) in
                  e ∙ ap (λ n. length ts - total_degree (take n l)) (sym (add-one j));
              kept = kept_trans y.kept z.kept;
            }
          where
            front : ℕ → List ℕ
            front n = act_on_known (field_of field) (product (field_of field) (take n l)) ts

      pub passing_end :
          {w₁ : List ℕ}
          → Placed w₁ 0 1 ts w₀
          → length fs ≤ j
          → AllActed (field_of field) fs us ts w₁ w (record { half = at; count = count })
      passing_end loaded h =
          let i : j ≡ length l = omega (arith, y.before, length-named fs us) in
          let e : take j l ≡ l = ap (λ n. take n l) i ∙ take-length l in
          record {
            values = y.values ∙ ap (λ m. act_on_known (field_of field) (product (field_of field) m) ts) e;
            which = y.halves.which;
            size = y.size ∙ ap (λ m. length ts - total_degree m) e;
            kept = kept_trans (placed-kept loaded) y.kept;
          }
