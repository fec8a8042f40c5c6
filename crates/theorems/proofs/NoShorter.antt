-- Fewer first terms than the total degree are not always enough, and as many always are. One of the two
-- sequences is the impulse response of the product of the monic multiples to their upper powers, the other is
-- zero; the factor x needs no case of its own.
-- Assumes nothing.
use Prim.Native.Nat.{ℕ, ◌-◌, ◌≤◌, ◌<◌}
use native.Mathlib.Nat.{zero-add}
use native.Mathlib.Omega.{arith}
use mathlib.Core.Path.{◌≡◌, refl, sym, ap, subst, fun_ext, ◌∙◌}
use mathlib.Core.Logic.{◌≢◌}
use mathlib.Core.Bool.{false}
use mathlib.Core.List.{List, [], ◌∷◌, map}
use mathlib.Core.Option.{Option, none, some}
use lib.ListN.{length, take}
use lib.Dec.{T}
use Rattle.meaning.specs.declared.FieldName.{FieldName}
use Rattle.meaning.specs.Search.{holds_for_some}
use Rattle.meaning.specs.Polynomial.{Polynomial, degree, is_monic_over, product, monic_multiple}
use Rattle.meaning.specs.Sequence.{Sequence, cut, AnnihilatesEndless, MinimalPolynomial}
use Rattle.meaning.specs.Conditions.{named, total_degree, coefficient_out_of_range}
use Rattle.meaning.specs.Portion.{accepted_factors, factor_table, factors_of, set_powers, onward}
use Rattle.meaning.proofs.Passes.{accepted-passes}
use Rattle.theorems.specs.Ratings.{GF}
use Rattle.theorems.specs.NoShorter.{Rateable, Undecided, Settles, TooFew, Enough}
use Rattle.theorems.specs.NoShorter.{NoShorterPromise, NoRaterPromise, EnoughPromise}
use Rattle.bridge.proofs.Basics.Interpretation.{IsField, size-positive}
use Rattle.bridge.proofs.Lists.Products.{MonicFactors, monics-nonempty, factors_of-named, product-monic}
use Rattle.bridge.proofs.Lists.Products.{degree-product}
use Rattle.bridge.proofs.Lists.Irreducibles.{Factors, factors-monics}
use Rattle.bridge.proofs.Binary.NamedFields.{accepted-is_field, accepted-different}
use Rattle.bridge.proofs.Lists.Multiples.{associates_annihilate, associates_product, multiples-total}
use Rattle.bridge.proofs.Sequences.Actions.{act_at-zeros, cut-take, cut-elements, length_cut}
use Rattle.bridge.proofs.Sequences.Minimal.{minimal-unique, minimal-one}
use Rattle.bridge.proofs.Ways.Portions.{set_powers_exists, set_powers-minimal, onward-cut}
use Rattle.bridge.proofs.Sequences.Impulse.{impulse, impulse_continues, impulse-minimal, impulse-cut}
use Rattle.theorems.proofs.CutAnywhere.{total-positive}

module _ (name : FieldName) (fs : List Polynomial) (vs : List ℕ) (accepted : T (accepted_factors name fs vs))
  where
    -- the monic multiples, for which the factors stand, with their upper powers, and the product
    abbrev l : List (Polynomial × ℕ)
    l = named (map (monic_multiple (GF name)) fs) vs

    abbrev g : Polynomial
    g = product (GF name) l

    I : IsField (GF name)
    I = accepted-is_field name fs vs accepted

    eleven : holds_for_some (coefficient_out_of_range (GF name)) fs ≡ false
    unfolding factor_table
    eleven = (accepted-passes name fs vs accepted).coefficients_in_range

    factors : Factors (GF name) (factors_of l)
    factors =
        subst (Factors (GF name)) (sym (factors_of-named (map (monic_multiple (GF name)) fs) vs))
        (accepted-different name fs vs accepted)

    monics : MonicFactors (GF name) l
    monics = factors-monics I l factors

    same_total : total_degree l ≡ total_degree (named fs vs)
    same_total = multiples-total I fs vs eleven

    degree-total : degree g ≡ total_degree (named fs vs)
    degree-total = degree-product I l (monics-nonempty (GF name) l monics) ∙ same_total

    -- what the one product annihilates the other does
    given-monic : (s : Sequence) → AnnihilatesEndless (GF name) (product (GF name) (named fs vs)) s
        → AnnihilatesEndless (GF name) g s
    given-monic s = (associates_annihilate I (associates_product I fs vs eleven) s).0

    monic-given : (s : Sequence) → AnnihilatesEndless (GF name) g s
        → AnnihilatesEndless (GF name) (product (GF name) (named fs vs)) s
    monic-given s = (associates_annihilate I (associates_product I fs vs eleven) s).1

    positive : 1 ≤ total_degree (named fs vs)
    positive = subst (λ n. 1 ≤ n) same_total (total-positive name fs vs accepted)

    degree-positive : 1 ≤ degree g
    degree-positive = subst (λ n. 1 ≤ n) (sym degree-total) positive

    monic : T (is_monic_over (GF name) g)
    monic = product-monic I l monics

    -- THE TWO SEQUENCES
    different : g ≢ 1 ∷ []
    unfolding degree
    different e = omega (arith, degree-positive, ap degree e)

    undecided : Undecided name fs vs
    undecided =
        record {
          positive = positive;
          s = impulse (GF name) g;
          t = λ _. 0;
          s_rateable =
              record {
                in_field = (impulse_continues I g monic degree-positive).in_field;
                annihilated =
                    monic-given (impulse (GF name) g)
                    (impulse_continues I g monic degree-positive).annihilated;
              };
          t_rateable =
              record {
                in_field = λ k. size-positive I;
                annihilated = λ k. act_at-zeros I (product (GF name) (named fs vs)) (λ _. 0) k (λ i _. refl);
              };
          agree =
              subst (λ n. cut (impulse (GF name) g) 0 (n - 1) ≡ cut (λ _. 0) 0 (n - 1)) degree-total
              (impulse-cut I g monic degree-positive);
          s_minimal = impulse-minimal I g monic degree-positive;
          t_minimal = minimal-one I (λ _. 0) (λ i. refl);
          different = different;
        }

    -- NO FUNCTION OF FEWER TERMS gives both minimal polynomials, or both degrees
    module _ (m : ℕ) (few : m < total_degree (named fs vs)) where
      alike : cut undecided.s 0 m ≡ cut undecided.t 0 m
      alike =
          let u = undecided in
          let d = total_degree (named fs vs) - 1 in
          let short : m ≤ d = omega arith in
          sym (cut-take u.s 0 m d short) ∙ ap (λ ts. take m ts) u.agree ∙ cut-take u.t 0 m d short

      too_few : TooFew name fs vs m
      unfolding degree
      too_few =
          let u = undecided in
          record {
            no_polynomial =
                λ (rate, right).
                u.different
                (minimal-unique I g (rate (cut u.s 0 m)) u.s u.s_minimal
                (right u.s u.s_rateable)
                ∙ ap rate alike
                ∙ minimal-unique I (rate (cut u.t 0 m)) (1 ∷ []) u.t (right u.t u.t_rateable)
                u.t_minimal);
            no_complexity =
                λ (rate, right).
                let same : degree g ≡ 0 =
                right u.s g u.s_rateable u.s_minimal
                ∙ ap rate alike
                ∙ sym (right u.t (1 ∷ []) u.t_rateable u.t_minimal) in
                omega (arith, degree-positive);
          }

    -- FROM D TERMS ON the set way's powers are those of the sequence
    rated : Option (List ℕ) → Polynomial
    rated none = []
    rated (some rs) = product (GF name) (named (factors_of l) rs)

    settled : (m : ℕ) → total_degree (named fs vs) ≤ m → Settles name fs vs m
    unfolding rated
    settled m many = (λ ts. rated (set_powers (GF name) l ts), right)
      where
        total : total_degree l ≤ m
        total = subst (λ n. n ≤ m) (sym same_total) many

        right : (s : Sequence) → Rateable name fs vs s
            → MinimalPolynomial (GF name) (rated (set_powers (GF name) l (cut s 0 m))) s
        right s r =
            let (rs, e) = set_powers_exists I l (monics-nonempty (GF name) l monics) (cut s 0 m) in
            let long : total_degree l ≤ length (cut s 0 m) =
            subst (λ n. total_degree l ≤ n) (sym (length_cut s 0 m)) total in
            let same : onward (GF name) l (cut s 0 m) ≡ s =
            fun_ext (λ i.
            onward-cut I l monics s 0 m r.in_field (given-monic s r.annihilated) total i
            ∙ ap s (zero-add i)) in
            subst (λ o. MinimalPolynomial (GF name) (rated o) s) (sym e)
            (subst (MinimalPolynomial (GF name) (product (GF name) (named (factors_of l) rs))) same
            (set_powers-minimal I l factors (cut s 0 m) (cut-elements (GF name) s 0 m r.in_field) long e
            ).minimal)

    enough : (m : ℕ) → total_degree (named fs vs) ≤ m → Enough name fs vs m
    enough m many =
        let (rate, right) = settled m many in
        record {
          polynomial = (rate, right);
          complexity = (
            λ ts. degree (rate ts),
            λ s h r x. ap degree (minimal-unique I h (rate (cut s 0 m)) s x (right s r)),
          );
        }

pub no_shorter_promise : NoShorterPromise
no_shorter_promise name fs vs accepted = undecided name fs vs accepted

pub no_rater_promise : NoRaterPromise
no_rater_promise name fs vs accepted m few = too_few name fs vs accepted m (omega arith)

pub enough_promise : EnoughPromise
enough_promise name fs vs accepted m many = enough name fs vs accepted m (omega arith)
