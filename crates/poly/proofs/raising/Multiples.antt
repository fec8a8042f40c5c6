-- A polynomial that is multiplied in the bytes that hold it, several times.
--
--   multiplied-none, multiplied-then == multiplied by 1; by g and then by h
--   multiplied-length, multiplied-elements == what holds of the bytes afterwards
--
-- Assumes nothing.
use Prim.Native.Nat.{ℕ, ◌+◌, ◌-◌, ◌≤◌, ◌<◌}
use mathlib.Core.Path.{◌≡◌, refl, sym, ap, subst, ◌∙◌}
use mathlib.Core.List.{List, [], ◌∷◌, ◌++◌}
use lib.ListN.{length, take, drop, length-append, length-drop, take-append-drop}
use lib.Seq.{take_at, length-take-le, drop-append-add, drop-drop}
use lib.Dec.{T}
use native.Mathlib.Omega.{arith}
use Rattle.meaning.specs.Field.{Field, are_elements}
use Rattle.meaning.specs.Polynomial.{times}
use Rattle.meaning.specs.Result.{written}
use Rattle.bridge.proofs.Basics.Interpretation.{IsField}
use Rattle.bridge.proofs.Lists.Polynomials.{length-times, times-elements, degree-times, length-degree}
use Rattle.bridge.proofs.Lists.Polynomials.{degree-length}
use Rattle.bridge.proofs.Lists.Products.{times_assoc, one-times}
use Rattle.poly.specs.products.Product.{Multiplied}

module _ {F : Field} (I : IsField F) (answer : List ℕ) (n : ℕ) (l : n < length answer) where
  length-start : length (take (n + 1) answer) ≡ n + 1
  length-start = length-take-le (n + 1) answer (omega arith)

  pub multiplied-none : T (are_elements F (take (n + 1) answer)) → Multiplied F (1 ∷ []) answer n answer n
  unfolding written
  multiplied-none h =
      record {
        new_degree = omega (arith, length-degree (1 ∷ []) {n = 0} refl);
        bytes =
            sym
            (ap (λ z. z ++ drop (length z) answer)
            (one-times I (take (n + 1) answer) (omega (arith, length-start)) h)
            ∙ ap (λ (k : ℕ). take (n + 1) answer ++ drop k answer) length-start
            ∙ take-append-drop (n + 1) answer);
      }

  module _ {g answer₁ : List ℕ} {n₁ : ℕ} (M : Multiplied F g answer n answer₁ n₁) (s : 0 < length g)
      (r : n₁ < length answer) where
    abbrev product : List ℕ
    product = times F g (take (n + 1) answer)

    length-product : length product ≡ n₁ + 1
    length-product =
        length-times I g (take (n + 1) answer) s (omega (arith, length-start))
        ∙ omega (arith, length-start, M.new_degree, degree-length g s)

    bytes_product : answer₁ ≡ product ++ drop (n₁ + 1) answer
    unfolding written
    bytes_product = M.bytes ∙ ap (λ (k : ℕ). product ++ drop k answer) length-product

    pub multiplied-length : length answer₁ ≡ length answer
    multiplied-length =
        omega (
          arith,
          ap length bytes_product,
          length-append product (drop (n₁ + 1) answer),
          length-drop (n₁ + 1) answer,
          length-product,
        )

    start-product : take (n₁ + 1) answer₁ ≡ product
    start-product =
        ap (take (n₁ + 1)) bytes_product ∙ take_at product (drop (n₁ + 1) answer) (n₁ + 1) length-product

    pub multiplied-elements : T (are_elements F (take (n₁ + 1) answer₁))
    multiplied-elements =
        subst (λ u. T (are_elements F u)) (sym start-product) (times-elements I g (take (n + 1) answer))

    module _ {h answer₂ : List ℕ} {n₂ : ℕ} (N : Multiplied F h answer₁ n₁ answer₂ n₂) (t : 0 < length h) where
      product-both : times F h (take (n₁ + 1) answer₁) ≡ times F (times F h g) (take (n + 1) answer)
      product-both =
          ap (times F h) start-product
          ∙ sym (times_assoc I h g (take (n + 1) answer) t s (omega (arith, length-start)))

      -- what lies beyond the first product is as it was
      beyond-kept : (k : ℕ) → n₁ + 1 ≤ k → drop k answer₁ ≡ drop k answer
      beyond-kept k b =
          ap (drop k) bytes_product
          ∙ ap (λ (i : ℕ). drop i (product ++ drop (n₁ + 1) answer)) past
          ∙ drop-append-add product (drop (n₁ + 1) answer) (k - (n₁ + 1))
          ∙ drop-drop (k - (n₁ + 1)) (n₁ + 1) answer
          ∙ ap (λ (i : ℕ). drop i answer) whole
        where
          past : k ≡ length product + (k - (n₁ + 1))
          past = omega (arith, length-product)

          whole : n₁ + 1 + (k - (n₁ + 1)) ≡ k
          whole = omega arith

      product-longer : n₁ + 1 ≤ length (times F (times F h g) (take (n + 1) answer))
      product-longer =
          omega (
            arith,
            ap length (sym product-both),
            length-times I h (take (n₁ + 1) answer₁) t
                (omega (arith, ap length start-product, length-product)),
            ap length start-product,
            length-product,
          )

      pub multiplied-then : Multiplied F (times F h g) answer n answer₂ n₂
      unfolding written
      multiplied-then =
          record {
            new_degree = omega (arith, M.new_degree, N.new_degree, degree-times I h g t s);
            bytes =
                N.bytes
                ∙ ap (λ z. z ++ drop (length z) answer₁) product-both
                ∙ ap (λ d. times F (times F h g) (take (n + 1) answer) ++ d) (beyond-kept _ product-longer);
          }
