-- The product with f(x^q) several times.
--
--   repeat_none, repeat_more == with none of them, with one more
--   repeat_growing    == there is room for one more
--
-- Assumes nothing.
use Prim.Native.Nat.{ℕ, ◌+◌, ◌*◌, ◌-◌, ◌≤◌, ◌<◌}
use mathlib.Core.Path.{◌≡◌, sym, ap, subst, ◌∙◌}
use mathlib.Core.List.{List}
use lib.ListN.{length, take}
use lib.Dec.{T}
use native.Mathlib.Nat.{mul-le-mul_right, suc-mul}
use native.Mathlib.Numerals.{add-one}
use native.Mathlib.Omega.{arith}
use Rattle.meaning.specs.Field.{Field, are_elements}
use Rattle.meaning.specs.Polynomial.{Polynomial, degree, power}
use Rattle.bridge.proofs.Basics.Interpretation.{IsField}
use Rattle.bridge.proofs.Lists.Products.{power-zero-list, power-suc-list, power-nonempty, degree-power}
use Rattle.bridge.proofs.Lists.Spread.{spread, spread-nonempty, degree-spread}
use Rattle.poly.specs.products.Product.{Growing, Multiplied}
use Rattle.poly.proofs.raising.Multiples.{multiplied-none, multiplied-then, multiplied-length}

module _ {F : Field} (I : IsField F) {f : List ℕ} {q count : ℕ} {answer : List ℕ} {n : ℕ}
    (G : Growing f q count answer n) where
  abbrev g : Polynomial
  g = spread q f

  factor-nonempty : 0 < length g
  factor-nonempty = spread-nonempty q G.stride f G.some_factor

  degree-within : n < length answer
  degree-within = omega (arith, G.room)

  pub repeat_none : T (are_elements F (take (n + 1) answer)) → Multiplied F (power F g 0) answer n answer n
  repeat_none h =
      subst (λ u. Multiplied F u answer n answer n) (sym (power-zero-list F g))
      (multiplied-none I answer n degree-within h)

  module _ {k : ℕ} (l : k ≤ count) {answer₁ : List ℕ} {n₁ : ℕ}
      (M : Multiplied F (power F g k) answer n answer₁ n₁) where
    degree-step : k * (q * (length f - 1)) ≤ count * (q * (length f - 1))
    degree-step = mul-le-mul_right (q * (length f - 1)) l

    degree_now : n₁ ≡ n + k * (q * (length f - 1))
    unfolding degree
    degree_now =
        M.new_degree
        ∙ ap (λ (d : ℕ). n + d)
        (degree-power I g k factor-nonempty
        ∙ ap (λ (d : ℕ). k * d) (degree-spread q G.stride f G.some_factor))

    degree-within_now : n₁ < length answer
    degree-within_now = omega (arith, degree_now, degree-step, G.room)

    pub repeat_length_lem : length answer₁ ≡ length answer
    repeat_length_lem =
        multiplied-length I answer n degree-within M (power-nonempty I g k factor-nonempty) degree-within_now

    pub repeat_all : count ≤ k → Multiplied F (power F g count) answer n answer₁ n₁
    repeat_all m =
        let e : k
        ≡ count = omega arith in subst (λ (j : ℕ). Multiplied F (power F g j) answer n answer₁ n₁) e M

    pub repeat_growing : k < count → Growing f q 1 answer₁ n₁
    repeat_growing m =
        let e = suc-mul k (q * (length f - 1)) in
        let t = mul-le-mul_right (q * (length f - 1)) m in
        record {
          some_factor = G.some_factor;
          stride = G.stride;
          small = omega (arith, degree_now, G.small);
          room = omega (arith, degree_now, G.room, repeat_length_lem);
        }

    pub repeat_more :
        {answer₂ : List ℕ} {n₂ : ℕ} → Multiplied F g answer₁ n₁ answer₂ n₂
        → Multiplied F (power F g (k + 1)) answer n answer₂ n₂
    repeat_more {answer₂} {n₂} N =
        subst (λ u. Multiplied F u answer n answer₂ n₂)
        (sym (ap (power F g) (add-one k) ∙ power-suc-list F g k))
        (multiplied-then I answer n degree-within M (power-nonempty I g k factor-nonempty) degree-within_now N
        factor-nonempty)
