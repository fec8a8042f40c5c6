-- The product with f^r by the digits of r in base p.
--
--   level-spread       == f^q is g(x^q), where q is a power of the characteristic and g is f with its
--                          coefficients raised to q
--   level_growing      == there is as much room for g
--   Raised field f r answer n answer' n' level rest == the bytes and the degree after the product with
--                          f^done, where r = done + q·rest and q is the power of the level
--   raised-start, raised-next, raised-end == before the first digit, one digit more, after the last
--
-- Assumes nothing.
use Prim.Native.Nat.{ℕ, ◌+◌, ◌*◌, ◌-◌, ◌/◌, ◌%◌, ◌^◌, ◌≤◌, ◌<◌}
use mathlib.Core.Path.{◌≡◌, sym, ap, subst, ◌∙◌}
use mathlib.Core.List.{List, map}
use lib.ListN.{length, take, length-map}
use lib.Dec.{T}
use native.Mathlib.Nat.{mul-zero, mul-add, mul_assoc, mul_comm, add-mul, mod-add-div, pow-zero, one-mul}
use native.Mathlib.Nat.{one-le-pow}
use native.Mathlib.Nat.{mul-le-mul_right, le-mul_of_pos_right}
use native.Mathlib.Omega.{arith}
use Rattle.meaning.specs.Field.{Field, are_elements}
use Rattle.meaning.specs.Polynomial.{Polynomial, degree, times, power}
use Rattle.bridge.proofs.Basics.Interpretation.{IsField}
use Rattle.bridge.proofs.Lists.Products.{power-zero-list, power-nonempty, degree-power, power-mul, power-add}
use Rattle.bridge.proofs.Lists.Spread.{spread, raise, power-spread}
use Rattle.arith.specs.declared.field.GaloisField.{GaloisField}
use Rattle.arith.specs.Represented.{field_of}
use Rattle.arith.proofs.Represented.{field-is_field}
use Rattle.lent.specs.declared.levels.Level.{Level}
use Rattle.lent.specs.raising.Levelled.{Levelled}
use Rattle.lent.proofs.raising.Levels.{level-power}
use Rattle.poly.specs.products.Product.{Growing, Multiplied}
use Rattle.poly.specs.raising.Raising.{Raising}
use Rattle.poly.proofs.raising.Multiples.{multiplied-none, multiplied-then, multiplied-length}
use Rattle.poly.proofs.raising.Multiples.{multiplied-elements}

module _ (field : GaloisField) {f : Polynomial} {level : Level} (x : Levelled field f level)
    {g : Polynomial}
    (raised : g ≡ map (raise (field_of field) ((field_of field).characteristic ^ level.exponent)) f) where
  pub level-spread : spread level.power g ≡ power (field_of field) f level.power
  level-spread =
      subst (λ (k : ℕ). spread k g ≡ power (field_of field) f k) (sym (level-power x))
      (ap (spread ((field_of field).characteristic ^ level.exponent)) raised
      ∙ sym (power-spread (field-is_field field) level.exponent f x.nonempty))

  pub level_growing :
      {count : ℕ} {answer : List ℕ} {n : ℕ} → Growing f level.power count answer n
      → Growing g level.power count answer n
  level_growing {count} {answer} {n} y =
      let e : length f ≡ length g = sym (ap length raised ∙ length-map f _) in
      record {
        some_factor = omega (arith, x.nonempty);
        stride = y.stride;
        small = subst (λ (k : ℕ). n + count * (level.power * (k - 1)) ≤ 4096) e y.small;
        room = subst (λ (k : ℕ). n + count * (level.power * (k - 1)) < length answer) e y.room;
      }

pub record Raised (field : GaloisField) (f : Polynomial) (r : ℕ) (answer : List ℕ) (n : ℕ)
    (answer' : List ℕ) (n' : ℕ) (level : Level) (rest : ℕ) : Type 0 where
  pub done : ℕ
  pub base : level.base ≡ (field_of field).characteristic
  pub split : r ≡ done + level.power * rest
  pub multiplied : Multiplied (field_of field) (power (field_of field) f done) answer n answer' n'

module _ (field : GaloisField) {f : Polynomial} {r : ℕ} {answer : List ℕ} {n : ℕ}
    (R : Raising (field_of field) f r answer n) where
  abbrev F : Field
  F = field_of field

  abbrev I : IsField F
  I = field-is_field field

  factor-nonempty : 0 < length f
  factor-nonempty = omega (arith, R.positive)

  degree-within : n < length answer
  degree-within = omega (arith, R.room)

  pub raised-start : {level : Level} → level.base ≡ (field_of field).characteristic → level.exponent ≡ 0
      → Raised field f r answer n answer n level r
  raised-start {level} b e =
      let one : level.power ≡ 1 = level.is_power ∙ ap (λ (k : ℕ). level.base ^ k) e ∙ pow-zero level.base in
      record {
        done = 0;
        base = b;
        split = omega (arith, ap (λ (k : ℕ). k * r) one, one-mul r);
        multiplied =
            subst (λ u. Multiplied F u answer n answer n) (sym (power-zero-list F f))
            (multiplied-none I answer n degree-within R.coefficients);
      }

  power_small : r ≤ 4096
  power_small =
      let d : 0 < length f - 1 = omega (arith, R.positive) in
      omega (arith, le-mul_of_pos_right r d, R.small)

  module _ {answer₁ : List ℕ} {n₁ : ℕ} {level : Level} {rest : ℕ}
      (A : Raised field f r answer n answer₁ n₁ level rest) where
    abbrev q : ℕ
    q = level.power

    abbrev p : ℕ
    p = level.base

    degree_now : n₁ ≡ n + A.done * (length f - 1)
    unfolding degree
    degree_now = A.multiplied.new_degree ∙ ap (λ (d : ℕ). n + d) (degree-power I f A.done factor-nonempty)

    done_less : A.done ≤ r
    done_less = omega (arith, A.split)

    degree-within_now : n₁ < length answer
    degree-within_now = omega (arith, degree_now, mul-le-mul_right (length f - 1) done_less, R.room)

    some-power : 0 < length (power F f A.done)
    some-power = power-nonempty I f A.done factor-nonempty

    pub raised-length : length answer₁ ≡ length answer
    raised-length = multiplied-length I answer n degree-within A.multiplied some-power degree-within_now

    pub raised-elements : T (are_elements F (take (n₁ + 1) answer₁))
    raised-elements =
        multiplied-elements I answer n degree-within A.multiplied some-power degree-within_now

    pub raised-end : rest ≤ 0 → Multiplied F (power F f r) answer n answer₁ n₁
    raised-end k =
        subst (λ (e : ℕ). Multiplied F (power F f e) answer n answer₁ n₁) all A.multiplied
      where
        all : A.done ≡ r
        all =
            let z : rest ≡ 0 = omega arith in
            omega (arith, A.split, ap (λ (k : ℕ). q * k) z, mul-zero q)

    power-positive : 0 < q
    power-positive =
        subst (λ (k : ℕ). 0 < k) (sym level.is_power)
        (one-le-pow level.exponent p (omega (arith, level.base_least)))

    module _ (more : 0 < rest) where
      pub near : q ≤ 4096
      near =
          let m = le-mul_of_pos_right q more in
          omega (arith, A.split, power_small)

      pub raised_levelled : Levelled field f level
      raised_levelled =
          record {
            elements = R.factor;
            nonempty = factor-nonempty;
            short = R.short;
            base = A.base;
            near = near;
          }

      -- the next digit
      digit_split : rest ≡ rest % p + p * (rest / p)
      digit_split = sym (mod-add-div rest p)

      split-digit : q * rest ≡ q * (rest % p) + q * p * (rest / p)
      split-digit =
          ap (λ (k : ℕ). q * k) digit_split
          ∙ mul-add q (rest % p) (p * (rest / p))
          ∙ ap (λ (k : ℕ). q * (rest % p) + k) (sym (mul_assoc q p (rest / p)))

      exponent_grown : (A.done + q * (rest % p)) * (length f - 1) ≤ r * (length f - 1)
      exponent_grown = mul-le-mul_right (length f - 1) (omega (arith, A.split, split-digit))

      grown_degree :
          n₁ + rest % p * (q * (length f - 1)) ≡ n + (A.done + q * (rest % p)) * (length f - 1)
      grown_degree =
          let e = add-mul A.done (q * (rest % p)) (length f - 1) in
          let k = ap (λ (x : ℕ). x * (length f - 1)) (mul_comm q (rest % p)) in
          omega (arith, degree_now, mul_assoc (rest % p) q (length f - 1))

      pub raised_growing : Growing f q (rest % p) answer₁ n₁
      raised_growing =
          record {
            some_factor = factor-nonempty;
            stride = power-positive;
            small = omega (arith, grown_degree, exponent_grown, R.small);
            room = omega (arith, grown_degree, exponent_grown, R.room, raised-length);
          }

      power-more :
          times F (power F (power F f q) (rest % p)) (power F f A.done)
          ≡ power F f (q * (rest % p) + A.done)
      power-more =
          ap (λ u. times F u (power F f A.done)) (sym (power-mul I f q (rest % p) factor-nonempty))
          ∙ sym (power-add I f (q * (rest % p)) A.done factor-nonempty)

      pub raised-next :
          {answer₂ : List ℕ} {n₂ : ℕ}
          → Multiplied F (power F (power F f q) (rest % p)) answer₁ n₁ answer₂ n₂
          → {level' : Level}
          → level'.base ≡ p
          → level'.power ≡ q * p
          → Raised field f r answer n answer₂ n₂ level' (rest / p)
      raised-next {answer₂} {n₂} N {level'} b e =
          record {
            done = q * (rest % p) + A.done;
            base = b ∙ A.base;
            split = omega (arith, A.split, split-digit, ap (λ (k : ℕ). k * (rest / p)) e);
            multiplied =
                subst (λ u. Multiplied F u answer n answer₂ n₂) power-more
                (multiplied-then I answer n degree-within A.multiplied some-power degree-within_now N
                (power-nonempty I (power F f q) (rest % p) (power-nonempty I f q factor-nonempty)));
          }
