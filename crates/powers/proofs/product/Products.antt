-- The product of the powers of factors in lent bytes, factor by factor.
--
--   product-take      == the product of the first pairs, and of one more
--   one_input, one_written == with one factor
--   Multiplying F fs rs a₀ a i n == the product of the powers of the factors before i is written into the
--                        bytes a₀, which have become a, and n is its degree
--
-- Assumes nothing.
use Prim.Native.Nat.{ℕ, zero, suc, ◌+◌, ◌*◌, ◌-◌, ◌≤◌, ◌<◌}
use mathlib.Core.Path.{◌≡◌, refl, sym, ap, subst, ◌∙◌}
use mathlib.Core.List.{List, [], ◌∷◌, ◌++◌}
use native.Mathlib.Nat as ℕ
use native.Mathlib.Numerals.{add-one}
use native.Mathlib.Omega.{arith}
use lib.ListN.{length, get_or, take, drop, set, length-append, length-drop, length-set}
use lib.Seq.{take-suc, take-length, drop-append-add, drop-drop, take-append_seam, set-set}
use lib.Dec.{T}
use Rattle.meaning.specs.Field.{Field, are_elements}
use Rattle.meaning.specs.Polynomial.{Polynomial, degree, is_monic_over, times, power, product}
use Rattle.meaning.specs.Result.{written}
use Rattle.meaning.specs.Conditions.{named, total_degree}
use Rattle.bridge.proofs.Basics.Interpretation.{IsField}
use Rattle.bridge.proofs.Lists.Polynomials.{monic-nonempty, monic-elements, degree-length}
use Rattle.bridge.proofs.Lists.Products.{factor_at, power_at, Nonempties, length-named, factor_at-named}
use Rattle.bridge.proofs.Lists.Products.{product-nil, product-nonempty, product-elements, product-append}
use Rattle.bridge.proofs.Lists.Products.{power_at-named, product-single, degree-product, degree-power}
use Rattle.bridge.proofs.Lists.Products.{power-nonempty, times_comm}
use Rattle.bridge.proofs.Ways.Portions.{take-nonempties, single-nonempties}
use Rattle.poly.specs.products.Product.{Multiplied}
use Rattle.poly.specs.raising.Raising.{Raising}
use Rattle.powers.specs.product.Writing.{ProductInput, ProductWritten, PowerInput, PowerWritten}
use Rattle.powers.proofs.product.Totals.{total-take, total-part}

-- The first pairs
product-take :
    {F : Field} (I : IsField F) (j : ℕ) (l : List (Polynomial × ℕ))
    → j < length l
    → Nonempties l
    → product F (take (suc j) l)
    ≡ times F (power F (factor_at l j) (power_at l j)) (product F (take j l))
product-take {F} I j l k h =
    ap (product F) (take-suc l j ([], 0) k)
    ∙ product-append I (take j l) (get_or l j ([], 0) ∷ []) (take-nonempties j l h)
    (single-nonempties (get_or l j ([], 0)) (h j k))
    ∙ ap (times F (product F (take j l))) (product-single I (factor_at l j) (power_at l j) (h j k))
    ∙ times_comm I (product F (take j l)) (power F (factor_at l j) (power_at l j))
    (product-nonempty I (take j l) (take-nonempties j l h))
    (power-nonempty I (factor_at l j) (power_at l j) (h j k))

-- Bytes that are written over
written-first : (a : List ℕ) → 0 < length a → set a 0 1 ≡ written (1 ∷ []) a
unfolding written
written-first [] h = absurd (omega arith)
written-first (b ∷ a) h = refl

written-front : (g a : List ℕ) → take (length g) (written g a) ≡ g
unfolding written
written-front g a = take-append_seam g (drop (length g) a)

written_over : (g h a : List ℕ) → length g ≤ length h → written h (written g a) ≡ written h a
unfolding written
written_over g h a l =
    let e : length h ≡ length g + (length h - length g) = omega arith in
    ap (λ t. h ++ t)
    (ap (λ n. drop n (g ++ drop (length g) a)) e
    ∙ drop-append-add g (drop (length g) a) (length h - length g)
    ∙ drop-drop (length h - length g) (length g) a
    ∙ ap (λ n. drop n a) (sym e))

length-written : (g a : List ℕ) → length g ≤ length a → length (written g a) ≡ length a
unfolding written
length-written g a l = length-append g (drop (length g) a) ∙ omega (arith, length-drop (length g) a)

-- Factor by factor
abbrev firsts : Field → List Polynomial → List ℕ → ℕ → Polynomial
firsts F fs rs i = product F (take i (named fs rs))

pub record Multiplying (F : Field) (fs : List Polynomial) (rs a₀ a : List ℕ) (i n : ℕ) : Type 0 where
  pub before : i ≤ length fs
  pub degree_is : n ≡ total_degree (take i (named fs rs))
  pub bytes : a ≡ written (firsts F fs rs i) a₀

-- a 1 in the first place
pub multiplying_start :
    (F : Field) (fs : List Polynomial) (rs a₀ : List ℕ)
    → 4097 ≤ length a₀
    → Multiplying F fs rs (set a₀ 0 1) (set a₀ 0 1) 0 0
unfolding total_degree
multiplying_start F fs rs a₀ enough =
    record {
      before = omega arith;
      degree_is = refl;
      bytes =
          sym (set-set a₀ 0 1 1)
          ∙ written-first (set a₀ 0 1) (omega (arith, length-set a₀ 0 1))
          ∙ ap (λ g. written g (set a₀ 0 1)) (sym (product-nil F));
    }

module _ {F : Field} (I : IsField F) {fs : List Polynomial} {rs : List ℕ} (x : ProductInput F fs rs) where
  nonempties : Nonempties (named fs rs)
  nonempties i k =
      subst (λ f. 0 < length f) (sym (factor_at-named fs rs i))
      (monic-nonempty F (get_or fs i []) (x.monic i (subst (λ n. i < n) (length-named fs rs) k)))

  firsts-degree : (i : ℕ) → degree (firsts F fs rs i) ≡ total_degree (take i (named fs rs))
  firsts-degree i = degree-product I (take i (named fs rs)) (take-nonempties i (named fs rs) nonempties)

  firsts-length : (i : ℕ) → length (firsts F fs rs i) ≡ total_degree (take i (named fs rs)) + 1
  firsts-length i =
      degree-length (firsts F fs rs i)
      (product-nonempty I (take i (named fs rs)) (take-nonempties i (named fs rs) nonempties))
      ∙ ap suc (firsts-degree i)
      ∙ sym (add-one _)

  module _ {a₀ a : List ℕ} {i n : ℕ} (y : Multiplying F fs rs a₀ a i n) where
    front : take (n + 1) a ≡ firsts F fs rs i
    front =
        let e : n + 1 ≡ length (firsts F fs rs i) = omega (arith, y.degree_is, firsts-length i) in
        ap (λ m. take m a) e
        ∙ ap (take (length (firsts F fs rs i))) y.bytes
        ∙ written-front (firsts F fs rs i) a₀

    pub multiplying_end :
        (b : List ℕ) → 4097 ≤ length b → a₀ ≡ set b 0 1 → length fs ≤ i → ProductWritten F fs rs b a n
    multiplying_end b enough from h =
        let e : i ≡ length (named fs rs) = omega (arith, y.before, length-named fs rs) in
        let all : take i (named fs rs) ≡ named fs rs
        = ap (λ m. take m (named fs rs)) e ∙ take-length (named fs rs) in
        record {
          new_degree = y.degree_is ∙ sym (firsts-degree i) ∙ ap (λ l. degree (product F l)) all;
          answer =
              y.bytes
              ∙ ap (written (firsts F fs rs i)) (from ∙ written-first b (omega arith))
              ∙ written_over (1 ∷ []) (firsts F fs rs i) b (omega (arith, firsts-length i))
              ∙ ap (λ l. written (product F l) b) all;
        }

    module _ (k : i < length fs) where
      place : i < length (named fs rs)
      place = subst (λ m. i < m) (sym (length-named fs rs)) k

      part : power_at (named fs rs) i * degree (factor_at (named fs rs) i) ≡ get_or rs i 0 * degree
          (get_or fs i [])
      part =
          ap (λ r. r * degree (factor_at (named fs rs) i)) (power_at-named fs rs i k)
          ∙ ap (λ f. get_or rs i 0 * degree f) (factor_at-named fs rs i)

      degree-next-small : n + get_or rs i 0 * degree (get_or fs i []) ≤ 4096
      degree-next-small = omega (arith, y.degree_is, total-part (named fs rs) i place, x.small, part)

      size : 4097 ≤ length a₀ → length a ≡ length a₀
      size enough =
          ap length y.bytes
          ∙ length-written (firsts F fs rs i) a₀
          (omega (arith, firsts-length i, y.degree_is, degree-next-small, enough))

      pub multiplying_raising : 4097 ≤ length a₀ → Raising F (get_or fs i []) (get_or rs i 0) a n
      unfolding degree
      multiplying_raising enough =
          record {
            positive = omega (arith, x.positive i k);
            short = x.short i k;
            small = degree-next-small;
            room = omega (arith, degree-next-small, size enough);
            factor = monic-elements F (get_or fs i []) (x.monic i k);
            coefficients =
                subst (λ g. T (are_elements F g)) (sym front) (product-elements I (take i (named fs rs)));
          }

      next : times F (power F (get_or fs i []) (get_or rs i 0)) (take (n + 1) a) ≡ firsts F fs rs (suc i)
      next =
          ap (times F (power F (get_or fs i []) (get_or rs i 0))) front
          ∙ ap (λ f. times F (power F f (get_or rs i 0)) (firsts F fs rs i)) (sym (factor_at-named fs rs i))
          ∙ ap (λ r. times F (power F (factor_at (named fs rs) i) r) (firsts F fs rs i))
          (sym (power_at-named fs rs i k))
          ∙ sym (product-take I i (named fs rs) place nonempties)

      pub multiplying_more :
          {a' : List ℕ} {n' : ℕ}
          → Multiplied F (power F (get_or fs i []) (get_or rs i 0)) a n a' n'
          → Multiplying F fs rs a₀ a' (i + 1) n'
      multiplying_more {a'} {n'} z =
          subst (λ m. Multiplying F fs rs a₀ a' m n') (sym (add-one i))
          (record {
            before = k;
            degree_is =
                omega (
                  arith,
                  z.new_degree,
                  y.degree_is,
                  degree-power I (get_or fs i []) (get_or rs i 0)
                      (monic-nonempty F (get_or fs i []) (x.monic i k)),
                  total-take (named fs rs) i place,
                  part,
                );
            bytes =
                z.bytes
                ∙ ap (λ g. written g a) next
                ∙ ap (written (firsts F fs rs (suc i))) y.bytes
                ∙ written_over (firsts F fs rs i) (firsts F fs rs (suc i)) a₀
                (omega (arith, firsts-length i, firsts-length (suc i), total-take (named fs rs) i place));
          })

-- One factor
one-total : (f : Polynomial) (r : ℕ) → total_degree (named (f ∷ []) (r ∷ [])) ≡ r * degree f
unfolding named total_degree
one-total f r = ℕ.add-zero (r * degree f)

pub one_input : {F : Field} {f : Polynomial} {r : ℕ} → PowerInput F f r → ProductInput F (f ∷ []) (r ∷ [])
one_input {F} {f} {r} x =
    record {
      monic = monic;
      positive = positive;
      short = short;
      enough = omega arith;
      small = omega (arith, one-total f r, x.small);
    }
  where
    monic : (i : ℕ) → i < 1 → T (is_monic_over F (get_or (f ∷ []) i []))
    monic zero k = x.monic
    monic (suc i) k = absurd (omega arith)

    positive : (i : ℕ) → i < 1 → 1 ≤ degree (get_or (f ∷ []) i [])
    positive zero k = x.positive
    positive (suc i) k = absurd (omega arith)

    short : (i : ℕ) → i < 1 → length (get_or (f ∷ []) i []) ≤ 33
    short zero k = x.short
    short (suc i) k = absurd (omega arith)

pub one_written :
    {F : Field} (I : IsField F) {f : Polynomial} {r : ℕ} {a a' : List ℕ} {n : ℕ}
    → PowerInput F f r
    → ProductWritten F (f ∷ []) (r ∷ []) a a' n
    → PowerWritten F f r a a' n
unfolding named
one_written {F} I {f} {r} {a} x y =
    let e : product F ((f, r) ∷ []) ≡ power F f r = product-single I f r (monic-nonempty F f x.monic) in
    record { new_degree = y.new_degree ∙ ap degree e; answer = y.answer ∙ ap (λ g. written g a) e }
