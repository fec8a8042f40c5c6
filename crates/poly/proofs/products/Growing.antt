-- A polynomial that grows in the bytes that hold it: the product with f(x^q), from the top down.
--
--   Multiplying F f q answer₀ n answer b k == from k on the product stands in `answer`, and before k what was
--                          there: the polynomial and the zeros after it. Only the first b coefficients of f
--                          reach the places before k
--   multiplying_start, multiplying_next, multiplying_end == at the start, one block more, at the end
--   next-below        == what is read for that block stands in the bytes
--
-- Assumes nothing.
use Prim.Native.Nat.{ℕ, zero, suc, ◌+◌, ◌*◌, ◌-◌, ◌/◌, ◌≤◌, ◌<◌, min}
use mathlib.Core.Path.{◌≡◌, refl, sym, ap, ap₂, subst, ◌∙◌}
use mathlib.Core.List.{List, [], ◌∷◌, ◌++◌}
use native.Mathlib.Nat.{zero-add, suc-add, mul-add, mul-zero, mul-suc, mul-le-mul_left, lt-mul-div-succ}
use native.Mathlib.Nat.{min-le_left, min-eq_left, min-eq_right}
use native.Mathlib.Decide.{dec_lt}
use native.Mathlib.Omega.{arith}
use lib.ListN.{length, get_or, take, drop, length-take, length-append, length-drop, get_or-append}
use lib.ListN.{get_or-eq_default}
use lib.Seq.{ext_get_or, get_or-take, get_or-drop, get_or-append-add, length-take-le}
use Rattle.meaning.specs.Field.{Field}
use Rattle.meaning.specs.Polynomial.{degree, times}
use Rattle.meaning.specs.Sequence.{Sequence, known}
use Rattle.bridge.proofs.Basics.Interpretation.{IsField}
use Rattle.bridge.proofs.Lists.Polynomials.{length-times}
use Rattle.bridge.proofs.Lists.Spread.{spread, spread-nonempty, length-spread}
use Rattle.bridge.proofs.Sequences.Actions.{known-get_or}
use Rattle.poly.specs.convolution.Convolution.{convolved, convolved_within, Below}
use Rattle.poly.proofs.convolution.Convolution.{convolved_local}
use Rattle.poly.proofs.convolution.Between.{Between, between_paste}
use Rattle.poly.specs.products.Product.{places, Padded}
use Rattle.poly.proofs.products.Convolution.{convolved_skip, convolved-zero, times-convolved}

pub record Multiplying (F : Field) (f : List ℕ) (q : ℕ) (answer₀ : List ℕ) (n : ℕ) (answer : List ℕ)
    (b k : ℕ) : Type 0 where
  pub bound : b ≤ length f
  pub reached : b < length f → k ≤ q * b
  pub ahead : 0 < b → q * (b - 1) < k
  pub whole : k ≤ places f q n
  pub size : length answer ≡ length answer₀
  pub lower : (j : ℕ) → j < k → get_or answer j 0 ≡ get_or (take (n + 1) answer₀) j 0
  pub upper :
      (j : ℕ)
      → k ≤ j
      → j < places f q n
      → get_or answer j 0 ≡ get_or (times F (spread q f) (take (n + 1) answer₀)) j 0
  pub beyond : (j : ℕ) → places f q n ≤ j → get_or answer j 0 ≡ get_or answer₀ j 0

-- a part, as what is left of the front
part-front : (x m : ℕ) (l : List ℕ) → take m (drop x l) ≡ drop x (take (x + m) l)
part-front zero m l = ap (λ k. take k l) (sym (zero-add m))
part-front (suc x) zero [] = ap (λ k. drop (suc x) (take {A = ℕ} k [])) (sym (suc-add x 0))
part-front (suc x) (suc m) [] = ap (λ k. drop (suc x) (take {A = ℕ} k [])) (sym (suc-add x (suc m)))
part-front (suc x) m (a ∷ l) =
    part-front x m l ∙ ap (λ k. drop (suc x) (take k (a ∷ l))) (sym (suc-add x m))

-- the smaller of two numbers, where it is not the first of them
min-second : {r : ℕ} (a b : ℕ) → r ≡ min a b → r < a → r ≡ b
min-second a b e l = elim (dec_lt a b) [
  | yes h ↦ absurd (omega (arith, min-eq_left {n = a} {m = b} (omega arith)))
  | no h ↦ e ∙ min-eq_right {n = b} {m = a} (omega arith)
]

module _ {F : Field} (I : IsField F) {f : List ℕ} {q : ℕ} {answer₀ : List ℕ} {n : ℕ}
    (p : Padded f q answer₀ n) where
  abbrev a : List ℕ
  a = take (n + 1) answer₀

  abbrev product : List ℕ
  product = times F (spread q f) a

  length-a : length a ≡ n + 1
  length-a = length-take-le (n + 1) answer₀ (omega (arith, p.room))

  pub length-product : length product ≡ places f q n
  unfolding degree
  length-product =
      length-times I (spread q f) a (spread-nonempty q p.stride f p.some_factor)
      (omega (arith, length-a))
      ∙ omega (arith, length-a, length-spread q p.stride f p.some_factor)

  -- past the degree the polynomial has zeros
  known-beyond : (j : ℕ) → n < j → known a j ≡ 0
  known-beyond j l = known-get_or a j ∙ get_or-eq_default a 0 (omega (arith, length-a))

  pub multiplying_start : Multiplying F f q answer₀ n answer₀ (length f) (n + 1 + q * (length f - 1))
  multiplying_start =
      record {
        bound = omega arith;
        reached = λ l. absurd (omega arith);
        ahead = λ l. omega arith;
        whole = omega arith;
        size = refl;
        lower = λ j l. elim (dec_lt n j) [
          | yes h ↦ p.zeros j h l ∙ sym (get_or-eq_default a 0 (omega (arith, length-a)))
          | no h ↦ sym (get_or-take (n + 1) answer₀ j 0 (omega arith))
        ];
        upper = λ j l h. absurd (omega arith);
        beyond = λ j l. refl;
      }

  pub multiplying_end : {answer : List ℕ} {b k : ℕ}
      → Multiplying F f q answer₀ n answer b k
      → b ≤ 0
      → answer ≡ product ++ drop (places f q n) answer₀
  multiplying_end {answer} {b} {k} m l =
      ext_get_or 0 answer (product ++ rest) (m.size ∙ sym whole)
      (λ j h. elim (dec_lt j (places f q n)) [
        | yes c ↦
            m.upper j (omega (arith, start)) c
            ∙ sym (get_or-append product rest 0 j (omega (arith, length-product)))
        | no c ↦
            let e : j ≡ length product + (j - places f q n) = omega (arith, length-product) in
            let d : places f q n + (j - places f q n) ≡ j = omega arith in
            m.beyond j (omega arith)
            ∙ sym
            (ap (λ i. get_or (product ++ rest) i 0) e
            ∙ get_or-append-add product rest (j - places f q n) 0
            ∙ get_or-drop (places f q n) answer₀ (j - places f q n) 0
            ∙ ap (λ i. get_or answer₀ i 0) d)
      ])
    where
      rest : List ℕ
      rest = drop (places f q n) answer₀

      start : k ≤ 0
      start =
          let z : b ≡ 0 = omega arith in
          subst (λ i. k ≤ i) (ap (λ i. q * i) z ∙ mul-zero q) (m.reached (omega (arith, p.some_factor)))

      whole : length (product ++ rest) ≡ length answer₀
      whole =
          omega (
            arith,
            length-append product rest,
            length-product,
            length-drop (places f q n) answer₀,
            p.room,
          )

  -- The block of the places from q·c on, of which c is the last coefficient of f to reach them
  module _ {answer : List ℕ} {b k : ℕ} (m : Multiplying F f q answer₀ n answer b k) (l : 0 < b)
      {back count : ℕ} (eb : back ≡ min (b - 1) (n / q)) (ec : count ≡ min (k - q * (b - 1)) (n + 1)) where
    abbrev c : ℕ
    c = b - 1

    abbrev reaching : List ℕ
    reaching = take (c + 1 - (c - back)) (drop (c - back) f)

    next_block : suc c ≡ b
    next_block = omega arith

    -- c is as far back as there are coefficients, or so far that only zeros come before
    back-bound : back ≤ c
    back-bound = omega (arith, min-le_left c (n / q))

    block_places : q * c ≡ q * (c - back) + q * back
    block_places =
        let e : c ≡ c - back + back = omega (arith, back-bound) in
        ap (λ i. q * i) e ∙ mul-add q (c - back) back

    reaching-front : reaching ≡ drop (c - back) (take (suc c) f)
    reaching-front =
        let e : c - back + (c + 1 - (c - back)) ≡ suc c = omega arith in
        part-front (c - back) (c + 1 - (c - back)) f ∙ ap (λ i. drop (c - back) (take i f)) e

    reaching-length : length reaching ≡ back + 1
    reaching-length =
        omega (
          arith,
          length-take (c + 1 - (c - back)) (drop (c - back) f),
          length-drop (c - back) f,
          back-bound,
          m.bound,
        )

    count-bound : q * c + count ≤ k
    count-bound = omega (arith, min-le_left (k - q * c) (n + 1), m.ahead l)

    pub next-below : Below reaching q answer (q * back) (q * c) count
    next-below =
        let e : length reaching - 1 ≡ back = omega (arith, reaching-length) in
        record {
          reach = omega (arith, ap (λ i. q * i) e);
          order = omega (arith, block_places);
          within = omega (arith, count-bound, m.whole, m.size, p.room);
        }

    -- the coefficients of f before those that are looked at meet zeros
    zeros-before : (j : ℕ) → q * c ≤ j → (i : ℕ) → i < c - back → known a (j - q * i) ≡ 0
    zeros-before j h i g =
        let z : back ≡ n / q = min-second c (n / q) eb (omega arith) in
        let t : q * (n / q + 1) ≤ q * (c - i) = mul-le-mul_left q (omega (arith, z)) in
        let d : c ≡ i + (c - i) = omega arith in
        let e : q * c ≡ q * i + q * (c - i) = ap (λ x. q * x) d ∙ mul-add q i (c - i) in
        known-beyond (j - q * i) (omega (arith, lt-mul-div-succ n p.stride))

    -- the product at a place of the block, before it is cut to the coefficients that are looked at
    module _ (j : ℕ) (h : q * c ≤ j) (g : j < k) where
      abbrev front : ℕ
      front = convolved F (take (suc c) f) q (known a) j

      coefficient-front : get_or product j 0 ≡ front
      coefficient-front =
          times-convolved I a (omega (arith, length-a)) f q c j p.stride (omega (arith, m.bound)) h
          (λ x. omega (arith, m.reached (omega arith), ap (λ i. q * i) next_block))

      coefficient-reached : front ≡ convolved F reaching q (known answer) (q * back + (j - q * c))
      coefficient-reached =
          let e : j - q * (c - back) ≡ q * back + (j - q * c) = omega (arith, block_places) in
          convolved_skip I (c - back) (take (suc c) f) q (known a) j (zeros-before j h)
          ∙ ap₂ (λ r i. convolved F r q (known a) i) (sym reaching-front) e
          ∙ convolved_local F reaching q (known a) (known answer) (q * back + (j - q * c))
          (λ i x.
          known-get_or a i ∙ sym (known-get_or answer i ∙ m.lower i (omega (arith, block_places))))

      -- more than n places on there are zeros
      coefficient_vanishing : q * c + (n + 1) ≤ j → front ≡ 0
      coefficient_vanishing x =
          convolved-zero I (take (suc c) f) q (known a) j
          (λ i y.
          let z : q * i ≤ q * c = mul-le-mul_left q (omega (arith, length-take (suc c) f)) in
          known-beyond (j - q * i) (omega arith))

    pub multiplying_next : {answer' : List ℕ}
        → answer' ≡ convolved_within F reaching q answer (q * back) (q * c) count
        → Multiplying F f q answer₀ n answer' c (q * c)
    multiplying_next {answer'} e =
        record {
          bound = omega (arith, m.bound);
          reached = λ x. omega arith;
          ahead = fewer;
          whole = omega (arith, m.ahead l, m.whole);
          size = made.size ∙ m.size;
          lower = λ j x. made.before j x ∙ m.lower j (omega (arith, m.ahead l));
          upper = λ j x y. elim (dec_lt j (q * c + count)) [
            | yes z ↦
                made.inside j x z
                ∙ sym (coefficient-front j x (below j z) ∙ coefficient-reached j x (below j z))
            | no z ↦ made.after j (omega arith) ∙ elim (dec_lt j k) [
              | yes u ↦ zero-there j x u (omega arith)
              | no u ↦ m.upper j (omega arith) y
            ]
          ];
          beyond = λ j x. made.after j (omega (arith, count-bound, m.whole)) ∙ m.beyond j x;
        }
      where
        s : Sequence
        s = convolved F reaching q (known answer)

        made : Between answer (q * c) count s (q * back) answer'
        made =
            subst (Between answer (q * c) count s (q * back)) (sym e)
            (between_paste answer (q * c) count s (q * back) next-below.within)

        below : (j : ℕ) → j < q * c + count → j < k
        below j z = omega (arith, count-bound)

        fewer : 0 < c → q * (c - 1) < q * c
        fewer x =
            let d : c ≡ suc (c - 1) = omega arith in
            omega (arith, ap (λ i. q * i) d ∙ mul-suc q (c - 1), p.stride)

        zero-there : (j : ℕ) → q * c ≤ j → j < k → q * c + count ≤ j → get_or answer j 0 ≡ get_or product j 0
        zero-there j x u z =
            let t : count ≡ n + 1 = min-second (k - q * c) (n + 1) ec (omega arith) in
            m.lower j u
            ∙ get_or-eq_default a 0 (omega (arith, length-a))
            ∙ sym (coefficient-front j x u ∙ coefficient_vanishing j x u (omega arith))
