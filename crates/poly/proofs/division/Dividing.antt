-- Division by a polynomial whose leading coefficient is not 0, one coefficient of the quotient after the
-- other.
--
--   Digit F c g a    == c·a times the leading coefficient of g is a: c·a is the coefficient of the quotient
--                       where a stands; `inverse-digit`: c is the inverse of the leading coefficient
--   Dividing F c g f w i == what the loop keeps: w below i, and g times c times what stands in w from i on,
--                       as many places lower as the degree of g, add up to f
--   dividing_start, dividing_next, dividing_end == at the start, one coefficient more, at the end
--   divided_congruent == the remainder is congruent to what was divided
--
-- Assumes nothing.
use Prim.Native.Nat.{ℕ, suc, ◌+◌, ◌-◌, ◌≤◌, ◌<◌}
use mathlib.Core.Path.{◌≡◌, refl, sym, ap, ap₂, subst, ◌∙◌}
use mathlib.Core.List.{List, [], ◌∷◌, ◌++◌}
use native.Mathlib.Nat.{le_refl, sub-zero}
use native.Mathlib.Decide.{dec_lt}
use native.Mathlib.Omega.{arith}
use lib.ListN.{length, get_or, take, drop, replicate, length-replicate}
use lib.ListN.{get_or-append}
use lib.ListN.{get_or-eq_default, length-take, length-drop, drop_of_length-le}
use lib.Seq.{ext_get_or, get_or-take, get_or-drop, get_or-append-add, drop-cons, take_all, length-take-le}
use lib.Seq.{paste, length-paste}
use lib.Dec.{T}
use borrow.Rule.Slice.PartMut.{put_mid}
use Rattle.meaning.specs.Field.{Field, are_elements, negative}
use Rattle.meaning.specs.Polynomial.{Polynomial, degree, plus, scale, times}
use Rattle.bridge.proofs.Basics.Interpretation.{IsField, number-add_comm, number-add_assoc, number-add-zero}
use Rattle.bridge.proofs.Basics.Interpretation.{number-zero-add, number-add-negative, number-mul_comm}
use Rattle.bridge.proofs.Basics.Interpretation.{number-mul-zero, number-mul-negative, number-one-mul}
use Rattle.bridge.proofs.Basics.Interpretation.{number-mul_assoc}
use Rattle.bridge.proofs.Basics.Interpretation.{add-below, size-positive}
use Rattle.bridge.proofs.Lists.Polynomials.{get_or-below, get_or-elements, elements-cons}
use Rattle.bridge.proofs.Lists.Polynomials.{scale-elements, times-elements, length-plus}
use Rattle.bridge.proofs.Lists.Polynomials.{length-scale, length-times}
use Rattle.bridge.proofs.Lists.Polynomials.{leading-get_or, leading-nonempty, degree-length}
use Rattle.bridge.proofs.Lists.Coefficients.{get_or-sum, get_or-multiple, get_or-zeros}
use Rattle.bridge.proofs.Sequences.Continuations.{take-elements}
use Rattle.bridge.proofs.Lists.Remainders.{Congruent, congruent-sum}
use Rattle.arith.specs.Slices.{combined}
use Rattle.arith.proofs.Slices.{length-combined, get_or-combined, get_or_paste_inside, get_or_paste_before}
use Rattle.arith.proofs.Slices.{get_or_paste_after}
use Rattle.lent.proofs.Parts.{put_paste}
use Rattle.poly.specs.division.Division.{Divisible, Divided}
use Rattle.arith.specs.Inverse.{inverse}
use Rattle.arith.proofs.Inverse.{inverse-product}

-- the number at place j of a list that stands x places higher
pub raised : ℕ → List ℕ → ℕ → ℕ
raised x v j = get_or (replicate x 0 ++ v) j 0

raised-low : (x : ℕ) (v : List ℕ) (j : ℕ) → j < x → raised x v j ≡ 0
unfolding raised
raised-low x v j l =
    get_or-append (replicate x 0) v 0 j (omega (arith, length-replicate {A = ℕ} x 0)) ∙ get_or-zeros x j

raised-high : (x : ℕ) (v : List ℕ) (j : ℕ) → x ≤ j → raised x v j ≡ get_or v (j - x) 0
unfolding raised
raised-high x v j l =
    let e : j ≡ length {A = ℕ} (replicate x 0) + (j - x) = omega (arith, length-replicate {A = ℕ} x 0) in
    ap (λ i. get_or (replicate x 0 ++ v) i 0) e ∙ get_or-append-add (replicate x 0) v (j - x) 0

raised-suc : (x : ℕ) (v : List ℕ) (j : ℕ) → x ≤ j → get_or (0 ∷ v) (j - x) 0 ≡ raised (suc x) v j
raised-suc x v j l = elim (dec_lt x j) [
  | yes a ↦
      let b : j - x ≡ suc (j - suc x) = omega arith in
      ap (λ n. get_or (0 ∷ v) n 0) b ∙ sym (raised-high (suc x) v j (omega arith))
  | no a ↦
      let b : j - x ≡ 0 = omega arith in
      ap (λ n. get_or (0 ∷ v) n 0) b ∙ sym (raised-low (suc x) v j (omega arith))
]

pub record Dividing (F : Field) (c : ℕ) (g : Polynomial) (f w : List ℕ) (i : ℕ) : Type 0 where
  pub size : length w ≡ length f
  pub within : i ≤ length f
  pub least : i < length f → degree g ≤ i
  pub elements : T (are_elements F w)
  pub total : (j : ℕ)
      → get_or f j 0
      ≡ F.add (get_or (take i w) j 0) (raised (i - degree g) (times F (scale F c (drop i w)) g) j)

-- past the end there are zeros
take_beyond : (i : ℕ) (w : List ℕ) (j : ℕ) → i ≤ j → get_or (take i w) j 0 ≡ 0
take_beyond i w j l = get_or-eq_default (take i w) 0 (omega (arith, length-take i w))

times_none : (F : Field) (g : Polynomial) → length (times F [] g) ≡ 0
unfolding times
times_none F g = refl

-- c·a is the coefficient of the quotient where a is the highest coefficient that is left
abbrev pub Digit : Field → ℕ → Polynomial → ℕ → Type 0
Digit F c g a = F.mul (F.mul c a) (get_or g (degree g) 0) ≡ a

-- the numbers before place i, as many as the degree of g, are less by q·g, and the others are as they were
pub record Reduced (F : Field) (g : Polynomial) (q : ℕ) (w : List ℕ) (i : ℕ) (w' : List ℕ) : Type 0 where
  pub size : length w' ≡ length w
  pub before : (j : ℕ) → j < i - degree g → get_or w' j 0 ≡ get_or w j 0
  pub inside :
      (j : ℕ)
      → i - degree g ≤ j
      → j < i
      → get_or w' j 0
      ≡ F.add (get_or w j 0) (F.mul (negative F q) (get_or g (j - (i - degree g)) 0))
  pub after : (j : ℕ) → i ≤ j → get_or w' j 0 ≡ get_or w j 0

pub inverse-digit : {F : Field} (I : IsField F) {f g : List ℕ} → Divisible F f g → (a : ℕ)
    → a < F.size
    → Digit F (inverse F (get_or g (degree g) 0)) g a
inverse-digit {F} I {g = g} d a l =
    let b = get_or g (degree g) 0 in
    let u = inverse F b in
    let e : F.mul b u ≡ 1 =
    inverse-product I (get_or-below I g d.divisor (degree g)) (λ z. d.nonzero (leading-get_or g ∙ z)) in
    number-mul_comm I (F.mul u a) b
    ∙ sym (number-mul_assoc I b u a)
    ∙ ap (λ z. F.mul z a) e
    ∙ number-one-mul I l

module _ {F : Field} (I : IsField F) {g : Polynomial} {f : List ℕ} (d : Divisible F f g) where
  divisor-nonempty : 0 < length g
  divisor-nonempty = leading-nonempty g d.nonzero

  length-g : length g ≡ suc (degree g)
  length-g = degree-length g divisor-nonempty

  abbrev e : ℕ
  e = degree g

  pub dividing_start : {c : ℕ} → Dividing F c g f f (length f)
  unfolding times scale
  dividing_start {c} =
      record {
        size = refl;
        within = omega arith;
        least = λ l. absurd (omega arith);
        elements = d.elements;
        total = λ j.
            sym
            (ap₂ (λ v u. F.add (get_or v j 0) (raised (length f - e) (times F (scale F c u) g) j))
            (take_all (length f) f (omega arith))
            (drop_of_length-le f (le_refl (length f)))
            ∙ ap (F.add (get_or f j 0)) (nothing (length f - e) j)
            ∙ number-add-zero I (get_or-below I f d.elements j));
      }
    where
      nothing : (x j : ℕ) → raised x [] j ≡ 0
      nothing x j = elim (dec_lt j x) [
        | yes l ↦ raised-low x [] j l
        | no l ↦ raised-high x [] j
            (omega arith)
      ]

  -- one coefficient more of the quotient, at place i
  module _ {c : ℕ} {w : List ℕ} {k : ℕ} (m : Dividing F c g f w k) (l : e < k)
      (t : Digit F c g (get_or w (k - 1) 0)) where
    abbrev i : ℕ
    i = k - 1

    abbrev q : ℕ
    q = F.mul c (get_or w i 0)

    -- what the quotient has from place k on
    abbrev known : List ℕ
    known = scale F c (drop k w)

    abbrev x : ℕ
    x = i - e

    -- (a − q·b) + q·b
    digit_restored : (a b : ℕ) → a < F.size
        → F.add (F.add a (F.mul (negative F q) b)) (F.mul q b) ≡ a
    digit_restored a b h =
        number-add_assoc I a (F.mul (negative F q) b) (F.mul q b)
        ∙ ap (F.add a)
        (ap (λ y. F.add y (F.mul q b))
        (number-mul_comm I (negative F q) b
        ∙ number-mul-negative I b q
        ∙ ap (negative F) (number-mul_comm I b q))
        ∙ number-add_comm I (negative F (F.mul q b)) (F.mul q b)
        ∙ number-add-negative I (F.mul q b))
        ∙ number-add-zero I h

    module _ {w' : List ℕ} (s : Reduced F g q w i w') where
      -- what stands below, with q·g added
      lower-place : (j : ℕ) → x ≤ j
          → F.add (get_or (take i w') j 0) (F.mul q (get_or g (j - x) 0)) ≡ get_or (take k w) j 0
      lower-place j h = elim (dec_lt j i) [
        | yes a ↦
            ap (λ y. F.add y (F.mul q (get_or g (j - x) 0))) (get_or-take i w' j 0 a ∙ s.inside j h a)
            ∙ digit_restored (get_or w j 0) (get_or g (j - x) 0) (get_or-below I w m.elements j)
            ∙ sym (get_or-take k w j 0 (omega arith))
        | no a ↦
            ap (λ y. F.add y (F.mul q (get_or g (j - x) 0))) (take_beyond i w' j (omega arith))
            ∙ elim (dec_lt j k) [
              | yes b ↦ at_top j (omega arith) ∙ sym (get_or-take k w j 0 b)
              | no b ↦
                  ap (λ y. F.add 0 (F.mul q y))
                  (get_or-eq_default g 0 (omega (arith, length-g)))
                  ∙ ap (F.add 0) (number-mul-zero I q)
                  ∙ number-zero-add I (size-positive I)
                  ∙ sym (take_beyond k w j (omega arith))
            ]
      ]
        where
          at_top : (j : ℕ) → j ≡ i → F.add 0 (F.mul q (get_or g (j - x) 0)) ≡ get_or w j 0
          at_top j u =
              let y : j - x ≡ e = omega arith in
              ap (λ z. F.add 0 (F.mul q (get_or g z 0))) y
              ∙ ap (F.add 0) t
              ∙ number-zero-add I (get_or-below I w m.elements i)
              ∙ ap (λ z. get_or w z 0) (sym u)

      -- the quotient has q before the coefficients that it had
      quotient-digit : scale F c (drop i w') ≡ q ∷ known
      unfolding scale
      quotient-digit =
          let a : i < length w' = omega (arith, s.size, m.size, m.within) in
          let b : suc i ≡ k = omega arith in
          ap (scale F c)
          (drop-cons w' i 0 a ∙ ap₂ ◌∷◌ (s.after i (omega arith)) (ap (λ n. drop n w') b ∙ later))
        where
          later : drop k w' ≡ drop k w
          later =
              ext_get_or 0 (drop k w') (drop k w)
              (omega (arith, length-drop k w', length-drop k w, s.size))
              (λ j h.
              get_or-drop k w' j 0 ∙ s.after (k + j) (omega arith) ∙ sym (get_or-drop k w j 0))

      -- what the product with g adds at place j
      higher_place : (j : ℕ) → x ≤ j
          → raised x (times F (q ∷ known) g) j
          ≡ F.add (F.mul q (get_or g (j - x) 0)) (raised (k - e) (times F known g) j)
      unfolding times
      higher_place j h =
          raised-high x (times F (q ∷ known) g) j h
          ∙ get_or-sum I (scale F q g) (0 ∷ old) (j - x) (scale-elements I q g)
          (elements-cons F old (size-positive I) (times-elements I known g))
          ∙ ap₂ F.add (get_or-multiple I q g (j - x)) (raised-suc x old j h ∙ ap (λ n. raised n old j) above)
        where
          old : List ℕ
          old = times F known g

          above : suc x ≡ k - e
          above = omega arith

      reduced-elements : T (are_elements F w')
      reduced-elements =
          get_or-elements F w'
          (λ j h. elim (dec_lt j i) [
            | yes a ↦ elim (dec_lt j x) [
              | yes b ↦ kept j (s.before j b)
              | no b ↦ subst (λ y. y < F.size) (sym (s.inside j (omega arith) a)) (add-below I _ _)
            ]
            | no a ↦ kept j (s.after j (omega arith))
          ])
        where
          kept : (j : ℕ) → get_or w' j 0 ≡ get_or w j 0 → get_or w' j 0 < F.size
          kept j t = subst (λ y. y < F.size) (sym t) (get_or-below I w m.elements j)

      pub dividing_next : Dividing F c g f w' i
      dividing_next =
          record {
            size = s.size ∙ m.size;
            within = omega (arith, m.within);
            least = λ h. omega arith;
            elements = reduced-elements;
            total = λ j. m.total j ∙ sym (ap (sum j) quotient-digit ∙ same j);
          }
        where
          old : ℕ → ℕ
          old j = raised (k - e) (times F known g) j

          sum : ℕ → List ℕ → ℕ
          sum j u = F.add (get_or (take i w') j 0) (raised x (times F u g) j)

          same : (j : ℕ) → sum j (q ∷ known) ≡ F.add (get_or (take k w) j 0) (old j)
          same j = elim (dec_lt j x) [
            | yes a ↦
                ap₂ F.add
                (get_or-take i w' j 0 (omega arith) ∙ s.before j a ∙ sym (get_or-take k w j 0 (omega arith)))
                (raised-low x (times F (q ∷ known) g) j a
                ∙ sym (raised-low (k - e) (times F known g) j (omega arith)))
            | no a ↦
                ap (F.add (get_or (take i w') j 0)) (higher_place j (omega arith))
                ∙ sym (number-add_assoc I (get_or (take i w') j 0) (F.mul q (get_or g (j - x) 0)) (old j))
                ∙ ap (λ y. F.add y (old j)) (lower-place j (omega arith))
          ]

  -- the length of the sum of a remainder and a product with g
  length-sum : (c : ℕ) (w : List ℕ) → length (plus F (take e w) (times F (scale F c (drop e w)) g)) ≡ length w
  unfolding scale
  length-sum c w =
      let n : length (scale F c (drop e w)) ≡ length w - e =
      length-scale F c (drop e w) ∙ length-drop e w in
      length-plus I (take e w) (times F (scale F c (drop e w)) g) ∙ elim (dec_lt e (length w)) [
        | yes h ↦
            omega (
              arith,
              length-take e w,
              n,
              length-times I (scale F c (drop e w)) g (omega (arith, n)) divisor-nonempty,
              length-g,
            )
        | no h ↦
            omega (
              arith,
              length-take e w,
              ap (λ u. length (times F (scale F c u) g)) (drop_of_length-le w {i = e} (omega arith))
                  ∙ times_none F g,
            )
      ]

  pub dividing_end : {c : ℕ} {w : List ℕ} {i : ℕ} → Dividing F c g f w i → i ≤ e → Divided F c g f w
  dividing_end {c} {w} {i} m l =
      record {
        size = m.size;
        elements = m.elements;
        equation =
            ext_get_or 0 f (plus F (take e w) product) (sym (length-sum c w ∙ m.size))
            (λ j h.
            m.total j
            ∙ ap₂ F.add (ap (λ v. get_or v j 0) front) (high j)
            ∙ sym
            (get_or-sum I (take e w) product j (take-elements F e w m.elements)
            (times-elements I (scale F c (drop e w)) g)));
      }
    where
      -- i is the degree of g, or past the end
      front : take i w ≡ take e w
      front = elim (dec_lt i (length f)) [
        | yes h ↦ let t : i ≡ e = omega (arith, m.least h) in ap (λ n. take n w) t
        | no h ↦ take_all i w (omega (arith, m.size)) ∙ sym (take_all e w (omega (arith, m.size)))
      ]

      back : drop i w ≡ drop e w
      back = elim (dec_lt i (length f)) [
        | yes h ↦ let t : i ≡ e = omega (arith, m.least h) in ap (λ n. drop n w) t
        | no h ↦
            drop_of_length-le w {i = i} (omega (arith, m.size))
            ∙ sym (drop_of_length-le w {i = e} (omega (arith, m.size)))
      ]

      product : List ℕ
      product = times F (scale F c (drop e w)) g

      high : (j : ℕ) → raised (i - e) (times F (scale F c (drop i w)) g) j ≡ get_or product j 0
      high j =
          let t : i - e ≡ 0 = omega arith in
          ap₂ (λ n u. raised n (times F (scale F c u) g) j) t back ∙ raised-high 0 product j (omega arith)
          ∙ ap (λ n. get_or product n 0) (sub-zero j)

pub divided_congruent :
    {F : Field} (I : IsField F) {c : ℕ} {g f f' : List ℕ}
    → Divided F c g f f'
    → Congruent I g f (take (degree g) f')
divided_congruent {F} I {c} {g} {f' = f'} d = congruent-sum I (scale F c (drop (degree g) f')) d.equation

-- the part that comes back from the update
module _ (F : Field) (g : Polynomial) (nonempty : 0 < length g) (w : List ℕ) (i : ℕ) (l : length g - 1 ≤ i)
    (h : i < length w) where
  abbrev n : ℕ
  n = length g - 1

  abbrev y : ℕ
  y = i - n

  abbrev lent : List ℕ
  lent = take (i - y) (drop y w)

  abbrev factor : List ℕ
  factor = take (n - 0) g

  length-lent : length lent ≡ n
  length-lent = length-take-le (i - y) (drop y w) (omega (arith, length-drop y w)) ∙ omega arith

  length-factor : length factor ≡ n
  length-factor = length-take-le (n - 0) g (omega arith) ∙ omega arith

  pub lent_length : length factor ≤ length lent
  lent_length = omega (arith, length-factor, length-lent)

  module _ (u : ℕ) {ys : List ℕ} {v : ℕ} (q : v ≡ negative F u) (e : ys ≡ combined F lent v factor) where
    length_ys : length ys ≡ n
    length_ys =
        ap length e
        ∙ length-combined F lent v factor lent_length
        ∙ length-lent

    update-pasted : put_mid y (i - y) w ys ≡ paste w y ys n
    update-pasted =
        let t : i ≡ y + n = omega arith in
        ap (λ k. put_mid y (k - y) w ys) t ∙ put_paste w y n ys length_ys

    update-place : (j : ℕ) → j < n
        → get_or ys j 0 ≡ F.add (get_or w (y + j) 0) (F.mul (negative F u) (get_or g j 0))
    update-place j b =
        ap (λ u. get_or u j 0) e
        ∙ get_or-combined F lent v factor j
        (omega (arith, length-lent))
        (omega (arith, length-factor))
        ∙ ap₂ (λ a k. F.add a (F.mul k (get_or factor j 0)))
        (get_or-take (i - y) (drop y w) j 0 (omega arith) ∙ get_or-drop y w j 0) q
        ∙ ap (λ k. F.add (get_or w (y + j) 0) (F.mul (negative F u) k))
        (get_or-take (n - 0) g j 0 (omega arith))

    length-pasted : length (paste w y ys n) ≡ length w
    length-pasted = length-paste w y ys n (omega arith) (omega (arith, length_ys))

    before-pasted : (j : ℕ) → j < y → get_or (paste w y ys n) j 0 ≡ get_or w j 0
    before-pasted = get_or_paste_before w y ys n (omega arith) (omega (arith, length_ys))

    inside-pasted :
        (j : ℕ)
        → y ≤ j
        → j < i
        → get_or (paste w y ys n) j 0
        ≡ F.add (get_or w j 0) (F.mul (negative F u) (get_or g (j - y) 0))
    inside-pasted j a b =
        let t : j ≡ y + (j - y) = omega arith in
        ap (λ k. get_or (paste w y ys n) k 0) t
        ∙ get_or_paste_inside w y ys n (omega arith) (omega (arith, length_ys)) (j - y) (omega arith)
        ∙ update-place (j - y) (omega arith)
        ∙ ap (λ k. F.add (get_or w k 0) (F.mul (negative F u) (get_or g (j - y) 0))) (sym t)

    after-pasted : (j : ℕ) → i ≤ j → get_or (paste w y ys n) j 0 ≡ get_or w j 0
    after-pasted j a = get_or_paste_after w y ys n (omega arith) (omega (arith, length_ys)) j (omega arith)

    pub reduced_put : Reduced F g u w i (put_mid y (i - y) w ys)
    unfolding degree
    reduced_put =
        subst (Reduced F g u w i) (sym update-pasted)
        (record {
          size = length-pasted;
          before = before-pasted;
          inside = inside-pasted;
          after = after-pasted;
        })

-- the same for a number of terms that is the degree
module _ (F : Field) (g : Polynomial) (nonempty : 0 < length g) (w : List ℕ) (i : ℕ) (l : length g - 1 ≤ i)
    (h : i < length w) (m : ℕ) (z : m ≡ length g - 1) where
  pub lent-length-at : length (take (m - 0) g) ≤ length (take (i - (i - m)) (drop (i - m) w))
  lent-length-at =
      subst (λ m. length (take (m - 0) g) ≤ length (take (i - (i - m)) (drop (i - m) w))) (sym z)
      (lent_length F g nonempty w i l h)

  pub reduced_put_at :
      (u : ℕ) {ys : List ℕ} {v : ℕ}
      → v ≡ negative F u
      → ys ≡ combined F (take (i - (i - m)) (drop (i - m) w)) v (take (m - 0) g)
      → Reduced F g u w i (put_mid (i - m) (i - (i - m)) w ys)
  reduced_put_at u {ys} {v} q e =
      subst
      (λ m.
      ys ≡ combined F (take (i - (i - m)) (drop (i - m) w)) v (take (m - 0) g)
      → Reduced F g u w i (put_mid (i - m) (i - (i - m)) w ys))
      (sym z) (reduced_put F g nonempty w i l h u q) e
