-- The monic multiples of factors, written one after another.
--
--   multiple-copied   == the copy of a monic list is its multiple
--   multiple-made     == the copy, times the inverse of its leading coefficient
--   multiple-room, multiple-packed == there is room for one more, and it is written after the others
--
-- Assumes nothing.
use Prim.Native.Nat.{ℕ, ◌+◌, ◌-◌, ◌≤◌, ◌<◌}
use mathlib.Core.Path.{◌≡◌, sym, ap, ap₂, ◌∙◌}
use mathlib.Core.List.{List, [], ◌++◌, map, append-nil}
use native.Mathlib.Nat.{sub-zero}
use native.Mathlib.Omega.{arith}
use lib.ListN.{length, get_or, take, drop, set, drop_of_length-le, length-map}
use lib.Seq.{length-paste, take_all, take_at, drop_at, take-paste}
use borrow.Rule.Slice.PartMut.{put_mid}
use Rattle.meaning.specs.Field.{Field}
use Rattle.meaning.specs.Polynomial.{Polynomial, leading, scale, monic_multiple}
use Rattle.bridge.proofs.Basics.Interpretation.{IsField}
use Rattle.bridge.proofs.Lists.Polynomials.{leading-get_or, leading-nonempty, length-degree, get_or-below}
use Rattle.bridge.proofs.Lists.Polynomials.{monic_over_lem}
use Rattle.bridge.proofs.Lists.Multiples.{Leads, multiple_self, multiple-unique, multiple-length}
use Rattle.arith.specs.Inverse.{inverse}
use Rattle.arith.proofs.Inverse.{inverse-product}
use Rattle.bridge.proofs.Lists.Monics.{get_or_mapped}
use Rattle.lent.proofs.Parts.{put_paste, lent_length}
use Rattle.poly.specs.multiples.Packable.{Packable}
use Rattle.poly.proofs.parts.Packing.{Packing, packing_room, packing_next}

-- a list that is copied to the front
pub copied-front :
    (f to : List ℕ) {n : ℕ} {u : List ℕ}
    → n ≡ length f
    → u ≡ f
    → u ++ drop (n - 0) to ≡ f ++ drop (length f) to
copied-front f to {n} s e = ap₂ (λ u m. u ++ drop m to) e (sub-zero n ∙ s)

-- ONE MULTIPLE
module _ {F : Field} (I : IsField F) {f : Polynomial} (x : Leads F f) where
  pub factor-nonempty : 0 < length f
  factor-nonempty = leading-nonempty f x.nonzero

  last : leading f ≡ get_or f (length f - 1) 0
  last = leading-get_or f ∙ ap (λ i. get_or f i 0) (length-degree f (omega (arith, factor-nonempty)))

  pub multiple-copied : get_or f (length f - 1) 0 ≡ 1 → f ≡ monic_multiple F f
  multiple-copied e =
      sym
      (multiple_self I f
      (monic_over_lem F f (length f - 1) (omega (arith, factor-nonempty)) e x.elements))

  pub multiple-made :
      scale F (inverse F (get_or f (length f - 1) 0)) f ≡ monic_multiple F f
  multiple-made =
      multiple-unique I x (inverse F (get_or f (length f - 1) 0))
      (ap (λ a. F.mul a (inverse F (get_or f (length f - 1) 0))) last
      ∙ inverse-product I (get_or-below I f x.elements (length f - 1)) (λ z. x.nonzero (last ∙ z)))

  -- the copy, and what is left of the room
  module _ (to : List ℕ) {w : List ℕ} (e : w ≡ f ++ drop (length f) to) where
    pub left_as_copied :
        get_or f (length f - 1) 0 ≡ 1 → w ≡ monic_multiple F f ++ drop (length f) to
    left_as_copied h = e ∙ ap (λ l. l ++ drop (length f) to) (multiple-copied h)

    lent : take (length f - 0) w ≡ f
    lent = ap (take (length f - 0)) e ∙ take_at f (drop (length f) to) (length f - 0) (omega arith)

    rest : drop (length f - 0) w ≡ drop (length f) to
    rest = ap (drop (length f - 0)) e ∙ drop_at f (drop (length f) to) (length f - 0) (omega arith)

    pub left-multiplied :
        {ys : List ℕ} {c : ℕ}
        → c ≡ inverse F (get_or f (length f - 1) 0)
        → ys ≡ scale F c (take (length f - 0) w)
        → ys ++ drop (length f - 0) w ≡ monic_multiple F f ++ drop (length f) to
    left-multiplied {ys} {c} h k =
        ap₂ ◌++◌
        (k ∙ ap₂ (λ (a : ℕ) (l : List ℕ). scale F a l) h lent ∙ multiple-made)
        rest

-- SEVERAL
module _ {F : Field} (I : IsField F) {fs : List Polynomial} {to : List ℕ} (x : Packable F fs to) where
  abbrev gs : List Polynomial
  gs = map (monic_multiple F) fs

  pub multiples_few : length gs ≤ 9
  multiples_few = omega (arith, x.few, length-map fs (monic_multiple F))

  module _ {i : ℕ} (h : i < length fs) where
    abbrev f : Polynomial
    f = get_or fs i []

    multiple-at : get_or gs i [] ≡ monic_multiple F f
    multiple-at = get_or_mapped (monic_multiple F) fs i [] [] h

    same_size : length f ≡ length (get_or gs i [])
    same_size = sym (ap length multiple-at ∙ multiple-length I (x.leads i h))

    pub multiple-room : {at : ℕ} {ns w : List ℕ} → Packing gs to i at ns w → at + length f ≤ length w
    multiple-room y =
        let k : i < length gs = omega (arith, length-map fs (monic_multiple F)) in
        omega (arith, same_size, packing_room y k x.room)

    -- the multiple of f, which is g, is written into the part from `at` on
    pub multiple-packed :
        {at : ℕ} {ns w g ys : List ℕ}
        → Packing gs to i at ns w
        → f ≡ g
        → ys ≡ monic_multiple F g ++ drop (length g) (take (at + length g - at) (drop at w))
        → Packing gs to (i + 1) (at + length g) (set ns i (length g)) (put_mid at (at + length g - at) w ys)
    multiple-packed {at} {w = w} {g} {ys} y same written =
        let n = length g in
        let e : n ≡ length f = ap length (sym same) in
        let fits : at + n ≤ length w = omega (arith, multiple-room y) in
        let rest : drop n (take (at + n - at) (drop at w)) ≡ [] =
        drop_of_length-le _ {i = n} (omega (arith, lent_length w at n fits)) in
        let made : ys ≡ get_or gs i [] =
        written
        ∙ ap (λ l. monic_multiple F g ++ l) rest
        ∙ append-nil (monic_multiple F g)
        ∙ ap (monic_multiple F) (sym same)
        ∙ sym multiple-at in
        let size : length ys ≡ n = ap length made ∙ sym (e ∙ same_size) in
        let put = put_paste w at n ys size in
        packing_next y (omega (arith, length-map fs (monic_multiple F))) multiples_few (e ∙ same_size)
        (ap length put ∙ length-paste w at ys n fits (omega (arith, size)))
        (ap (take (at + n)) put
        ∙ take-paste w at ys n (omega arith) (omega (arith, size))
        ∙ ap (λ l. take at w ++ l) (take_all n ys (omega (arith, size)) ∙ made))
