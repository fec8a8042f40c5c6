-- The factors of a file place by place, by the bodies of its records: looking through them, a number of each,
-- and their coefficients stored one factor after another.
-- Assumes nothing.
use Prim.Native.Nat.{ℕ, ◌+◌, ◌≤◌, ◌<◌}
use native.Mathlib.Numerals.{add-one}
use native.Mathlib.Omega.{arith}
use mathlib.Core.Path.{◌≡◌, refl, sym, ap, ◌∙◌}
use mathlib.Core.Bool.{Bool, true, false, ◌||◌}
use mathlib.Core.List.{List, [], ◌∷◌, ◌++◌, map, flatten}
use lib.ListN.{length, get_or, take, drop, set, length-append, length-take, length-map, get_or-map}
use lib.Seq.{take_all, take-suc, take-suc-set, take_at, length-sets, sets-eq}
use Rattle.std.specs.List.{list_any}
use Rattle.meaning.specs.Search.{holds_for_some}
use Rattle.meaning.specs.Polynomial.{Polynomial}
use Rattle.meaning.specs.File.{WrittenFactor, file_factor, polynomial_of}
use Rattle.bridge.proofs.Lists.Monics.{get_or_mapped}
use Rattle.route.specs.payload.Payload.{LaidFactor}
use Rattle.poly.proofs.parts.Packing.{Packing, packing_room, packing_next}
use Rattle.route.proofs.payload.Stores.{sets_front}
use Rattle.rate_file.specs.factors.Written.{bodies_in, factors_in, polynomials_in, no_factor}

some-map : {A B : Type 0} (t : B → Bool) (g : A → B) (l : List A)
    → holds_for_some t (map g l) ≡ holds_for_some (λ a. t (g a)) l
unfolding holds_for_some
some-map t g [] = refl
some-map t g (a ∷ l) = ap (λ b. elim (t (g a)) [ true ↦ true | false ↦ b ]) (some-map t g l)

pub factors-count : (file : List ℕ) → length (factors_in file) ≡ length (bodies_in file)
unfolding factors_in
factors-count file = length-map (bodies_in file) file_factor

or-elim : (a b : Bool) → (a || b) ≡ elim a [ true ↦ true | false ↦ b ]
or-elim true b = refl
or-elim false b = refl

any-some : {A : Type 0} (t : A → Bool) (l : List A) → list_any t l ≡ holds_for_some t l
unfolding holds_for_some
any-some t [] = refl
any-some t (a ∷ l) = rw (any-some t l) (or-elim (t a) (holds_for_some t l))

-- a test of the factors is one of the bodies of their records
pub some-factor : (t : WrittenFactor → Bool) (file : List ℕ)
    → list_any (λ body. t (file_factor body)) (bodies_in file) ≡ holds_for_some t (factors_in file)
unfolding factors_in
some-factor t file =
    any-some (λ body. t (file_factor body)) (bodies_in file) ∙ sym (some-map t file_factor (bodies_in file))

-- the body of record i of the kind 4
module _ (file : List ℕ) (i : ℕ) (body : List ℕ) (b : body ≡ get_or (bodies_in file) i []) where
  pub factor-body : get_or (factors_in file) i no_factor ≡ file_factor body
  unfolding factors_in no_factor
  factor-body = get_or-map file_factor (bodies_in file) i [] ∙ ap file_factor (sym b)

  -- one more number of each factor
  pub number-next : (g : WrittenFactor → ℕ) (ns : List ℕ) (n : ℕ) → i < length ns
      → i < length (factors_in file)
      → take i ns ≡ take i (map g (factors_in file))
      → n ≡ g (file_factor body)
      → take (i + 1) (set ns i n) ≡ take (i + 1) (map g (factors_in file))
  number-next g ns n h k e q =
      let l = map g (factors_in file) in
      let v : get_or l i (g no_factor) ≡ n =
      get_or-map g (factors_in file) i no_factor ∙ ap g factor-body ∙ sym q in
      rw add-one
      (take-suc-set ns i n h
      ∙ ap (λ (m : List ℕ). m ++ (n ∷ [])) e
      ∙ ap (λ (a : ℕ). take i l ++ (a ∷ [])) (sym v)
      ∙ sym (take-suc l i (g no_factor) (rw length-map k)))

pub numbers-all : (file : List ℕ) (g : WrittenFactor → ℕ) (i n : ℕ) (ns : List ℕ)
    → i ≡ n
    → n ≡ length (factors_in file)
    → take i ns ≡ take i (map g (factors_in file))
    → take n ns ≡ map g (factors_in file)
numbers-all file g i n ns same all e =
    ap (λ (k : ℕ). take k ns) (sym same)
    ∙ e
    ∙ take_all i (map g (factors_in file)) (rw length-map (omega arith))

-- the polynomial of factor i
module _ (file : List ℕ) (i : ℕ) (body : List ℕ) (b : body ≡ get_or (bodies_in file) i [])
    (inside : i < length (factors_in file)) where
  pub polynomial-at : (d : Polynomial) → get_or (polynomials_in file) i d ≡ polynomial_of (file_factor body)
  polynomial-at d =
      get_or_mapped polynomial_of (factors_in file) i no_factor d inside
      ∙ ap polynomial_of (factor-body file i body b)

  pub factor-place :
      {to w ns : List ℕ} {at : ℕ}
      → length (flatten (polynomials_in file)) ≤ length to
      → Packing (polynomials_in file) to i at ns w
      → at ≤ length w
  factor-place fits x = omega (arith, packing_room x (rw length-map inside) fits)

  -- and its coefficients, stored after those of the factors before it
  module _ {to w w' ns : List ℕ} {at n : ℕ} (fits : length (flatten (polynomials_in file)) ≤ length to)
      (x : Packing (polynomials_in file) to i at ns w) (l : LaidFactor body at w n w') where
    within : i < length (polynomials_in file)
    within = rw length-map inside

    laid_length : n ≡ length (get_or (polynomials_in file) i [])
    laid_length = l.count ∙ ap length (sym (polynomial-at []))

    pub factor-room : at + n ≤ length w
    factor-room = omega (arith, laid_length, packing_room x within fits)

    pub factor-packed :
        length (factors_in file) ≤ 8
        → Packing (polynomials_in file) to (i + 1) (at + n) (set ns i n) w'
    factor-packed few =
        let g = polynomial_of (file_factor body) in
        let room : at + length g ≤ length w = omega (arith, l.count, factor-room) in
        packing_next x within (rw length-map (omega arith)) laid_length
        (ap length l.bytes ∙ length-sets w at g)
        (ap (take (at + n)) (l.bytes ∙ sets-eq g w at room)
        ∙ take_at (take at w ++ g) (drop (at + length g) w) (at + n)
        (omega (arith, length-append (take at w) g, length-take at w, l.count))
        ∙ ap (λ h. take at w ++ h) (sym (polynomial-at [])))

-- one factor, stored from the front on
pub front-factor : {body to to' part : List ℕ} {n : ℕ} → LaidFactor body 0 to n to'
    → length (polynomial_of (file_factor body)) ≤ length to
    → part ≡ take n (drop 0 to')
    → part ≡ polynomial_of (file_factor body)
front-factor {body} {to} l fits h =
    let g = polynomial_of (file_factor body) in
    h ∙ rw (l.count, l.bytes) (sets_front to g ∙ take_all (length to) g fits)
