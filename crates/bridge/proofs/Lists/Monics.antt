-- The list of all monic polynomials of one degree, and the place of each.
--
--   digit q n i       == the digit i of n in base q, the least significant being digit 0
--   digits q d n      == the d least significant digits of n in base q, the least significant first
--   monic_at q d n     == these digits and then 1: the coefficients of a monic polynomial of degree d
--   monics-list       == `monics F d` is the list of the polynomials `monic_at` for n from 0 to size^d − 1,
--                        in this order; by places it is `monics-at`
--   length-monics     == it has size^d members
--   monics-monic, monic-monics == its members are the monic lists over F of degree d
--   some-monics, monics-some == some member passes exactly where some monic list of degree d passes
--
-- Assumes nothing.
use Prim.Native.Nat.{ℕ, zero, suc, ◌+◌, ◌*◌, ◌^◌, ◌/◌, ◌%◌, ◌<◌, zero-le}
use mathlib.Core.Path.{◌≡◌, refl, sym, ap, ap₂, subst, ◌∙◌}
use mathlib.Core.Bool.{Bool}
use mathlib.Core.List.Memᴰ
use mathlib.Core.List.{List, [], ◌∷◌, ◌++◌, map, Memᴰ}
use native.Mathlib.Nat.{pow-succ', div-div-eq-div-mul, div-one}
use native.Mathlib.Nat.{not-suc-le-zero, le_of_suc-le-suc, pow-zero, pow-suc, mod-lt, div-add-mod'}
use native.Mathlib.Nat.{div-lt_iff_lt-mul, suc-mul}
use native.Mathlib.Omega.{arith}
use lib.ListN.{length, get_or, length-map, length-append, get_or-append}
use lib.Seq.{ext_get_or, get_or-append-add, get_or_at}
use lib.Dec.{T}
use Rattle.meaning.specs.Search.{range, holds_for_some}
use Rattle.meaning.specs.Field.{Field, are_elements}
use Rattle.meaning.specs.Polynomial.{Polynomial, degree, is_monic_over, each_head, monics}
use Rattle.bridge.proofs.Basics.Searches.{some-member, member-some, range-member, member-range}
use Rattle.bridge.proofs.Basics.Searches.{length-range, get_or-range}
use Rattle.bridge.proofs.Basics.Interpretation.{IsField, size-positive}
use Rattle.bridge.proofs.Lists.Polynomials.{length-degree, elements_uncons, elements-cons, monic_over_lem}
use Rattle.bridge.proofs.Lists.Polynomials.{monic-elements, monic-length, monic-last, one-elements}

-- Digits
unfoldable pub digit : ℕ → ℕ → ℕ → ℕ
digit q n i = n / q ^ i % q

unfoldable pub digits : ℕ → ℕ → ℕ → List ℕ
digits q zero n = []
digits q (suc d) n = n % q ∷ digits q d (n / q)

unfoldable pub monic_at : ℕ → ℕ → ℕ → Polynomial
monic_at q d n = digits q d n ++ (1 ∷ [])

pub length_digits : (q d n : ℕ) → length (digits q d n) ≡ d
unfolding digits
length_digits q zero n = refl
length_digits q (suc d) n = ap suc (length_digits q d (n / q))

pub get_or-digits : (q d n i : ℕ) → i < d → get_or (digits q d n) i 0 ≡ digit q n i
unfolding digits digit
get_or-digits q zero n i l = absurd (not-suc-le-zero l)
get_or-digits q (suc d) n zero l = ap (λ m. m % q) (sym (div-one n) ∙ ap (◌/◌ n) (sym (pow-zero q)))
get_or-digits q (suc d) n (suc i) l =
    get_or-digits q d (n / q) i (le_of_suc-le-suc l)
    ∙ ap (λ m. m % q) (div-div-eq-div-mul n q (q ^ i) ∙ ap (◌/◌ n) (sym (pow-succ' q i)))

pub monic_at-zero : (q n : ℕ) → monic_at q 0 n ≡ 1 ∷ []
unfolding monic_at digits
monic_at-zero q n = refl

pub monic_at-suc : (q d n : ℕ) → monic_at q (suc d) n ≡ n % q ∷ monic_at q d (n / q)
unfolding monic_at digits
monic_at-suc q d n = refl

pub length-monic_at : (q d n : ℕ) → length (monic_at q d n) ≡ suc d
unfolding monic_at
length-monic_at q d n = length-append (digits q d n) (1 ∷ []) ∙ omega (arith, length_digits q d n)

pub last-monic_at : (q d n : ℕ) → get_or (monic_at q d n) d 0 ≡ 1
unfolding monic_at
last-monic_at q d n = get_or_at (digits q d n) 1 [] 0 d (length_digits q d n)

pub degree-monic_at : (q d n : ℕ) → degree (monic_at q d n) ≡ d
degree-monic_at q d n = length-degree (monic_at q d n) (length-monic_at q d n)

-- Each head before each list
pub get_or_mapped :
    {A B : Type 0} (f : A → B) (l : List A) (i : ℕ) (a : A) (b : B)
    → i < length l
    → get_or (map f l) i b ≡ f (get_or l i a)
get_or_mapped f [] i a b l = absurd (not-suc-le-zero l)
get_or_mapped f (c ∷ cs) zero a b l = refl
get_or_mapped f (c ∷ cs) (suc i) a b l = get_or_mapped f cs i a b (le_of_suc-le-suc l)

module _ (cs : List ℕ) where
  each_member :
      {c : ℕ} {f : Polynomial} (l : List Polynomial)
      → Memᴰ c cs
      → Memᴰ f l
      → Memᴰ (c ∷ f) (each_head cs l)
  unfolding each_head
  each_member {c = c} {f = f} [] m never = elim never [ ]
  each_member {c} {f} (g ∷ l) m (Memᴰ.head e) =
      Memᴰ.append_left (each_head cs l) (Memᴰ.cast (ap (◌∷◌ c) e) (Memᴰ.map (λ c. c ∷ g) m))
  each_member (g ∷ l) m (Memᴰ.tail n) = Memᴰ.append_right (map (λ c. c ∷ g) cs) (each_member l m n)

  length-each : (l : List Polynomial) → length (each_head cs l) ≡ length l * length cs
  unfolding each_head
  length-each [] = sym (omega arith)
  length-each (f ∷ l) =
      length-append (map (λ c. c ∷ f) cs) (each_head cs l)
      ∙ ap₂ ◌+◌ (length-map cs (λ c. c ∷ f)) (length-each l)
      ∙ omega (arith, suc-mul (length l) (length cs))

  get_or-each :
      (l : List Polynomial) (m i : ℕ)
      → m < length l
      → i < length cs
      → get_or (each_head cs l) (m * length cs + i) [] ≡ get_or cs i 0 ∷ get_or l m []
  unfolding each_head
  get_or-each [] m i h k = absurd (not-suc-le-zero h)
  get_or-each (f ∷ l) zero i h k =
      let e : 0 * length cs + i ≡ i = omega arith in
      ap (λ n. get_or (each_head cs (f ∷ l)) n []) e
      ∙ get_or-append (map (λ c. c ∷ f) cs) (each_head cs l) [] i (rw length-map k)
      ∙ get_or_mapped (λ c. c ∷ f) cs i 0 [] k
  get_or-each (f ∷ l) (suc m) i h k =
      ap (λ n. get_or (each_head cs (f ∷ l)) n []) place
      ∙ get_or-append-add (map (λ c. c ∷ f) cs) (each_head cs l) (m * length cs + i) []
      ∙ get_or-each l m i (le_of_suc-le-suc h) k
    where
      place : suc m * length cs + i ≡ length (map (λ c. c ∷ f) cs) + (m * length cs + i)
      place = rw length-map (omega (arith, suc-mul m (length cs)))

module _ (F : Field) where
  pub length-monics : (d : ℕ) → length (monics F d) ≡ F.size ^ d
  unfolding monics
  length-monics zero = sym (pow-zero F.size)
  length-monics (suc d) =
      length-each (range 0 F.size) (monics F d)
      ∙ ap₂ ◌*◌ (length-monics d) (length-range 0 F.size)
      ∙ sym (pow-suc F.size d)

  listed :
      (d : ℕ) (f : Polynomial)
      → length f ≡ suc d
      → T (are_elements F f)
      → get_or f d 0 ≡ 1
      → Memᴰ f (monics F d)
  unfolding monics
  listed zero [] l h e = absurd (omega arith)
  listed zero (c ∷ []) l h e = Memᴰ.head (ap (λ c. c ∷ []) e)
  listed zero (c ∷ b ∷ f) l h e = absurd (omega arith)
  listed (suc d) [] l h e = absurd (omega arith)
  listed (suc d) (c ∷ f) l h e =
      let (k, hs) = elements_uncons F c f h in
      each_member (range 0 F.size) (monics F d)
      (range-member 0 F.size zero-le (omega arith))
      (listed d f (omega arith) hs e)

  pub monic-monics : (d : ℕ) (f : Polynomial) → T (is_monic_over F f) → degree f ≡ d → Memᴰ f (monics F d)
  monic-monics d f h e =
      listed d f (monic-length F f h ∙ ap suc e) (monic-elements F f h)
      (ap (λ n. get_or f n 0) (sym e) ∙ monic-last F f h)

module _ {F : Field} (I : IsField F) where
  -- by places
  pub monics-at : (d n : ℕ) → n < F.size ^ d → get_or (monics F d) n [] ≡ monic_at F.size d n
  unfolding monics
  monics-at zero zero l = sym (monic_at-zero F.size 0)
  monics-at zero (suc n) l = absurd (omega (arith, pow-zero F.size))
  monics-at (suc d) n l =
      ap (λ m. get_or (monics F (suc d)) m []) (sym place)
      ∙ get_or-each (range 0 F.size) (monics F d) (n / F.size) (n % F.size) inner (rw length-range small)
      ∙ ap₂ ◌∷◌ (get_or-range 0 F.size (n % F.size) 0 small ∙ omega arith) (monics-at d (n / F.size) fits)
      ∙ sym (monic_at-suc F.size d n)
    where
      small : n % F.size < F.size
      small = mod-lt n (size-positive I)

      fits : n / F.size < F.size ^ d
      fits = (div-lt_iff_lt-mul (size-positive I)).1 (rw pow-suc at l)

      inner : n / F.size < length (monics F d)
      inner = rw length-monics fits

      place : n / F.size * length (range 0 F.size) + n % F.size ≡ n
      place = rw length-range (div-add-mod' n F.size)

  pub monics-list : (d : ℕ) → monics F d ≡ map (monic_at F.size d) (range 0 (F.size ^ d))
  monics-list d = ext_get_or [] (monics F d) (map (monic_at F.size d) (range 0 (F.size ^ d))) size place
    where
      size : length (monics F d) ≡ length (map (monic_at F.size d) (range 0 (F.size ^ d)))
      size = length-monics F d ∙ sym (length-map (range 0 (F.size ^ d)) _ ∙ length-range 0 (F.size ^ d))

      place :
          (n : ℕ)
          → n < length (monics F d)
          → get_or (monics F d) n [] ≡ get_or (map (monic_at F.size d) (range 0 (F.size ^ d))) n []
      place n l =
          let k : n < F.size ^ d = rw length-monics at l in
          monics-at d n k
          ∙ ap (monic_at F.size d) (sym (get_or-range 0 (F.size ^ d) n 0 k ∙ omega arith))
          ∙ sym (get_or_mapped (monic_at F.size d) (range 0 (F.size ^ d)) n 0 [] (rw length-range k))

  -- The members
  monic_at-elements : (d n : ℕ) → T (are_elements F (monic_at F.size d n))
  monic_at-elements zero n = rw monic_at-zero (one-elements I)
  monic_at-elements (suc d) n =
      rw monic_at-suc
      (elements-cons F (monic_at F.size d (n / F.size)) (mod-lt n (size-positive I))
      (monic_at-elements d (n / F.size)))

  pub monic_at-monic : (d n : ℕ) → T (is_monic_over F (monic_at F.size d n))
  monic_at-monic d n =
      monic_over_lem F (monic_at F.size d n) d
      (length-monic_at F.size d n)
      (last-monic_at F.size d n)
      (monic_at-elements d n)

  pub monics-number :
      (d : ℕ) {f : Polynomial}
      → Memᴰ f (monics F d)
      → (n : ℕ) × (n < F.size ^ d) × (monic_at F.size d n ≡ f)
  monics-number d {f} m =
      let (n, k, e) = Memᴰ.of_map (monic_at F.size d) (range 0 (F.size ^ d)) (rw monics-list at m) in
      (n, omega (arith, member-range 0 (F.size ^ d) k), e)

  pub monics-monic :
      (d : ℕ) {f : Polynomial} → Memᴰ f (monics F d) → T (is_monic_over F f) × (degree f ≡ d)
  monics-monic d m =
      let (n, _, e) = monics-number d m in
      subst (λ f. T (is_monic_over F f) × (degree f ≡ d)) e (monic_at-monic d n, degree-monic_at F.size d n)

  -- Searches among them
  module _ (t : Polynomial → Bool) where
    pub some-monics :
        (d : ℕ)
        → T (holds_for_some t (monics F d))
        → (f : Polynomial) × T (is_monic_over F f) × (degree f ≡ d) × T (t f)
    some-monics d h =
        let (f, m, p) = some-member t (monics F d) h in
        let (o, e) = monics-monic d m in
        (f, o, e, p)

    pub monics-some :
        (d : ℕ) (f : Polynomial)
        → T (is_monic_over F f)
        → degree f ≡ d
        → T (t f)
        → T (holds_for_some t (monics F d))
    monics-some d f h e p = member-some t (monics F d) f (monic-monics F d f h e) p
