-- The order of the monic polynomials of one degree: `monics` lists them in it, and so the first that passes a
-- test precedes every other that passes.
--
--   precedes_not     == of two polynomials at most one precedes the other
--   Sorted l         == each polynomial of the list precedes those after it
--   monics_sorted    == the list of all monic polynomials of a degree is sorted
--   FirstPassing t l a == a is in the list and passes the test, and precedes every other one that does
--   first_found      == what is so is found: it is the first that passes
--   found_first      == what is found is so
--   first_that-some   == something is found where some member passes
--
-- Assumes nothing.
use Prim.Native.Nat.{ℕ, zero, suc, ◌<◌}
use mathlib.Core.Path.{◌≡◌, refl, sym, ap, subst, ◌∙◌}
use mathlib.Core.Logic.{◌⊎◌, inl, inr}
use mathlib.Core.Bool.{Bool}
use mathlib.Core.List.Memᴰ
use mathlib.Core.List.{List, [], ◌∷◌, ◌++◌, map, Memᴰ}
use mathlib.Core.Option.{Option, some, none-ne-some, some-injective}
use native.Mathlib.Decide.{dec_lt}
use native.Mathlib.Omega.{arith}
use lib.ListN.{get_or}
use lib.Dec.{T}
use Rattle.meaning.specs.Search.{range, first_that}
use Rattle.meaning.specs.Field.{Field}
use Rattle.meaning.specs.Polynomial.{Polynomial, each_head, monics}
use Rattle.meaning.specs.Free.{Precedes}
use Rattle.bridge.proofs.Basics.Searches.{T-decided, member-range, first-nil, first_passes}
use Rattle.bridge.proofs.Basics.Searches.{first_fails}

pub precedes_not : {f g : Polynomial} → Precedes f g → Precedes g f → ⊥
precedes_not {f} {g} x y = go (dec_lt x.place y.place) (dec_lt y.place x.place)
  where
    go : Dec (x.place < y.place) → Dec (y.place < x.place) → ⊥
    go (yes l) _ = omega (arith, x.above y.place l, y.smaller)
    go (no _) (yes l) = omega (arith, y.above x.place l, x.smaller)
    go (no l) (no h) =
        let e : x.place ≡ y.place = omega arith in
        omega (arith, x.smaller, subst (λ i. get_or g i 0 < get_or f i 0) (sym e) y.smaller)

-- The list is sorted
unfoldable pub Sorted : List Polynomial → Type 0
Sorted [] = Unit {0}
Sorted (f ∷ l) = ((g : Polynomial) → Memᴰ g l → Precedes f g) × Sorted l

sorted_append :
    (a b : List Polynomial)
    → Sorted a
    → Sorted b
    → ((f g : Polynomial) → Memᴰ f a → Memᴰ g b → Precedes f g)
    → Sorted (a ++ b)
unfolding Sorted
sorted_append [] b x y h = y
sorted_append (f ∷ a) b x y h =
    (first, sorted_append a b x.1 y (λ u v m n. h u v (Memᴰ.tail m) n))
  where
    first : (g : Polynomial) → Memᴰ g (a ++ b) → Precedes f g
    first g m = go (Memᴰ.append_cases a m)
      where
        go : Memᴰ g a ⊎ Memᴰ g b → Precedes f g
        go (inl n) = x.0 g n
        go (inr n) = h f g (Memᴰ.head refl) n

-- where the rest is the same the head decides, and else the rest does
precedes_head : (c d : ℕ) (f : Polynomial) → c < d → Precedes (c ∷ f) (d ∷ f)
precedes_head c d f l = record { place = 0; smaller = l; above = same }
  where
    same : (i : ℕ) → 0 < i → get_or (c ∷ f) i 0 ≡ get_or (d ∷ f) i 0
    same zero h = absurd (omega arith)
    same (suc i) h = refl

precedes_tail : (c d : ℕ) (f g : Polynomial) → Precedes f g → Precedes (c ∷ f) (d ∷ g)
precedes_tail c d f g x = record { place = suc x.place; smaller = x.smaller; above = same }
  where
    same : (i : ℕ) → suc x.place < i → get_or (c ∷ f) i 0 ≡ get_or (d ∷ g) i 0
    same zero h = absurd (omega arith)
    same (suc i) h = x.above i (omega arith)

heads_sorted : (a n : ℕ) (f : Polynomial) → Sorted (map (λ c. c ∷ f) (range a n))
unfolding Sorted range
heads_sorted a zero f = tt
heads_sorted a (suc n) f = (first, heads_sorted (suc a) n f)
  where
    first : (g : Polynomial) → Memᴰ g (map (λ c. c ∷ f) (range (suc a) n)) → Precedes (a ∷ f) g
    first g m =
        let (c, k, e) = Memᴰ.of_map (λ c. c ∷ f) (range (suc a) n) m in
        subst (Precedes (a ∷ f)) e (precedes_head a c f (omega (arith, member-range (suc a) n k)))

member_heads :
    (q : ℕ) (l : List Polynomial) {g : Polynomial}
    → Memᴰ g (each_head (range 0 q) l)
    → (c : ℕ) × (f : Polynomial) × Memᴰ f l × (c ∷ f ≡ g)
unfolding each_head
member_heads q [] {g = g} m = elim m [ ]
member_heads q (f ∷ l) m = go (Memᴰ.append_cases (map (λ c. c ∷ f) (range 0 q)) m) (member_heads q l)
  where
    go :
        {g : Polynomial}
        → Memᴰ g (map (λ c. c ∷ f) (range 0 q)) ⊎ Memᴰ g (each_head (range 0 q) l)
        → (Memᴰ g (each_head (range 0 q) l) → (c : ℕ) × (h : Polynomial) × Memᴰ h l × (c ∷ h ≡ g))
        → (c : ℕ) × (h : Polynomial) × Memᴰ h (f ∷ l) × (c ∷ h ≡ g)
    go (inl n) _ = let (c, _, e) = Memᴰ.of_map (λ c. c ∷ f) (range 0 q) n in (c, f, Memᴰ.head refl, e)
    go (inr n) r = let (c, h, k, e) = r n in (c, h, Memᴰ.tail k, e)

each_sorted : (q : ℕ) (l : List Polynomial) → Sorted l → Sorted (each_head (range 0 q) l)
unfolding Sorted each_head
each_sorted q [] x = tt
each_sorted q (f ∷ l) x =
    sorted_append (map (λ c. c ∷ f) (range 0 q)) (each_head (range 0 q) l)
    (heads_sorted 0 q f) (each_sorted q l x.1) between
  where
    between :
        (u v : Polynomial)
        → Memᴰ u (map (λ c. c ∷ f) (range 0 q))
        → Memᴰ v (each_head (range 0 q) l)
        → Precedes u v
    between u v m n =
        let (c, _, e) = Memᴰ.of_map (λ c. c ∷ f) (range 0 q) m in
        let (d, h, k, i) = member_heads q l n in
        subst (λ w. Precedes w v) e (subst (Precedes (c ∷ f)) i (precedes_tail c d f h (x.0 h k)))

pub monics_sorted : (F : Field) (d : ℕ) → Sorted (monics F d)
unfolding Sorted monics
monics_sorted F zero = (λ g m. absurd (Memᴰ.not-nil m), tt)
monics_sorted F (suc d) = each_sorted F.size (monics F d) (monics_sorted F d)

-- The first that passes
pub record FirstPassing (t : Polynomial → Bool) (l : List Polynomial) (a : Polynomial) : Type 0 where
  pub member : Memᴰ a l
  pub passes : T (t a)
  pub first : (b : Polynomial) → Memᴰ b l → T (t b) → (b ≡ a) ⊎ Precedes a b

module _ (t : Polynomial → Bool) where
  pub first_found :
      (l : List Polynomial) (a : Polynomial) → Sorted l → FirstPassing t l a → first_that t l ≡ some a
  unfolding Sorted
  first_found [] a x y = absurd (Memᴰ.not-nil y.member)
  first_found (b ∷ l) a x y = go y.member (first_found l a x.1) (T-decided (t b))
    where
      at_head : Memᴰ a (b ∷ l) → (b ≡ a) ⊎ Precedes a b → b ≡ a
      at_head _ (inl e) = e
      at_head (Memᴰ.head e) (inr _) = sym e
      at_head (Memᴰ.tail n) (inr z) = absurd (precedes_not z (x.0 a n))

      go :
          Memᴰ a (b ∷ l)
          → (FirstPassing t l a → first_that t l ≡ some a)
          → Dec (T (t b))
          → first_that t (b ∷ l) ≡ some a
      go n _ (yes h) =
          first_passes t b l h
          ∙ ap {B = Option Polynomial} some (at_head n (y.first b (Memᴰ.head refl) h))
      go (Memᴰ.head e) _ (no h) = absurd (h (subst (λ c. T (t c)) e y.passes))
      go (Memᴰ.tail n) rest (no h) =
          first_fails t b l h
          ∙ rest
          (record { member = n; passes = y.passes; first = λ c k q. y.first c (Memᴰ.tail k) q })

  pub found_first :
      (l : List Polynomial) {a : Polynomial} → Sorted l → first_that t l ≡ some a → FirstPassing t l a
  unfolding Sorted
  found_first [] x e = absurd (none-ne-some _ (sym (first-nil t) ∙ e))
  found_first (b ∷ l) {a} x e = go (found_first l x.1) (T-decided (t b))
    where
      passing_head : T (t b) → b ≡ a → FirstPassing t (b ∷ l) a
      passing_head h q =
          record {
            member = Memᴰ.head (sym q);
            passes = subst (λ c. T (t c)) q h;
            first = later;
          }
        where
          later : (c : Polynomial) → Memᴰ c (b ∷ l) → T (t c) → (c ≡ a) ⊎ Precedes a c
          later c (Memᴰ.head i) _ = inl (i ∙ q)
          later c (Memᴰ.tail n) _ = inr (subst (λ d. Precedes d c) q (x.0 c n))

      passing_tail : ¬ T (t b) → FirstPassing t l a → FirstPassing t (b ∷ l) a
      passing_tail h y =
          record { member = Memᴰ.tail y.member; passes = y.passes; first = later }
        where
          later : (c : Polynomial) → Memᴰ c (b ∷ l) → T (t c) → (c ≡ a) ⊎ Precedes a c
          later c (Memᴰ.head i) q = absurd (h (subst (λ d. T (t d)) i q))
          later c (Memᴰ.tail n) q = y.first c n q

      go : (first_that t l ≡ some a → FirstPassing t l a) → Dec (T (t b)) → FirstPassing t (b ∷ l) a
      go _ (yes h) = passing_head h (some-injective b a (sym (first_passes t b l h) ∙ e))
      go rest (no h) = passing_tail h (rest (sym (first_fails t b l h) ∙ e))

  pub first_that-some :
      (l : List Polynomial) (a : Polynomial)
      → Memᴰ a l
      → T (t a)
      → (b : Polynomial) × (first_that t l ≡ some b)
  first_that-some [] a m p = absurd (Memᴰ.not-nil m)
  first_that-some (b ∷ l) a m p = go m (first_that-some l a) (T-decided (t b))
    where
      go :
          Memᴰ a (b ∷ l)
          → (Memᴰ a l → T (t a) → (c : Polynomial) × (first_that t l ≡ some c))
          → Dec (T (t b))
          → (c : Polynomial) × (first_that t (b ∷ l) ≡ some c)
      go _ _ (yes h) = (b, first_passes t b l h)
      go (Memᴰ.head e) _ (no h) = absurd (h (subst (λ c. T (t c)) e p))
      go (Memᴰ.tail n) rest (no h) = let (c, q) = rest n p in (c, first_fails t b l h ∙ q)
