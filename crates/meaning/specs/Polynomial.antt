-- Polynomials over a field: lists of coefficients, constant first.
--
--   degree f          == one less than the length; 0 for the empty list too
--   leading f         == the last coefficient; 0 for the empty list
--   is_monic f         == the last coefficient is 1; never for the empty list
--   is_monic_over F f   == f is monic, and its coefficients are elements of F
--   plus, scale, times == sum, multiple by an element, product; the product goes by the head of the first
--                         factor, a·g + x·(rest·g), and the product of two monic lists has the degrees' sum
--                         for its degree
--   monic_multiple F f == the multiple c·f that is monic, c an element of F; the empty list where there is
--                        none. A factor with any leading coefficient stands for it
--   power F f n       == the n-fold product; the list of 1 for n = 0
--   product F l       == the product of the powers that l lists as pairs of a polynomial and an exponent
--   monics F d        == every monic polynomial of degree d over F; two are compared from the coefficient of
--                        degree d − 1 downwards, and the smaller number at the first difference comes first
--   same f g          == the two lists are equal
--   irreducible F f   == no two monic polynomials of positive degree have the product f, by trying all of
--                        them; it is asked of monic f of positive degree only
--   NotAProduct F f   == paper 01's words for it: f is not a product of two polynomials of positive degree
use Rattle.std.specs.Prelude.{ℕ, zero, suc, ◌-◌, ◌<◌, ◌≢◌, Bool, true, false, not, ◌&&◌, List, [], ◌∷◌, ◌++◌}
use Rattle.std.specs.Prelude.{map, length, eqb, T}
use Rattle.std.proofs.Math.Option.{none, some}
use Rattle.meaning.specs.Search.{range, holds_for_some, least}
use Rattle.meaning.specs.Field.{Field, are_elements}

abbrev pub Polynomial : Type 0
Polynomial = List ℕ

unfoldable pub degree : Polynomial → ℕ
degree f = length f - 1

unfoldable pub leading : Polynomial → ℕ
leading [] = 0
leading (c ∷ f) = elim f [ [] ↦ c | d ∷ g ↦ leading f ]

unfoldable pub is_monic : Polynomial → Bool
is_monic f = eqb (leading f) 1

unfoldable pub is_monic_over : Field → Polynomial → Bool
is_monic_over F f = is_monic f && are_elements F f

unfoldable pub plus : Field → Polynomial → Polynomial → Polynomial
plus F [] g = g
plus F (a ∷ f) [] = a ∷ f
plus F (a ∷ f) (b ∷ g) = F.add a b ∷ plus F f g

unfoldable pub scale : Field → ℕ → Polynomial → Polynomial
scale F c f = map (F.mul c) f

unfoldable pub monic_multiple : Field → Polynomial → Polynomial
monic_multiple F f =
    elim (least (F.size - 1) (λ c. eqb (F.mul (leading f) c) 1)) [ none ↦ [] | some c ↦ scale F c f ]

unfoldable pub times : Field → Polynomial → Polynomial → Polynomial
times F [] g = []
times F (a ∷ f) g = plus F (scale F a g) (0 ∷ times F f g)

unfoldable pub power : Field → Polynomial → ℕ → Polynomial
power F f zero = 1 ∷ []
power F f (suc n) = times F f (power F f n)

unfoldable pub product : Field → List (Polynomial × ℕ) → Polynomial
product F [] = 1 ∷ []
product F (f ∷ l) = times F (power F f.0 f.1) (product F l)

unfoldable pub each_head : List ℕ → List Polynomial → List Polynomial
each_head cs [] = []
each_head cs (f ∷ l) = map (λ c. c ∷ f) cs ++ each_head cs l

unfoldable pub monics : Field → ℕ → List Polynomial
monics F zero = (1 ∷ []) ∷ []
monics F (suc d) = each_head (range 0 F.size) (monics F d)

unfoldable pub same : Polynomial → Polynomial → Bool
same [] [] = true
same [] (b ∷ g) = false
same (a ∷ f) [] = false
same (a ∷ f) (b ∷ g) = elim (eqb a b) [ true ↦ same f g | false ↦ false ]

unfoldable pub has_factor_of : Field → Polynomial → ℕ → Bool
has_factor_of F f a =
    holds_for_some (λ g. holds_for_some (λ h. same (times F g h) f) (monics F (degree f - a))) (monics F a)

unfoldable pub irreducible : Field → Polynomial → Bool
irreducible F f = not (holds_for_some (has_factor_of F f) (range 1 (degree f - 1)))

abbrev pub NotAProduct : Field → Polynomial → Type 0
NotAProduct F f =
    (g h : Polynomial)
    → T (are_elements F g)
    → T (are_elements F h)
    → 0 < degree g
    → 0 < degree h
    → leading g ≢ 0
    → leading h ≢ 0
    → times F g h ≢ f
