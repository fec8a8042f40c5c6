-- The conditions 6 to 16 and 20 of the numbered list of refusals. (1 to 5 are in Route, 17 is in each way
-- that meets it, 18 in Meter, 19 in Catalogue.) Each is a test on numbers and lists of any size. A pair is a
-- factor with its upper power.
--
--   named factors uppers == each factor with its upper power, in order; 0 for a factor without one; further
--                          upper powers belong to no factor
--   total_degree l        == the sum of upper power × degree (D in paper 01)
use Rattle.std.specs.Prelude.{ℕ, ◌+◌, ◌*◌, ◌-◌, ◌^◌, ◌/◌, Bool, true, false, not, ◌||◌, ◌&&◌, List, [], ◌∷◌}
use Rattle.std.specs.Prelude.{length, leb, ltb, eqb}
use Rattle.meaning.specs.Search.{holds_for_some}
use Rattle.meaning.specs.Field.{Field, prime, prime_in_range, are_elements}
use Rattle.meaning.specs.Polynomial.{Polynomial, degree, leading, is_monic, same, irreducible}
use Rattle.meaning.specs.Extension.{reducing}

unfoldable pub named : List Polynomial → List ℕ → List (Polynomial × ℕ)
named [] us = []
named (f ∷ fs) [] = (f, 0) ∷ named fs []
named (f ∷ fs) (u ∷ us) = (f, u) ∷ named fs us

unfoldable pub total_degree : List (Polynomial × ℕ) → ℕ
total_degree [] = 0
total_degree (f ∷ l) = f.1 * degree f.0 + total_degree l

-- 6
unfoldable pub not_prime : ℕ → Bool
not_prime p = not (prime_in_range p)

-- 20: n and low name no field of 2^n elements: n is not 2 to 8, low has a bit at or above n, or the
-- reducing polynomial is reducible
unfoldable pub least_extension : ℕ
least_extension = 2

unfoldable pub largest_extension : ℕ
largest_extension = 8

unfoldable pub not_binary : ℕ → ℕ → Bool
not_binary n low =
    elim (leb least_extension n && leb n largest_extension) [
      | false ↦ true
      | true ↦ elim (ltb low (2 ^ n)) [
        | false ↦ true
        | true ↦ not (irreducible (prime 2) (reducing n low))
      ]
    ]

-- 7, of the number of terms or of places to fill
unfoldable pub count_out_of_range : ℕ → Bool
count_out_of_range n = eqb n 0 || ltb 4096 n

-- 7, for a continuation: of the buffer's length and the place named
unfoldable pub place_out_of_range : ℕ → ℕ → Bool
place_out_of_range size place = ltb size place || count_out_of_range (size - place)

-- 8
unfoldable pub term_out_of_field : Field → List ℕ → Bool
term_out_of_field F ts = not (are_elements F ts)

-- 9
unfoldable pub factor_count_out_of_range : ℕ → Bool
factor_count_out_of_range n = eqb n 0 || ltb 8 n

-- 10, of a degree
unfoldable pub degree_out_of_range : Field → ℕ → Bool
degree_out_of_range F d = elim (eqb d 0 || ltb 32 d) [ true ↦ true | false ↦ ltb 65536 (F.size ^ (d / 2)) ]

-- 10, of a list, whose degree is one less than its length; an empty list passes
unfoldable pub factor_degree_out_of_range : Field → Polynomial → Bool
factor_degree_out_of_range F [] = false
factor_degree_out_of_range F (c ∷ f) = degree_out_of_range F (degree (c ∷ f))

-- 10, for a continuation
unfoldable pub continuation_degree_out_of_range : Polynomial → Bool
continuation_degree_out_of_range g = ltb 4096 (degree g)

-- 11, of a list; the empty list has the leading coefficient 0
unfoldable pub coefficient_out_of_range : Field → Polynomial → Bool
coefficient_out_of_range F f = not (are_elements F f) || eqb (leading f) 0

-- a coefficient is no element, or the leading one is not 1
unfoldable pub not_monic : Field → Polynomial → Bool
not_monic F f = not (are_elements F f) || not (is_monic f)

-- 12 is asked of a monic factor that 10 and 11 let pass, and of no other
unfoldable pub is_asked : Field → Polynomial → Bool
is_asked F f = not (factor_degree_out_of_range F f || not_monic F f)

-- 12
unfoldable pub is_reducible : Field → Polynomial → Bool
is_reducible F f = elim (is_asked F f) [ true ↦ not (irreducible F f) | false ↦ false ]

-- 13
unfoldable pub two_equal : List Polynomial → Bool
two_equal [] = false
two_equal (f ∷ l) = elim (holds_for_some (same f) l) [ true ↦ true | false ↦ two_equal l ]

-- 14
unfoldable pub upper_powers_out_of_range : List (Polynomial × ℕ) → Bool
upper_powers_out_of_range l = holds_for_some (λ f. eqb f.1 0) l || ltb 4096 (total_degree l)

-- 15
unfoldable pub fewer_terms_than : ℕ → List ℕ → Bool
fewer_terms_than d ts = ltb (length ts) d

-- 15, for a continuation
unfoldable pub start_unlike_degree : Polynomial → List ℕ → Bool
start_unlike_degree g start = not (eqb (length start) (degree g))

-- 16, of the lengths of the lent answer and the lent work bytes
unfoldable pub lent_too_short : ℕ → ℕ → Bool
lent_too_short answer work = ltb answer 4097 || ltb work 8192

-- lent bytes are accepted when 16 does not turn them down
unfoldable pub accepted_lent : ℕ → ℕ → Bool
accepted_lent answer work = not (lent_too_short answer work)
