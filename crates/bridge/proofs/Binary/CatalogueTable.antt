-- The table: the catalogue as a list of numbers, and the proof that it is this list.
--
--   table            == the 226 numbers
--   passes n         == the polynomial of n is irreducible, by trial division: it has degree 1, or its
--                       constant term is not 0 and no divisor is found
--   passes-listed    == this is the test of the catalogue, for the numbers from 2 to 2,047
--   catalogue-table  == the catalogue is the table
--   catalogue-count, catalogue_rising == it has 226 numbers, and each is less than the next, and so than all
--                       after it (`catalogue-order`)
-- Assumes nothing.
use Prim.Native.Nat.{ℕ, zero, suc, ◌+◌, ◌/◌, ◌≤◌, ◌<◌}
use mathlib.Core.Path.{◌≡◌, refl, sym, ap, subst, ◌∙◌}
use mathlib.Core.Bool.{Bool, true, false, not}
use mathlib.Core.List.{List, [], ◌∷◌}
use native.Mathlib.Omega.{arith}
use lib.ListN.{length, get_or}
use lib.Dec.{T, eqb, eqb→eq, ltb, ltb→lt}
use borrow.Author.Tests.{eqb-false}
use Rattle.meaning.specs.Search.{range, selected, holds_for_some}
use Rattle.meaning.specs.Field.{prime}
use Rattle.meaning.specs.Polynomial.{Polynomial, degree, irreducible}
use Rattle.meaning.specs.Catalogue.{entry_polynomial, catalogue}
use Rattle.meaning.proofs.Computed.{computed}
use Rattle.bridge.proofs.Basics.Searches.{T_true, T_false, true-T, selected-same}
use Rattle.bridge.proofs.Lists.Irreducibles.{linear_irreducible, constant_reducible}
use Rattle.bridge.proofs.Lists.Monics.{digits}
use Rattle.bridge.proofs.Lists.TrialDivision.{reduced_cons, remainder, divides, divides_at}
use Rattle.bridge.proofs.Lists.TrialDivision.{divides_some, has_divisor}
use Rattle.bridge.proofs.Lists.TrialDivision.{trial_search}
use Rattle.bridge.proofs.Binary.Bits.{binary-is_field}
use Rattle.bridge.proofs.Binary.Catalogue.{entry-monic, entry-positive}

unfoldable pub table : List ℕ
table =
    2 ∷ 3 ∷ 7 ∷ 11 ∷ 13 ∷ 19 ∷ 25 ∷ 31 ∷ 37 ∷ 41 ∷ 47 ∷ 55 ∷ 59 ∷ 61 ∷ 67 ∷ 73 ∷ 87 ∷ 91 ∷ 97 ∷ 103 ∷
    109 ∷ 115 ∷ 117 ∷ 131 ∷ 137 ∷ 143 ∷ 145 ∷ 157 ∷ 167 ∷ 171 ∷ 185 ∷ 191 ∷ 193 ∷ 203 ∷ 211 ∷ 213 ∷ 229 ∷
    239 ∷ 241 ∷ 247 ∷ 253 ∷ 283 ∷ 285 ∷ 299 ∷ 301 ∷ 313 ∷ 319 ∷ 333 ∷ 351 ∷ 355 ∷ 357 ∷ 361 ∷ 369 ∷ 375 ∷
    379 ∷ 391 ∷ 395 ∷ 397 ∷ 415 ∷ 419 ∷ 425 ∷ 433 ∷ 445 ∷ 451 ∷ 463 ∷ 471 ∷ 477 ∷ 487 ∷ 499 ∷ 501 ∷ 505 ∷
    515 ∷ 529 ∷ 535 ∷ 539 ∷ 545 ∷ 557 ∷ 563 ∷ 587 ∷ 601 ∷ 607 ∷ 613 ∷ 617 ∷ 623 ∷ 631 ∷ 637 ∷ 647 ∷ 661 ∷
    665 ∷ 675 ∷ 677 ∷ 687 ∷ 695 ∷ 701 ∷ 719 ∷ 721 ∷ 731 ∷ 757 ∷ 761 ∷ 769 ∷ 787 ∷ 789 ∷ 799 ∷ 803 ∷ 817 ∷
    827 ∷ 841 ∷ 847 ∷ 859 ∷ 865 ∷ 875 ∷ 877 ∷ 883 ∷ 895 ∷ 901 ∷ 911 ∷ 929 ∷ 949 ∷ 953 ∷ 967 ∷ 971 ∷ 973 ∷
    981 ∷ 985 ∷ 995 ∷ 1001 ∷ 1019 ∷ 1033 ∷ 1039 ∷ 1051 ∷ 1053 ∷ 1063 ∷ 1069 ∷ 1077 ∷ 1095 ∷ 1107 ∷ 1123 ∷
    1125 ∷ 1135 ∷ 1153 ∷ 1163 ∷ 1177 ∷ 1193 ∷ 1199 ∷ 1221 ∷ 1225 ∷ 1239 ∷ 1255 ∷ 1261 ∷ 1267 ∷ 1279 ∷
    1291 ∷ 1293 ∷ 1305 ∷ 1311 ∷ 1315 ∷ 1329 ∷ 1341 ∷ 1347 ∷ 1367 ∷ 1377 ∷ 1383 ∷ 1387 ∷ 1413 ∷ 1423 ∷
    1431 ∷ 1435 ∷ 1441 ∷ 1451 ∷ 1465 ∷ 1473 ∷ 1479 ∷ 1509 ∷ 1527 ∷ 1531 ∷ 1555 ∷ 1557 ∷ 1571 ∷ 1573 ∷
    1585 ∷ 1591 ∷ 1603 ∷ 1615 ∷ 1617 ∷ 1627 ∷ 1657 ∷ 1663 ∷ 1669 ∷ 1673 ∷ 1703 ∷ 1709 ∷ 1717 ∷ 1727 ∷
    1729 ∷ 1741 ∷ 1747 ∷ 1759 ∷ 1783 ∷ 1789 ∷ 1807 ∷ 1809 ∷ 1815 ∷ 1821 ∷ 1825 ∷ 1835 ∷ 1845 ∷ 1849 ∷
    1863 ∷ 1869 ∷ 1877 ∷ 1881 ∷ 1891 ∷ 1915 ∷ 1917 ∷ 1921 ∷ 1927 ∷ 1933 ∷ 1939 ∷ 1961 ∷ 1969 ∷ 1989 ∷
    2011 ∷ 2027 ∷ 2035 ∷ 2041 ∷ 2047 ∷ []

-- By trial division
undivided : Polynomial → Bool
undivided f = not (holds_for_some (has_divisor (prime 2) f) (range 1 (degree f / 2)))

passes : ℕ → Bool
passes n = elim (eqb (degree (entry_polynomial n)) 1) [
  | true ↦ true
  | false ↦ elim (eqb (get_or (entry_polynomial n) 0 0) 0) [
    | true ↦ false
    | false ↦ undivided (entry_polynomial n)
  ]
]

computed-table : selected passes (range 2 2046) ≡ table
unfolding computed digits reduced_cons remainder divides divides_at divides_some has_divisor undivided passes
    table
computed-table = refl

not-not : (b c : Bool) → not b ≡ c → b ≡ not c
not-not true c e = ap not e
not-not false c e = ap not e

module _ (n : ℕ) (l : 2 ≤ n) (k : n < 2048) where
  abbrev f : Polynomial
  f = entry_polynomial n

  passes-listed : irreducible (prime 2) f ≡ passes n
  unfolding passes undivided
  passes-listed = by-degree (eqb (degree f) 1) refl
    where
      by-constant : (b : Bool) → eqb (get_or f 0 0) 0 ≡ b → ¬ (degree f ≡ 1) → eqb (degree f) 1 ≡ false
          → irreducible (prime 2) f ≡ passes n
      by-constant true e h d =
          T_false
          (constant_reducible binary-is_field f (entry-monic n l k) (omega (arith, entry-positive n l k))
          (eqb→eq (get_or f 0 0) 0 (true-T e)))
          ∙ sym (rw (d, e, passes))
      by-constant false e h d =
          not-not (irreducible (prime 2) f) (holds_for_some (has_divisor (prime 2) f)
          (range 1 (degree f / 2)))
          (trial_search binary-is_field f (entry-monic n l k) (eqb-false (get_or f 0 0) 0 e))
          ∙ sym (rw (d, e, passes, undivided))

      by-degree : (b : Bool) → eqb (degree f) 1 ≡ b → irreducible (prime 2) f ≡ passes n
      by-degree true e =
          T_true (linear_irreducible binary-is_field f (eqb→eq (degree f) 1 (true-T e))) ∙ sym
          (rw (e, passes))
      by-degree false e = by-constant (eqb (get_or f 0 0) 0) refl (eqb-false (degree f) 1 e) e

pub catalogue-table : catalogue ≡ table
unfolding catalogue
catalogue-table =
    selected-same (λ n. irreducible (prime 2) (entry_polynomial n)) passes 2 2046
    (λ i l k. passes-listed i l (omega arith))
    ∙ computed-table

table-count : length table ≡ 226
unfolding table
table-count = refl

pub catalogue-count : length catalogue ≡ 226
catalogue-count = ap length catalogue-table ∙ table-count

-- Rising
rises : ℕ → List ℕ → Bool
rises a [] = true
rises a (b ∷ l) = elim (ltb a b) [ true ↦ rises b l | false ↦ false ]

rises-at : (a : ℕ) (l : List ℕ) → T (rises a l) → (i : ℕ) → suc i < length (a ∷ l)
    → get_or (a ∷ l) i 0 < get_or (a ∷ l) (suc i) 0
unfolding rises
rises-at a [] h i k = absurd (omega arith)
rises-at a (b ∷ l) h i k = go (rises-at b l) i (ltb a b) refl k
  where
    go :
        (T (rises b l) → (i : ℕ) → suc i < length (b ∷ l) → get_or (b ∷ l) i 0 < get_or (b ∷ l) (suc i) 0)
        → (i : ℕ) (c : Bool)
        → ltb a b ≡ c
        → suc i < length (a ∷ b ∷ l)
        → get_or (a ∷ b ∷ l) i 0 < get_or (a ∷ b ∷ l) (suc i) 0
    go rest zero true e k = ltb→lt a b (true-T e)
    go rest (suc i) true e k = rest (rw (e, rises) at h) i (omega arith)
    go rest i false e k = absurd (rw (e, rises) at h)

is_rising : List ℕ → Bool
is_rising [] = true
is_rising (a ∷ l) = rises a l

rising_at : (l : List ℕ) → T (is_rising l) → (i : ℕ) → suc i < length l → get_or l i 0 < get_or l (suc i) 0
unfolding is_rising
rising_at [] h i k = absurd (omega arith)
rising_at (a ∷ l) h i k = rises-at a l h i k

table_rising : T (is_rising table)
unfolding table rises is_rising
table_rising = tt

pub catalogue_rising : (i : ℕ) → suc i < length catalogue → get_or catalogue i 0 < get_or catalogue (suc i) 0
catalogue_rising = rising_at catalogue (subst (λ l. T (is_rising l)) (sym catalogue-table) table_rising)

pub catalogue-order : (i k : ℕ) → suc (i + k) < length catalogue
    → get_or catalogue i 0 < get_or catalogue (suc (i + k)) 0
catalogue-order i zero l =
    let e : suc (i + zero) ≡ suc i = omega arith in
    subst (λ j. get_or catalogue i 0 < get_or catalogue j 0) (sym e) (catalogue_rising i (omega arith))
catalogue-order i (suc k) l =
    let e : suc (i + suc k) ≡ suc (suc (i + k)) = omega arith in
    omega (
      arith,
      catalogue-order i k (omega arith),
      subst (λ j. get_or catalogue (suc (i + k)) 0 < get_or catalogue j 0) (sym e)
          (catalogue_rising (suc (i + k)) (omega arith)),
    )
