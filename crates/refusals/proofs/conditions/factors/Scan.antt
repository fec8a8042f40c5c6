-- Looking through a list from the front until a test passes.
--
--   Scan R t         == R says whether some element passes the test t, which sees the elements after it too
--   some-scan        == `holds_for_some` is such a look through
--   equal-scan       == so is `two_equal`: the test finds the element again among those after it
--   any-holds        == what `any` answers of the factors in a slice of slices
-- Assumes nothing.
use Prim.Native.Nat.{ℕ, ◌+◌, ◌-◌, ◌≤◌, ◌<◌}
use native.Mathlib.Numerals.{add-one}
use mathlib.Core.Path.{◌≡◌, refl, sym, ap, ◌∙◌}
use mathlib.Core.Bool.{Bool, true, false, ◌||◌}
use mathlib.Core.List.{List, [], ◌∷◌}
use native.Mathlib.Omega.{arith}
use lib.ListN.{length, get_or, take, drop, drop_of_length-le, length-drop}
use lib.Seq.{take_all}
use Rattle.std.specs.List.{drop-map}
use lib.Seq.{drop-cons}
use denote.Ref.{Bor}
use Rattle.std.specs.List.{list_any}
use Rattle.meaning.specs.Search.{holds_for_some}
use Rattle.meaning.specs.Polynomial.{Polynomial, same}
use Rattle.meaning.specs.Conditions.{two_equal}
use Rattle.meaning.specs.Slices.{lists_of}
use Rattle.meaning.proofs.Slices.{nowhere, lists_length, lists_at}
use Rattle.refusals.proofs.conditions.numbers.Tests.{either}

pub record Scan {A : Type 0} (R : List A → Bool) (t : A → List A → Bool) : Type 0 where
  pub nil : R [] ≡ false
  pub cons : (a : A) (l : List A) → R (a ∷ l) ≡ t a l || R l

pub some-scan : {A : Type 0} (t : A → Bool) → Scan (holds_for_some t) (λ a l. t a)
unfolding holds_for_some
some-scan t = record { nil = refl; cons = λ a l. either (t a) (holds_for_some t l) }

pub equal-scan : Scan two_equal (λ f l. holds_for_some (same f) l)
unfolding two_equal
equal-scan = record { nil = refl; cons = λ f l. either (holds_for_some (same f) l) (two_equal l) }

-- No element before i passes: the elements from i on decide.
module _ {A : Type 0} {R : List A → Bool} {t : A → List A → Bool} (scan : Scan R t) (d : A) (l : List A)
    (i : ℕ) {x : Bool} (e : R (drop i l) ≡ x) where
  split : i < length l → t (get_or l i d) (drop (i + 1) l) || R (drop (i + 1) l) ≡ x
  split h = rw add-one (sym (scan.cons _ _) ∙ ap R (sym (drop-cons l i d h)) ∙ e)

  pub scan-found : i < length l → t (get_or l i d) (drop (i + 1) l) ≡ true → true ≡ x
  scan-found h q = rw q at (split h)

  pub scan-next : i < length l → t (get_or l i d) (drop (i + 1) l) ≡ false → R (drop (i + 1) l) ≡ x
  scan-next h q = rw q at (split h)

  pub scan_over : length l ≤ i → false ≡ x
  scan_over h = sym scan.nil ∙ ap R (sym (drop_of_length-le l h)) ∙ e

-- The same for the factors in a slice of slices
module _ {R : List Polynomial → Bool} {t : Polynomial → List Polynomial → Bool} (scan : Scan R t)
    (fs : List (Bor (List ℕ))) (i : ℕ) {x : Bool} (e : R (drop i (lists_of fs)) ≡ x) where
  pub factor-found : i < length fs → t (get_or fs i nowhere).now (drop (i + 1) (lists_of fs)) ≡ true
      → true ≡ x
  factor-found h q = scan-found scan [] (lists_of fs) i e (rw lists_length h) (rw lists_at q)

  pub factor-next : i < length fs → t (get_or fs i nowhere).now (drop (i + 1) (lists_of fs)) ≡ false
      → R (drop (i + 1) (lists_of fs)) ≡ x
  factor-next h q = scan-next scan [] (lists_of fs) i e (rw lists_length h) (rw lists_at q)

  pub factors_over : length fs ≤ i → false ≡ x
  factors_over h = scan_over scan [] (lists_of fs) i e (rw lists_length h)

pub any-holds : (t : Polynomial → Bool) (fs : List (Bor (List ℕ)))
    → list_any (λ f. t f.now) fs ≡ holds_for_some t (lists_of fs)
unfolding holds_for_some lists_of
any-holds t [] = refl
any-holds t (f ∷ fs) =
    ap (λ (x : Bool). t f.now || x) (any-holds t fs) ∙ sym (either (t f.now) (holds_for_some t (lists_of fs)))

-- the lists of the slices from place i on
pub rest_of : (t : Polynomial → Bool) (fs : List (Bor (List ℕ))) (i : ℕ)
    → holds_for_some t (lists_of (take (length fs - i) (drop i fs))) ≡ holds_for_some t (drop i (lists_of fs))
unfolding lists_of
rest_of t fs i =
    ap (λ (l : List (Bor (List ℕ))). holds_for_some t (lists_of l))
    (take_all (length fs - i) (drop i fs) (simp length-drop (omega arith)))
    ∙ ap (holds_for_some t) (sym (drop-map _ i fs))
