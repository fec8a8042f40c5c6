-- The polynomials of numbers, and the catalogue and its search in words.
--
--   entry_length     == the polynomial of a number has at most 11 coefficients
--   entry-monic, entry-positive == for the numbers from 2 to 2,047 it is monic over GF(2) of positive degree,
--                       by a test of them all
--   number-entry     == every such polynomial of degree at most 10 is that of its number; `entry-number`:
--                       and a number is that of its polynomial
--   listed           == the test by which the catalogue selects
--   member-listed, listed-member == a number is in the catalogue exactly where it is from 2 to 2,047 and its
--                       polynomial is irreducible
--   Listed n         == the same, as a record; entry_at == of entry i
--   FoundEntry, first_found == what the search finds: an entry with the least power of its polynomial, and no
--                       entry before it has a power
--   first-missing    == where it finds none, no entry has a power
--   Passed ts i      == no entry before entry i has a power, so that the search goes on from there
--   passed_first, passed-next, passed-found, passed-all == the search entry by entry
-- Assumes nothing.
use Prim.Native.Nat.{ℕ, zero, suc, ◌/◌, ◌%◌, ◌≤◌, ◌<◌}
use mathlib.Core.Path.{◌≡◌, refl, sym, ap, ap₂, subst, ◌∙◌}
use mathlib.Core.Logic.{◌≢◌}
use mathlib.Core.Bool.{Bool, true, false, not, ◌&&◌}
use mathlib.Core.List.{List, [], ◌∷◌, Memᴰ}
use mathlib.Core.Option.{Option, none, some}
use native.Mathlib.Omega.{arith}
use native.Mathlib.Nat.{pow-le-pow_right, le_trans}
use lib.ListN.{length, get_or, drop}
use lib.Seq.{drop-length}
use lib.Dec.{T, T_not, eqb, eqb→eq, leb, leb→le}
use borrow.Author.Tests.{ne_eqb}
use Rattle.meaning.specs.Search.{range, holds_for_all, first_that, bind, is_none}
use Rattle.meaning.specs.Field.{prime}
use Rattle.meaning.specs.Polynomial.{Polynomial, degree, leading, is_monic_over, irreducible}
use Rattle.meaning.specs.Catalogue.{bits_up_to, entry_polynomial, catalogue, entry_power, EntryFigures}
use Rattle.meaning.specs.Catalogue.{entry_figures, first_entry}
use Rattle.meaning.proofs.Computed.{computed}
use Rattle.bridge.proofs.Basics.Searches.{T_and, all-range, member-range}
use Rattle.bridge.proofs.Basics.Searches.{range-member, selected-member, member-selected}
use Rattle.bridge.proofs.Basics.Searches.{first-selected, none-selected, some-bind, some-map_option}
use Rattle.bridge.proofs.Basics.Searches.{bind-some}
use Rattle.bridge.proofs.Basics.Searches.{none-map_option, none_is_none, map_option-some, get_or-member}
use Rattle.bridge.proofs.Basics.Searches.{first-nil}
use Rattle.bridge.proofs.Basics.Searches.{first-at, first-later}
use Rattle.bridge.proofs.Basics.Interpretation.{prime-size}
use Rattle.bridge.proofs.Lists.Polynomials.{monic-leading, monic-elements, monic-nonempty}
use Rattle.bridge.proofs.Lists.Polynomials.{degree-length}
use Rattle.bridge.proofs.Binary.Words.{value, Below, below_nil, below-cons, elements-below, value-nil}
use Rattle.bridge.proofs.Binary.Words.{value-cons, value-below, low_digit, high-digits}

-- THE POLYNOMIAL OF A NUMBER
bits-length : (most n : ℕ) → length (bits_up_to most n) ≤ most
unfolding bits_up_to
bits-length zero n = omega arith
bits-length (suc most) n = go (eqb n 0) (bits-length most (n / 2))
  where
    go : (b : Bool) → length (bits_up_to most (n / 2)) ≤ most
        → length {A = ℕ} (elim b [ true ↦ [] | false ↦ n % 2 ∷ bits_up_to most (n / 2) ]) ≤ suc most
    go true l = omega arith
    go false l = omega arith

pub entry_length : (n : ℕ) → length (entry_polynomial n) ≤ 11
unfolding entry_polynomial
entry_length n = bits-length 11 n

pub bits-zero : (most : ℕ) → bits_up_to most 0 ≡ []
unfolding bits_up_to
bits-zero zero = refl
bits-zero (suc most) = refl

pub bits-suc : (most n : ℕ) → n ≢ 0 → bits_up_to (suc most) n ≡ n % 2 ∷ bits_up_to most (n / 2)
unfolding bits_up_to
bits-suc most n h = rw (ne_eqb n 0 h, bits_up_to)

is_entry : ℕ → Bool
is_entry n = is_monic_over (prime 2) (entry_polynomial n) && leb 1 (degree (entry_polynomial n))

-- the bits of a number make it
is_number : ℕ → Bool
is_number n = eqb (value 2 (entry_polynomial n)) n

all_entries : T (holds_for_all is_entry (range 2 2046))
unfolding computed is_entry
all_entries = tt

all-numbers : T (holds_for_all is_number (range 2 2046))
unfolding computed is_number value
all-numbers = tt

module _ (n : ℕ) (l : 2 ≤ n) (k : n < 2048) where
  is-entry : T (is_monic_over (prime 2) (entry_polynomial n)) × T (leb 1 (degree (entry_polynomial n)))
  unfolding is_entry
  is-entry =
      T_and (is_monic_over (prime 2) (entry_polynomial n)) (leb 1 (degree (entry_polynomial n)))
      (all-range is_entry 2 2046 all_entries n l (omega arith))

  pub entry-monic : T (is_monic_over (prime 2) (entry_polynomial n))
  entry-monic = is-entry.0

  pub entry-positive : 1 ≤ degree (entry_polynomial n)
  entry-positive = leb→le 1 (degree (entry_polynomial n)) is-entry.1

  pub entry-number : value 2 (entry_polynomial n) ≡ n
  unfolding is_number
  entry-number = eqb→eq _ n (all-range is_number 2 2046 all-numbers n l (omega arith))

-- THE NUMBER OF A POLYNOMIAL
value-positive : {f : List ℕ} → Below 2 f → leading f ≡ 1 → value 2 f ≢ 0
unfolding leading
value-positive below_nil e z = omega arith
value-positive (below-cons {c} {f = []} h hs) e z = omega (arith, value-cons 2 c [])
value-positive (below-cons {c} {f = d ∷ f} h hs) e z =
    value-positive hs e (omega (arith, value-cons 2 c (d ∷ f)))

degree_of-0 : degree (entry_polynomial 0) ≡ 0
unfolding computed
degree_of-0 = refl

degree_of-1 : degree (entry_polynomial 1) ≡ 0
unfolding computed
degree_of-1 = refl

bits-value : {f : List ℕ} → Below 2 f → (most : ℕ) → leading f ≡ 1 → length f ≤ most
    → bits_up_to most (value 2 f) ≡ f
unfolding leading
bits-value below_nil most e l = absurd (omega arith)
bits-value (below-cons h hs) zero e l = absurd (omega arith)
bits-value (below-cons {c} {f} h hs) (suc most) e l =
    bits-suc most (value 2 (c ∷ f)) (value-positive (below-cons h hs) e)
    ∙ ap₂ (λ (a : ℕ) (g : List ℕ). a ∷ g) (ap (λ n. n % 2) (value-cons 2 c f) ∙ low_digit 2 c (value 2 f) h)
    (ap (λ n. bits_up_to most (n / 2)) (value-cons 2 c f)
    ∙ ap (bits_up_to most) (high-digits 2 c (value 2 f) h)
    ∙ rest f e (omega arith) (bits-value hs most))
  where
    rest : (f : List ℕ) → leading (c ∷ f) ≡ 1 → length f ≤ most
        → (leading f ≡ 1 → length f ≤ most → bits_up_to most (value 2 f) ≡ f)
        → bits_up_to most (value 2 f) ≡ f
    rest [] e k step = ap (bits_up_to most) (value-nil 2) ∙ bits-zero most
    rest (d ∷ f) e k step = step e k

module _ (f : Polynomial) (m : T (is_monic_over (prime 2) f)) (low : 1 ≤ degree f) (high : degree f ≤ 10)
  where
    below : Below 2 f
    below = subst (λ q. Below q f) (prime-size 2) (elements-below (prime 2) f (monic-elements (prime 2) f m))

    size : length f ≡ suc (degree f)
    size = degree-length f (monic-nonempty (prime 2) f m)

    pub number-entry : entry_polynomial (value 2 f) ≡ f
    unfolding entry_polynomial
    number-entry = bits-value below 11 (monic-leading (prime 2) f m) (omega (arith, size))

    pub number_small : value 2 f < 2048
    number_small =
        let l : length f ≤ 11 = omega (arith, size) in
        le_trans (value-below below) (pow-le-pow_right (omega arith) l)

    pub number-large : 2 ≤ value 2 f
    number-large = go (value 2 f) refl
      where
        go : (n : ℕ) → value 2 f ≡ n → 2 ≤ value 2 f
        go zero e = absurd (omega (arith, ap degree (sym number-entry ∙ ap entry_polynomial e), degree_of-0))
        go (suc zero) e =
            absurd (omega (arith, ap degree (sym number-entry ∙ ap entry_polynomial e), degree_of-1))
        go (suc (suc n)) e = omega arith

-- THE CATALOGUE
abbrev pub listed : ℕ → Bool
listed n = irreducible (prime 2) (entry_polynomial n)

pub record Listed (n : ℕ) : Type 0 where
  pub at_least : 2 ≤ n
  pub less : n < 2048
  pub irreducibility : T (irreducible (prime 2) (entry_polynomial n))

pub member-listed : {n : ℕ} → Memᴰ n catalogue → Listed n
unfolding catalogue
member-listed m =
    let (r, h) = selected-member listed (range 2 2046) m in
    let (l, k) = member-range 2 2046 r in
    record { at_least = l; less = omega (arith, k); irreducibility = h }

pub listed-member : {n : ℕ} → Listed n → Memᴰ n catalogue
unfolding catalogue
listed-member x =
    member-selected listed (range 2 2046)
    (range-member 2 2046 x.at_least (omega (arith, x.less))) x.irreducibility

pub entry_at : (i : ℕ) → i < length catalogue → Listed (get_or catalogue i 0)
entry_at i l = member-listed (get_or-member catalogue i 0 l)

-- THE SEARCH
module _ (ts : List ℕ) where
  abbrev pub has_power : ℕ → Bool
  has_power n = not (is_none (entry_power ts n))

  no_power : (n : ℕ) → ¬ T (has_power n) → entry_power ts n ≡ none
  unfolding is_none
  no_power n h = go (entry_power ts n) h
    where
      go : (o : Option ℕ) → ¬ T (not (is_none o)) → o ≡ none
      go none z = refl
      go (some r) z = absurd (z tt)

  pub record FoundEntry (a : EntryFigures) : Type 0 where
    pub entry : Listed a.entry
    pub power : entry_power ts a.entry ≡ some a.power
    pub first : (n : ℕ) → Listed n → n < a.entry → entry_power ts n ≡ none

  pub first_found : {a : EntryFigures} → first_entry ts ≡ some a → FoundEntry a
  unfolding first_entry entry_figures catalogue
  first_found {a} e =
      let (n, x, y) = some-bind (first_that has_power catalogue) (entry_figures ts) e in
      let (r, z, same) = some-map_option (λ r. record { entry = n; power = r }) (entry_power ts n) y in
      let w = first-selected has_power listed 2 2046 x in
      subst FoundEntry same
      (record {
        entry = record { at_least = w.at_least; less = omega (arith, w.less); irreducibility = w.chosen };
        power = z;
        first = λ k m l. no_power k (w.first k m.at_least l m.irreducibility);
      })

  found_none : (k : ℕ) → T (has_power k) → entry_figures ts k ≡ none → ⊥
  unfolding entry_figures
  found_none k h e =
      T_not (is_none (entry_power ts k)) h
      (none_is_none (none-map_option (λ r. record { entry = k; power = r }) (entry_power ts k) e))

  pub first-missing : first_entry ts ≡ none → (n : ℕ) → Listed n → entry_power ts n ≡ none
  unfolding first_entry entry_figures catalogue
  first-missing e n x =
      no_power n
      (none-selected has_power listed 2 2046
      (nothing (first_that has_power catalogue) refl) n x.at_least (omega (arith, x.less))
      x.irreducibility)
    where
      nothing : (o : Option ℕ) → first_that has_power catalogue ≡ o → first_that has_power catalogue ≡ none
      nothing none q = q
      nothing (some k) q =
          absurd
          (found_none k
          (first-selected has_power listed 2 2046 q).passes
          (sym (bind-some (entry_figures ts) q) ∙ e))

  abbrev pub Passed : ℕ → Type 0
  Passed i = first_that has_power catalogue ≡ first_that has_power (drop i catalogue)

  pub passed_first : Passed 0
  passed_first = refl

  module _ (i : ℕ) (l : i < length catalogue) (x : Passed i) where
    pub passed-next : entry_power ts (get_or catalogue i 0) ≡ none → Passed (suc i)
    passed-next e =
        x
        ∙ first-later has_power catalogue i 0 l (λ h. T_not (is_none (entry_power ts
        (get_or catalogue i 0))) h
        (none_is_none e))

    pub passed-found :
        {r : ℕ}
        → entry_power ts (get_or catalogue i 0) ≡ some r
        → first_entry ts ≡ some (record { entry = get_or catalogue i 0; power = r })
    unfolding first_entry entry_figures is_none
    passed-found e =
        bind-some (entry_figures ts)
        (x ∙ first-at has_power catalogue i 0 l (subst (λ o. T (not (is_none o))) (sym e) tt))
        ∙ map_option-some (λ r. record { entry = get_or catalogue i 0; power = r }) e

  pub passed-all : Passed (length catalogue) → first_entry ts ≡ none
  unfolding first_entry bind
  passed-all x =
      ap (λ o. bind o (entry_figures ts))
      (x ∙ ap (first_that has_power) (drop-length catalogue) ∙ first-nil has_power)
