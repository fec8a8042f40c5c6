-- The tests of the conditions are the words of the numbered list. Assumes nothing.
use Prim.Native.Nat.{ℕ, ◌-◌, ◌/◌, ◌^◌, ◌≤◌, ◌<◌}
use mathlib.Core.Path.{◌≡◌, refl, sym, subst}
use mathlib.Core.Logic.{◌↔◌, ◌⊎◌, inl, inr, ◌≢◌}
use mathlib.Core.Bool.{Bool, true, false, not, ◌||◌}
use mathlib.Core.List.{List}
use native.Mathlib.Omega.{arith}
use lib.ListN.{length, get_or}
use borrow.Author.Tests.{le-leb}
use lib.Dec.{T, eqb, ltb, T_not, not_T, ltb→lt, nltb→le, eqb→eq, eqb_refl}
use Rattle.meaning.specs.declared.FieldName.{FieldName}
use Rattle.meaning.specs.Field.{Field, prime, PrimeNumber, prime_in_range, are_elements}
use Rattle.meaning.specs.Polynomial.{Polynomial, degree, leading, irreducible, NotAProduct}
use Rattle.meaning.specs.Extension.{reducing}
use Rattle.meaning.specs.Conditions.{not_prime, not_binary, least_extension, largest_extension}
use Rattle.meaning.specs.Conditions.{count_out_of_range, place_out_of_range, term_out_of_field}
use Rattle.meaning.specs.Conditions.{factor_count_out_of_range, degree_out_of_range}
use Rattle.meaning.specs.Conditions.{continuation_degree_out_of_range}
use Rattle.meaning.specs.Conditions.{coefficient_out_of_range, fewer_terms_than, start_unlike_degree}
use Rattle.meaning.specs.Conditions.{lent_too_short}
use Rattle.meaning.specs.FieldNames.{not_field}
use Rattle.theorems.specs.Ratings.{ConditionWords}
use Rattle.bridge.proofs.Basics.Interpretation.{in_range_prime, prime-InRange, prime_meaning, meaning_prime}
use Rattle.bridge.proofs.Basics.Searches.{T_true, false-T}
use Rattle.bridge.proofs.Lists.Polynomials.{elements-get_or, get_or-elements}
use Rattle.bridge.proofs.Lists.Irreducibles.{irreducible-words, words-irreducible}
use Rattle.bridge.proofs.Binary.Bits.{binary-is_field}
use Rattle.bridge.proofs.Binary.Extension.{degree-reducing, reducing-monic}
use Rattle.bridge.proofs.Binary.BinaryNumbers.{binary-name}

either : {A B : Type 0} (a b : Bool) → T a ↔ A → T b ↔ B → T (a || b) ↔ (A ⊎ B)
either true b f g = (λ h. inl (f.0 tt), λ h. tt)
either false b f g =
    (λ h. inr (g.0 h), λ h. elim h [ inl x ↦ absurd (f.1 x) | inr y ↦ g.1 y ])

neither : {A : Type 0} (a : Bool) → T a ↔ A → T (not a) ↔ (A → ⊥)
neither a f = (λ h x. T_not a h (f.1 x), λ h. not_T a (λ t. h (f.0 t)))

lt_intro : (m n : ℕ) → m < n → T (ltb m n)
lt_intro m n l = go (ltb m n) (λ z. nltb→le m n z)
  where
    go : (b : Bool) → (T (not b) → n ≤ m) → T b
    go true f = tt
    go false f = absurd (omega (arith, f tt))

less : (m n : ℕ) → T (ltb m n) ↔ (m < n)
less m n = (ltb→lt m n, lt_intro m n)

equal : (m n : ℕ) → T (eqb m n) ↔ (m ≡ n)
equal m n = (eqb→eq m n, λ e. subst (λ k. T (eqb m k)) e (eqb_refl m))

in_range : (p : ℕ) → T (prime_in_range p) ↔ (PrimeNumber p × (p ≤ 251))
in_range p = (
  λ h. (prime_meaning (in_range_prime p h).1, (in_range_prime p h).0),
  λ h. prime-InRange h.1 (meaning_prime h.0),
)

elements : (F : Field) (f : List ℕ) → T (are_elements F f) ↔ ((i : ℕ) → i < length f → get_or f i 0 < F.size)
elements F f = (λ h. elements-get_or F f h, λ h. get_or-elements F f h)

chosen :
    {A B : Type 0} (b c : Bool) → T b ↔ A → T c ↔ B → T (elim b [ true ↦ true | false ↦ c ]) ↔ (A ⊎ B)
chosen true c f g = (λ h. inl (f.0 tt), λ h. tt)
chosen false c f g =
    (λ h. inr (g.0 h), λ h. elim h [ inl x ↦ absurd (f.1 x) | inr y ↦ g.1 y ])

count-words : (n : ℕ) → T (count_out_of_range n) ↔ ((n ≡ 0) ⊎ (4096 < n))
unfolding count_out_of_range
count-words n = either (eqb n 0) (ltb 4096 n) (equal n 0) (less 4096 n)

ten-words : (F : Field) (d : ℕ)
    → T (degree_out_of_range F d) ↔ (((d ≡ 0) ⊎ (32 < d)) ⊎ (65536 < F.size ^ (d / 2)))
unfolding degree_out_of_range
ten-words F d =
    chosen (eqb d 0 || ltb 32 d) _ (either (eqb d 0) (ltb 32 d) (equal d 0) (less 32 d))
    (less 65536 (F.size ^ (d / 2)))

eleven-words : (F : Field) (f : Polynomial)
    → T (coefficient_out_of_range F f)
    ↔ ((((i : ℕ) → i < length f → get_or f i 0 < F.size) → ⊥) ⊎ (leading f ≡ 0))
unfolding coefficient_out_of_range
eleven-words F f =
    either (not (are_elements F f)) (eqb (leading f) 0) (neither (are_elements F f) (elements F f))
    (equal (leading f) 0)

continuation-words : (g : Polynomial) → T (continuation_degree_out_of_range g) ↔ (4096 < degree g)
unfolding continuation_degree_out_of_range
continuation-words g = less 4096 (degree g)

start-words : (g : Polynomial) (start : List ℕ) → T (start_unlike_degree g start) ↔ (length start ≢ degree g)
unfolding start_unlike_degree
start-words g start = neither (eqb (length start) (degree g)) (equal (length start) (degree g))

six_words : (p : ℕ) → T (not_field (FieldName.Prime p)) ↔ ((PrimeNumber p × (p ≤ 251)) → ⊥)
unfolding not_field not_prime
six_words p = neither (prime_in_range p) (in_range p)

-- 20 holds of none of the names in range, and of every other
named-passes : (n low : ℕ) → 2 ≤ n → n ≤ 8 → low < 2 ^ n → T (irreducible (prime 2) (reducing n low))
    → not_binary n low ≡ false
unfolding not_binary least_extension largest_extension
named-passes n low l m s i =
    let below : ltb low (2 ^ n) ≡ true = T_true (lt_intro low (2 ^ n) s) in
    let whole : irreducible (prime 2) (reducing n low) ≡ true = T_true i in
    rw (not_binary, le-leb 2 n l, le-leb n 8 m, below, whole)

twenty_words : (n low : ℕ)
    → T (not_field (FieldName.Binary n low))
    ↔ (((2 ≤ n) × (n ≤ 8) × (low < 2 ^ n) × NotAProduct (prime 2) (reducing n low)) → ⊥)
unfolding not_field
twenty_words n low = (
  λ h (l, m, s, i). false-T (named-passes n low l m s (words-irreducible binary-is_field _ i)) h,
  λ h. go (not_binary n low) refl h,
)
  where
    go : (b : Bool) → not_binary n low ≡ b
        → (((2 ≤ n) × (n ≤ 8) × (low < 2 ^ n) × NotAProduct (prime 2) (reducing n low)) → ⊥)
        → T b
    go true e h = tt
    go false e h =
        let b = binary-name n low e in
        h (
          b.least,
          b.most,
          b.small,
          irreducible-words binary-is_field (reducing n low) (reducing-monic n low)
              (subst (λ k. 1 ≤ k) (sym (degree-reducing n low)) (omega (arith, b.least))) b.is_irreducible,
        )

pub condition_words : ConditionWords
unfolding place_out_of_range term_out_of_field factor_count_out_of_range fewer_terms_than lent_too_short
condition_words =
    record {
      six = six_words;
      twenty = twenty_words;
      seven = count-words;
      seven_place =
          λ size place. either (ltb size place) (count_out_of_range (size - place)) (less size place)
          (count-words (size - place));
      eight = λ F ts. neither (are_elements F ts) (elements F ts);
      nine = λ n. either (eqb n 0) (ltb 8 n) (equal n 0) (less 8 n);
      ten = ten-words;
      ten_continuation = continuation-words;
      eleven = eleven-words;
      fifteen = λ d ts. less (length ts) d;
      fifteen_start = start-words;
      sixteen = λ answer work. either (ltb answer 4097) (ltb work 8192) (less answer 4097) (less work 8192);
    }
