-- The Berlekamp-Massey model over GF(2), place by place: a sum of polynomials is an exclusive or of bits.
--
--   kept-bit, changed-bit == the coefficients of f + c·x^s·g and of x^s·f + c·g with their leading 1
--   negative-bit     == −a is a
--   discrepancy-bits == the discrepancy is the action of f with its leading 1
--   discrepancy-one  == where it is not 0, it is 1
--
-- Assumes nothing.
use Prim.Native.Nat.{ℕ, zero, suc, ◌+◌, ◌*◌, ◌-◌, ◌%◌, ◌≤◌, ◌<◌}
use mathlib.Core.Path.{◌≡◌, refl, sym, ap, ap₂, subst, ◌∙◌}
use mathlib.Core.Logic.{◌≢◌}
use mathlib.Core.List.{List, [], ◌∷◌, ◌++◌}
use lib.ListN.{length, get_or, get_or-append, get_or-eq_default}
use lib.Seq.{get_or-append-add}
use native.Mathlib.Nat.{mod-eq_of_lt, add-mod-mod}
use native.Mathlib.Decide.{dec_lt}
use native.Mathlib.Omega.{arith}
use Rattle.meaning.specs.Field.{prime, negative, multiple}
use Rattle.meaning.specs.Sequence.{act_at, known}
use Rattle.bridge.proofs.Basics.Interpretation.{prime-add, prime-mul, prime-add-product, prime-size}
use Rattle.bridge.proofs.Basics.Interpretation.{add-below}
use Rattle.bridge.proofs.Sequences.Actions.{act_at-nil, act_at-cons, known-get_or}
use Rattle.bridge.proofs.Sequences.Continuations.{act_at-append}
use Rattle.bridge.proofs.Binary.Bits.{binary-is_field}
use Rattle.bridge.proofs.Binary.WordLists.{raised, raised-before, raised_at, one_bit}
use Rattle.bridge.proofs.Massey.Steps.{discrepancy, kept, changed, length-kept, kept-before}
use Rattle.bridge.proofs.Massey.Steps.{kept-within, length-changed, changed-before, changed-within}

-- The leading 1 and the zeros after it
lead_bit : (j b : ℕ) → b ≡ 0 → get_or {A = ℕ} (1 ∷ []) j 0 ≡ (get_or {A = ℕ} (1 ∷ []) j 0 + b) % 2
lead_bit zero b e = ap (λ b. (1 + b) % 2) (sym e)
lead_bit (suc j) b e = ap (λ b. (0 + b) % 2) (sym e)

-- past the lower coefficients
led-after :
    (l : List ℕ) (i : ℕ)
    → length l ≤ i
    → get_or (l ++ (1 ∷ [])) i 0 ≡ get_or {A = ℕ} (1 ∷ []) (i - length l) 0
led-after l i h =
    let e : i ≡ length l + (i - length l) = omega arith in
    ap (λ i. get_or (l ++ (1 ∷ [])) i 0) e ∙ get_or-append-add l (1 ∷ []) (i - length l) 0

no_bit : (c b : ℕ) → b ≡ 0 → c * b ≡ 0
no_bit c b e = ap (◌*◌ c) e ∙ omega arith

module _ (c s : ℕ) (f g : List ℕ) (bits : (i : ℕ) → get_or f i 0 < 2) where
  pub kept-bit :
      s + length g ≤ length f
      → (i : ℕ)
      → get_or (kept (prime 2) c s f g ++ (1 ∷ [])) i 0
      ≡ (get_or (f ++ (1 ∷ [])) i 0 + c * get_or (raised s g) i 0) % 2
  kept-bit l i = go (dec_lt i s) (dec_lt i (length f))
    where
      size : length (kept (prime 2) c s f g) ≡ length f
      size = length-kept (prime 2) c s f g (omega arith)

      go :
          Dec (i < s)
          → Dec (i < length f)
          → get_or (kept (prime 2) c s f g ++ (1 ∷ [])) i 0
          ≡ (get_or (f ++ (1 ∷ [])) i 0 + c * get_or (raised s g) i 0) % 2
      go (yes a) b =
          get_or-append (kept (prime 2) c s f g) (1 ∷ []) 0 i (omega (arith, size))
          ∙ kept-before (prime 2) c s f g i (omega arith) a
          ∙ sym
          (ap₂ (λ a b. (a + b) % 2) (get_or-append f (1 ∷ []) 0 i (omega arith))
          (no_bit c _ (raised-before s g i a))
          ∙ ap (λ n. n % 2) (omega arith)
          ∙ mod-eq_of_lt (bits i))
      go (no a) (yes b) =
          let e : i ≡ s + (i - s) = omega arith in
          let d : s + (i - s) ≡ i = omega arith in
          get_or-append (kept (prime 2) c s f g) (1 ∷ []) 0 i (omega (arith, size))
          ∙ ap (λ i. get_or (kept (prime 2) c s f g) i 0) e
          ∙ kept-within (prime 2) c s f g (i - s) (omega arith)
          ∙ prime-add-product 2 _ _ _
          ∙ ap₂ (λ a b. (a + c * b) % 2)
          (ap (λ i. get_or f i 0) d ∙ sym (get_or-append f (1 ∷ []) 0 i b))
          (sym (raised_at s g i (omega arith)))
      go (no a) (no b) =
          led-after (kept (prime 2) c s f g) i (omega (arith, size))
          ∙ ap (λ n. get_or {A = ℕ} (1 ∷ []) (i - n) 0) size
          ∙ lead_bit (i - length f) (c * get_or (raised s g) i 0)
          (no_bit c _ (raised_at s g i (omega arith) ∙ get_or-eq_default g 0 (omega arith)))
          ∙ ap (λ a. (a + c * get_or (raised s g) i 0) % 2) (sym (led-after f i (omega arith)))

  pub changed-bit :
      length g ≤ s + length f
      → (i : ℕ)
      → get_or (changed (prime 2) c s f g ++ (1 ∷ [])) i 0
      ≡ (get_or (raised s (f ++ (1 ∷ []))) i 0 + c * get_or g i 0) % 2
  changed-bit l i = go (dec_lt i s) (dec_lt i (s + length f))
    where
      size : length (changed (prime 2) c s f g) ≡ s + length f
      size = length-changed (prime 2) c s f g

      go :
          Dec (i < s)
          → Dec (i < s + length f)
          → get_or (changed (prime 2) c s f g ++ (1 ∷ [])) i 0
          ≡ (get_or (raised s (f ++ (1 ∷ []))) i 0 + c * get_or g i 0) % 2
      go (yes a) b =
          get_or-append (changed (prime 2) c s f g) (1 ∷ []) 0 i (omega (arith, size))
          ∙ changed-before (prime 2) c s f g i a
          ∙ prime-mul 2 c (get_or g i 0)
          ∙ sym
          (ap (λ a. (a + c * get_or g i 0) % 2) (raised-before s (f ++ (1 ∷ [])) i a)
          ∙ ap (λ n. n % 2) (omega arith))
      go (no a) (yes b) =
          let e : i ≡ s + (i - s) = omega arith in
          let d : s + (i - s) ≡ i = omega arith in
          get_or-append (changed (prime 2) c s f g) (1 ∷ []) 0 i (omega (arith, size))
          ∙ ap (λ i. get_or (changed (prime 2) c s f g) i 0) e
          ∙ changed-within (prime 2) c s f g (i - s) (omega arith)
          ∙ prime-add-product 2 _ _ _
          ∙ ap₂ (λ a b. (a + c * b) % 2)
          (sym
          (raised_at s (f ++ (1 ∷ [])) i (omega arith)
          ∙ get_or-append f (1 ∷ []) 0 (i - s) (omega arith)))
          (ap (λ i. get_or g i 0) d)
      go (no a) (no b) =
          let n : i - s - length f ≡ i - (s + length f) = omega arith in
          led-after (changed (prime 2) c s f g) i (omega (arith, size))
          ∙ ap (λ n. get_or {A = ℕ} (1 ∷ []) (i - n) 0) size
          ∙ lead_bit (i - (s + length f)) (c * get_or g i 0)
          (no_bit c _ (get_or-eq_default g 0 (omega arith)))
          ∙ ap (λ a. (a + c * get_or g i 0) % 2)
          (sym
          (raised_at s (f ++ (1 ∷ [])) i (omega arith)
          ∙ led-after f (i - s) (omega arith)
          ∙ ap (λ n. get_or {A = ℕ} (1 ∷ []) n 0) n))

-- Numbers of GF(2)
pub negative-bit : (a : ℕ) → a < 2 → negative (prime 2) a ≡ a
unfolding negative multiple prime
negative-bit zero l = refl
negative-bit (suc zero) l = refl
negative-bit (suc (suc a)) l = absurd (omega arith)

pub discrepancy-bits : (ts : List ℕ) (n : ℕ) (f : List ℕ)
    → length f ≤ n
    → act_at (prime 2) (f ++ (1 ∷ [])) (known ts) (n - length f) ≡ discrepancy (prime 2) ts n f
unfolding discrepancy
discrepancy-bits ts n f l =
    let e : length f + (n - length f) ≡ n = omega arith in
    act_at-append binary-is_field f (1 ∷ []) (known ts) (n - length f)
    ∙ ap ((prime 2).add (act_at (prime 2) f (known ts) (n - length f)))
    (ap (act_at (prime 2) (1 ∷ []) (known ts)) e
    ∙ act_at-cons (prime 2) 1 [] (known ts) n
    ∙ prime-add 2 _ _
    ∙ ap₂ (λ a b. (a + b) % 2) (prime-mul 2 1 (known ts n)) (act_at-nil (prime 2) (known ts) (suc n)))
    ∙ prime-add 2 _ _
    ∙ last (act_at (prime 2) f (known ts) (n - length f)) (known ts n)
    ∙ sym (prime-add 2 _ _)
    ∙ ap ((prime 2).add (act_at (prime 2) f (known ts) (n - length f))) (known-get_or ts n)
  where
    last : (a t : ℕ) → (a + (1 * t % 2 + 0) % 2) % 2 ≡ (a + t) % 2
    last a t =
        let e : 1 * t ≡ t = omega arith in
        add-mod-mod a (1 * t % 2 + 0) 2
        ∙ ap (λ n. (a + n) % 2) (omega arith)
        ∙ add-mod-mod a (1 * t) 2
        ∙ ap (λ n. (a + n) % 2) e

pub discrepancy-one : (ts : List ℕ) (n : ℕ) (f : List ℕ)
    → discrepancy (prime 2) ts n f ≢ 0
    → discrepancy (prime 2) ts n f ≡ 1
unfolding discrepancy
discrepancy-one ts n f h =
    one_bit _ (subst (λ q. discrepancy (prime 2) ts n f < q) (prime-size 2) (add-below binary-is_field _ _)) h
