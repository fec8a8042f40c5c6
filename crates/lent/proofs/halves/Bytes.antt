-- The halves of the work bytes, after an action and cut shorter.
--
--   acted-values      == the values of the action of a power stand at the front of the other half
--   acted-same        == the half that was read is as it was
--   take_min, half-cut == the first terms that are among the first m, of a list and of a half
--   lent-half         == a half lent as a part
--   cleared-kept      == bytes that were kept beyond the halves are the same when the halves are cleared
--
-- Assumes nothing.
use Prim.Native.Nat.{ℕ, ◌+◌, ◌*◌, ◌-◌, ◌≤◌, ◌<◌, min}
use mathlib.Core.Path.{◌≡◌, refl, sym, ap, ap₂, subst, ◌∙◌}
use mathlib.Core.Bool.{Bool, true, false}
use mathlib.Core.List.{List, ◌++◌}
use native.Mathlib.Nat as ℕ
use native.Mathlib.Decide.{dec_le}
use native.Mathlib.Omega.{arith}
use lib.ListN.{length, take, drop, replicate, length-take}
use lib.Seq.{take-take, take_all}
use lib.Dec.{T}
use Rattle.meaning.specs.Field.{Field}
use Rattle.meaning.specs.Polynomial.{Polynomial, degree, power}
use Rattle.meaning.specs.Sequence.{act_on_known}
use Rattle.meaning.specs.Result.{cleared}
use Rattle.bridge.proofs.Basics.Searches.{true-T, false-T}
use Rattle.bridge.proofs.Basics.Interpretation.{IsField}
use Rattle.bridge.proofs.Lists.Products.{degree-power}
use Rattle.bridge.proofs.Sequences.KnownActions.{all_zero, all_zero-nil, length-act_on_known}
use Rattle.bridge.proofs.Sequences.KnownActions.{act_on_known-short}
use Rattle.arith.proofs.Slices.{length_part}
use Rattle.lent.specs.halves.Halves.{half, Halves, Placed, Acted}
use Rattle.lent.specs.halves.Kept.{Kept}

pub take_min : (a b : ℕ) (l : List ℕ) → take b (take a l) ≡ take (min a b) l
take_min a b l = elim (dec_le b a) [
  | yes h ↦ take-take b a l h ∙ ap (λ n. take n l) (sym (ℕ.min-eq_right h))
  | no h ↦
      let e : a ≡ min a b = omega arith in
      take_all b (take a l) (omega (arith, length-take a l)) ∙ ap (λ n. take n l) e
]

pub half-cut : (w : List ℕ) (h n m : ℕ) → half w h (min n m) ≡ take m (half w h n)
half-cut w h n m = sym (take_min n m (drop (4096 * h) w))

pub half_length : {w : List ℕ} {h n : ℕ} → Halves w h n → length (half w h n) ≡ n
half_length {w} {h} {n} x =
    length_part w (4096 * h) n
    (omega (arith, x.enough, x.which, x.few, ℕ.mul-le-mul_left 4096 x.which))

pub lent-half : (w : List ℕ) (h n : ℕ) → take (4096 * h + n - 4096 * h) (drop (4096 * h) w) ≡ half w h n
lent-half w h n = ap (λ m. take m (drop (4096 * h) w)) (ℕ.add-sub_cancel_left (4096 * h) n)

pub kept_trans : {a b c : List ℕ} → Kept a b → Kept b c → Kept a c
kept_trans x y = record { beyond = y.beyond ∙ x.beyond; size = y.size ∙ x.size }

pub kept_same : (w : List ℕ) → Kept w w
kept_same w = record { beyond = refl; size = refl }

pub placed-kept : {w : List ℕ} {h k : ℕ} {values w' : List ℕ} → Placed w h k values w' → Kept w w'
placed-kept x = record { beyond = x.beyond; size = x.size }

pub cleared-kept : {w w' : List ℕ} → Kept w w' → cleared w' ≡ cleared w
unfolding cleared
cleared-kept x = ap (λ l. replicate 8192 0 ++ l) x.beyond

-- a half that was kept, as far as it was in use
placed_same : {w : List ℕ} {h k : ℕ} {values w' : List ℕ} (n : ℕ)
    → n ≤ 4096
    → Placed w h k values w'
    → half w' k n ≡ half w k n
placed_same {w} {h} {k} {values} {w'} n l x =
    sym (take-take n 4096 (drop (4096 * k) w') l)
    ∙ ap (take n) x.kept
    ∙ take-take n 4096 (drop (4096 * k) w) l

-- An action of a power
module _ {F : Field} (I : IsField F) (f : Polynomial) (nonempty : 0 < length f) (q : ℕ) {w : List ℕ} {h n : ℕ}
    {w' : List ℕ} {r : Bool} (halves : Halves w h n)
    (x : Acted w h (act_on_known F (power F f q) (half w h n)) w' r) where
  acted-length : length (act_on_known F (power F f q) (half w h n)) ≡ n - q * degree f
  acted-length =
      length-act_on_known F (power F f q) (half w h n)
      ∙ ap₂ ◌-◌ (half_length halves) (degree-power I f q nonempty)

  pub acted-values : half w' (1 - h) (n - q * degree f) ≡ act_on_known F (power F f q) (half w h n)
  acted-values =
      subst (λ m. half w' (1 - h) m ≡ act_on_known F (power F f q) (half w h n)) acted-length x.placed.made

  pub acted-same : half w' h n ≡ half w h n
  acted-same = placed_same n halves.few x.placed

  pub acted_halves : Halves w' (1 - h) (n - q * degree f)
  acted_halves =
      record {
        enough = omega (arith, halves.enough, x.placed.size);
        which = omega arith;
        few = omega (arith, halves.few);
      }

  pub acted-again : Halves w' h n
  acted-again =
      record {
        enough = omega (arith, halves.enough, x.placed.size);
        which = halves.which;
        few = halves.few;
      }

  pub acted-kept : Kept w w'
  acted-kept = placed-kept x.placed

  pub acted-zero : r ≡ true → T (all_zero (act_on_known F (power F f q) (half w h n)))
  acted-zero e = true-T (sym x.zero ∙ e)

  pub acted-nonzero : r ≡ false → ¬ T (all_zero (act_on_known F (power F f q) (half w h n)))
  acted-nonzero e = false-T (sym x.zero ∙ e)

  -- something is left only where there were enough terms
  pub acted-enough : r ≡ false → q * degree f < n
  acted-enough e =
      let no : ¬ (n ≤ q * degree f)
      = λ l.
      acted-nonzero e
      (subst (λ v. T (all_zero v))
      (sym (act_on_known-short F (power F f q) (half w h n)
      (omega (arith, half_length halves, degree-power I f q nonempty))))
      all_zero-nil) in
      omega arith
