-- The coefficients of a product with f(x^q), by those of f that count.
--
--   convolved_skip    == coefficients of f that meet zeros are passed over; convolved-zero == all of them
--   times-convolved   == the coefficient of the product at place k, by the coefficients of f that reach it
--
-- Assumes nothing.
use Prim.Native.Nat.{ℕ, zero, suc, ◌+◌, ◌*◌, ◌-◌, ◌≤◌, ◌<◌}
use mathlib.Core.Path.{◌≡◌, refl, sym, ap, ◌∙◌}
use mathlib.Core.List.{List, [], ◌∷◌, ◌++◌}
use native.Mathlib.Nat.{le_refl, mul-suc, mul-zero}
use native.Mathlib.Omega.{arith}
use lib.ListN.{length, get_or, take, drop, replicate, length-replicate}
use lib.ListN.{get_or-append, drop_of_length-le}
use lib.Seq.{get_or-append-add}
use lib.Dec.{T}
use Rattle.meaning.specs.Field.{Field, are_elements}
use Rattle.meaning.specs.Polynomial.{plus, scale, times}
use Rattle.meaning.specs.Sequence.{Sequence, known}
use Rattle.bridge.proofs.Basics.Interpretation.{IsField, number-add_comm, number-zero-add, number-mul-zero}
use Rattle.bridge.proofs.Lists.Polynomials.{scale-elements, times-elements, append-elements, zeros-elements}
use Rattle.bridge.proofs.Lists.Spread.{spread}
use Rattle.bridge.proofs.Sequences.Actions.{known-get_or}
use Rattle.bridge.proofs.Lists.Coefficients.{get_or-zeros, get_or-sum, get_or-multiple}
use Rattle.poly.specs.convolution.Convolution.{convolved}
use Rattle.poly.proofs.convolution.Convolution.{convolved-below}
use Rattle.poly.proofs.products.Rows.{times-spread-cons, times-spread-one}

module _ {F : Field} (I : IsField F) where
  -- the first i coefficients of f meet zeros
  pub convolved_skip : (i : ℕ) (f : List ℕ) (q : ℕ) (s : Sequence) (k : ℕ)
      → ((j : ℕ) → j < i → s (k - q * j) ≡ 0)
      → convolved F f q s k ≡ convolved F (drop i f) q s (k - q * i)
  unfolding convolved
  convolved_skip zero f q s k h =
      ap (convolved F f q s) (sym (ap (λ (n : ℕ). k - n) (mul-zero q) ∙ omega arith))
  convolved_skip (suc i) [] q s k h = refl
  convolved_skip (suc i) (c ∷ f) q s k h =
      ap (λ x. F.add (F.mul c x) (convolved F f q s (k - q))) first-zero
      ∙ ap (λ x. F.add x (convolved F f q s (k - q))) (number-mul-zero I c)
      ∙ number-zero-add I (convolved-below I f q s (k - q))
      ∙ convolved_skip i f q s (k - q) (λ j l. ap s (stride_back j) ∙ h (suc j) (omega arith))
      ∙ ap (convolved F (drop i f) q s) (stride_back i)
    where
      stride_back : (j : ℕ) → k - q - q * j ≡ k - q * suc j
      stride_back j = omega (arith, mul-suc q j)

      first-zero : s k ≡ 0
      first-zero = ap s (sym (ap (λ (n : ℕ). k - n) (mul-zero q) ∙ omega arith)) ∙ h 0 (omega arith)

  -- the first coefficients of f, as many as there are, meet zeros
  pub convolved-zero : (f : List ℕ) (q : ℕ) (s : Sequence) (k : ℕ)
      → ((j : ℕ) → j < length f → s (k - q * j) ≡ 0)
      → convolved F f q s k ≡ 0
  unfolding convolved
  convolved-zero f q s k h =
      convolved_skip (length f) f q s k h
      ∙ ap (λ g. convolved F g q s (k - q * length f)) (drop_of_length-le f (le_refl (length f)))

  -- The product with c + x^q·g(x^q)
  module _ (a : List ℕ) (some : 0 < length a) where
    abbrev u : Sequence
    u = known a

    get_or-scaled : (c k : ℕ) → get_or (scale F c a) k 0 ≡ F.mul c (u k)
    get_or-scaled c k = get_or-multiple I c a k ∙ ap (F.mul c) (sym (known-get_or a k))

    -- a sum with c·a
    get_or-summed : (v : List ℕ) (c k : ℕ)
        → T (are_elements F v)
        → get_or (plus F v (scale F c a)) k 0 ≡ F.add (F.mul c (u k)) (get_or v k 0)
    get_or-summed v c k h =
        get_or-sum I v (scale F c a) k h (scale-elements I c a)
        ∙ ap (F.add (get_or v k 0)) (get_or-scaled c k)
        ∙ number-add_comm I (get_or v k 0) (F.mul c (u k))

    shifted-elements : (q : ℕ) (v : List ℕ) → T (are_elements F v) → T (are_elements F (replicate q 0 ++ v))
    shifted-elements q v h = append-elements F (replicate q 0) v (zeros-elements I q) h

    -- the coefficient at place k, by the coefficients of f up to b, which are those that reach it
    pub times-convolved : (f : List ℕ) (q b k : ℕ)
        → 0 < q
        → b < length f
        → q * b ≤ k
        → (suc b < length f → k < q * suc b)
        → get_or (times F (spread q f) a) k 0 ≡ convolved F (take (suc b) f) q u k
    unfolding convolved
    times-convolved [] q b k pos l m h = absurd (omega arith)
    times-convolved (c ∷ []) q zero k pos l m h =
        ap (λ v. get_or v k 0) (times-spread-one I a some q c)
        ∙ get_or-summed (replicate (length a) 0) c k (zeros-elements I (length a))
        ∙ ap (F.add (F.mul c (u k))) (get_or-zeros (length a) k)
    times-convolved (c ∷ []) q (suc b) k pos l m h = absurd (omega arith)
    times-convolved (c ∷ d ∷ g) q zero k pos l m h =
        ap (λ v. get_or v k 0) (times-spread-cons I a some q pos c (d ∷ g) (omega arith))
        ∙ get_or-summed (replicate q 0 ++ times F (spread q (d ∷ g)) a) c k
        (shifted-elements q (times F (spread q (d ∷ g)) a) (times-elements I (spread q (d ∷ g)) a))
        ∙ ap (F.add (F.mul c (u k))) first
      where
        low : k < q
        low = omega (arith, h (omega arith), mul-suc q 0, mul-zero q)

        first : get_or (replicate q 0 ++ times F (spread q (d ∷ g)) a) k 0 ≡ 0
        first =
            get_or-append (replicate q 0) (times F (spread q (d ∷ g)) a) 0 k
            (omega (arith, low, length-replicate {A = ℕ} q 0))
            ∙ get_or-zeros q k
    times-convolved (c ∷ d ∷ g) q (suc b) k pos l m h =
        ap (λ v. get_or v k 0) (times-spread-cons I a some q pos c (d ∷ g) (omega arith))
        ∙ get_or-summed (replicate q 0 ++ times F (spread q (d ∷ g)) a) c k
        (shifted-elements q (times F (spread q (d ∷ g)) a) (times-elements I (spread q (d ∷ g)) a))
        ∙ ap (F.add (F.mul c (u k)))
        (later ∙ times-convolved (d ∷ g) q b (k - q) pos (omega arith) (omega (arith, mul-suc q b)) next)
      where
        high : q ≤ k
        high = omega (arith, mul-suc q b)

        next : suc b < length (d ∷ g) → k - q < q * suc b
        next n = omega (arith, h (omega arith), mul-suc q (suc b))

        later : get_or (replicate q 0 ++ times F (spread q (d ∷ g)) a) k 0
            ≡ get_or (times F (spread q (d ∷ g)) a) (k - q) 0
        later =
            let e : k ≡ length {A = ℕ} (replicate q 0) + (k - q) = omega
            (arith, high, length-replicate {A = ℕ} q 0) in
            ap (λ j. get_or (replicate q 0 ++ times F (spread q (d ∷ g)) a) j 0) e
            ∙ get_or-append-add (replicate q 0) (times F (spread q (d ∷ g)) a) (k - q) 0
