-- The factors of a set in two parts, each with its upper powers: both are accepted, by the terms and by what
-- the other part leaves of them.
--
--   Halved fs us fs₁ us₁ fs₂ us₂ == the pairs of fs and us are those of fs₁ and us₁ and then those of fs₂
--                        and us₂
--   halved            == so are the parts of slices up to a place and from it on
--   HalvedInput …     == accepted input, as many terms as the total degree, in two parts
--   first-…, second-… == what accepted input says of the first and of the second part
--   parts-settled     == the powers of both parts are the powers of the set
--   both-places, settled-searched == where they stand
--   halves-kept       == the halves are given back, and all beyond them is as it was
--
-- Assumes nothing.
use Prim.Native.Nat.{ℕ, zero, suc, ◌+◌, ◌-◌, ◌*◌, ◌≤◌, ◌<◌}
use mathlib.Core.Path.{◌≡◌, refl, sym, ap, ap₂, subst, ◌∙◌}
use mathlib.Core.Bool.{Bool, true, false, ◌||◌}
use mathlib.Core.List.{List, [], ◌∷◌, ◌++◌, append-nil}
use mathlib.Core.Option.{Option, some}
use native.Mathlib.Nat as ℕ
use native.Mathlib.Omega.{arith}
use lib.ListN.{length, get_or, take, drop, set, length-append, length-drop, take-append-drop}
use lib.ListN.{drop_of_length-le}
use lib.ListN.{replicate, length-take, get_or-append}
use lib.Seq.{take-nil, drop-nil, take_at, drop_at, get_or-append-add}
use lib.Dec.{T, eqb, ltb}
use borrow.Author.Tests.{le-ltb}
use denote.Ref.{Bor}
use borrow.Rule.Slice.PartMut.{put_mid}
use Rattle.meaning.specs.Search.{holds_for_some, map_option}
use Rattle.meaning.specs.Field.{Field, are_elements}
use Rattle.meaning.specs.Polynomial.{Polynomial, degree, product, is_monic_over, irreducible}
use Rattle.meaning.specs.Sequence.{act_on_known}
use Rattle.meaning.specs.Conditions.{named, total_degree, upper_powers_out_of_range}
use Rattle.meaning.specs.Portion.{set_powers}
use Rattle.meaning.specs.Answers.{padded}
use Rattle.meaning.specs.Slices.{lists_of}
use Rattle.bridge.proofs.Basics.Searches.{or-false, none-cons, none_uncons, map_option-some}
use Rattle.bridge.proofs.Basics.Interpretation.{IsField}
use Rattle.bridge.proofs.Lists.Irreducibles.{Factors}
use Rattle.bridge.proofs.Sequences.KnownActions.{act_on_known-elements}
use Rattle.bridge.proofs.Lists.Products.{Nonempties, monics-nonempty, length-named}
use Rattle.lent.proofs.halves.Bytes.{lent-half}
use Rattle.lent.specs.declared.halves.Place.{Place}
use Rattle.lent.specs.halves.Kept.{Kept}
use Rattle.set_way.specs.actions.SetActions.{SetInput, AllActed}
use Rattle.set_way.proofs.actions.Inputs.{input-monics, input-total}
use Rattle.set_way.proofs.search.Halving.{total-append, first_exact, second_exact, set_powers_from}
use Rattle.set_way.proofs.search.Halving.{set_powers-parts}

pub record Halved (fs : List Polynomial) (us : List ℕ) (fs₁ : List Polynomial) (us₁ : List ℕ)
    (fs₂ : List Polynomial) (us₂ : List ℕ) : Type 0 where
  pub factors : fs ≡ fs₁ ++ fs₂
  pub pairs : named fs us ≡ named fs₁ us₁ ++ named fs₂ us₂

-- Parts of slices
lists_take : (k : ℕ) (xs : List (Bor (List ℕ))) → lists_of (take k xs) ≡ take k (lists_of xs)
unfolding lists_of
lists_take zero xs = refl
lists_take (suc k) [] = refl
lists_take (suc k) (x ∷ xs) = ap (◌∷◌ x.now) (lists_take k xs)

lists_drop : (k : ℕ) (xs : List (Bor (List ℕ))) → lists_of (drop k xs) ≡ drop k (lists_of xs)
unfolding lists_of
lists_drop zero xs = refl
lists_drop (suc k) [] = refl
lists_drop (suc k) (x ∷ xs) = lists_drop k xs

named-take :
    (k : ℕ) (fs : List Polynomial) (us : List ℕ) → named (take k fs) (take k us) ≡ take k (named fs us)
unfolding named
named-take zero fs us = refl
named-take (suc k) [] us = refl
named-take (suc k) (f ∷ fs) [] =
    ap (◌∷◌ (f, 0)) (ap (named (take k fs)) (sym (take-nil k)) ∙ named-take k fs [])
named-take (suc k) (f ∷ fs) (u ∷ us) = ap (◌∷◌ (f, u)) (named-take k fs us)

named-drop :
    (k : ℕ) (fs : List Polynomial) (us : List ℕ) → named (drop k fs) (drop k us) ≡ drop k (named fs us)
unfolding named
named-drop zero fs us = refl
named-drop (suc k) [] us = refl
named-drop (suc k) (f ∷ fs) [] = ap (named (drop k fs)) (sym (drop-nil k)) ∙ named-drop k fs []
named-drop (suc k) (f ∷ fs) (u ∷ us) = named-drop k fs us

pub halved :
    (xs : List (Bor (List ℕ))) (us : List ℕ) (m : ℕ) {x₁ x₂ : List (Bor (List ℕ))} {u₁ u₂ : List ℕ}
    → (x₁ ≡ take m xs) × (u₁ ≡ take m us)
    → (x₂ ≡ drop m xs) × (u₂ ≡ drop m us)
    → Halved (lists_of xs) us (lists_of x₁) u₁ (lists_of x₂) u₂
halved xs us m (a, b) (c, d) =
    rw (a, b, c, d)
    (record {
      factors = sym (ap₂ (◌++◌) (lists_take m xs) (lists_drop m xs) ∙ take-append-drop m (lists_of xs));
      pairs =
          sym
          (ap₂ (◌++◌)
          (ap (λ l. named l (take m us)) (lists_take m xs) ∙ named-take m (lists_of xs) us)
          (ap (λ l. named l (drop m us)) (lists_drop m xs) ∙ named-drop m (lists_of xs) us)
          ∙ take-append-drop m (named (lists_of xs) us));
    })

-- Accepted factors in two parts
factors-first : {F : Field} (a b : List Polynomial) → Factors F (a ++ b) → Factors F a
factors-first {F} a b x =
    record {
      monic = λ i k. subst (λ f. T (is_monic_over F f)) (at i k) (x.monic i (more i k));
      positive = λ i k. subst (λ f. 1 ≤ degree f) (at i k) (x.positive i (more i k));
      irreducibles = λ i k. subst (λ f. T (irreducible F f)) (at i k) (x.irreducibles i (more i k));
      different = λ i j l k e.
          x.different i j l (more j k) (at i (ℕ.lt_trans l k) ∙ e ∙ sym (at j k));
    }
  where
    more : (i : ℕ) → i < length a → i < length (a ++ b)
    more i k = omega (arith, length-append a b)

    at : (i : ℕ) → i < length a → get_or (a ++ b) i [] ≡ get_or a i []
    at i k = get_or-append a b [] i k

factors-second : {F : Field} (a b : List Polynomial) → Factors F (a ++ b) → Factors F b
factors-second {F} a b x =
    record {
      monic = λ i k. subst (λ f. T (is_monic_over F f)) (at i) (x.monic (length a + i) (more i k));
      positive = λ i k. subst (λ f. 1 ≤ degree f) (at i) (x.positive (length a + i) (more i k));
      irreducibles = λ i k.
          subst (λ f. T (irreducible F f)) (at i) (x.irreducibles (length a + i) (more i k));
      different = λ i j l k e.
          x.different (length a + i) (length a + j) (omega arith) (more j k) (at i ∙ e ∙ sym (at j));
    }
  where
    more : (i : ℕ) → i < length b → length a + i < length (a ++ b)
    more i k = omega (arith, length-append a b)

    at : (i : ℕ) → get_or (a ++ b) (length a + i) [] ≡ get_or b i []
    at i = get_or-append-add a b i []

module _ (a b : List Polynomial) (h : (i : ℕ) → i < length (a ++ b) → length (get_or (a ++ b) i []) ≤ 33)
  where
    short-first : (i : ℕ) → i < length a → length (get_or a i []) ≤ 33
    short-first i k =
        subst (λ f. length f ≤ 33) (get_or-append a b [] i k) (h i (omega (arith, length-append a b)))

    short-second : (i : ℕ) → i < length b → length (get_or b i []) ≤ 33
    short-second i k =
        subst (λ f. length f ≤ 33) (get_or-append-add a b i [])
        (h (length a + i) (omega (arith, length-append a b)))

none-append :
    {A : Type 0} (t : A → Bool) (l m : List A)
    → holds_for_some t (l ++ m) ≡ false
    → (holds_for_some t l ≡ false) × (holds_for_some t m ≡ false)
unfolding holds_for_some
none-append t [] m h = (refl, h)
none-append t (a ∷ l) m h =
    let (z, r) = none_uncons t a (l ++ m) h in
    let (p, q) = none-append t l m r in
    (none-cons t a l z p, q)

or-both_false : (b c : Bool) → b ≡ false → c ≡ false → (b || c) ≡ false
or-both_false true c h k = h
or-both_false false c h k = k

uppers_part :
    (l : List (Polynomial × ℕ))
    → holds_for_some (λ f. eqb f.1 0) l ≡ false
    → total_degree l ≤ 4096
    → upper_powers_out_of_range l ≡ false
unfolding upper_powers_out_of_range
uppers_part l h k =
    or-both_false (holds_for_some (λ f. eqb f.1 0) l) (ltb 4096 (total_degree l)) h (le-ltb _ _ k)

nonzero-parts :
    (l m : List (Polynomial × ℕ))
    → upper_powers_out_of_range (l ++ m) ≡ false
    → (holds_for_some (λ f. eqb f.1 0) l ≡ false) × (holds_for_some (λ f. eqb f.1 0) m ≡ false)
unfolding upper_powers_out_of_range
nonzero-parts l m h =
    none-append (λ f. eqb f.1 0) l m (or-false (holds_for_some (λ f. eqb f.1 0) (l ++ m)) _ h).0

pub record HalvedInput (F : Field) (fs : List Polynomial) (us ts : List ℕ) (fs₁ : List Polynomial)
    (us₁ : List ℕ) (fs₂ : List Polynomial) (us₂ : List ℕ) : Type 1 where
  pub field : IsField F
  pub input : SetInput F fs us ts
  pub exact : length ts ≡ total_degree (named fs us)
  pub parts : Halved fs us fs₁ us₁ fs₂ us₂

module _
    {F : Field} {fs : List Polynomial} {us ts : List ℕ} {fs₁ fs₂ : List Polynomial} {us₁ us₂ : List ℕ}
    (h : HalvedInput F fs us ts fs₁ us₁ fs₂ us₂)
  where
    total : total_degree (named fs us) ≡ total_degree (named fs₁ us₁) + total_degree (named fs₂ us₂)
    total = ap total_degree h.parts.pairs ∙ total-append (named fs₁ us₁) (named fs₂ us₂)

    count : length fs ≡ length fs₁ + length fs₂
    count = ap length h.parts.factors ∙ length-append fs₁ fs₂

    short : (i : ℕ) → i < length (fs₁ ++ fs₂) → length (get_or (fs₁ ++ fs₂) i []) ≤ 33
    short =
        subst (λ l. (i : ℕ) → i < length l → length (get_or l i []) ≤ 33) h.parts.factors h.input.short

    nonzero : (holds_for_some (λ f. eqb f.1 0) (named fs₁ us₁) ≡ false)
        × (holds_for_some (λ f. eqb f.1 0) (named fs₂ us₂) ≡ false)
    nonzero =
        nonzero-parts (named fs₁ us₁) (named fs₂ us₂)
        (subst (λ l. upper_powers_out_of_range l ≡ false) h.parts.pairs h.input.uppers)

    pub first-input :
        (s : List ℕ)
        → total_degree (named fs₁ us₁) ≤ length s
        → length s ≤ 4096
        → T (are_elements F s)
        → SetInput F fs₁ us₁ s
    first-input s a b c =
        record {
          factors = factors-first fs₁ fs₂ (subst (Factors F) h.parts.factors h.input.factors);
          short = short-first fs₁ fs₂ short;
          eight = omega (arith, count, h.input.eight);
          uppers = uppers_part (named fs₁ us₁) nonzero.0 (omega (arith, total, input-total h.input));
          enough = a;
          in_field = c;
          not_many = b;
        }

    pub second-input :
        (s : List ℕ)
        → total_degree (named fs₂ us₂) ≤ length s
        → length s ≤ 4096
        → T (are_elements F s)
        → SetInput F fs₂ us₂ s
    second-input s a b c =
        record {
          factors = factors-second fs₁ fs₂ (subst (Factors F) h.parts.factors h.input.factors);
          short = short-second fs₁ fs₂ short;
          eight = omega (arith, count, h.input.eight);
          uppers = uppers_part (named fs₂ us₂) nonzero.1 (omega (arith, total, input-total h.input));
          enough = a;
          in_field = c;
          not_many = b;
        }

    -- on all terms
    pub first-whole : SetInput F fs₁ us₁ ts
    first-whole = first-input ts (omega (arith, total, h.exact)) h.input.not_many h.input.in_field

    pub second-whole : SetInput F fs₂ us₂ ts
    second-whole = second-input ts (omega (arith, total, h.exact)) h.input.not_many h.input.in_field

    nonempties₁ : Nonempties (named fs₁ us₁)
    nonempties₁ = monics-nonempty F (named fs₁ us₁) (input-monics first-whole)

    nonempties₂ : Nonempties (named fs₂ us₂)
    nonempties₂ = monics-nonempty F (named fs₂ us₂) (input-monics second-whole)

    exactly : length ts ≡ total_degree (named fs₁ us₁ ++ named fs₂ us₂)
    exactly = h.exact ∙ ap total_degree h.parts.pairs

    -- what the second part leaves is for the first
    module _ {w w' : List ℕ} {r : Place} (acted : AllActed F fs₂ us₂ ts w w' r) where
      pub first-left :
          take (4096 * r.half + r.count - 4096 * r.half) (drop (4096 * r.half) w')
          ≡ act_on_known F (product F (named fs₂ us₂)) ts
      first-left = lent-half w' r.half r.count ∙ acted.values

      pub first-length :
          length (take (4096 * r.half + r.count - 4096 * r.half) (drop (4096 * r.half) w'))
          ≡ total_degree (named fs₁ us₁)
      first-length =
          ap length first-left
          ∙ first_exact h.field (named fs₁ us₁) (named fs₂ us₂) nonempties₁ nonempties₂ ts exactly

      pub first_rest :
          SetInput F fs₁ us₁ (take (4096 * r.half + r.count - 4096 * r.half) (drop (4096 * r.half) w'))
      first_rest =
          first-input _ (ℕ.le_of_eq (sym first-length))
          (omega (arith, first-length, total, input-total h.input))
          (subst (λ s. T (are_elements F s)) (sym first-left)
          (act_on_known-elements h.field (product F (named fs₂ us₂)) ts))

    -- what the first part leaves is for the second
    module _ {w w' : List ℕ} {r : Place} (acted : AllActed F fs₁ us₁ ts w w' r) where
      pub second-left :
          take (4096 * r.half + r.count - 4096 * r.half) (drop (4096 * r.half) w')
          ≡ act_on_known F (product F (named fs₁ us₁)) ts
      second-left = lent-half w' r.half r.count ∙ acted.values

      pub second-length :
          length (take (4096 * r.half + r.count - 4096 * r.half) (drop (4096 * r.half) w'))
          ≡ total_degree (named fs₂ us₂)
      second-length =
          ap length second-left
          ∙ second_exact h.field (named fs₁ us₁) (named fs₂ us₂) nonempties₁ nonempties₂ ts exactly

      pub second-rest :
          SetInput F fs₂ us₂ (take (4096 * r.half + r.count - 4096 * r.half) (drop (4096 * r.half) w'))
      second-rest =
          second-input _ (ℕ.le_of_eq (sym second-length))
          (omega (arith, second-length, total, input-total h.input))
          (subst (λ s. T (are_elements F s)) (sym second-left)
          (act_on_known-elements h.field (product F (named fs₁ us₁)) ts))

    pub parts-settled :
        {s₁ s₂ rs qs powers : List ℕ}
        → s₁ ≡ act_on_known F (product F (named fs₂ us₂)) ts
        → s₂ ≡ act_on_known F (product F (named fs₁ us₁)) ts
        → set_powers F (named fs₁ us₁) s₁ ≡ some rs
        → set_powers F (named fs₂ us₂) s₂ ≡ some qs
        → powers ≡ rs ++ qs
        → set_powers F (named fs us) ts ≡ some powers
    parts-settled {rs = rs} {qs = qs} a b first second e =
        ap (λ l. set_powers F l ts) h.parts.pairs
        ∙ set_powers-parts h.field (named fs₁ us₁) (named fs₂ us₂) nonempties₁ nonempties₂ ts exactly
        (ap (set_powers F (named fs₁ us₁)) (sym a) ∙ first)
        (ap (set_powers F (named fs₂ us₂)) (sym b) ∙ second)
        ∙ ap {B = Option (List ℕ)} some (sym e)

-- The ends of the recursion
pub none-settled :
    {F : Field} {fs : List Polynomial} {us ts powers : List ℕ}
    → IsField F
    → SetInput F fs us ts
    → length fs ≡ 0
    → length powers ≡ length fs
    → set_powers F (named fs us) ts ≡ some powers
none-settled {F} {fs} {us} {ts} {powers} I x e k =
    set_powers_from I (named fs us) ts powers (monics-nonempty F (named fs us) (input-monics x))
    (omega (arith, length-named fs us)) (λ i l. absurd (omega (arith, length-named fs us)))

pub alone_settled :
    {o : Option (List ℕ)} {r : ℕ} (powers : List ℕ)
    → o ≡ some (r ∷ [])
    → length powers ≡ 1
    → o ≡ some (set powers 0 r)
alone_settled {r = r} powers y e = y ∙ ap {B = Option (List ℕ)} some (only powers e)
  where
    only : (l : List ℕ) → length l ≡ 1 → r ∷ [] ≡ set l 0 r
    only [] e = absurd (omega arith)
    only (a ∷ []) e = refl
    only (a ∷ b ∷ l) e = absurd (omega arith)

-- rs in the first m places, and qs in those from m on
pub both-places :
    (rs qs xs : List ℕ) (m : ℕ)
    → length rs ≡ m
    → put_mid m (length (rs ++ drop m xs) - m) (rs ++ drop m xs) qs ≡ rs ++ qs
both-places rs qs xs m e =
    ap₂ (λ l r. l ++ (qs ++ r)) (take_at rs (drop m xs) m e)
    (ap (drop (length (rs ++ drop m xs) - m)) (drop_at rs (drop m xs) m e)
    ∙ drop_of_length-le (drop m xs) {i = length (rs ++ drop m xs) - m}
    (omega (arith, length-append rs (drop m xs))))
    ∙ ap (◌++◌ rs) (append-nil qs)

pub rest-length :
    (rs xs : List ℕ) (m : ℕ)
    → length rs ≡ m
    → length (take (length (rs ++ drop m xs) - m) (drop m (rs ++ drop m xs))) ≡ length xs - m
rest-length rs xs m e =
    omega (
      arith,
      length-take (length (rs ++ drop m xs) - m) (drop m (rs ++ drop m xs)),
      length-drop m (rs ++ drop m xs),
      length-append rs (drop m xs),
      length-drop m xs,
    )

-- all places, and zeros after them
drop-zeros : (k m : ℕ) → drop k (replicate m 0) ≡ replicate {A = ℕ} (m - k) 0
drop-zeros zero m = ap (λ n. replicate n 0) (sym (ℕ.sub-zero m))
drop-zeros (suc k) zero = let e : 0 ≡ 0 - suc k = omega arith in ap (λ n. replicate n 0) e
drop-zeros (suc k) (suc m) =
    let e : m - k ≡ suc m - suc k = omega arith in drop-zeros k m ∙ ap (λ n. replicate n 0) e

pub settled-searched :
    {o : Option (List ℕ)} {rs : List ℕ} {n : ℕ}
    → o ≡ some rs
    → length rs ≡ n
    → map_option padded o ≡ some (rs ++ drop n (replicate 8 0))
unfolding padded
settled-searched {rs = rs} {n = n} y e =
    map_option-some padded y
    ∙ ap {B = Option (List ℕ)} some
    (ap (◌++◌ rs) (ap (λ m. replicate (8 - m) 0) e ∙ sym (drop-zeros n 8)))

-- the halves are given back
pub halves-kept : (w h : List ℕ) → length h ≡ 8192 → 8192 ≤ length w → Kept w (h ++ drop 8192 w)
halves-kept w h e l =
    record {
      beyond = drop_at h (drop 8192 w) 8192 e;
      size = length-append h (drop 8192 w) ∙ omega (arith, length-drop 8192 w);
    }
