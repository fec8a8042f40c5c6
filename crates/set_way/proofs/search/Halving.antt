-- A set in two parts: what the second part leaves of the terms is for the first, and the other way round.
--
--   set_powers_from    == the powers of a set are the least powers of its factors
--   set_powers-parts   == the powers of the first part by what the second leaves, then those of the second by
--                        what the first leaves, are the powers of the set
--
-- Assumes nothing.
use Prim.Native.Nat.{ℕ, zero, suc, ◌+◌, ◌-◌, ◌<◌}
use mathlib.Core.Path.{◌≡◌, refl, sym, ap, subst, ◌∙◌}
use mathlib.Core.List.{List, [], ◌∷◌, ◌++◌}
use mathlib.Core.Option.{Option, some, some-injective}
use native.Mathlib.Nat as ℕ
use native.Mathlib.Decide.{dec_lt}
use native.Mathlib.Omega.{arith}
use lib.ListN.{length, get_or, take, length-append, get_or-append}
use lib.Seq.{take_all, ext_get_or, get_or-append-add}
use Rattle.meaning.specs.Search.{least}
use Rattle.meaning.specs.Field.{Field}
use Rattle.meaning.specs.Polynomial.{Polynomial, power, product}
use Rattle.meaning.specs.Sequence.{act_on_known, annihilates_known}
use Rattle.meaning.specs.Conditions.{total_degree}
use Rattle.meaning.specs.Portion.{with_power, least_at, set_powers}
use Rattle.bridge.proofs.Basics.Interpretation.{IsField}
use Rattle.bridge.proofs.Sequences.KnownActions.{act_on_known-times, length-act_on_known}
use Rattle.bridge.proofs.Lists.Products.{factor_at, Nonempties, product-append, product-nonempty}
use Rattle.bridge.proofs.Lists.Products.{degree-product, times_comm, with_power-nonempties}
use Rattle.bridge.proofs.Ways.Portions.{portion_at, least_at-portion, set_powers_exists, set_powers-places}

-- Two parts of a list of pairs
pub total-append :
    (l m : List (Polynomial × ℕ)) → total_degree (l ++ m) ≡ total_degree l + total_degree m
unfolding total_degree
total-append [] m = omega arith
total-append (f ∷ l) m = omega (arith, total-append l m)

pub with_power-front :
    (i r : ℕ) (l m : List (Polynomial × ℕ)) → i < length l → with_power i r (l ++ m) ≡ with_power i r l ++ m
unfolding with_power
with_power-front i r [] m k = absurd (omega arith)
with_power-front zero r (f ∷ l) m k = refl
with_power-front (suc i) r (f ∷ l) m k = ap (◌∷◌ f) (with_power-front i r l m (omega arith))

pub with_power-back :
    (i r : ℕ) (l m : List (Polynomial × ℕ)) → with_power (length l + i) r (l ++ m) ≡ l ++ with_power i r m
unfolding with_power
with_power-back i r [] m = ap (λ n. with_power n r m) (ℕ.zero-add i)
with_power-back i r (f ∷ l) m =
    ap (λ n. with_power n r (f ∷ (l ++ m))) (ℕ.suc-add (length l) i) ∙ ap (◌∷◌ f) (with_power-back i r l m)

nonempties-append :
    (l m : List (Polynomial × ℕ)) → Nonempties l → Nonempties m → Nonempties (l ++ m)
nonempties-append l m h k i b = elim (dec_lt i (length l)) [
  | yes c ↦ subst (λ f. 0 < length f.0) (sym (get_or-append l m ([], 0) i c)) (h i c)
  | no c ↦
      let e : length l + (i - length l) ≡ i = omega arith in
      subst (λ n. 0 < length (factor_at (l ++ m) n)) e
      (subst (λ f. 0 < length f.0) (sym (get_or-append-add l m (i - length l) ([], 0)))
      (k (i - length l) (omega (arith, length-append l m))))
]

module _ {F : Field} (I : IsField F) where
  -- powers that are the least ones
  pub set_powers_from :
      (l : List (Polynomial × ℕ)) (ts rs : List ℕ)
      → Nonempties l
      → length rs ≡ length l
      → ((i : ℕ) → i < length l → least_at F l ts i ≡ some (get_or rs i 0))
      → set_powers F l ts ≡ some rs
  set_powers_from l ts rs h n found =
      let (qs, e) = set_powers_exists I l h ts in
      let (size, places) = set_powers-places I l h ts e in
      e
      ∙ ap {B = Option (List ℕ)} some
      (ext_get_or 0 qs rs (size ∙ sym n)
      (λ i k.
      some-injective (get_or qs i 0) (get_or rs i 0)
      (sym (places i (omega (arith, size))) ∙ found i (omega (arith, size)))))

  module _
      (l m : List (Polynomial × ℕ)) (h : Nonempties l) (k : Nonempties m) (ts : List ℕ)
      (exact : length ts ≡ total_degree (l ++ m))
    where
      abbrev for_first : List ℕ
      for_first = act_on_known F (product F m) ts

      abbrev for_second : List ℕ
      for_second = act_on_known F (product F l) ts

      pub first_exact : length (act_on_known F (product F m) ts) ≡ total_degree l
      first_exact =
          length-act_on_known F (product F m) ts ∙ omega (arith, total-append l m, degree-product I m k)

      pub second_exact : length (act_on_known F (product F l) ts) ≡ total_degree m
      second_exact =
          length-act_on_known F (product F l) ts ∙ omega (arith, total-append l m, degree-product I l h)

      whole : take (total_degree (l ++ m)) ts ≡ ts
      whole = take_all (total_degree (l ++ m)) ts (omega arith)

      first-portion : (i : ℕ) → i < length l → portion_at F (l ++ m) ts i ≡ portion_at F l for_first i
      first-portion i c =
          ap (act_on_known F (product F (with_power i 0 (l ++ m)))) whole
          ∙ ap (λ g. act_on_known F (product F g) ts) (with_power-front i 0 l m c)
          ∙ ap (λ g. act_on_known F g ts) (product-append I (with_power i 0 l) m others k)
          ∙ act_on_known-times I (product F (with_power i 0 l)) (product F m) ts
          (product-nonempty I (with_power i 0 l) others) (product-nonempty I m k)
          ∙ ap (act_on_known F (product F (with_power i 0 l)))
          (sym (take_all (total_degree l) for_first (omega (arith, first_exact))))
        where
          others : Nonempties (with_power i 0 l)
          others = with_power-nonempties i 0 l h

      second-portion :
          (i : ℕ) → i < length m → portion_at F (l ++ m) ts (length l + i) ≡ portion_at F m for_second i
      second-portion i c =
          ap (act_on_known F (product F (with_power (length l + i) 0 (l ++ m)))) whole
          ∙ ap (λ g. act_on_known F (product F g) ts) (with_power-back i 0 l m)
          ∙ ap (λ g. act_on_known F g ts)
          (product-append I l (with_power i 0 m) h others
          ∙ times_comm I (product F l) (product F (with_power i 0 m)) front back)
          ∙ act_on_known-times I (product F (with_power i 0 m)) (product F l) ts back front
          ∙ ap (act_on_known F (product F (with_power i 0 m)))
          (sym (take_all (total_degree m) for_second (omega (arith, second_exact))))
        where
          others : Nonempties (with_power i 0 m)
          others = with_power-nonempties i 0 m k

          front : 0 < length (product F l)
          front = product-nonempty I l h

          back : 0 < length (product F (with_power i 0 m))
          back = product-nonempty I (with_power i 0 m) others

      abbrev search : Polynomial × ℕ → List ℕ → Option ℕ
      search f s = least f.1 (λ r. annihilates_known F (power F f.0 r) s)

      both : Nonempties (l ++ m)
      both = nonempties-append l m h k

      first-least : (i : ℕ) → i < length l → least_at F (l ++ m) ts i ≡ least_at F l for_first i
      first-least i c =
          least_at-portion I (l ++ m) both ts i (omega (arith, length-append l m))
          ∙ ap (search (get_or (l ++ m) i ([], 0))) (first-portion i c)
          ∙ ap (λ f. search f (portion_at F l for_first i)) (get_or-append l m ([], 0) i c)
          ∙ sym (least_at-portion I l h for_first i c)

      second-least :
          (i : ℕ) → i < length m → least_at F (l ++ m) ts (length l + i) ≡ least_at F m for_second i
      second-least i c =
          least_at-portion I (l ++ m) both ts (length l + i) (omega (arith, length-append l m))
          ∙ ap (search (get_or (l ++ m) (length l + i) ([], 0))) (second-portion i c)
          ∙ ap (λ f. search f (portion_at F m for_second i)) (get_or-append-add l m i ([], 0))
          ∙ sym (least_at-portion I m k for_second i c)

      pub set_powers-parts :
          {rs qs : List ℕ}
          → set_powers F l (act_on_known F (product F m) ts) ≡ some rs
          → set_powers F m (act_on_known F (product F l) ts) ≡ some qs
          → set_powers F (l ++ m) ts ≡ some (rs ++ qs)
      set_powers-parts {rs} {qs} a b =
          let (n, first) = set_powers-places I l h for_first a in
          let (o, second) = set_powers-places I m k for_second b in
          set_powers_from (l ++ m) ts (rs ++ qs) both
          (length-append rs qs ∙ omega (arith, length-append l m))
          (λ i c. elim (dec_lt i (length l)) [
            | yes d ↦
                first-least i d
                ∙ first i d
                ∙ ap {B = Option ℕ} some (sym (get_or-append rs qs 0 i (omega arith)))
            | no d ↦
                let j = i - length l in
                let e : length l + j ≡ i = omega arith in
                let s : length rs + j ≡ i = omega arith in
                subst (λ n. least_at F (l ++ m) ts n ≡ some (get_or (rs ++ qs) i 0)) e
                (second-least j (omega (arith, length-append l m))
                ∙ second j (omega (arith, length-append l m))
                ∙ ap {B = Option ℕ} some
                (sym (get_or-append-add rs qs j 0) ∙ ap (λ n. get_or (rs ++ qs) n 0) s))
          ])
