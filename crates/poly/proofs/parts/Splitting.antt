-- Flat bytes part by part.
--
--   Parted b ns rs rest i == the first i of the slices rs hold the first parts of the bytes b, cut by the
--                     lengths ns, and the other parts are those of the rest
--   parted_start, parted_next, parted == so it is at the start and with one part more; with all parts rs hold
--                     them
--   split-take       == the first parts are those by the first lengths
--   parts_first      == the first n of the slices that hold the parts
-- Assumes nothing.
use Prim.Native.Nat.{ℕ, zero, suc, ◌+◌, ◌-◌, ◌≤◌, ◌<◌, min}
use mathlib.Core.Path.{◌≡◌, refl, sym, ap, ◌∙◌}
use mathlib.Core.List.{List, [], ◌∷◌, ◌++◌, map-append, append_assoc, append-nil}
use native.Mathlib.Nat as ℕ
use native.Mathlib.Numerals.{add-one}
use native.Mathlib.Omega.{arith}
use lib.ListN.{length, get_or, take, drop, set, length-set, drop_of_length-le}
use lib.Seq.{drop-cons, take_all}
use denote.Ref.{Bor}
use Rattle.std.proofs.lemmas.List.{take_min, drop_min, take_more_set}
use Rattle.meaning.specs.Slices.{lists_of}
use Rattle.meaning.specs.FlatBytes.{split}

pub record Parted (b ns : List ℕ) (rs : List (Bor (List ℕ))) (rest : List ℕ) (i : ℕ) : Type 0 where
  pub size : length rs ≡ length ns
  pub whole : lists_of (take i rs) ++ split rest (drop i ns) ≡ split b ns

pub parted_start : (b ns : List ℕ) (rs : List (Bor (List ℕ))) → length rs ≡ length ns → Parted b ns rs b 0
unfolding lists_of
parted_start b ns rs n = record { size = n; whole = refl }

split_next : (rest ns : List ℕ) (i n : ℕ) → i < length ns → n ≡ min (get_or ns i 0) (length rest)
    → take n rest ∷ split (drop n rest) (drop (i + 1) ns) ≡ split rest (drop i ns)
unfolding split
split_next rest ns i n h e =
    rw (e, take_min (get_or ns i 0) rest, drop_min (get_or ns i 0) rest, add-one, drop-cons ns i 0 h)

module _ {b ns : List ℕ} {rs : List (Bor (List ℕ))} {rest : List ℕ} {i : ℕ} (x : Parted b ns rs rest i) where
  pub parted_next : {n : ℕ} {rest' : List ℕ} (r : Bor (List ℕ))
      → i < length ns
      → n ≡ min (get_or ns i 0) (length rest)
      → r.now ≡ take n rest
      → rest' ≡ drop n rest
      → Parted b ns (set rs i r) rest' (i + 1)
  unfolding lists_of
  parted_next {n} {rest'} r h e part after =
      record {
        size = length-set rs i r ∙ x.size;
        whole =
            ap (λ l. lists_of l ++ split rest' (drop (i + 1) ns))
            (take_more_set rs i r (omega (arith, x.size)))
            ∙ ap (λ l. l ++ split rest' (drop (i + 1) ns)) (map-append (λ y. y.now) (take i rs) (r ∷ []))
            ∙ append_assoc (lists_of (take i rs)) (r.now ∷ []) (split rest' (drop (i + 1) ns))
            ∙ ap (λ p. lists_of (take i rs) ++ (p ∷ split rest' (drop (i + 1) ns))) part
            ∙ ap (λ p. lists_of (take i rs) ++ (take n rest ∷ split p (drop (i + 1) ns))) after
            ∙ ap (λ l. lists_of (take i rs) ++ l) (split_next rest ns i n h e)
            ∙ x.whole;
      }

  pub parted : length ns ≤ i → lists_of rs ≡ split b ns
  unfolding split
  parted h =
      ap lists_of (sym (take_all i rs (omega (arith, x.size))))
      ∙ sym (append-nil (lists_of (take i rs)))
      ∙ ap (λ l. lists_of (take i rs) ++ split rest l) (sym (drop_of_length-le ns {i = i} h))
      ∙ x.whole

lists_take : (n : ℕ) (rs : List (Bor (List ℕ))) → lists_of (take n rs) ≡ take n (lists_of rs)
unfolding lists_of
lists_take zero rs = refl
lists_take (suc n) [] = refl
lists_take (suc n) (r ∷ rs) = ap (λ fs. r.now ∷ fs) (lists_take n rs)

pub split-take : (n : ℕ) (b ns : List ℕ) → split b (take n ns) ≡ take n (split b ns)
unfolding split
split-take zero b ns = refl
split-take (suc n) b [] = refl
split-take (suc n) b (m ∷ ns) = ap (λ l. take m b ∷ l) (split-take n (drop m b) ns)

pub parts_first :
    (b ns : List ℕ) (rs : List (Bor (List ℕ))) (n : ℕ)
    → lists_of rs ≡ split b ns
    → lists_of (take (n - 0) (drop 0 rs)) ≡ split b (take n ns)
parts_first b ns rs n e =
    lists_take (n - 0) rs
    ∙ ap (take (n - 0)) e
    ∙ ap (λ k. take k (split b ns)) (ℕ.sub-zero n)
    ∙ sym (split-take n b ns)
