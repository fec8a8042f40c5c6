-- Lists that are written one after another into flat bytes.
--
--   flatten_short    == lists of at most n numbers each
--   flatten_part     == a list and those before it are no longer than all
--   Packing gs to i at ns w == the first i of the lists gs stand in the bytes w, as many as `to`, from the
--                       front on, `at` bytes in all, and the first i of the nine numbers ns are their lengths
--   packing_start, packing_next, packed == so it is at the start, with one list more, and with all lists
-- Assumes nothing.
use Prim.Native.Nat.{ℕ, zero, suc, ◌+◌, ◌*◌, ◌≤◌, ◌<◌}
use mathlib.Core.Path.{◌≡◌, refl, sym, ap, ◌∙◌}
use mathlib.Core.List.{List, [], ◌∷◌, ◌++◌, map, flatten, append_assoc, append-nil, map-append}
use native.Mathlib.Nat.{mul-suc}
use native.Mathlib.Numerals.{add-one}
use native.Mathlib.Omega.{arith}
use lib.ListN.{length, get_or, take, drop, set, length-append, length-set, take-append-drop}
use lib.Seq.{take_all, take-suc, take-suc-set, take-append_seam, drop-append_seam}
use Rattle.meaning.specs.FlatBytes.{split}

flatten_append : (l m : List (List ℕ)) → flatten (l ++ m) ≡ flatten l ++ flatten m
unfolding flatten
flatten_append [] m = refl
flatten_append (a ∷ l) m =
    ap (λ r. a ++ r) (flatten_append l m) ∙ sym (append_assoc a (flatten l) (flatten m))

pub flatten_part : (l : List (List ℕ)) (i : ℕ) → i < length l
    → length (flatten (take i l)) + length (get_or l i []) ≤ length (flatten l)
unfolding flatten
flatten_part [] i h = absurd (omega arith)
flatten_part (a ∷ l) zero h = omega (arith, length-append a (flatten l))
flatten_part (a ∷ l) (suc i) h =
    let k : i < length l = omega arith in
    omega (arith, length-append a (flatten l), length-append a (flatten (take i l)), flatten_part l i k)

pub flatten_short : (l : List (List ℕ)) (n : ℕ) → ((i : ℕ) → i < length l → length (get_or l i []) ≤ n)
    → length (flatten l) ≤ n * length l
unfolding flatten
flatten_short [] n h = omega arith
flatten_short (a ∷ l) n h =
    omega (
      arith,
      length-append a (flatten l),
      h 0 (omega arith),
      flatten_short l n (λ i k. h (suc i) (omega arith)),
      mul-suc n (length l),
    )

flatten_suc : (l : List (List ℕ)) (i : ℕ) → i < length l
    → flatten (take (suc i) l) ≡ flatten (take i l) ++ get_or l i []
unfolding flatten
flatten_suc l i h =
    ap flatten (take-suc l i [] h)
    ∙ flatten_append (take i l) (get_or l i [] ∷ [])
    ∙ ap (λ r. flatten (take i l) ++ r) (append-nil (get_or l i []))

split_flatten : (gs : List (List ℕ)) (rest : List ℕ) → split (flatten gs ++ rest) (map length gs) ≡ gs
unfolding split flatten
split_flatten [] rest = refl
split_flatten (g ∷ gs) rest =
    let e = append_assoc g (flatten gs) rest in
    rw (e, take-append_seam g (flatten gs ++ rest), drop-append_seam g (flatten gs ++ rest))
    (ap (λ (l : List (List ℕ)). g ∷ l) (split_flatten gs rest))

pub record Packing (gs : List (List ℕ)) (to : List ℕ) (i at : ℕ) (ns w : List ℕ) : Type 0 where
  pub within : i ≤ length gs
  pub nine : length ns ≡ 9
  pub size : length w ≡ length to
  pub lengths : take i ns ≡ map length (take i gs)
  pub bytes : take at w ≡ flatten (take i gs)
  pub place : at ≡ length (flatten (take i gs))

pub packing_start : (gs : List (List ℕ)) (to : List ℕ) {ns : List ℕ} → length ns ≡ 9 → Packing gs to 0 0 ns to
unfolding flatten
packing_start gs to n =
    record { within = omega arith; nine = n; size = refl; lengths = refl; bytes = refl; place = refl }

module _ {gs : List (List ℕ)} {to ns w : List ℕ} {i at : ℕ} (x : Packing gs to i at ns w)
    (h : i < length gs) where
  pub packing_room : length (flatten gs) ≤ length to → at + length (get_or gs i []) ≤ length w
  packing_room fits = omega (arith, x.place, x.size, flatten_part gs i h)

  -- list i, of n bytes, is written after those before it
  pub packing_next :
      {n : ℕ} {w' : List ℕ}
      → length gs ≤ 9
      → n ≡ length (get_or gs i [])
      → length w' ≡ length w
      → take (at + n) w' ≡ take at w ++ get_or gs i []
      → Packing gs to (i + 1) (at + n) (set ns i n) w'
  packing_next {n} few e size written =
      rw add-one
      (record {
        within = h;
        nine = length-set ns i n ∙ x.nine;
        size = size ∙ x.size;
        lengths =
            take-suc-set ns i n (omega (arith, x.nine))
            ∙ ap (λ l. l ++ (n ∷ [])) x.lengths
            ∙ ap (λ k. map length (take i gs) ++ (k ∷ [])) e
            ∙ sym (map-append length (take i gs) (get_or gs i [] ∷ []))
            ∙ ap (map length) (sym (take-suc gs i [] h));
        bytes = written ∙ ap (λ l. l ++ get_or gs i []) x.bytes ∙ sym (flatten_suc gs i h);
        place =
            omega (
              arith,
              x.place,
              ap length (flatten_suc gs i h),
              length-append (flatten (take i gs)) (get_or gs i []),
            );
      })

pub packed :
    {gs : List (List ℕ)} {to ns w : List ℕ} {i at n : ℕ}
    → Packing gs to i at ns w
    → n ≡ length gs
    → n ≤ i
    → split w (take n ns) ≡ gs
packed {gs} {to} {ns} {w} {i} {at} {n} x e h =
    let same : n ≡ i = omega (arith, x.within) in
    let all : take i gs ≡ gs = take_all i gs (omega arith) in
    ap (λ k. split w (take k ns)) same
    ∙ ap (split w) (x.lengths ∙ ap (map length) all)
    ∙ ap (λ l. split l (map length gs))
    (sym (take-append-drop at w) ∙ ap (λ l. l ++ drop at w) (x.bytes ∙ ap flatten all))
    ∙ split_flatten gs (drop at w)
