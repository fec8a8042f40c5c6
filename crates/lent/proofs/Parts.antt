-- Parts of lent bytes.
--
--   put_paste         == a lent part that comes back is pasted in its place
--   lent_length       == a part that is lent
--   lent_back, copied-back == a part from the front that was lent and came back; a list that was copied into
--                        zeros, as it is lent
--   zeros-length, zeros-lent == zeros that are lent from the front
--   copied            == a list that is copied over one that is no longer
--   cleared-part      == the work bytes after their first 8,192 were lent on and came back as zeros
--
-- Assumes nothing.
use Prim.Native.Nat.{ℕ, zero, suc, ◌+◌, ◌-◌, ◌≤◌}
use mathlib.Core.Path.{◌≡◌, refl, sym, ap, ◌∙◌}
use mathlib.Core.List.{List, ◌∷◌, ◌++◌, append_assoc, append-nil}
use native.Mathlib.Nat.{sub-zero, add-sub_cancel_left, not-suc-le-zero, le_of_suc-le-suc}
use native.Mathlib.Omega.{arith}
use lib.ListN.{length, take, drop, replicate, length-take, length-replicate}
use lib.ListN.{drop_of_length-le}
use lib.Seq.{paste, take_all, take_at, drop-drop, length-take-le}
use borrow.Rule.Slice.PartMut.{put_mid}
use Rattle.meaning.specs.Result.{cleared}
use Rattle.arith.proofs.Slices.{length_part}

pub put_paste :
    (l : List ℕ) (x n : ℕ) (y : List ℕ) → length y ≡ n → put_mid x (x + n - x) l y ≡ paste l x y n
put_paste l x n y e =
    ap (λ t. take x l ++ (y ++ t)) (ap (λ k. drop k (drop x l)) (add-sub_cancel_left x n) ∙ drop-drop n x l)
    ∙ sym (append_assoc (take x l) y (drop (x + n) l))
    ∙ ap (λ t. take x l ++ t ++ drop (x + n) l) (sym (take_all n y (omega arith)))

-- a part as it is lent
pub lent_length : (l : List ℕ) (x n : ℕ) → x + n ≤ length l → length (take (x + n - x) (drop x l)) ≡ n
lent_length l x n h = ap (λ k. length (take k (drop x l))) (add-sub_cancel_left x n) ∙ length_part l x n h

-- a part from the front that came back
pub lent_back : (ys t : List ℕ) {d : ℕ} → length ys ≡ d → take (d - 0) (ys ++ t) ≡ ys
lent_back ys t {d} e = take_at ys t (d - 0) (e ∙ omega arith)

pub copied-back :
    (f : List ℕ) (n : ℕ) {d : ℕ}
    → length f ≡ d
    → take (d - 0) (f ++ drop (length f) (replicate n 0)) ≡ f
copied-back f n {d} e = lent_back f (drop (length f) (replicate n 0)) e

-- Zeros
zeros-part : (m n : ℕ) → m ≤ n → ◌≡◌ {A = List ℕ} (take m (replicate n 0)) (replicate m 0)
zeros-part zero n h = refl
zeros-part (suc m) zero h = absurd (not-suc-le-zero h)
zeros-part (suc m) (suc n) h = ap (◌∷◌ 0) (zeros-part m n (le_of_suc-le-suc h))

module _ (m n : ℕ) (h : m ≤ n) where
  pub zeros-length : length {A = ℕ} (take (m - 0) (replicate n 0)) ≡ m
  zeros-length = omega (arith, length-take {A = ℕ} (m - 0) (replicate n 0), length-replicate {A = ℕ} n 0)

  pub zeros-lent :
      ◌≡◌ {A = List ℕ} (take (m - 0) (replicate n 0))
      (replicate (length {A = ℕ} (take (m - 0) (replicate n 0))) 0)
  zeros-lent =
      zeros-part (m - 0) n (omega arith) ∙ ap (λ k. replicate k 0) (sub-zero m ∙ sym zeros-length)

-- A list that is copied over another
pub copied : (l t : List ℕ) → length l ≤ length t → t ++ drop (length t) l ≡ t
copied l t h = ap (◌++◌ t) (drop_of_length-le l h) ∙ append-nil t

pub cleared-part : {ys : List ℕ} (w : List ℕ)
    → 8192 ≤ length w
    → ys ≡ replicate (length (take 8192 w)) 0
    → ys ++ drop 8192 w ≡ cleared w
unfolding cleared
cleared-part w l e =
    ap (λ y. y ++ drop 8192 w) (e ∙ ap (λ (n : ℕ). replicate {A = ℕ} n 0) (length-take-le 8192 w l))
