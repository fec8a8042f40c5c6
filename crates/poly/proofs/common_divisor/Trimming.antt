-- What is left of a lent part without the zeros at its end.
--
--   trimmed-…         == what is left of a part ys from the front of lent bytes: how long it is, that it
--                       can be lent, its coefficients and the last of them
--
-- Assumes nothing.
use Prim.Native.Nat.{ℕ, ◌-◌, ◌≤◌}
use mathlib.Core.Path.{◌≡◌, sym, ap, ◌∙◌}
use mathlib.Core.Logic.{◌≢◌}
use mathlib.Core.List.{List, ◌++◌}
use native.Mathlib.Nat.{sub-zero}
use native.Mathlib.Decide.{dec_lt}
use native.Mathlib.Omega.{arith}
use lib.ListN.{length, get_or, take, length-append, get_or-eq_default}
use lib.Seq.{get_or-take, length-take-le, take-append-le}
use Rattle.meaning.specs.Polynomial.{degree, leading}
use Rattle.bridge.proofs.Lists.Polynomials.{length-degree, leading-get_or}
use Rattle.lent.proofs.Parts.{lent_back}
use Rattle.poly.specs.common_divisor.Common.{Trimmed}

module _ (ys t : List ℕ) {d n : ℕ} (e : length ys ≡ d) (u : Trimmed (take (d - 0) (ys ++ t)) n) where
  lent-front : take (d - 0) (ys ++ t) ≡ ys
  lent-front = lent_back ys t e

  pub trimmed_within : n ≤ d
  trimmed_within = omega (arith, u.within, ap length lent-front)

  pub trimmed_room : n ≤ length (ys ++ t)
  trimmed_room = omega (arith, trimmed_within, length-append ys t)

  abbrev short : List ℕ
  short = take (n - 0) (ys ++ t)

  pub trimmed_part : short ≡ take n ys
  trimmed_part =
      ap (λ k. take k (ys ++ t)) (sub-zero n) ∙ take-append-le n ys t (omega (arith, trimmed_within))

  pub trimmed_size : length short ≡ n
  trimmed_size = ap length trimmed_part ∙ length-take-le n ys (omega (arith, trimmed_within))

  pub trimmed_zeros : (i : ℕ) → n ≤ i → get_or ys i 0 ≡ 0
  trimmed_zeros i l = ap (λ g. get_or g i 0) (sym lent-front) ∙ u.zeros i l

  pub trimmed_places : (i : ℕ) → get_or short i 0 ≡ get_or ys i 0
  trimmed_places i = elim (dec_lt i n) [
    | yes l ↦ ap (λ g. get_or g i 0) trimmed_part ∙ get_or-take n ys i 0 l
    | no l ↦
        get_or-eq_default short 0 (omega (arith, trimmed_size)) ∙ sym (trimmed_zeros i (omega arith))
  ]

  pub trimmed_leading : n ≢ 0 → leading short ≢ 0
  trimmed_leading h z =
      let top : degree short ≡ n - 1 = length-degree short (trimmed_size ∙ omega arith) in
      u.last (omega arith)
      (ap (λ g. get_or g (n - 1) 0) lent-front
      ∙ sym (trimmed_places (n - 1))
      ∙ ap (λ i. get_or short i 0) (sym top)
      ∙ sym (leading-get_or short)
      ∙ z)
