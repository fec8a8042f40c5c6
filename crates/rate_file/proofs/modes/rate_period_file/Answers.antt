-- `modes::rate_period_file` meets its contract.
-- Assumes nothing.
use mathlib.Core.Path.{◌≡◌, refl, sym, ap, ◌∙◌}
use mathlib.Core.List.{List, []}
use native.Mathlib.Omega.{arith}
use Prim.Native.Nat.{ℕ, ◌≤◌}
use lib.ListN.{length, get_or, take, length-take}
use lib.Seq.{length-sets}
use Rattle.irreducible.proofs.Accepted.{accepted-short}
use Rattle.meaning.specs.Field.{Field}
use Rattle.meaning.specs.File.{file_factor, polynomial_of}
use Rattle.meaning.specs.Answers.{padded}
use Rattle.meaning.proofs.Replies.{handed_on}
use Rattle.route.specs.payload.Payload.{LaidFactor}
use Rattle.rate_file.specs.factors.Written.{bodies_in, polynomials_in}
use Rattle.rate_file.specs.modes.Checked.{CheckedFactor}
use Rattle.rate_file.proofs.factors.Places.{polynomial-at, front-factor}
use Rattle.rate_file.proofs.modes.Calls.{file_of_period, period-rated}
use Rattle.rate_file.proofs.modes.rate_period_file.Goals as goal

-- the first factor, as it was laid
module _ {F : Field} {file ts body to to' : List ℕ} {n : ℕ} (x : CheckedFactor F file ts)
    (is : body ≡ get_or (bodies_in file) 0 []) (l : LaidFactor body 0 to n to') (room : length to ≡ 33) where
  laid-length : n ≤ 33
  laid-length =
      let g = polynomial-at file 0 body is x.some [] in
      omega (arith, ap length g, accepted-short x.checked.accepted, l.count)

  laid_room : n ≤ length to'
  laid_room =
      let kept = ap length l.bytes ∙ length-sets to 0 (polynomial_of (file_factor body)) in
      omega (arith, laid-length, room, kept)

  first-factor : take n to' ≡ get_or (polynomials_in file) 0 []
  first-factor =
      let g = polynomial-at file 0 body is x.some [] in
      front-factor l (omega (arith, room, ap length g, accepted-short x.checked.accepted)) refl ∙ sym g

pub slice_bounds-factor-end : goal.slice_bounds-factor-end
slice_bounds-factor-end c = laid_room c.requires c.first_body.ensures c.lay_factor-n.ensures refl

pub slice_bounds-rate_checked-end : goal.slice_bounds-rate_checked-end
slice_bounds-rate_checked-end c =
    let h = laid_room c.requires c.first_body.ensures c.lay_factor-n.ensures refl in
    omega (arith, h, length-take c.lay_factor-n.result c.lay_factor-n.new.to)

pub rate_checked-requires : goal.rate_checked-requires
rate_checked-requires c =
    rw (first-factor c.requires c.first_body.ensures c.lay_factor-n.ensures refl) c.requires.checked

pub returns-in_err-power : goal.returns-in_err-power
returns-in_err-power c =
    let first = first-factor c.requires c.first_body.ensures c.lay_factor-n.ensures refl in
    period-rated (rw first at c.rate_checked.ensures)
    (handed_on c.from_residual.result c.from_residual.ensures ∙ sym (ap file_of_period c.in_err-power.was))

pub returns : goal.returns
unfolding padded
returns c =
    let first = first-factor c.requires c.first_body.ensures c.lay_factor-n.ensures refl in
    period-rated (rw first at c.rate_checked.ensures) (sym (ap file_of_period c.in_ok-power.was))
