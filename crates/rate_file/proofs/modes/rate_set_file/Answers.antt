-- `modes::rate_set_file` meets its contract.
-- Assumes nothing.
use Prim.Native.Nat.{ℕ, ◌≤◌}
use native.Mathlib.Nat.{sub-zero}
use native.Mathlib.Omega.{arith}
use mathlib.Core.Path.{◌≡◌, sym, ap, ◌∙◌}
use mathlib.Core.List.{List, flatten}
use lib.ListN.{length, take, length-take, length-map}
use Rattle.std.specs.Borrow.{Bor}
use Rattle.meaning.specs.Field.{Field}
use Rattle.meaning.specs.File.{polynomial_of}
use Rattle.meaning.specs.Slices.{lists_of}
use Rattle.meaning.specs.FlatBytes.{split}
use Rattle.meaning.proofs.Replies.{handed_on}
use Rattle.poly.proofs.parts.Packing.{flatten_short}
use Rattle.poly.proofs.parts.Splitting.{parts_first}
use Rattle.rate_set.proofs.Powered.{checked_few, accepted-lengths}
use Rattle.rate_file.specs.factors.Written.{bodies_in, factors_in, polynomials_in}
use Rattle.rate_file.specs.modes.Checked.{CheckedFactors}
use Rattle.rate_file.proofs.factors.Places.{factors-count}
use Rattle.rate_file.proofs.modes.Calls.{file_of_set, set-rated}
use Rattle.rate_file.proofs.modes.rate_set_file.Goals as goal

-- the file has at most eight factors, which fit
module _ {F : Field} {file ts : List ℕ} (x : CheckedFactors F file ts) where
  few : length (factors_in file) ≤ 8
  few = omega (arith, checked_few x.checked, length-map (factors_in file) polynomial_of)

  fits : length (flatten (polynomials_in file)) ≤ 264
  fits =
      omega (
        arith,
        flatten_short (polynomials_in file) 33 (accepted-lengths x.checked),
        checked_few x.checked,
      )

-- the number of factors, as they were counted
counted : (file : List ℕ) {all : ℕ} → all ≡ length (bodies_in file) → all ≡ length (factors_in file)
counted file e = e ∙ sym (factors-count file)

pub pack_factors-lengths-requires : goal.pack_factors-lengths-requires
pack_factors-lengths-requires c = (few c.requires, fits c.requires)

pub gather_uppers-uppers-requires : goal.gather_uppers-uppers-requires
gather_uppers-uppers-requires c = few c.requires

-- a cut within a list has the length of the cut
cut-length : {A : Type 0} (n : ℕ) (l : List A) → n ≤ length l → n ≡ length (take n l)
cut-length n l h = omega (arith, h, length-take n l)

-- the factors that are handed on
module _ (file : List ℕ) {all : ℕ} (is : all ≡ length (bodies_in file)) where
  handed-factors : (to ns : List ℕ) (rs : List (Bor (List ℕ)))
      → split to (take (length (factors_in file)) ns) ≡ polynomials_in file
      → lists_of rs ≡ split to ns
      → lists_of (take all rs) ≡ polynomials_in file
  handed-factors to ns rs packed e =
      rw (counted file is)
      (ap (λ (k : ℕ). lists_of (take k rs)) (sym (sub-zero (length (factors_in file))))
      ∙ parts_first to ns rs (length (factors_in file)) e
      ∙ packed)

pub slice_bounds-factors-end : goal.slice_bounds-factors-end
slice_bounds-factors-end c =
    omega (arith, few c.requires, counted c.args.file.now c.count_of-all.ensures)

pub slice_bounds-set-end : goal.slice_bounds-set-end
slice_bounds-set-end c =
    cut-length c.count_of-all.result c.nine_parts-factors.result
    (omega (arith, few c.requires, counted c.args.file.now c.count_of-all.ensures))

pub slice_bounds-uppers-end : goal.slice_bounds-uppers-end
slice_bounds-uppers-end c =
    omega (arith, few c.requires, counted c.args.file.now c.count_of-all.ensures)

pub slice_bounds-set-end-2 : goal.slice_bounds-set-end-2
slice_bounds-set-end-2 c =
    cut-length c.count_of-all.result c.gather_uppers-uppers.result
    (omega (arith, few c.requires, counted c.args.file.now c.count_of-all.ensures))

pub rate_checked-requires : goal.rate_checked-requires
rate_checked-requires c =
    let f = handed-factors c.args.file.now c.count_of-all.ensures _ _ c.nine_parts-factors.result
    c.pack_factors-lengths.ensures
    c.nine_parts-factors.ensures in
    rw f c.requires.checked

pub returns-in_err-degree : goal.returns-in_err-degree
returns-in_err-degree c =
    let m = length c.args.terms.now in
    let f = handed-factors c.args.file.now c.count_of-all.ensures _ _ c.nine_parts-factors.result
    c.pack_factors-lengths.ensures
    c.nine_parts-factors.ensures in
    let u = counted c.args.file.now c.count_of-all.ensures in
    set-rated m (rw (f, u, c.gather_uppers-uppers.ensures) at c.rate_checked.ensures)
    (handed_on c.from_residual.result c.from_residual.ensures ∙ sym (ap (file_of_set m) c.in_err-degree.was))

pub returns : goal.returns
returns c =
    let m = length c.args.terms.now in
    let f = handed-factors c.args.file.now c.count_of-all.ensures _ _ c.nine_parts-factors.result
    c.pack_factors-lengths.ensures
    c.nine_parts-factors.ensures in
    let u = counted c.args.file.now c.count_of-all.ensures in
    set-rated m (rw (f, u, c.gather_uppers-uppers.ensures) at c.rate_checked.ensures)
    (sym (ap (file_of_set m) c.in_ok-degree.was))
