-- A file's factor by the bytes of its body: the degree stands first, the coefficients after the third byte.
-- Assumes nothing.
use Prim.Native.Nat.{ℕ, ◌+◌, ◌-◌, ◌≤◌}
use native.Mathlib.Nat.{add_comm, add-sub_cancel}
use native.Mathlib.Omega.{arith}
use mathlib.Core.Path.{◌≡◌, sym, ap, ◌∙◌}
use mathlib.Core.Bool.{Bool, true, false, not, ◌||◌, or-false}
use mathlib.Core.List.{List, [], ◌∷◌}
use lib.Dec.{ltb}
use lib.ListN.{length, get_or, take, drop, length-drop, drop_of_length-le}
use lib.Seq.{take_all, take-nil, drop-drop}
use Rattle.meaning.specs.Field.{Field, are_elements}
use Rattle.meaning.specs.Conditions.{term_out_of_field}
use Rattle.meaning.specs.File.{file_factor, file_degree_out_of_range, file_coefficient_out_of_range}
use Rattle.refusals.specs.conditions.lists.Lists.{largest}
use Rattle.refusals.proofs.conditions.numbers.Tests.{degree-tests}
use Rattle.refusals.proofs.conditions.lists.Coefficients.{empty-terms_pass}
use Rattle.refusals.proofs.conditions.lists.Maximum.{zeros-largest}

pub file-degree-empty : (F : Field) (body : List ℕ) → length body ≡ 0
    → true ≡ file_degree_out_of_range F (file_factor body)
unfolding file_degree_out_of_range file_factor
file-degree-empty F [] h = sym (degree-tests F 0)
file-degree-empty F (b ∷ body) h = absurd (omega arith)

-- The coefficients of a body below its degree and from its degree on; `end` is the place between them.
abbrev end : List ℕ → ℕ
end body = get_or body 0 0 + 3

lower : List ℕ → List ℕ
lower body = take (get_or body 0 0) (drop 3 body)

upper : List ℕ → List ℕ
upper body = drop (get_or body 0 0) (drop 3 body)

-- The same as parts of the body.
abbrev lower_part : List ℕ → List ℕ
lower_part body = take (end body - 3) (drop 3 body)

abbrev upper_part : List ℕ → List ℕ
upper_part body = take (length body - end body) (drop (end body) body)

abbrev all_part : List ℕ → List ℕ
all_part body = take (length body - 3) (drop 3 body)

lower-part : (body : List ℕ) → lower body ≡ lower_part body
unfolding lower
lower-part body = rw (add-sub_cancel (get_or body 0 0) 3)

upper-part : (body : List ℕ) → upper body ≡ upper_part body
unfolding upper
upper-part body =
    drop-drop (get_or body 0 0) 3 body
    ∙ ap (λ (n : ℕ). drop n body) (add_comm 3 (get_or body 0 0))
    ∙ sym (take_all (length body - end body) (drop (end body) body) (simp length-drop (omega arith)))

all-part : (body : List ℕ) → all_part body ≡ drop 3 body
all-part body = take_all (length body - 3) (drop 3 body) (simp length-drop (omega arith))

module _ (F : Field) (body : List ℕ) where
  tests : file_coefficient_out_of_range F (file_factor body)
      ≡ term_out_of_field F (lower body) || ltb 0 (largest (upper body))
  unfolding file_coefficient_out_of_range file_factor term_out_of_field lower upper
  tests = ap (λ (x : Bool). not (are_elements F (lower body)) || x) (sym (zeros-largest (upper body)))

  -- a coefficient below the degree is no element of the field
  pub file_foreign : term_out_of_field F (lower_part body) ≡ true
      → true ≡ file_coefficient_out_of_range F (file_factor body)
  file_foreign h = sym (tests ∙ rw (lower-part, h))

  -- a coefficient from the degree on is not 0
  pub file-upper : term_out_of_field F (lower_part body) ≡ false
      → ltb 0 (largest (upper_part body)) ≡ file_coefficient_out_of_range F (file_factor body)
  file-upper h = sym (tests ∙ rw (lower-part, h, upper-part))

  -- the coefficients end at the degree or before it
  pub file-without-upper : length body ≤ end body
      → term_out_of_field F (all_part body) ≡ file_coefficient_out_of_range F (file_factor body)
  unfolding lower upper largest
  file-without-upper h =
      let no-upper : upper body ≡ [] =
      drop_of_length-le (drop 3 body) {i = get_or body 0 0} (simp length-drop (omega arith)) in
      let all-lower : lower body ≡ drop 3 body =
      take_all (get_or body 0 0) (drop 3 body) (simp length-drop (omega arith)) in
      ap (term_out_of_field F) (all-part body)
      ∙ sym (tests ∙ rw (all-lower, no-upper) (or-false (term_out_of_field F (drop 3 body))))

  -- there are no coefficients
  pub file-without-coefficients : length body ≤ 3 → false ≡ file_coefficient_out_of_range F (file_factor body)
  file-without-coefficients h =
      empty-terms_pass F (all_part body) (rw (drop_of_length-le body {i = 3} h, take-nil))
      ∙ file-without-upper (omega arith)
