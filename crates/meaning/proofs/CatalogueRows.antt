-- Computed rows: polynomials by their numbers, and the search of the catalogue, for small periods.
--
--   CatalogueRows == the table: a field for each row      catalogue-rows == every row holds
--   first-is-x    == the catalogue begins with x
--   zero-entry    == a period of zeros gives the entry x and the power 0
-- 19 is not among the rows: the whole catalogue would have to be tried by the plain definition.
-- Assumes nothing.
use Prim.Native.Nat.{ℕ, ◌≤◌}
use mathlib.Core.Path.{◌≡◌, refl, ap, ◌∙◌}
use mathlib.Core.Bool.{Bool, true, false, not}
use mathlib.Core.List.{[], ◌∷◌, ◌++◌}
use mathlib.Core.Option.{some}
use borrow.Author.Tests.{le-ltb}
use lib.ListN.{replicate}
use Rattle.meaning.specs.Search.{range, first_that, selected, bind, map_option, is_none}
use Rattle.meaning.specs.Field.{prime}
use Rattle.meaning.specs.Polynomial.{irreducible}
use Rattle.meaning.specs.Result.{Result, refused, answered, value_of, work_after}
use Rattle.meaning.specs.Conditions.{lent_too_short}
use Rattle.meaning.specs.FieldNames.{named_field, not_field}
use Rattle.meaning.specs.Catalogue.{EntryFigures, entry_polynomial, catalogue, entry_power, entry_figures}
use Rattle.meaning.specs.Catalogue.{first_entry, entry_table, find_entry}
use Rattle.meaning.proofs.Computed.{GF, computed}
use Rattle.meaning.proofs.Tables.{settle-none, first_that_here, selected_here}
use Rattle.meaning.proofs.Passes.{◌&◌, nothing}
use Rattle.meaning.proofs.ZeroPeriod.{zeros, power_zero, count-passes, terms_pass}

abbrev found : ℕ → ℕ → Result EntryFigures
found n r = answered (record { entry = n; power = r })

pub record CatalogueRows : Type 0 where
  pub x : entry_polynomial 2 ≡ 0 ∷ 1 ∷ []
  pub quartic : entry_polynomial 19 ≡ 1 ∷ 1 ∷ 0 ∷ 0 ∷ 1 ∷ []
  pub last : entry_polynomial 2047 ≡ replicate 11 1
  -- 00, 0001, 011, 0010111
  pub zero_period : find_entry (0 ∷ 0 ∷ []) 8192 ≡ found 2 0
  pub fourth_power : find_entry (0 ∷ 0 ∷ 0 ∷ 1 ∷ []) 8192 ≡ found 3 4
  pub quadratic : find_entry (0 ∷ 1 ∷ 1 ∷ []) 8192 ≡ found 7 1
  pub cubic : find_entry (0 ∷ 0 ∷ 1 ∷ 0 ∷ 1 ∷ 1 ∷ 1 ∷ []) 8192 ≡ found 11 1
  -- 7, 8, 16, and their order
  pub no_terms : find_entry [] 8192 ≡ refused 7
  pub many_terms : find_entry (replicate 4097 2) 8191 ≡ refused 7
  pub not_binary : find_entry (0 ∷ 2 ∷ []) 8191 ≡ refused 8
  pub work_short : find_entry (0 ∷ 1 ∷ []) 8191 ≡ refused 16
  -- the work bytes: as they were after 16, cleared after an answer and after 19
  pub work_kept : work_after (find_entry (1 ∷ []) 2) (5 ∷ 6 ∷ []) ≡ 5 ∷ 6 ∷ []
  pub work_found : work_after (find_entry (1 ∷ []) 8193) (replicate 8193 9) ≡ replicate 8192 0 ++ (9 ∷ [])
  pub work_no_entry : work_after {A = EntryFigures} (refused 19) (replicate 8193 9)
      ≡ replicate 8192 0 ++ (9 ∷ [])

pub catalogue-rows : CatalogueRows
unfolding computed
catalogue-rows =
    record {
      x = refl;
      quartic = refl;
      last = refl;
      zero_period = refl;
      fourth_power = refl;
      quadratic = refl;
      cubic = refl;
      no_terms = refl;
      many_terms = refl;
      not_binary = refl;
      work_short = refl;
      work_kept = refl;
      work_found = refl;
      work_no_entry = refl;
    }

-- The zero sequence, of every length
abbrev listed : ℕ → Bool
listed n = irreducible (prime 2) (entry_polynomial n)

x-listed : listed 2 ≡ true
unfolding computed
x-listed = refl

range-two : range 2 2046 ≡ 2 ∷ range 3 2045
unfolding range
range-two = refl

pub first-is-x : catalogue ≡ 2 ∷ selected listed (range 3 2045)
unfolding catalogue
first-is-x = ap (selected listed) range-two ∙ selected_here listed 2 (range 3 2045) x-listed

two-field : not_field (GF 2) ≡ false
unfolding computed
two-field = refl

zero-first : (n : ℕ) → first_entry (zeros n) ≡ some (record { entry = 2; power = 0 })
unfolding named_field first_entry entry_figures entry_power bind map_option is_none
zero-first n =
    let none-zero = power_zero (GF 2) (entry_polynomial 2) n two-field in
    ap (λ l. bind (first_that (λ k. not (is_none (entry_power (zeros n) k))) l) (entry_figures (zeros n)))
    first-is-x
    ∙ ap (λ o. bind o (entry_figures (zeros n))) (first_that_here _ 2 _ (ap (λ o. not (is_none o)) none-zero))
    ∙ ap (map_option (λ r. record { entry = 2; power = r })) none-zero

pub zero-entry : (n work : ℕ) → 1 ≤ n → n ≤ 4096 → 8192 ≤ work → find_entry (zeros n) work ≡ found 2 0
unfolding named_field find_entry entry_table is_none value_of lent_too_short
zero-entry n work l m h =
    settle-none _ _
    (count-passes n l m
    & terms_pass (GF 2) n two-field
    & le-ltb work 8192 h
    & ap is_none (zero-first n)
    & nothing).none_holds
    ∙ ap value_of (zero-first n)
