-- What the contracts of the inner functions of the set call cite.
--
--   Checked F gs ts   == 7 to 10 let the terms and the factors gs pass, and these are monic
--   SetRatedAs result answer work r answer' work' == r tells the result of the call, and the lent bytes are
--                        left as it says
use Rattle.std.specs.Prelude.{ℕ, ◌≡◌, false, List, length}
use Rattle.meaning.specs.declared.SetRating.{SetRating}
use Rattle.meaning.specs.Search.{holds_for_some}
use Rattle.meaning.specs.Field.{Field}
use Rattle.meaning.specs.Polynomial.{Polynomial}
use Rattle.meaning.specs.Result.{Result, map_result, Rated, figures_of}
use Rattle.meaning.specs.Conditions.{count_out_of_range, term_out_of_field, factor_count_out_of_range}
use Rattle.meaning.specs.Conditions.{factor_degree_out_of_range, not_monic}
use Rattle.meaning.specs.Portion.{SetFigures}
use Rattle.meaning.specs.Answers.{told_set, set_figures_told, set_padded, set_places, Reply}
use Rattle.meaning.specs.Calls.{LentAfter}

pub record Checked (F : Field) (gs : List Polynomial) (ts : List ℕ) : Type 0 where
  pub count_in_range : count_out_of_range (length ts) ≡ false
  pub terms_in_field : term_out_of_field F ts ≡ false
  pub factor_count : factor_count_out_of_range (length gs) ≡ false
  pub degrees_in_range : holds_for_some (factor_degree_out_of_range F) gs ≡ false
  pub monic : holds_for_some (not_monic F) gs ≡ false

pub record SetRatedAs (result : Result (Rated SetFigures)) (answer work : List ℕ) (r : Reply SetRating)
    (answer' work' : List ℕ) : Type 0 where
  pub rating : told_set r ≡ map_result set_figures_told (figures_of result)
  pub powers : set_places r ≡ set_padded (figures_of result)
  pub lent : LentAfter result answer work answer' work'
