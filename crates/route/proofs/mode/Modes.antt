-- Laws of refusal 5: what each mode asks of the factors.
-- Assumes nothing.
use Prim.Native.Nat.{ℕ, ◌<◌, ◌≤◌}
use mathlib.Core.Path.{◌≡◌}
use mathlib.Core.Bool.{true, not}
use mathlib.Core.List.{List, []}
use mathlib.Core.Option.{none, some}
use borrow.Author.Tests.{eq-eqb, ne_eqb, le-leb, lt-leb}
use lib.Dec.{leb, eqb}
use lib.ListN.{length, get_or}
use Rattle.meaning.specs.Route.{RouteRecord, Mode, period_mode, set_mode, free_mode, mode_of, byte_of, bodies}
use Rattle.meaning.specs.Route.{factor_upper, suits, mode_unsuited}

-- the mode as it was read
module _ (rs : List RouteRecord) {mode : ℕ} (mode-is : mode ≡ byte_of 3 rs) where
  pub unsuited_known : {m : Mode} → mode_of mode ≡ some m → mode_unsuited rs ≡ not (suits m (bodies 4 rs))
  unfolding mode_unsuited
  unsuited_known o = rw (← mode-is, o, mode_unsuited)

  pub unsuited_unknown : mode_of mode ≡ none → true ≡ mode_unsuited rs
  unfolding mode_unsuited
  unsuited_unknown o = rw (← mode-is, o, mode_unsuited)

-- the number of factors as it was counted
module _ (fs : List (List ℕ)) {count : ℕ} (count-is : count ≡ length fs) where
  pub period_more : (count ≡ 1 → ⊥) → eqb count 1 ≡ suits period_mode fs
  unfolding suits
  period_more h = rw (← count-is, ne_eqb count 1 h)

  pub period_one : count ≡ 1 → (upper : ℕ) → upper ≡ factor_upper (get_or fs 0 [])
      → eqb upper 0 ≡ suits period_mode fs
  unfolding suits
  period_one h upper u = rw (← count-is, eq-eqb count 1 h, u)

  pub set_none : count < 1 → leb 1 count ≡ suits set_mode fs
  unfolding suits
  set_none h = rw (← count-is, lt-leb 1 count h)

  pub set_some : 1 ≤ count → leb count 8 ≡ suits set_mode fs
  unfolding suits
  set_some h = rw (← count-is, le-leb 1 count h)

  pub free_none : eqb count 0 ≡ suits free_mode fs
  unfolding suits
  free_none = rw (← count-is)
