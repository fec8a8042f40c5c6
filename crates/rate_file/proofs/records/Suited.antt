-- What the mode of an accepted file says: its factors suit it, and the file is rated by its way.
-- Assumes nothing.
use Prim.Native.Nat.{ℕ, ◌≤◌, ◌<◌}
use native.Mathlib.Decide.{dec_lt, ℕ_discrete}
use native.Mathlib.Omega.{arith}
use mathlib.Core.Path.{◌≡◌, refl, sym, ◌∙◌}
use mathlib.Core.Bool.{Bool, true, false, true≢false}
use mathlib.Core.List.{List}
use mathlib.Core.Option.{Option, none, some}
use lib.ListN.{length}
use borrow.Author.Tests.{eqb-true, leb-true, lt-leb}
use Rattle.meaning.specs.Field.{Field}
use Rattle.meaning.specs.Result.{refused}
use Rattle.meaning.specs.FieldNames.{in_field}
use Rattle.meaning.specs.Route.{RouteRecord, Mode, period_mode, set_mode, suits, mode_of}
use Rattle.meaning.specs.Route.{byte_of}
use Rattle.meaning.specs.Route.{bodies, mode_unsuited}
use Rattle.meaning.specs.File.{terms_of, rate_mode, field_in, rate_records}
use Rattle.bridge.proofs.Basics.Searches.{not-not_true}
use Rattle.route.specs.framing.Framing.{records_from}
use Rattle.route.proofs.mode.Modes.{unsuited_known, unsuited_unknown, period_more, set_none, set_some}
use Rattle.rate_file.specs.factors.Written.{factors_in}
use Rattle.rate_file.specs.records.Accepted.{rated_in}

-- what the mode of an accepted file asks of the factors
module _ (rs : List RouteRecord) (suited : mode_unsuited rs ≡ false) where
  pub some-mode : mode_of (byte_of 3 rs) ≡ none → ⊥
  some-mode e = true≢false (unsuited_unknown rs refl e ∙ suited)

  suited-true : {m : Mode} {b : Bool} → mode_of (byte_of 3 rs) ≡ some m → b ≡ suits m (bodies 4 rs) → b ≡ true
  suited-true e h = not-not_true _ (rw h (sym (unsuited_known rs refl e) ∙ suited))

  pub one-factor : mode_of (byte_of 3 rs) ≡ some period_mode → length (bodies 4 rs) ≡ 1
  one-factor e = go (ℕ_discrete (length (bodies 4 rs)) 1)
    where
      go : Dec (length (bodies 4 rs) ≡ 1) → length (bodies 4 rs) ≡ 1
      go (yes h) = h
      go (no h) = eqb-true (length (bodies 4 rs)) 1 (suited-true e (period_more (bodies 4 rs) refl h))

  pub some-factors : mode_of (byte_of 3 rs) ≡ some set_mode
      → (1 ≤ length (bodies 4 rs)) × (length (bodies 4 rs) ≤ 8)
  some-factors e = go (dec_lt (length (bodies 4 rs)) 1)
    where
      go : Dec (length (bodies 4 rs) < 1) → (1 ≤ length (bodies 4 rs)) × (length (bodies 4 rs) ≤ 8)
      go (yes h) =
          let none-suits = sym (suited-true e (set_none (bodies 4 rs) refl h)) in
          absurd (true≢false (none-suits ∙ lt-leb 1 (length (bodies 4 rs)) h))
      go (no h) =
          let low : 1 ≤ length (bodies 4 rs) = omega arith in
          (low, leb-true (length (bodies 4 rs)) 8 (suited-true e (set_some (bodies 4 rs) refl low)))

-- the way of the mode
module _ (F : Field) (file : List ℕ) (answer work : ℕ) where
  pub rated-by : {m : Mode} → mode_of (byte_of 3 (records_from file 0)) ≡ some m
      → rated_in F (records_from file 0) answer work
      ≡ rate_mode m F (factors_in file) (terms_of (records_from file 0)) answer work
  unfolding factors_in rated_in
  rated-by e = rw (e, rated_in)

-- the refusal that the terms meet in any mode
pub rated_refused : (F : Field) (file : List ℕ) (answer work : ℕ) {n : ℕ}
    → mode_unsuited (records_from file 0) ≡ false
    → ((m : Mode)
    → rate_mode m F (factors_in file) (terms_of (records_from file 0)) answer work ≡ refused n)
    → rated_in F (records_from file 0) answer work ≡ refused n
unfolding mode_unsuited
rated_refused F file answer work {n} suited each = go (mode_of (byte_of 3 (records_from file 0))) refl
  where
    go : (o : Option Mode) → mode_of (byte_of 3 (records_from file 0)) ≡ o
        → rated_in F (records_from file 0) answer work ≡ refused n
    go none e = absurd (true≢false (rw (e, mode_unsuited) at suited))
    go (some m) e = rated-by F file answer work e ∙ each m

-- the records of an accepted file are rated in the field that they name
pub records_in : (rs : List RouteRecord) (answer work : ℕ)
    → mode_unsuited rs ≡ false
    → rate_records rs answer work ≡ in_field (field_in rs) (λ F. rated_in F rs answer work)
unfolding mode_unsuited rate_records rated_in
records_in rs answer work suited = go (mode_of (byte_of 3 rs)) refl
  where
    go : (o : Option Mode) → mode_of (byte_of 3 rs) ≡ o
        → rate_records rs answer work ≡ in_field (field_in rs) (λ F. rated_in F rs answer work)
    go none e = absurd (true≢false (rw (e, mode_unsuited) at suited))
    go (some m) e = rw (e, rate_records, rated_in)
