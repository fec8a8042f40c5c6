-- What the contracts of the modes cite.
--
--   mode_told m        == the mode, as the definition of a file has it
--   NamesMode byte r   == r is the mode that the byte names, or that it names none
use Rattle.std.specs.Prelude.{ℕ, ◌≡◌, Result, MatchResult}
use Rattle.std.proofs.Math.Option.{none, some}
use Rattle.meaning.specs.declared.Refusal.{Refusal}
use Rattle.meaning.specs.declared.Refusal.TheVariants.{ModeUnsuited}
use Rattle.meaning.specs.Route as route
use Rattle.meaning.specs.Route.{mode_of}
use Rattle.route.specs.declared.mode.Mode.{Mode}

abbrev pub mode_told : Mode → route.Mode
mode_told Mode.Period = route.period_mode
mode_told Mode.Set = route.set_mode
mode_told Mode.Free = route.free_mode

abbrev pub NamesMode : ℕ → Result Mode Refusal → Type 0
NamesMode byte r =
    MatchResult r (λ m. mode_of byte ≡ some (mode_told m)) (λ e. (e ≡ ModeUnsuited) × (mode_of byte ≡ none))
