-- The number of a refusal is its place among the variants, counted from 1. Assumes nothing.
use Prim.Native.Nat.{◌+◌}
use mathlib.Core.Path.{◌≡◌, refl}
use denote.Enum.Declared.{tag_of}
use Rattle.meaning.specs.declared.Refusal.{Refusal}
use Rattle.meaning.specs.contracts.Refusal.{the_type}
use Rattle.meaning.specs.Answers.{number_of}
use Rattle.meaning.proofs.U64FromRefusal.from.Goals as goal

placed : (r : Refusal) → tag_of the_type r + 1 ≡ number_of r
unfolding number_of
placed = elim [
  | Refusal.FileTooLong ↦ refl
  | Refusal.UnknownKind ↦ refl
  | Refusal.FileCutShort ↦ refl
  | Refusal.RecordOutOfPlace ↦ refl
  | Refusal.ModeUnsuited ↦ refl
  | Refusal.NotPrime ↦ refl
  | Refusal.CountOutOfRange ↦ refl
  | Refusal.TermOutOfField ↦ refl
  | Refusal.FactorCount ↦ refl
  | Refusal.DegreeOutOfRange ↦ refl
  | Refusal.CoefficientOutOfRange ↦ refl
  | Refusal.Reducible ↦ refl
  | Refusal.EqualFactors ↦ refl
  | Refusal.UpperPowers ↦ refl
  | Refusal.TooFewTerms ↦ refl
  | Refusal.LentTooShort ↦ refl
  | Refusal.NotAnnihilated ↦ refl
  | Refusal.MeterFull ↦ refl
  | Refusal.NoEntry ↦ refl
  | Refusal.NotBinaryField ↦ refl
]

pub returns : goal.returns
returns c = placed c.args.refusal
