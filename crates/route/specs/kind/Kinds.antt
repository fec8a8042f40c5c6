-- What the contracts of the kinds cite.
--
--   code k             == the byte that begins a record of the kind
--   Names byte r       == r is the kind that the byte names, or that it names none
use Rattle.std.specs.Prelude.{ℕ, ◌≡◌, Result, MatchResult}
use Rattle.std.proofs.Math.Option.{none}
use Rattle.meaning.specs.declared.Refusal.{Refusal}
use Rattle.meaning.specs.declared.Refusal.TheVariants.{UnknownKind}
use Rattle.meaning.specs.Route.{look_up, body_lengths}
use Rattle.route.specs.declared.kind.Kind.{Kind}

abbrev pub code : Kind → ℕ
code Kind.Box = 1
code Kind.PrimeField = 2
code Kind.Mode = 3
code Kind.Factor = 4
code Kind.Terms = 5
code Kind.Term = 6
code Kind.Stop = 7
code Kind.End = 8
code Kind.BinaryField = 9

abbrev pub Names : ℕ → Result Kind Refusal → Type 0
Names byte r =
    MatchResult r (λ k. byte ≡ code k)
    (λ e. (e ≡ UnknownKind) × (look_up byte body_lengths ≡ none))
