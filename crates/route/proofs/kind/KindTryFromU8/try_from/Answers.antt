-- `Kind::try_from` meets its contract: a byte that is none of the nine has no length.
-- Assumes nothing.
use Rattle.std.proofs.Common.{rules, ◌≡◌, ℕ, ne_eqb}
use Rattle.std.proofs.Math.Option.{none}
use Rattle.meaning.specs.Route.{look_up, body_lengths}
use Rattle.route.proofs.kind.KindTryFromU8.try_from.Goals as goal

unknown : (k : ℕ) → (k ≡ 1 → ⊥) → (k ≡ 2 → ⊥) → (k ≡ 3 → ⊥) → (k ≡ 4 → ⊥) → (k ≡ 5 → ⊥)
    → (k ≡ 6 → ⊥) → (k ≡ 7 → ⊥) → (k ≡ 8 → ⊥) → (k ≡ 9 → ⊥) → look_up k body_lengths ≡ none
unfolding look_up body_lengths
unknown k a b c d e f g h i =
    rw (
      ne_eqb k 1 a,
      ne_eqb k 2 b,
      ne_eqb k 3 c,
      ne_eqb k 4 d,
      ne_eqb k 5 e,
      ne_eqb k 6 f,
      ne_eqb k 7 g,
      ne_eqb k 8 h,
      ne_eqb k 9 i,
      body_lengths,
      look_up,
    )

pub returns-in_default : goal.returns-in_default
returns-in_default c = search (rules, unknown)
