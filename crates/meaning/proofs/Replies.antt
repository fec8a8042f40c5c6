-- A refusal handed on by `?` is the refusal that came in.
-- Assumes nothing.
use mathlib.Core.Path.{◌≡◌, ap}
use Rattle.std.specs.Prelude.{Ok, Err}
use Rattle.std.specs.Result.{IsErr, IsErrAnd}
use Rattle.meaning.specs.declared.Refusal.{Refusal}
use Rattle.meaning.specs.Answers.{Reply}

pub handed_on : {A : Type 0} (x : Reply A) {r : Refusal} → IsErr x × IsErrAnd x (λ e. e ≡ r) → x ≡ Err r
handed_on (Ok a) h = absurd h.1
handed_on (Err e) h = ap Err h.1
