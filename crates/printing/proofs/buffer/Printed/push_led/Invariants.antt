-- `Printed::push_led` meets its contract: the first numbers are put.
-- Assumes nothing.
use Rattle.std.proofs.Common.{◌≡◌, [], ◌∷◌, ◌++◌, map, ◌+◌, ◌*◌, ◌≤◌, length, take}
use Rattle.meaning.specs.Print.{decimal}
use Rattle.printing.specs.words.Words.{led}
use Rattle.printing.proofs.buffer.Printed.push_led.Given as goal

abbrev pub invariant-loop-number : goal.invariant-loop-number
invariant-loop-number g l = record {
  put :
      l.self ≡ l.initial.self
      ++ led (l.separator ∷ []) (map (λ n. decimal (g.T.Figure.value n)) (take l.number-index l.numbers));
  within : length l.self ≤ length l.initial.self + (1 + g.T.Figure.most) * l.number-index;
}
