-- `set_way::set_powers` meets its contract. Assumes nothing.
use mathlib.Core.Path.{ap, ◌∙◌}
use mathlib.Core.List.{◌++◌}
use lib.ListN.{drop, replicate}
use Rattle.meaning.specs.Result.{cleared}
use Rattle.set_way.proofs.set_powers.Goals as goal

pub returns : goal.returns
unfolding cleared
returns c =
    record {
      told = c.search_set-found.ensures;
      work =
          ap (λ l. l ++ drop 8192 c.args.work.now)
          (c.fill.ensures.after (λ y h. h) ∙ ap (λ n. replicate n 0) c.search_set-found.array_long);
    }
