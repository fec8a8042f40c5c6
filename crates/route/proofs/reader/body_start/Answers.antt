-- `reader::body_start` meets its contract.
-- Assumes nothing.
use mathlib.Core.Path.{sym, ap, ◌∙◌}
use native.Mathlib.Omega.{arith}
use lib.ListN.{drop}
use Rattle.std.specs.Prelude.{Some, None}
use Rattle.route.specs.framing.Framing.{records_from}
use Rattle.route.specs.framing.Iterating.{read, left, size_of}
use Rattle.route.proofs.framing.Frames.{reached, records-size}
use Rattle.route.proofs.reader.Starts.{start_inside, start_over, size-drop}
use Rattle.route.proofs.reader.body_start.Goals as goal

pub overflow_sub-result : goal.overflow_sub-result
overflow_sub-result c =
    let file = c.args.file.now in
    let e = ap (drop c.args.n) (sym c.of-records.ensures)
    ∙ reached read left c.args.n _ (Some c.in-Some.record) c.nth.new.self c.in-Some.ensures.ran in
    omega (arith, c.size.ensures, size-drop c.args.n (records_from file 0), ap size_of e, records-size file)

pub overflow_sub-result-in-Some : goal.overflow_sub-result-in-Some
overflow_sub-result-in-Some c =
    let file = c.args.file.now in
    let e = ap (drop c.args.n) (sym c.of-records.ensures)
    ∙ reached read left c.args.n _ (Some c.in-Some.record) c.nth.new.self c.in-Some.ensures.ran in
    omega (arith, c.size.ensures, size-drop c.args.n (records_from file 0), ap size_of e, records-size file)

pub returns-in-Some : goal.returns-in-Some
returns-in-Some c =
    let file = c.args.file.now in
    let e = ap (drop c.args.n) (sym c.of-records.ensures)
    ∙ reached read left c.args.n _ (Some c.in-Some.record) c.nth.new.self c.in-Some.ensures.ran in
    start_inside file c.args.n _ _ e _
    (omega (arith, c.size.ensures, size-drop c.args.n (records_from file 0), ap size_of e, records-size file))

pub returns-in-None : goal.returns-in-None
returns-in-None c =
    start_over c.args.file.now c.args.n
    (ap (drop c.args.n) (sym c.of-records.ensures)
    ∙ reached read left c.args.n _ None c.nth.new.self c.in-None.ensures.ran)
