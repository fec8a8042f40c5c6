-- `payload::terms_in` meets its contract.
-- Assumes nothing.
use Rattle.std.proofs.Common.{◌≡◌, true, eqb, eq-eqb, sym, ap, ◌∙◌}
use Rattle.route.specs.framing.Iterating.{read}
use Rattle.route.proofs.payload.Terms.{held_first, held_second, terms_held, terms_none}
use Rattle.route.proofs.payload.terms_in.Goals.{then-next-from, else-next-from}
use Rattle.route.proofs.payload.terms_in.Goals as goal

pub returns-then-next-from-2 : goal.returns-then-next-from-2
returns-then-next-from-2 c =
    let k = c.args.next.kind in
    terms_held (read c.args.next)
    (elim c.if-next-from.branch [
      | then-next-from w ↦ held_first k (w.if-next-from.true ∙ c.from.ensures)
      | else-next-from w ↦
          held_second k (λ e. w.if-next-from.false (e ∙ sym c.from.ensures))
          ∙ ap (eqb k) (sym w.from-else-next-from.ensures) ∙ sym w.value-is ∙ c.if-next-from-2.true
    ])

pub returns-else-next-from-2 : goal.returns-else-next-from-2
returns-else-next-from-2 c =
    let k = c.args.next.kind in
    terms_none (read c.args.next)
    (elim c.if-next-from.branch [
      | then-next-from w ↦
          let e : eqb k c.from.result ≡ true = eq-eqb _ _ w.if-next-from.true in cc w.value-is
      | else-next-from w ↦
          held_second k (λ e. w.if-next-from.false (e ∙ sym c.from.ensures))
          ∙ ap (eqb k) (sym w.from-else-next-from.ensures) ∙ sym w.value-is ∙ c.if-next-from-2.false
    ])
