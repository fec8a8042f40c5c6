-- `Printed::push_label` meets its contract.
-- Assumes nothing.
use Rattle.std.proofs.Common.{◌≡◌, arith, ap, length, length-append, take, min, sym, ◌∙◌}
use Rattle.std.proofs.lemmas.List.{take_min, length-take}
use Rattle.meaning.specs.Print.{text, label_word}
use Rattle.printing.proofs.buffer.Printed.push_label.Goals as goal

pub returns-in-Powers : goal.returns-in-Powers
unfolding text label_word
returns-in-Powers c =
    let powers = c.in-Powers.powers in
    let eight : length powers ≡ 8 = omega arith in
    let n = c.in-Powers.count in
    let all = ap (λ k. take (min n k) powers) (sym eight) ∙ take_min n powers in
    rw c.in-Powers.is
    (record {
      put = rw (c.push_powers.ensures.put, c.min.ensures, all);
      within = omega (arith, length-take c.min.result powers);
    })

pub returns-in-Unique : goal.returns-in-Unique
unfolding text label_word
returns-in-Unique c =
    rw c.in-Unique.is
    (record {
      put = c.push_word.ensures;
      within = omega (arith, ap length c.push_word.ensures, length-append c.args.self.now (text "one"));
    })

pub returns-in-Several : goal.returns-in-Several
unfolding text label_word
returns-in-Several c =
    rw c.in-Several.is
    (record {
      put = c.push_word-in-Several.ensures;
      within =
          omega (
            arith,
            ap length c.push_word-in-Several.ensures,
            length-append c.args.self.now (text "some"),
          );
    })
