-- `binary::shortest` meets its contract: the first polynomial that fits is written. Assumes nothing.
use Rattle.massey.proofs.binary.Turning.{hold_degree, reduced-shortest}
use native.Mathlib.Omega.{arith}
use Rattle.massey.proofs.binary.shortest.Goals as goal

pub unpack-requires : goal.unpack-requires
unpack-requires c =
    let w = c.after_all-words.ensures in
    let l = hold_degree c.requires.0.terms w.seen.0 w.words_hold in
    (omega arith, c.reduce.new.self.room_of_f.size, omega (arith, c.requires.1))

pub returns : goal.returns
returns c =
    let w = c.after_all-words.ensures in
    reduced-shortest c.args.terms.now c.requires.0.terms w.seen.0 w.words_hold c.reduce.ensures
    c.unpack.ensures c.clear.ensures
