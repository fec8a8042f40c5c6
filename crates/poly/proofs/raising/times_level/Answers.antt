-- `raising::times_level` meets its contract. Assumes nothing.
use mathlib.Core.Path.{subst}
use Rattle.meaning.specs.Polynomial.{power}
use Rattle.arith.specs.Represented.{field_of}
use Rattle.lent.proofs.raising.Levels.{raised-part}
use Rattle.poly.specs.products.Product.{Multiplied}
use Rattle.poly.proofs.raising.Raising.{level-spread}
use Rattle.poly.proofs.raising.times_level.Goals as goal

pub returns : goal.returns
returns c =
    subst
    (λ g. Multiplied (field_of c.args.field) (power (field_of c.args.field) g c.args.count)
    c.args.answer.now c.args.n c.times_spreads.new.answer c.times_spreads.result)
    (level-spread c.args.field c.requires.levelled
    (raised-part c.args.f.now c.raised_copy.new.to c.raised_copy.ensures))
    c.times_spreads.ensures
