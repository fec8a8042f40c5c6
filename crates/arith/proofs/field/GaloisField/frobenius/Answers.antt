-- `arith::GaloisField::frobenius` meets its contract. Assumes nothing.
use mathlib.Core.Path.{sym, ap, subst, ◌∙◌}
use mathlib.Core.List.{map}
use lib.Dec.{T}
use Rattle.meaning.specs.Field.{are_elements}
use Rattle.bridge.proofs.Lists.Spread.{raise}
use Rattle.arith.specs.extension.Extension.{extension_of}
use Rattle.arith.proofs.Sorts.{prime-field, extension-field, prime-raised}
use Rattle.arith.proofs.Sorts.{binary_characteristic}
use Rattle.arith.proofs.field.GaloisField.frobenius.Goals as goal

pub returns-in-Extension : goal.returns-in-Extension
returns-in-Extension c =
    let f = c.in-Extension.f in
    c.square.ensures
    ∙ ap (λ n. map (raise (extension_of f) n) c.args.a.now) (sym (binary_characteristic f))
    ∙ ap (λ F. map (raise F F.characteristic) c.args.a.now) (extension-field f c.in-Extension.is)

pub returns-in_default : goal.returns-in_default
returns-in_default c =
    let a = c.args.a.now in
    let same = prime-field c.in_default.field-0 c.in_default.is in
    prime-raised c.in_default.field-0 a (subst (λ F. T (are_elements F a)) (sym same) c.requires)
    ∙ ap (λ F. map (raise F F.characteristic) a) same
