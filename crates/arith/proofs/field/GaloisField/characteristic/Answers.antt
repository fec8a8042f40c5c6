-- `arith::GaloisField::characteristic` meets its contract. Assumes nothing.
use mathlib.Core.Path.{sym, ap, ◌∙◌}
use Rattle.arith.proofs.Sorts.{prime-field, extension-field}
use Rattle.arith.proofs.Sorts.{prime_characteristic, binary_characteristic}
use Rattle.arith.proofs.field.GaloisField.characteristic.Goals as goal

pub returns-in-Prime : goal.returns-in-Prime
returns-in-Prime c =
    let f = c.in-Prime.f in
    sym (prime_characteristic f) ∙ ap (λ F. F.characteristic) (prime-field f c.in-Prime.is)

pub returns-in-Extension : goal.returns-in-Extension
returns-in-Extension c =
    let f = c.in-Extension.field-0 in
    sym (binary_characteristic f) ∙ ap (λ F. F.characteristic) (extension-field f c.in-Extension.is)
