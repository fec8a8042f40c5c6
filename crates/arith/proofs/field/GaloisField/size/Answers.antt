-- `arith::GaloisField::size` meets its contract. Assumes nothing.
use mathlib.Core.Path.{sym, ap, ◌∙◌}
use Rattle.arith.proofs.prime_field.PrimeForm.{size_same}
use Rattle.arith.proofs.extension.Elements.{extension_size}
use Rattle.arith.proofs.Sorts.{prime-field, extension-field}
use Rattle.arith.proofs.field.GaloisField.size.Goals as goal

pub returns-in-Prime : goal.returns-in-Prime
returns-in-Prime c =
    let f = c.in-Prime.f in sym (size_same f) ∙ ap (λ F. F.size) (prime-field f c.in-Prime.is)

pub returns-in-Extension : goal.returns-in-Extension
returns-in-Extension c =
    let f = c.in-Extension.f in
    f.size_is_right ∙ sym (extension_size f) ∙ ap (λ F. F.size) (extension-field f c.in-Extension.is)
