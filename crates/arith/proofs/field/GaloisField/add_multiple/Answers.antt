-- `arith::GaloisField::add_multiple` meets its contract. Assumes nothing.
use mathlib.Core.Path.{ap, ap₂, ◌∙◌}
use Rattle.meaning.specs.Polynomial.{plus}
use Rattle.arith.specs.Slices.{combined}
use Rattle.arith.specs.prime_field.PrimeForm.{prime_field_of}
use Rattle.arith.specs.extension.Extension.{extension_of}
use Rattle.arith.proofs.extension.Elements.{scale-element}
use Rattle.arith.proofs.Sorts.{prime-field, extension-field}
use Rattle.arith.proofs.field.GaloisField.add_multiple.Goals as goal

pub returns-in-Prime : goal.returns-in-Prime
returns-in-Prime c =
    let a = c.args in
    let m = c.multiples.ensures in
    c.add_multiple.ensures
    ∙ ap₂ (λ f x. combined (prime_field_of f) a.a.now x a.b.now) m.0 m.1
    ∙ ap (λ F. combined F a.a.now a.c a.b.now) (prime-field _ c.in-Prime.is)

pub returns-in-Extension : goal.returns-in-Extension
returns-in-Extension c =
    let a = c.args in
    let f = c.in-Extension.f in
    let m = c.multiples-in-Extension.ensures in
    c.add_multiple-in-Extension.ensures
    ∙ ap (λ f. combined (extension_of f) a.a.now c.multiples-in-Extension.result.m0 a.b.now) m.0
    ∙ ap (plus (extension_of f) a.a.now)
    (scale-element f a.c a.b.now m.1)
    ∙ ap (λ F. combined F a.a.now a.c a.b.now) (extension-field f c.in-Extension.is)
