-- `arith::GaloisField::multiply_add_within` meets its contract. Assumes nothing.
use mathlib.Core.Path.{ap, ap₂, ◌∙◌}
use lib.Seq.{paste}
use Rattle.meaning.specs.Polynomial.{plus}
use Rattle.arith.specs.Slices.{part, multiplied_within}
use Rattle.arith.specs.prime_field.PrimeForm.{prime_field_of}
use Rattle.arith.specs.extension.Extension.{extension_of}
use Rattle.arith.proofs.extension.Elements.{scale-element}
use Rattle.arith.proofs.Sorts.{prime-field, extension-field}
use Rattle.arith.proofs.field.GaloisField.multiply_add_within.Goals as goal

pub returns-in-Prime : goal.returns-in-Prime
returns-in-Prime c =
    let a = c.args in
    let m = c.multiples.ensures in
    c.multiply_add_within.ensures
    ∙ ap₂ (λ f x. multiplied_within (prime_field_of f) a.w.now a.x x a.y a.n) m.0 m.1
    ∙ ap (λ F. multiplied_within F a.w.now a.x a.c a.y a.n) (prime-field _ c.in-Prime.is)

pub returns-in-Extension : goal.returns-in-Extension
returns-in-Extension c =
    let a = c.args in
    let f = c.in-Extension.f in
    let m = c.multiples-in-Extension.ensures in
    c.multiply_add_within-in-Extension.ensures
    ∙ ap (λ f. multiplied_within (extension_of f) a.w.now a.x c.multiples-in-Extension.result.m0 a.y a.n) m.0
    ∙ ap (λ v. paste a.w.now a.x (plus (extension_of f) (part a.w.now a.y a.n) v) a.n)
    (scale-element f a.c (part a.w.now a.x a.n) m.1)
    ∙ ap (λ F. multiplied_within F a.w.now a.x a.c a.y a.n) (extension-field f c.in-Extension.is)
