-- Laws of the factors of a file: the coefficients that a body names, and then the leading 1.
-- Assumes nothing.
use Prim.Native.Nat.{ℕ, ◌+◌}
use mathlib.Core.Path.{◌≡◌, sym, ap, ◌∙◌}
use mathlib.Core.List.{List, [], ◌∷◌, ◌++◌}
use lib.ListN.{length, get_or, take, drop, length-append}
use lib.Seq.{sets}
use Rattle.meaning.specs.File.{file_factor, polynomial_of}
use Rattle.route.specs.payload.Payload.{LaidFactor}
use Rattle.route.proofs.payload.Stores.{sets_append}

-- the coefficients below the degree, stored from the place `at` on, and then the leading 1
module _ (body : List ℕ) (d : ℕ) (degree : d ≡ get_or body 0 0) (low : List ℕ)
    (part : low ≡ take d (drop 3 body)) where
  polynomial-parts : polynomial_of (file_factor body) ≡ low ++ (1 ∷ [])
  unfolding polynomial_of file_factor
  polynomial-parts = rw (← degree, ← part)

  pub factor_laid : (to to₁ to₂ : List ℕ) (at : ℕ) → to₁ ≡ sets to at low
      → to₂ ≡ sets to₁ (at + length low) (1 ∷ []) → LaidFactor body at to (length low + 1) to₂
  factor_laid to to₁ to₂ at e f =
      record {
        count = sym (ap length polynomial-parts ∙ length-append low (1 ∷ []));
        bytes =
            rw (polynomial-parts, sets_append)
            (f ∙ ap (λ l. sets l (at + length low) (1 ∷ [])) e);
      }
