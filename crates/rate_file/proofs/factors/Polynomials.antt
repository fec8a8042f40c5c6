-- The factors of an accepted file have all of their coefficients.
-- Assumes nothing.
use Prim.Native.Nat.{ℕ, suc, ◌-◌, ◌<◌}
use native.Mathlib.Omega.{arith}
use mathlib.Core.Path.{◌≡◌, refl, ap, ◌∙◌}
use mathlib.Core.List.{List, [], ◌∷◌}
use lib.ListN.{length, get_or, length-drop}
use Rattle.meaning.specs.Route.{look_up, body_lengths}
use Rattle.meaning.specs.File.{WrittenFactor, file_factor}
use Rattle.bridge.proofs.Files.WrittenFactors.{AllFull}
use Rattle.route.specs.framing.Framing.{or_else, body_length}
use Rattle.rate_file.specs.factors.Written.{bodies_in, factors_in, no_factor}
use Rattle.rate_file.proofs.factors.Places.{factors-count, factor-body}

-- factors that are full at each place
all-places : (fs : List WrittenFactor)
    → ((i : ℕ) → i < length fs → length (get_or fs i no_factor).coefficients ≡ 32)
    → AllFull fs
all-places [] h = tt
all-places (f ∷ fs) h = (h 0 (omega arith), all-places fs (λ i l. h (suc i) (omega arith)))

-- the bodies of the factors' records have 35 bytes
pub factors-whole : (file : List ℕ)
    → ((i : ℕ) → i < length (bodies_in file) → length (get_or (bodies_in file) i []) ≡ body_length 4)
    → AllFull (factors_in file)
unfolding file_factor body_length or_else look_up body_lengths
factors-whole file w =
    all-places (factors_in file)
    (λ i h.
    let b = get_or (bodies_in file) i [] in
    let n : i < length (bodies_in file) = omega (arith, factors-count file) in
    ap (λ (f : WrittenFactor). length f.coefficients) (factor-body file i b refl)
    ∙ length-drop 3 b
    ∙ ap (λ (m : ℕ). m - 3) (w i n))
