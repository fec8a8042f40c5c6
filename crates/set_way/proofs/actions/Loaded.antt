-- The product of a set on terms in the work bytes.
--
--   decided-none      == where there are no more terms than its degree, the product annihilates
--   decided-set       == the action of all upper powers says whether the product annihilates
--
-- Assumes nothing.
use Prim.Native.Nat.{ℕ, ◌+◌, ◌*◌, ◌-◌, ◌≤◌, min}
use mathlib.Core.Path.{◌≡◌, refl, sym, ap, ◌∙◌}
use mathlib.Core.Bool.{Bool, true}
use mathlib.Core.List.{List, [], ◌∷◌}
use native.Mathlib.Omega.{arith}
use lib.ListN.{length, take, drop}
use Rattle.meaning.specs.Field.{Field}
use Rattle.meaning.specs.Polynomial.{Polynomial, product}
use Rattle.meaning.specs.Sequence.{act_on_known}
use Rattle.meaning.specs.Conditions.{named, total_degree}
use Rattle.bridge.proofs.Basics.Interpretation.{IsField}
use Rattle.bridge.proofs.Basics.Searches.{T_true}
use Rattle.bridge.proofs.Sequences.KnownActions.{all_zero, all_zero-nil, length-act_on_known}
use Rattle.bridge.proofs.Sequences.KnownActions.{annihilates_known-all}
use Rattle.bridge.proofs.Lists.Products.{degree-product, monics-nonempty}
use Rattle.lent.specs.declared.halves.Place.{Place}
use Rattle.lent.proofs.halves.Bytes.{kept_same, lent-half}
use Rattle.set_way.specs.actions.SetActions.{SetInput, AllActed, SetDecided}
use Rattle.set_way.proofs.actions.Inputs.{input-monics}

-- No place is left
module _ {F : Field} (I : IsField F) {fs : List Polynomial} {us ts w : List ℕ} (x : SetInput F fs us ts) where
  pub decided-none :
      {n : ℕ}
      → n ≡ min (total_degree (named fs us)) 4097
      → length ts ≤ n
      → SetDecided F fs us ts w w true
  decided-none e l =
      let g = product F (named fs us) in
      let d = degree-product I (named fs us) (monics-nonempty F (named fs us) (input-monics x)) in
      let z : length (act_on_known F g ts) ≡ 0 = length-act_on_known F g ts ∙ omega arith in
      record {
        annihilated =
            sym
            (annihilates_known-all F g ts ∙ ap all_zero (empty (act_on_known F g ts) z)
            ∙ T_true all_zero-nil);
        kept = kept_same w;
      }
    where
      empty : (l : List ℕ) → length l ≡ 0 → l ≡ []
      empty [] e = refl
      empty (a ∷ l) e = absurd (omega arith)

-- Terms that were acted on
pub decided-set :
    {F : Field} {fs : List Polynomial} {us ts w w' : List ℕ} {r : Place} {b : Bool}
    → AllActed F fs us ts w w' r
    → b ≡ all_zero (take (4096 * r.half + r.count - 4096 * r.half) (drop (4096 * r.half) w'))
    → SetDecided F fs us ts w w' b
decided-set {F} {fs} {us} {ts} {w' = w'} {r} acted e =
    record {
      annihilated =
          e
          ∙ ap all_zero (lent-half w' r.half r.count ∙ acted.values)
          ∙ sym (annihilates_known-all F (product F (named fs us)) ts);
      kept = acted.kept;
    }
