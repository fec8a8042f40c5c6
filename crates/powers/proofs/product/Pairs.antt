-- Factors and their powers that come in pairs, from a loop over both.
--
--   Pair fs rs i f r == f is factor i of fs, and r power i of rs
--   pair_turn, pairs_end == the pair that comes after i pairs is pair i, and after the last there are as many
--                        pairs as factors, where each has a power
--
-- Assumes nothing.
use Prim.Native.Nat.{ℕ, ◌≤◌, ◌<◌}
use mathlib.Core.Path.{◌≡◌, sym, ap, ◌∙◌}
use mathlib.Core.List.{List, []}
use native.Mathlib.Omega.{arith}
use lib.ListN.{length, get_or}
use denote.Ref.{Bor}
use Rattle.std.specs.Prelude.{Option, Some, None}
use Rattle.std.specs.declared.iter.Zip.{Zip}
use Rattle.std.specs.Iterator.{Yields}
use Rattle.std.specs.Iterator.Adapters.{zip_first, zip_second}
use Rattle.std.specs.Slice.Iter.{iter_rest}
use Rattle.std.proofs.Common.{Iter}
use Rattle.std.proofs.iter.Yields.{fronts}
use Rattle.std.proofs.lemmas.Iterator.{zips}
use Rattle.std.proofs.lemmas.Slice.Zip.{zip_turn, zip_end}
use Rattle.meaning.specs.Slices.{lists_of}
use Rattle.meaning.proofs.Slices.{nowhere, lists_length, lists_at}

pub record Pair (fs : List (Bor (List ℕ))) (rs : List ℕ) (i : ℕ) (f : List ℕ) (r : ℕ) : Type 0 where
  pub has_factor : i < length (lists_of fs)
  pub has_power : i < length rs
  pub factor : get_or (lists_of fs) i [] ≡ f
  pub power : get_or rs i 0 ≡ r

module _ (fs : List (Bor (List ℕ))) (rs : List ℕ) (xs : List (Bor (Bor (List ℕ)) × Bor ℕ))
    (s t u : Zip (Iter (Bor (List ℕ))) (Iter ℕ)) (r : Option (Bor (Bor (List ℕ)) × Bor ℕ))
    (first : iter_rest (zip_first s) ≡ fs) (second : iter_rest (zip_second s) ≡ rs)
    (y : Yields (zips fronts fronts) s xs t) where
  pub pair_turn : (p : Bor (Bor (List ℕ)) × Bor ℕ) → r ≡ Some p → zips fronts fronts t r u
      → Pair fs rs (length xs) p.0.now.now p.1.now
  pair_turn p e z =
      let turn = zip_turn fs rs xs s t u r first second y p e z in
      record {
        has_factor = omega (arith, turn.0, lists_length fs);
        has_power = turn.1;
        factor = lists_at fs (length xs) ∙ ap (λ (f : Bor (List ℕ)). f.now) (sym (turn.2 nowhere));
        power = sym (turn.3 0);
      }

  pub pairs_end : r ≡ None → zips fronts fronts t r u → length fs ≤ length rs
      → length (lists_of fs) ≤ length xs
  pairs_end e z l = omega (arith, zip_end fs rs xs s t u r first second y e z, lists_length fs)
