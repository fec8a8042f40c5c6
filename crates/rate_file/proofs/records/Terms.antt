-- The terms of a file, cut after 4,097: 7 and 8 are met as by all of them, and accepted terms are all of
-- them.
-- Assumes nothing.
use Prim.Native.Nat.{ℕ, ◌<◌}
use native.Mathlib.Decide.{dec_lt}
use native.Mathlib.Omega.{arith}
use mathlib.Core.Path.{◌≡◌, sym, ap, ◌∙◌}
use mathlib.Core.Bool.{true}
use mathlib.Core.List.{List, [], ◌∷◌}
use lib.ListN.{length, take, drop, length-take}
use lib.Seq.{take_all}
use borrow.Author.Tests.{lt-ltb, ne_eqb}
use Rattle.meaning.specs.Field.{Field}
use Rattle.meaning.specs.Conditions.{count_out_of_range}
use Rattle.meaning.specs.Result.{first_of}
use Rattle.meaning.specs.File.{terms_of}
use Rattle.bridge.proofs.Ways.Accepted.{count-accepted}
use Rattle.route.specs.framing.Framing.{records_from}
use Rattle.route.specs.payload.Payload.{Gathered}
use Rattle.route.proofs.payload.Stores.{sets_front}
use Rattle.std.specs.Prelude.{Ok}
use Rattle.meaning.specs.Answers.{Reply}
use Rattle.refusals.specs.Verdicts.{number_in, terms_table}
use Rattle.refusals.proofs.Settled.{verdict_passes}

abbrev pub cut_terms : List ℕ → List ℕ
cut_terms ts = take 4097 ts

-- too many terms
count-beyond : (n : ℕ) → 4096 < n → count_out_of_range n ≡ true
unfolding count_out_of_range
count-beyond n h = rw (ne_eqb n 0 (λ e. omega arith), lt-ltb 4096 n h)

-- 7 alone decides
terms-beyond : (F : Field) (ts : List ℕ) → 4096 < length ts
    → first_of (terms_table F ts)
    ≡ first_of ((7, λ _. true) ∷ [])
unfolding terms_table first_of
terms-beyond F ts h = rw (count-beyond (length ts) h)

module _ (F : Field) (ts : List ℕ) where
  pub cut-terms : first_of (terms_table F (cut_terms ts)) ≡ first_of (terms_table F ts)
  cut-terms = go (dec_lt 4096 (length ts))
    where
      go : Dec (4096 < length ts) → first_of (terms_table F (cut_terms ts)) ≡ first_of (terms_table F ts)
      go (yes h) =
          terms-beyond F (cut_terms ts) (rw length-take (omega arith)) ∙ sym (terms-beyond F ts h)
      go (no h) = ap (λ (l : List ℕ). first_of (terms_table F l)) (take_all 4097 ts (omega arith))

  pub cut-accepted : {v : Reply (Unit {0})} → number_in v ≡ first_of (terms_table F (cut_terms ts)) → v ≡
      Ok tt
      → cut_terms ts ≡ ts
  unfolding terms_table
  cut-accepted e q =
      let n = count-accepted (length ts) (verdict_passes (terms_table F ts) (e ∙ cut-terms)
      q).count_in_range in
      take_all 4097 ts (omega arith)

-- the terms as they were gathered in 4,097 bytes
pub gathered_cut : {file terms terms' part : List ℕ} {n : ℕ} → Gathered file terms n terms'
    → length terms ≡ 4097
    → part ≡ take n (drop 0 terms')
    → part ≡ cut_terms (terms_of (records_from file 0))
gathered_cut {file} {terms} g size e =
    let ts = terms_of (records_from file 0) in
    e ∙ rw (g.count, g.bytes) (sets_front terms ts ∙ ap (λ (k : ℕ). take k ts) size)
