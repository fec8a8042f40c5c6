-- Where the body of a record begins: after the records before it, and its kind.
-- Assumes nothing.
use Prim.Native.Nat.{ℕ, zero, suc, ◌+◌, ◌<◌, ◌≤◌}
use mathlib.Core.Path.{◌≡◌, refl, sym, ap, subst, ◌∙◌}
use mathlib.Core.List.{List, [], ◌∷◌}
use native.Mathlib.Omega.{arith}
use lib.ListN.{length, drop}
use Rattle.meaning.specs.Result.{Result, answered}
use Rattle.meaning.specs.Route.{RouteRecord, records}
use Rattle.meaning.specs.Exports.{body_start}
use Rattle.route.specs.framing.Framing.{records_from}
use Rattle.route.specs.framing.Iterating.{size_of}
use Rattle.route.proofs.framing.Frames.{records-size}
use Rattle.route.specs.reader.Reading.{BodyStart}
use Rattle.route.proofs.walk.Walks.{AnswersWhole}
use Rattle.route.proofs.acceptance.Accepting.{records-whole}

pub size-drop : (n : ℕ) (rs : List RouteRecord) → size_of (drop n rs) ≤ size_of rs
size-drop zero rs = omega arith
size-drop (suc n) [] = omega arith
size-drop (suc n) (r ∷ rs) = omega (arith, size-drop n rs)

-- beyond the last record
start-beyond : (rs : List RouteRecord) (n : ℕ) → size_of (drop n rs) ≡ 0 → body_start rs n ≡ size_of rs
unfolding body_start
start-beyond [] zero h = refl
start-beyond [] (suc n) h = refl
start-beyond (r ∷ rs) zero h = absurd (omega (arith, h))
start-beyond (r ∷ rs) (suc n) h = ap (λ x. 1 + length r.body + x) (start-beyond rs n h)

-- at a record
start-within : (rs : List RouteRecord) (n : ℕ) → 0 < size_of (drop n rs)
    → body_start rs n + size_of (drop n rs) ≡ size_of rs + 1
unfolding body_start
start-within [] zero h = absurd (omega (arith, h))
start-within [] (suc n) h = absurd (omega (arith, h))
start-within (r ∷ rs) zero h = omega arith
start-within (r ∷ rs) (suc n) h = omega (arith, start-within rs n h)

-- the records of an accepted file are those by their lengths
start-known : (file : List ℕ) (n : ℕ) {r : ℕ} → r ≡ body_start (records_from file 0) n → BodyStart file n r
start-known file n {r} h = record { place = known }
  where
    whole : {x : Result (List RouteRecord)} {l rs : List RouteRecord} → AnswersWhole x l → x ≡ answered rs
        → rs ≡ l
    whole {x} {l} w q = (subst (λ y. AnswersWhole y l) q w).0

    known : (rs : List RouteRecord) → records file ≡ answered rs → r ≡ body_start rs n
    known rs e = h ∙ ap (λ (l : List RouteRecord). body_start l n) (sym (whole (records-whole file) e))

-- what is left of the records after n of them
module _ (file : List ℕ) (n : ℕ) where
  pub start_inside : (r : RouteRecord) (rs : List RouteRecord) → drop n (records_from file 0) ≡ r ∷ rs
      → (m : ℕ) → m + length r.body + size_of rs ≡ length file → BodyStart file n m
  start_inside r rs e m h =
      let s = start-within (records_from file 0) n (omega (arith, ap size_of e)) in
      start-known file n (omega (arith, s, ap size_of e, records-size file, h))

  pub start_over : drop n (records_from file 0) ≡ [] → BodyStart file n (length file)
  start_over e =
      let s = start-beyond (records_from file 0) n (ap size_of e) in
      start-known file n (omega (arith, s, records-size file))
