-- The turns of a loop over lists with their places.
--
--   Turn bs i n body   == at the turn after n of them, the place i is n, and the list the one there
-- Assumes nothing.
use Rattle.std.proofs.Common.{◌≡◌, ℕ, zero, suc, ◌+◌, ◌<◌, List, [], ◌∷◌, length, get_or, refl, sym, ap}
use Rattle.std.proofs.Common.{Option, Some, None}
use Rattle.std.proofs.Common.{◌∙◌, ◌^◌, Bor, arith}
use Rattle.std.specs.Iterator.{Yields, YieldsFirstRef}
use Rattle.std.specs.declared.iter.Enumerate.{Enumerate}
use Rattle.std.specs.Iterator.Adapters.{enumerate_steps}
use Rattle.std.specs.List.{enumerate_from}
use Rattle.route.specs.declared.framing.Bodies.{Bodies}
use Rattle.route.specs.framing.Iterating.{bodies_left}
use Rattle.std.proofs.lemmas.Iterator.{YieldsList}
use Rattle.std.proofs.lemmas.Iterator.Consumers.{YieldsList-at, YieldsList-from_first}
use Rattle.std.proofs.lemmas.Iterator.Consumers.{YieldsList-from_enumerate}
use Rattle.std.proofs.lemmas.Iterator.Consumers.{YieldsList-turn, YieldsList-end}

pub length-enumerated : (n : ℕ) (bs : List (List ℕ)) → length (enumerate_from n bs) ≡ length bs
length-enumerated n [] = refl
length-enumerated n (b ∷ bs) = ap suc (length-enumerated (n + 1) bs)

enumerated : (n : ℕ) (bs : List (List ℕ)) (k : ℕ) (d : ℕ × List ℕ) → k < length bs
    → get_or (enumerate_from n bs) k d ≡ (n + k, get_or bs k [])
enumerated n [] k d h = absurd (omega arith)
enumerated n (b ∷ bs) zero d h = let e : n + 0 ≡ n = omega arith in λ i. (sym e i, b)
enumerated n (b ∷ bs) (suc k) d h =
    let e : n + 1 + k ≡ n + suc k = omega arith in
    enumerated (n + 1) bs k d (omega arith) ∙ (λ i. (e i, get_or bs k []))

pub record Turn (bs : List (List ℕ)) (i n : ℕ) (body : List ℕ) : Type 0 where
  pub place : i ≡ n
  pub inside : n < length bs
  pub here : body ≡ get_or bs n []

-- the loop over the bodies of a file, from what made its iterator
module _ {made given : Enumerate Bodies} {source : Bodies} (bs : List (List ℕ)) (becomes : made ≡ given)
    (from : given.iter ≡ source) (count : given.count ≡ 0) (left : bodies_left source ≡ bs) where
  listed : YieldsList (enumerate_steps (YieldsFirstRef bodies_left)) (λ p. (p.0, p.1.now)) made
      (enumerate_from 0 bs)
  listed =
      YieldsList-at becomes
      (YieldsList-from_enumerate (YieldsList-at from (YieldsList-from_first (λ y. y.now) bodies_left bs left))
      count)

  module _ (xs : List (ℕ × Bor (List ℕ))) (t : Enumerate Bodies)
      (y : Yields (enumerate_steps (YieldsFirstRef bodies_left)) made xs t) where
    pub body_turn : (r : Option (ℕ × Bor (List ℕ))) (u : Enumerate Bodies) (i : ℕ) (body : Bor (List ℕ))
        → r ≡ Some (i, body) → enumerate_steps (YieldsFirstRef bodies_left) t r u
        → Turn bs i (length xs) body.now
    body_turn r u i body is step =
        let turn = YieldsList-turn listed xs t y r u (i, body) is step in
        let inside : length xs < length bs = omega (arith, turn.0, length-enumerated 0 bs) in
        let e = turn.1 ∙ enumerated 0 bs (length xs) (i, body.now) inside in
        record { place = ap (λ p. p.0) e ∙ (omega arith); inside = inside; here = ap (λ p. p.1) e }

    pub body_end : (r : Option (ℕ × Bor (List ℕ))) (u : Enumerate Bodies) → r ≡ None
        → enumerate_steps (YieldsFirstRef bodies_left) t r u → length xs ≡ length bs
    body_end r u is step = (YieldsList-end listed xs t y r u is step).1 ∙ length-enumerated 0 bs

  -- the places are numbers of 64 bits
  pub places_fit : length bs < 2 ^ 64 → made.count + length (bodies_left made.iter) < 2 ^ 64
  places_fit h = rw (becomes, from, count, left) (omega arith)
