-- Laws of the records by their lengths: the first of them and those after it, the records of one kind, and
-- how many bytes they take.
-- Assumes nothing.
use Rattle.std.proofs.Common.{◌≡◌, ℕ, zero, suc, ◌-◌, ◌≤◌, List, [], ◌∷◌, length, take, drop, min}
use Rattle.std.proofs.Common.{Bool, true, false, eqb, Bor, IfSome, Option, None, Some, MatchOption, unwrap_or}
use Rattle.std.proofs.Common.{refl, sym, ap, ◌∙◌, arith, eq-eqb}
use Rattle.std.proofs.Common.{ne_eqb, eqb-true, subst}
use borrow.Author.Tests.{eqb-false}
use Rattle.std.proofs.lemmas.List.{take_min, drop_min, length-take}
use Rattle.std.proofs.Math.Option.{none, some}
use Rattle.std.specs.Fn.{CalledAt}
use Rattle.std.specs.List.{FoldsTo}
use lib.Seq.{drop-nil}
use denote.Param.Members.{Mut}
use Rattle.std.specs.Iterator.{MakesProgress, item_count, Yields, YieldsFirstBy, FindsItem, SkipsThenYields}
use Rattle.meaning.specs.Route.{RouteRecord, look_up, body_lengths, bodies}
use Rattle.route.specs.framing.Iterating.{size_of}
use Rattle.route.specs.framing.Framing.{or_else, body_length, framed, records_from}

-- the length that is told of a byte, or 255
pub length_told : (k : ℕ) (o : Option ℕ)
    → MatchOption o (look_up k body_lengths ≡ none) (λ n. look_up k body_lengths ≡ some n)
    → unwrap_or o 255 ≡ body_length k
unfolding body_length or_else
length_told k None h = rw (h, or_else)
length_told k (Some n) h = rw (h, or_else)

-- what is left of a body is passed over
framed_skip : (bytes : List ℕ) (skip : ℕ) → framed bytes skip ≡ framed (drop skip bytes) 0
unfolding framed
framed_skip [] zero = refl
framed_skip [] (suc k) = refl
framed_skip (b ∷ rest) zero = refl
framed_skip (b ∷ rest) (suc k) = framed_skip rest k

pub framed_nil : (bytes : List ℕ) → length bytes ≡ 0 → framed bytes 0 ≡ []
unfolding framed
framed_nil [] h = refl
framed_nil (b ∷ rest) h = absurd (omega arith)

pub framed-cons : (kind : ℕ) (rest : List ℕ) → framed (kind ∷ rest) 0
    ≡ record { kind = kind; body = take (body_length kind) rest } ∷ framed (drop (body_length kind) rest) 0
unfolding framed
framed-cons kind rest =
    ap (◌∷◌ (record { kind = kind; body = take (body_length kind) rest }))
    (framed_skip rest (body_length kind))

-- the first record, cut where the bytes end, and those after it
pub framed_first : (bytes : List ℕ) (kind n : ℕ) (after : List ℕ) → bytes ≡ kind ∷ after
    → n ≡ body_length kind
    → framed bytes 0
    ≡ record { kind = kind; body = take (min n (length after)) after }
    ∷ framed (drop (min n (length after)) after) 0
framed_first bytes kind n after e m = rw (e, m, take_min, drop_min) (framed-cons kind after)

-- the records take all bytes but those left of the body before
pub framed-size : (bytes : List ℕ) (skip : ℕ) → size_of (framed bytes skip) ≡ length bytes - skip
unfolding framed
framed-size [] skip = omega arith
framed-size (b ∷ rest) (suc skip) = omega (arith, framed-size rest skip)
framed-size (kind ∷ rest) zero =
    omega (arith, framed-size rest (body_length kind), length-take (body_length kind) rest)

pub records-size : (file : List ℕ) → size_of (records_from file 0) ≡ length file
unfolding records_from
records-size file = omega (arith, framed-size file 0)

module _ (k : ℕ) (r : RouteRecord) (rs : List RouteRecord) where
  pub bodies_here : r.kind ≡ k → bodies k (r ∷ rs) ≡ r.body ∷ bodies k rs
  unfolding bodies
  bodies_here e = rw (eq-eqb _ _ e, bodies)

  pub bodies-other : (r.kind ≡ k → ⊥) → bodies k (r ∷ rs) ≡ bodies k rs
  unfolding bodies
  bodies-other e = rw (ne_eqb _ _ e, bodies)

-- a record takes a byte at least
pub bodies_few : (k : ℕ) (rs : List RouteRecord) → length (bodies k rs) ≤ size_of rs
unfolding bodies
bodies_few k [] = omega arith
bodies_few k (r ∷ rs) = go (bodies_few k rs) (eqb r.kind k) refl
  where
    go : length (bodies k rs) ≤ size_of rs → (b : Bool) → eqb r.kind k ≡ b
        → length (bodies k (r ∷ rs)) ≤ size_of (r ∷ rs)
    go h true e = omega (arith, ap length (bodies_here k r rs (eqb-true _ _ e)))
    go h false e = omega (arith, ap length (bodies-other k r rs (eqb-false _ _ e)))

-- the first record of the kind among those that an iterator has left, where a closure asks for the kind
module _ {S A : Type 0} (read : A → RouteRecord) (left : S → List RouteRecord) (k : ℕ) where
  abbrev pub Found : S → Option A → S → Type 0
  Found s r u =
      MatchOption r ((bodies k (left s) ≡ []) × (bodies k (left u) ≡ []))
      (λ x. bodies k (left s) ≡ (read x).body ∷ bodies k (left u))

  module _ {F : Type 0} (g : Mut F (Bor A × Unit {0}) Bool) (f : F)
      (asks : (x : A) (b : Bool) (q : F) → CalledAt g f x b q → (q ≡ f) × (b ≡ eqb (read x).kind k)) where
    found_now : (s : S) (r : Option A) (u : S) → YieldsFirstBy read left s r u
        → IfSome r (λ x. (h : F) × CalledAt g f x true h) → Found s r u
    unfolding bodies
    found_now s None u e h = (ap (bodies k) e.0, ap (bodies k) e.1)
    found_now s (Some x) u e h =
        ap (bodies k) e ∙ bodies_here k (read x) (left u) (eqb-true _ _ (sym (asks x true h.0 h.1).1))

    found_after : (s t u : S) (r : Option A) (x : A) → left s ≡ read x ∷ left t → ((read x).kind ≡ k → ⊥)
        → Found t r u → Found s r u
    found_after s t u None x e n h = (ap (bodies k) e ∙ bodies-other k (read x) (left t) n ∙ h.0, h.1)
    found_after s t u (Some y) x e n h = ap (bodies k) e ∙ bodies-other k (read x) (left t) n ∙ h

    found_past : (xs : List A) (s t : S) (r : Option A) (u : S) (f' : F)
        → Yields (YieldsFirstBy read left) s xs t → YieldsFirstBy read left t r u
        → FoldsTo (λ p x q. CalledAt g p x false q) f xs f' → IfSome r (λ x. (h : F) × CalledAt g f' x true h)
        → Found s r u
    found_past [] s t r u f' y e c h =
        found_now s r u (subst (λ z. YieldsFirstBy read left z r u) (sym y) e)
        (subst (λ z. IfSome r (λ x. (h : F) × CalledAt g z x true h)) (sym c) h)
    found_past (x ∷ xs) s t r u f' y e c h =
        let a = asks x false c.0 c.1 in
        found_after s y.0 u r x y.1 (eqb-false _ _ (sym a.1))
        (found_past xs y.0 t r u f' y.2 e
        (subst (λ z. FoldsTo (λ p x q. CalledAt g p x false q) z xs f') a.0 c.2) h)

    pub found : (s : S) (r : Option A) (u : S) → FindsItem (YieldsFirstBy read left) g s f r u → Found s r u
    found s r u h = found_past h.0 s h.2.0 r u h.1 h.2.1 h.2.2 h.3 h.4

-- item n of those that an iterator has left, and what is left after it
module _ {S A B : Type 0} (read : A → B) (left : S → List B) where
  past : (n : ℕ) (xs : List A) (s t : S) → Yields (YieldsFirstBy read left) s xs t → length xs ≡ n
      → drop n (left s) ≡ left t
  past zero [] s t y e = ap left y
  past (suc n) [] s t y e = absurd (omega (arith, e))
  past zero (x ∷ xs) s t y e = absurd (omega (arith, e))
  past (suc n) (x ∷ xs) s t y e = ap (drop (suc n)) y.1 ∙ past n xs y.0 t y.2 (omega (arith, e))

  past_all : (n : ℕ) (xs : List A) (s t : S) → Yields (YieldsFirstBy read left) s xs t → length xs ≤ n
      → left t ≡ [] → drop n (left s) ≡ []
  past_all n [] s t y h e = ap (drop n) (ap left y ∙ e) ∙ drop-nil n
  past_all zero (x ∷ xs) s t y h e = absurd (omega (arith, h))
  past_all (suc n) (x ∷ xs) s t y h e = ap (drop (suc n)) y.1 ∙ past_all n xs y.0 t y.2 (omega (arith, h)) e

  pub reached : (n : ℕ) (s : S) (r : Option A) (u : S) → SkipsThenYields (YieldsFirstBy read left) s n r u
      → MatchOption r (drop n (left s) ≡ []) (λ x. drop n (left s) ≡ read x ∷ left u)
  reached n s None u h = past_all n h.0 s h.1.0 h.1.1 h.2 h.1.2.0
  reached n s (Some x) u h = past n h.0 s h.1.0 h.1.1 h.2 ∙ h.1.2

-- an iterator that shows what it has left makes progress
pub progress : {S A B : Type 0} (rest : S → List B) (s t : S) (x : A) (y : B) → rest s ≡ y ∷ rest t
    → MakesProgress {S = S} {A = A} (λ _. Unit {0}) (item_count rest) s (Some x) t
progress rest s t x y e =
    record { on = λ _. (tt, tt, omega (arith, ap length e)); keeps = tt; rests = λ _. tt }
