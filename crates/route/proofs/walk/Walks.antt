-- A walk that is accepted answers the records by their lengths, of which none is cut.
--
--   length_found      == the length of a body whose kind is in the list
--   framed-flat       == whole records, put one after another, are the records of these bytes
--   AnswersWhole x rs == where the result x is an answer, it is the records rs, and they are whole; a refusal
--                        does not clear the work bytes
-- Assumes nothing.
use Prim.Native.Nat.{ℕ}
use native.Mathlib.Omega.{arith}
use mathlib.Core.Path.{◌≡◌, refl, sym, ap, ◌∙◌}
use mathlib.Core.Bool.{false}
use mathlib.Core.List.{List, [], ◌∷◌, ◌++◌}
use mathlib.Core.Option.{some}
use lib.Seq.{take_at, drop_at}
use Rattle.meaning.specs.Result.{Result, refused, answered, clears}
use Rattle.meaning.specs.Route.{RouteRecord, look_up, body_lengths}
use Rattle.meaning.proofs.Tables.{keeps_low}
use Rattle.bridge.proofs.Files.Records.{flat, Whole, Walked}
use Rattle.route.specs.framing.Framing.{or_else, body_length, framed}
use Rattle.route.proofs.framing.Frames.{framed-cons}

pub length_found : (kind : ℕ) {n : ℕ} → look_up kind body_lengths ≡ some n → body_length kind ≡ n
unfolding body_length or_else
length_found kind e = rw (e, or_else)

pub framed-flat : (rs : List RouteRecord) → Whole rs → framed (flat rs) 0 ≡ rs
unfolding framed
framed-flat [] w = refl
framed-flat (r ∷ rs) w =
    let n = length_found r.kind w.0 in
    let body = take_at r.body (flat rs) (body_length r.kind) (sym n) in
    let rest = ap (λ l. framed l 0) (drop_at r.body (flat rs) (body_length r.kind) (sym n)) in
    framed-cons r.kind (r.body ++ flat rs)
    ∙ (λ i. record { kind = r.kind; body = body i } ∷ (rest ∙ framed-flat rs w.1) i)

abbrev pub AnswersWhole : Result (List RouteRecord) → List RouteRecord → Type 0
AnswersWhole (refused n) rs = clears n ≡ false
AnswersWhole (answered qs) rs = (qs ≡ rs) × Whole qs

pub walked_whole : (bytes : List ℕ) (x : Result (List RouteRecord)) → Walked x bytes
    → AnswersWhole x (framed bytes 0)
walked_whole bytes (refused n) h = keeps_low n (omega arith)
walked_whole bytes (answered qs) h =
    (sym (framed-flat qs h.1) ∙ ap (λ (l : List ℕ). framed l 0) h.0, h.1)
