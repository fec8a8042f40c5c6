-- The conditions of a call decide what is told: it answers exactly if none holds, and refuses by n exactly if
-- the condition n holds and none before it.
--
--   answered_decided, refused_decided == so it is of an answer where none holds, and of a refusal by the
--                                        first
--   map-decided      == what is told of a result that is decided so
--   Agree table conditions == the tests of the table say what the conditions say; a condition may be compared
--                       where the tests before it fail
--   settle-decided   == a settled table is decided by the conditions that agree with it
-- Assumes nothing.
use Prim.Native.Nat.{ℕ}
use mathlib.Core.Path.{◌≡◌, refl, sym, ap, subst, ◌∙◌}
use mathlib.Core.Logic.{inl, inr}
use mathlib.Core.Bool.{Bool, true, false, true≢false}
use mathlib.Core.List.{List, [], ◌∷◌, ◌++◌}
use mathlib.Core.Option.{Option, none, some, some-injective, some-ne-none, none-ne-some}
use lib.Dec.{T}
use Rattle.meaning.specs.Result.{Check, Result, refused, answered, map_result, first_of, settle, value_of}
use Rattle.meaning.proofs.Tables.{first_of_skip, first_of_stop, settle-none}
use Rattle.meaning.proofs.Passes.{Passes, first_of_passes}
use Rattle.bridge.proofs.Basics.Searches.{never_answered, refused_same, true-T, T_true}
use Rattle.theorems.specs.Answering.{Answered, Condition, NoneHolds, FirstThatHolds, Decided}

-- THE FIRST CONDITION THAT HOLDS
none_first : (l : List Condition) (n : ℕ) → NoneHolds l → FirstThatHolds n l → ⊥
none_first [] n z f = f
none_first (c ∷ l) n z (inl f) = z.0 f.1
none_first (c ∷ l) n z (inr f) = none_first l n z.1 f.1

first-same : (l : List Condition) (n k : ℕ) → FirstThatHolds n l → FirstThatHolds k l → n ≡ k
first-same [] n k f g = absurd f
first-same (c ∷ l) n k (inl f) (inl g) = f.0 ∙ sym g.0
first-same (c ∷ l) n k (inl f) (inr g) = absurd (g.0 f.1)
first-same (c ∷ l) n k (inr f) (inl g) = absurd (f.0 g.1)
first-same (c ∷ l) n k (inr f) (inr g) = first-same l n k f.1 g.1

pub answered_decided : {A : Type 0} (l : List Condition) {told : Result A} → Answered told → NoneHolds l
    → Decided l told
answered_decided l (a, e) z =
    record {
      answers = (λ _. z, λ _. (a, e));
      refuses = λ n. (λ q. never_answered (sym q ∙ e), λ f. absurd (none_first l n z f));
    }

pub refused_decided : {A : Type 0} (l : List Condition) {told : Result A} {n : ℕ} → told ≡ refused n
    → FirstThatHolds n l
    → Decided l told
refused_decided l {told} {n} e f =
    record {
      answers = (λ a. never_answered (sym e ∙ a.1), λ z. absurd (none_first l n z f));
      refuses = λ k. (
        λ q. subst (λ k. FirstThatHolds k l) (refused_same (sym e ∙ q)) f,
        λ g. e ∙ ap refused (first-same l n k f g),
      );
    }

-- what is told of it
pub map-decided : {A B : Type 0} (l : List Condition) (g : A → B) (x : Result A) {y : Result B}
    → y ≡ map_result g x
    → Decided l x
    → Decided l y
unfolding map_result
map-decided l g (refused n) e d = refused_decided l e ((d.refuses n).0 refl)
map-decided l g (answered a) e d = answered_decided l (g a, e) (d.answers.0 (a, refl))

-- TABLES
pub data Agree : List Check → List Condition → Type 1 where
  done : Agree [] []
  meant : {n : ℕ} {t : Unit {0} → Bool} {D : Type 0} {table : List Check} {l : List Condition}
      → (t tt ≡ true → D)
      → (D → t tt ≡ true)
      → (t tt ≡ false → Agree table l)
      → Agree ((n, t) ∷ table) ((n, D) ∷ l)

-- a condition that is a test
pub tested : {n : ℕ} {t : Unit {0} → Bool} {table : List Check} {l : List Condition}
    → (t tt ≡ false → Agree table l)
    → Agree ((n, t) ∷ table) ((n, T (t tt)) ∷ l)
tested rest = meant true-T T_true rest

-- whatever it says, the rest agrees
pub then : {n : ℕ} {t : Unit {0} → Bool} {table : List Check} {l : List Condition} → Agree table l
    → Agree ((n, t) ∷ table) ((n, T (t tt)) ∷ l)
then rest = tested (λ _. rest)

none_agrees : {table : List Check} {l : List Condition} → Agree table l → first_of table ≡ none → NoneHolds l
none_agrees done e = tt
none_agrees (meant {n} {t} {D} {table} {l} says holds h) e =
    go (λ q z. none_agrees (h q) z) (t tt) refl
  where
    go : (t tt ≡ false → first_of table ≡ none → NoneHolds l) → (b : Bool) → t tt ≡ b → (D → ⊥) × NoneHolds l
    go rest true q = absurd (some-ne-none n (sym (first_of_stop (n, t) table q) ∙ e))
    go rest false q =
        (λ x. true≢false (sym (holds x) ∙ q), rest q (sym (first_of_skip (n, t) table q) ∙ e))

first_agrees : {table : List Check} {l : List Condition} (k : ℕ) → Agree table l → first_of table ≡ some k
    → FirstThatHolds k l
unfolding first_of
first_agrees k done e = absurd (none-ne-some _ e)
first_agrees k (meant {n} {t} {D} {table} {l} says holds h) e =
    go (λ q z. first_agrees k (h q) z) (t tt) refl
  where
    go : (t tt ≡ false → first_of table ≡ some k → FirstThatHolds k l)
        → (b : Bool)
        → t tt ≡ b
        → FirstThatHolds k ((n, D) ∷ l)
    go rest true q = inl (sym (some-injective _ _ (sym (first_of_stop (n, t) table q) ∙ e)), says q)
    go rest false q =
        inr (λ x. true≢false (sym (holds x) ∙ q), rest q (sym (first_of_skip (n, t) table q) ∙ e))

pub settle-decided :
    {A : Type 0} (v : Unit {0} → Option A) (table : List Check) (l : List Condition)
    → Agree table l
    → (Passes table → (a : A) × (v tt ≡ some a))
    → Decided l (settle table v)
unfolding settle value_of
settle-decided v table l h value = go (first_of table) refl
  where
    go : (o : Option ℕ) → first_of table ≡ o → Decided l (settle table v)
    go none f =
        let (a, q) = value (first_of_passes table f) in
        answered_decided l (a, settle-none table v f ∙ ap value_of q) (none_agrees h f)
    go (some n) f = refused_decided l (rw (f, settle)) (first_agrees n h f)

-- CONDITIONS AFTER OTHERS
pub none-append : (a b : List Condition) → NoneHolds a → NoneHolds b → NoneHolds (a ++ b)
none-append [] b z y = y
none-append (c ∷ a) b z y = (z.0, none-append a b z.1 y)

pub first-later : (a b : List Condition) (n : ℕ) → NoneHolds a
    → FirstThatHolds n b
    → FirstThatHolds n (a ++ b)
first-later [] b n z f = f
first-later (c ∷ a) b n z f = inr (z.0, first-later a b n z.1 f)

pub first-earlier : (a b : List Condition) (n : ℕ) → FirstThatHolds n a → FirstThatHolds n (a ++ b)
first-earlier [] b n f = absurd f
first-earlier (c ∷ a) b n (inl f) = inl f
first-earlier (c ∷ a) b n (inr f) = inr (f.0, first-earlier a b n f.1)

-- where none of the first holds, the later ones decide
pub append-decided : {A : Type 0} (a b : List Condition) (told : Result A) → NoneHolds a → Decided b told
    → Decided (a ++ b) told
append-decided a b (refused n) z d = refused_decided (a ++ b) refl
    (first-later a b n z ((d.refuses n).0 refl))
append-decided a b (answered x) z d =
    answered_decided (a ++ b) (x, refl) (none-append a b z (d.answers.0 (x, refl)))
