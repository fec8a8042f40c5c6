-- Laws of words joined by a separator.
--
--   joined-led         == joined words are the first one, and the others led by the separator
--   joined-none        == no words
--   led_more           == one word more
-- Assumes nothing.
use Prim.Native.Nat.{ℕ, ◌+◌, ◌<◌}
use native.Mathlib.Omega.{arith}
use mathlib.Core.Path.{◌≡◌, sym, ap, ◌∙◌}
use mathlib.Core.List.{List, [], ◌∷◌, ◌++◌, map, append_assoc, append-nil, map-append}
use lib.ListN.{length, get_or, take}
use Rattle.std.proofs.lemmas.List.{take_more}
use Rattle.meaning.specs.Print.{decimal, joined}
use Rattle.printing.specs.words.Words.{led}

pub joined-led : (sep w : List ℕ) (ws : List (List ℕ)) → joined sep (w ∷ ws) ≡ w ++ led sep ws
unfolding joined led
joined-led sep w [] = sym (append-nil w)
joined-led sep w (v ∷ vs) = ap (λ l. w ++ (sep ++ l)) (joined-led sep v vs)

led_snoc : (sep : List ℕ) (ws : List (List ℕ)) (w : List ℕ)
    → led sep (ws ++ (w ∷ [])) ≡ led sep ws ++ (sep ++ w)
unfolding led
led_snoc sep [] w = ap (λ l. sep ++ l) (append-nil w)
led_snoc sep (v ∷ vs) w =
    ap (λ l. sep ++ (v ++ l)) (led_snoc sep vs w) ∙ sym (simp append_assoc)

pub led_more : {A : Type 0} (f : A → List ℕ) (sep : List ℕ) (xs : List A) (i : ℕ) (x : A) → i < length xs
    → x ≡ get_or xs i x
    → led sep (map f (take (i + 1) xs)) ≡ led sep (map f (take i xs)) ++ (sep ++ f x)
led_more f sep xs i x h e =
    ap (λ l. led sep (map f l)) (take_more xs i x h ∙ ap (λ y. take i xs ++ (y ∷ [])) (sym e))
    ∙ ap (led sep) (map-append f (take i xs) (x ∷ []))
    ∙ led_snoc sep (map f (take i xs)) (f x)

pub joined-none : (old sep ns : List ℕ) → length ns ≡ 0 → old ≡ old ++ joined sep (map decimal ns)
unfolding joined
joined-none old sep [] h = sym (append-nil old)
joined-none old sep (n ∷ ns) h = absurd (omega (arith, h))
