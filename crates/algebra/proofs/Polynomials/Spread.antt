-- Series and lists spread q places apart.
--
--   spread R q f        == the series f(x^q): coefficient i of f at the place q·i, 0 at the places that q
--                          does not divide; for q = 0, f 0 at place 0
--   join R q a g        == the series a + x^q · g
--   spread-list R q f   == the list f with q − 1 zeros between neighbours and none after the last; for q = 0
--                          as for q = 1
--   spread-polynomial q f
--                       == the polynomial f(x^q); its coefficients by `coefficient-spread` for q > 0
--   map-polynomial c f  == the polynomial f with c applied to its coefficients; c 0 = 0 is wanted of c
--   spread_rule         == what is made of each series f by a constant c (f 0) and x^q times what is made of
--                          its tail is the spread of f with c applied to its coefficients
--
-- Assumes nothing.
use Prim.Native.Nat.{ℕ, zero, suc, ◌+◌, ◌-◌, ◌*◌, ◌/◌, ◌≤◌, ◌<◌, ◌∣◌}
use mathlib.Core.Path.{◌≡◌, refl, sym, ap, ap₂, fun_ext, subst, ◌∙◌}
use mathlib.Core.List.{List, [], ◌∷◌, map}
use mathlib.Core.Logic.{ite, if_pos, if_neg}
use native.Mathlib.Nat.{
  dvd-mul_right,
  dvd_refl,
  dvd-add_iff_right,
  mul-div_right,
  mul-div_cancel',
  mul-zero,
  le_refl,
  lt_of_mul-lt-mul_left,
  suc-add,
  le_of_suc-le-suc,
}
use native.Mathlib.Decide.{dec_dvd, dec_lt}
use native.Mathlib.Omega.{arith}
use lib.ListN.{length, get_or, get_or-map}
use Rattle.algebra.proofs.Rings.Ring.{Ring, zero-add}
use Rattle.algebra.proofs.Rings.Power.{power}
use Rattle.algebra.proofs.Polynomials.Series.{tail, series, constant-series, x-series}
use Rattle.algebra.proofs.Polynomials.Series.{coefficient-list}
use Rattle.algebra.proofs.Polynomials.Series.{
  constant-zero,
  constant-suc,
  series-add,
  x-power-mul-above,
  x-power-mul-below,
}
use Rattle.algebra.proofs.Polynomials.Polynomial.{
  Polynomial,
  from_list,
  coefficient,
  coefficient_to_list,
  coefficient-from_list,
  Below,
}
use Rattle.algebra.proofs.Polynomials.Monic.{Monic}
use Rattle.algebra.proofs.Numbers.Number.{not-divides-below}

-- Induction by steps of q
module _
    (q : ℕ) (pos : 0 < q) (P : ℕ → Type 0) (below : (n : ℕ) → n < q → P n) (above : (n : ℕ) → P n → P (q + n))
  where
    by_steps_bounded : (b n : ℕ) → n ≤ b → P n
    by_steps_bounded zero n l = below n (omega arith)
    by_steps_bounded (suc b) n l = elim (dec_lt n q) [
      | yes s ↦ below n s
      | no h ↦
          let e : q + (n - q) ≡ n = omega arith in
          subst P e (above (n - q) (by_steps_bounded b (n - q) (omega arith)))
    ]

    pub by_steps : (n : ℕ) → P n
    by_steps n = by_steps_bounded n n (le_refl n)

-- Coefficients of a spread
module _ {K : Type 0} (R : Ring K) (q : ℕ) where
  open R use {0#}

  unfoldable pub spread : (ℕ → K) → ℕ → K
  spread f n = ite (dec_dvd q n) (f (n / q)) 0#

  pub spread-between : (f : ℕ → K) (n : ℕ) → ¬ (q ∣ n) → spread f n ≡ 0#
  unfolding spread
  spread-between f n h = if_neg (dec_dvd q n) h (f (n / q)) 0#

  module _ (pos : 0 < q) where
    pub spread_at : (f : ℕ → K) (i : ℕ) → spread f (q * i) ≡ f i
    unfolding spread
    spread_at f i =
        if_pos (dec_dvd q (q * i)) (dvd-mul_right q i) (f (q * i / q)) 0# ∙ ap f (mul-div_right i pos)

    -- The series with these coefficients is the spread of f.
    pub spread-unique :
        (f g : ℕ → K) → ((i : ℕ) → g (q * i) ≡ f i) → ((n : ℕ) → ¬ (q ∣ n) → g n ≡ 0#) → g ≡ spread f
    spread-unique f g at between = fun_ext (λ n. elim (dec_dvd q n) [
      | yes d ↦ subst (λ m. g m ≡ spread f m) (mul-div_cancel' q d) (at (n / q) ∙ sym (spread_at f (n / q)))
      | no h ↦ between n h ∙ sym (spread-between f n h)
    ])

    spread-next-at : (f : ℕ → K) (i : ℕ) → spread f (q + q * i) ≡ spread (tail f) (q * i)
    spread-next-at f i = ap (spread f) (omega arith) ∙ spread_at f (suc i) ∙ sym (spread_at (tail f) i)

    pub spread-next : (f : ℕ → K) (n : ℕ) → spread f (q + n) ≡ spread (tail f) n
    spread-next f n = elim (dec_dvd q n) [
      | yes d ↦
          subst (λ m. spread f (q + m) ≡ spread (tail f) m) (mul-div_cancel' q d) (spread-next-at f (n / q))
      | no h ↦
          spread-between f (q + n) (λ d. h ((dvd-add_iff_right q (dvd_refl q)).1 d))
          ∙ sym (spread-between (tail f) n h)
    ]

    pub spread-below : (f : ℕ → K) (n : ℕ) → n < q → spread f n ≡ constant-series R (f 0) n
    spread-below f zero l = ap (spread f) (sym (mul-zero q)) ∙ spread_at f 0 ∙ sym (constant-zero R (f 0))
    spread-below f (suc n) l =
        spread-between f (suc n) (not-divides-below (omega arith) l) ∙ sym (constant-suc R (f 0) n)

-- The series a + x^q · g
module _ {K : Type 0} (R : Ring K) (q : ℕ) where
  open R use {0#, ◌⊕◌, add-zero}
  open series R use {◌⊕◌ as ◌⊞◌, ◌⊗◌ as ◌⊠◌}

  infixl 60 ◌⊕◌ ◌⊞◌
  infixl 70 ◌⊠◌
  unfoldable pub join : K → (ℕ → K) → ℕ → K
  join a g = constant-series R a ⊞ power (series R) (x-series R) q ⊠ g

  pub join-below : (a : K) (g : ℕ → K) (n : ℕ) → n < q → join a g n ≡ constant-series R a n
  unfolding join
  join-below a g n l =
      series-add R (constant-series R a) (power (series R) (x-series R) q ⊠ g) n
      ∙ ap (λ z. constant-series R a n ⊕ z) (x-power-mul-below R q g n l)
      ∙ add-zero (constant-series R a n)

  constant-above : (a : K) (n : ℕ) → 0 < n → constant-series R a n ≡ 0#
  constant-above a zero s = absurd (omega arith)
  constant-above a (suc n) s = constant-suc R a n

  module _ (pos : 0 < q) where
    pub join-above : (a : K) (g : ℕ → K) (n : ℕ) → join a g (q + n) ≡ g n
    unfolding join
    join-above a g n =
        series-add R (constant-series R a) (power (series R) (x-series R) q ⊠ g) (q + n)
        ∙ ap₂ ◌⊕◌ (constant-above a (q + n) (omega arith)) (x-power-mul-above R q g n)
        ∙ zero-add R (g n)

    pub join-unique :
        (a : K) (g h : ℕ → K) → ((n : ℕ) → n < q → h n ≡ constant-series R a n) → ((n : ℕ) → h (q + n) ≡ g n)
        → h ≡ join a g
    join-unique a g h below above =
        fun_ext
        (by_steps q pos (λ n. h n ≡ join a g n)
        (λ n l. below n l ∙ sym (join-below a g n l))
        (λ n _. above n ∙ sym (join-above a g n)))

    -- f(x^q) = f 0 + x^q · (tail f)(x^q)
    pub spread-split : (f : ℕ → K) → spread R q f ≡ join (f 0) (spread R q (tail f))
    spread-split f =
        join-unique (f 0) (spread R q (tail f)) _ (spread-below R q pos f) (spread-next R q pos f)

    module _ (c : K → K) (G : (ℕ → K) → ℕ → K) (rule : (f : ℕ → K) → G f ≡ join (c (f 0)) (G (tail f))) where
      abbrev Agrees : ℕ → Type 0
      Agrees n = (f : ℕ → K) → G f n ≡ spread R q (λ i. c (f i)) n

      agrees_below : (n : ℕ) → n < q → Agrees n
      agrees_below n l f =
          ap (λ g. g n) (rule f)
          ∙ join-below (c (f 0)) (G (tail f)) n l
          ∙ sym (spread-below R q pos (λ i. c (f i)) n l)

      agrees_above : (n : ℕ) → Agrees n → Agrees (q + n)
      agrees_above n h f =
          ap (λ g. g (q + n)) (rule f)
          ∙ join-above (c (f 0)) (G (tail f)) n
          ∙ h (tail f)
          ∙ sym (spread-next R q pos (λ i. c (f i)) n)

      pub spread_rule : (f : ℕ → K) → G f ≡ spread R q (λ i. c (f i))
      spread_rule f = fun_ext (λ n. by_steps q pos Agrees agrees_below agrees_above n f)

-- Lists
module _ {K : Type 0} (R : Ring K) where
  open R use {0#}

  -- k zeros before a list, if it is not empty
  unfoldable pub gap : ℕ → List K → List K
  gap zero f = f
  gap (suc k) [] = []
  gap (suc k) (a ∷ f) = 0# ∷ gap k (a ∷ f)

  unfoldable pub spread-list : ℕ → List K → List K
  spread-list q [] = []
  spread-list q (a ∷ f) = a ∷ gap (q - 1) (spread-list q f)

  gap_below : (k : ℕ) (f : List K) (n : ℕ) → n < k → coefficient-list R (gap k f) n ≡ 0#
  unfolding gap
  gap_below zero f n l = absurd (omega arith)
  gap_below (suc k) [] n l = refl
  gap_below (suc k) (a ∷ f) zero l = refl
  gap_below (suc k) (a ∷ f) (suc n) l = gap_below k (a ∷ f) n (le_of_suc-le-suc l)

  gap-above : (k : ℕ) (f : List K) (n : ℕ) → coefficient-list R (gap k f) (k + n) ≡ coefficient-list R f n
  unfolding gap
  gap-above zero f n = ap (coefficient-list R f) (omega arith)
  gap-above (suc k) [] n = refl
  gap-above (suc k) (a ∷ f) n = rw suc-add (gap-above k (a ∷ f) n)

  gap-nil : (k : ℕ) → gap k [] ≡ []
  unfolding gap
  gap-nil zero = refl
  gap-nil (suc k) = refl

  gap_length : (k : ℕ) (a : K) (f : List K) → length (gap k (a ∷ f)) ≡ k + suc (length f)
  unfolding gap
  gap_length zero a f = omega arith
  gap_length (suc k) a f = ap suc (gap_length k a f) ∙ sym (suc-add k (suc (length f)))

  module _ (q : ℕ) (pos : 0 < q) where
    cons-gap :
        (a : K) (f : List K) → coefficient-list R (a ∷ gap (q - 1) f) ≡ join R q a (coefficient-list R f)
    cons-gap a f = join-unique R q pos a (coefficient-list R f) _ below above
      where
        below : (n : ℕ) → n < q → coefficient-list R (a ∷ gap (q - 1) f) n ≡ constant-series R a n
        below zero l = sym (constant-zero R a)
        below (suc n) l = gap_below (q - 1) f n (omega arith) ∙ sym (constant-suc R a n)

        above : (n : ℕ) → coefficient-list R (a ∷ gap (q - 1) f) (q + n) ≡ coefficient-list R f n
        above n =
            let e : q + n ≡ suc (q - 1 + n) = omega arith in
            ap (coefficient-list R (a ∷ gap (q - 1) f)) e ∙ gap-above (q - 1) f n

    pub spread-list-series :
        (f : List K) → coefficient-list R (spread-list q f) ≡ spread R q (coefficient-list R f)
    unfolding spread-list
    spread-list-series [] = spread-unique R q pos (λ _. 0#) (λ _. 0#) (λ _. refl) (λ _ _. refl)
    spread-list-series (a ∷ f) =
        cons-gap a (spread-list q f)
        ∙ ap (join R q a) (spread-list-series f)
        ∙ sym (spread-split R q pos (coefficient-list R (a ∷ f)))

-- Polynomials
module _ {K : Type 0} {R : Ring K} {D : Discrete K} where
  open R use {0#}

  pub spread-polynomial : ℕ → Polynomial R D → Polynomial R D
  spread-polynomial q f = from_list R D (spread-list R q f.to_list)

  pub map-polynomial : (K → K) → Polynomial R D → Polynomial R D
  map-polynomial c f = from_list R D (map c f.to_list)

  pub coefficient-map :
      (c : K → K) → c 0# ≡ 0# → (f : Polynomial R D) (n : ℕ)
      → coefficient (map-polynomial c f) n ≡ c (coefficient f n)
  unfolding map-polynomial
  coefficient-map c z f n =
      ap (λ u. u n) (coefficient-from_list R D (map c f.to_list))
      ∙ ap (get_or (map c f.to_list) n) (sym z)
      ∙ get_or-map c f.to_list n 0#
      ∙ ap (λ u. c (u n)) (sym (coefficient_to_list f))

  module _ (q : ℕ) (pos : 0 < q) where
    pub coefficient-spread :
        (f : Polynomial R D) → coefficient (spread-polynomial q f) ≡ spread R q (coefficient f)
    unfolding spread-polynomial
    coefficient-spread f =
        coefficient-from_list R D (spread-list R q f.to_list)
        ∙ spread-list-series R q pos f.to_list
        ∙ ap (spread R q) (sym (coefficient_to_list f))

    pub coefficient-spread-at :
        (f : Polynomial R D) (i : ℕ) → coefficient (spread-polynomial q f) (q * i) ≡ coefficient f i
    coefficient-spread-at f i =
        ap (λ u. u (q * i)) (coefficient-spread f) ∙ spread_at R q pos (coefficient f) i

    pub coefficient-spread-between :
        (f : Polynomial R D) (n : ℕ) → ¬ (q ∣ n) → coefficient (spread-polynomial q f) n ≡ 0#
    coefficient-spread-between f n h =
        ap (λ u. u n) (coefficient-spread f) ∙ spread-between R q (coefficient f) n h

    -- Where f has a degree of at most n, the spread has one of at most q·n.
    pub spread-degree :
        {f : Polynomial R D} {n : ℕ} → Below f (suc n) → Below (spread-polynomial q f) (suc (q * n))
    spread-degree {f} {n} b = record {
      above = λ i l. elim (dec_dvd q i) [
        | yes d ↦
            let e : q * (i / q) ≡ i = mul-div_cancel' q d in
            let h : n < i / q = lt_of_mul-lt-mul_left q (omega arith) in
            ap (coefficient (spread-polynomial q f)) (sym e)
            ∙ coefficient-spread-at f (i / q)
            ∙ b.above (i / q) h
        | no h ↦ coefficient-spread-between f i h
      ];
    }

    pub spread-monic : {f : Polynomial R D} {n : ℕ} → Monic f n → Monic (spread-polynomial q f) (q * n)
    spread-monic {f} {n} m =
        record { leading = coefficient-spread-at f n ∙ m.leading; below = spread-degree m.below }
