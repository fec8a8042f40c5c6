-- Fields with finitely many elements: the residues modulo an irreducible polynomial, and their powers.
--
--   Elements K q          == a list of the q elements of the type K, each of them once
--   polynomials-below R D E d
--                         == the list of all polynomials below d, each once: q^d where the elements E of
--                            the ring R are q; for d = 0 the polynomial 0 alone
--   below-residues        == modulo a monic polynomial of degree d, the polynomials below d are a complete
--                            system of residues
--   irreducible-prime     == over a field of q elements, the multiples of an irreducible polynomial are a
--                            prime ideal
--   irreducible-power     == over a field of q elements, f irreducible of degree d: f divides h^(q^d-1) - 1
--                            for every h that f does not divide
--   element-power         == a^(q-1) = 1 for each a other than 0 in a field of q elements
--   element-fixed         == a^q = a for each a in it
--
-- Assumes nothing.
use mathlib.Core.Path.{◌≡◌, refl, sym, ap, ap₂, subst, ◌∙◌}
use mathlib.Core.Logic.{◌↔◌, ∥∥₁_elim}
use mathlib.Core.List
use mathlib.Core.List.{List, [], ◌∷◌, map, flat_map, product}
use mathlib.Core.List.Memᴰ
use mathlib.Core.List.{Mem, mem-map, mem-map_of_mem, mem-singleton, not-mem-nil}
use mathlib.Mathlib.Data.List.ProdSigma.{mem-product}
use mathlib.Mathlib.Data.List.Nodup as Nodup
use lib.ListN.{length, length-map, length-append}
use Prim.Native.Nat.{ℕ, zero, suc, ◌+◌, ◌*◌, ◌-◌, ◌^◌, ◌<◌, suc-le-suc}
use native.Mathlib.Nat as ℕ
use native.Mathlib.Omega.{arith}
use Rattle.algebra.proofs.Rings.Ring.{Ring, Field}
use Rattle.algebra.proofs.Rings.Ring.{sub-unique, eq_of_sub-zero, one-mul, mul-zero, mul_eq_zero}
use Rattle.algebra.proofs.Rings.Power.{power, power-suc, power_of_zero}
use Rattle.algebra.proofs.Rings.Ideal.{Divides}
use Rattle.algebra.proofs.Polynomials.Polynomial.{
  Polynomial,
  polynomials,
  polynomial_ext,
  polynomial_discrete,
  coefficient,
  coefficient-cons-zero,
  coefficient-cons-suc,
  constant,
  X,
  Below,
  below-zero,
}
use Rattle.algebra.proofs.Polynomials.Monic.{Monic, below_of_zero, below-add, below-neg, monic-one}
use Rattle.algebra.proofs.Polynomials.Monic.{monic-degree}
use Rattle.algebra.proofs.Polynomials.Division.{divide, divide-x, below-cons, divides-below}
use Rattle.algebra.proofs.Polynomials.Division.{divisor-degree}
use Rattle.algebra.proofs.Polynomials.Derivative.{unity}
use Rattle.algebra.proofs.Polynomials.Irreducible.{Irreducible, irreducible-atom}
use Rattle.algebra.proofs.Rings.Residues.{Residues, PrimeIdeal, atom-prime, residue-power}

pub record Elements (K : Type 0) (q : ℕ) : Type 0 where
  pub all : List K
  pub size : length all ≡ q
  pub complete : (a : K) → Mem a all
  pub once : List.Nodup all

-- Pairs
length_pairs : {A B : Type 0} (xs : List A) (ys : List B) → length (product xs ys) ≡ length xs * length ys
unfolding product flat_map
length_pairs [] ys = sym (ℕ.zero-mul (length ys))
length_pairs {A} {B} (x ∷ xs) ys =
    length-append (map (λ b. (x, b)) ys) (product xs ys)
    ∙ ap₂ ◌+◌ (length-map ys (λ b. (x, b))) (length_pairs xs ys)
    ∙ ℕ.add_comm (length ys) (length xs * length ys)
    ∙ sym (ℕ.suc-mul (length xs) (length ys))

-- The polynomials below d: those below d + 1 are a + x·f with f below d
module _ {K : Type 0} (R : Ring K) (D : Discrete K) where
  open polynomials R D use {0# as 0ₚ, ◌⊕◌ as ◌⊞◌, ◌⊗◌ as ◌⊠◌, ⊖◌ as ⊟◌}

  infixl 60 ◌⊞◌
  infixl 70 ◌⊠◌
  infix 80 ⊟◌
  attach : K × Polynomial R D → Polynomial R D
  attach e = constant R D e.0 ⊞ X R D ⊠ e.1

  detach : (f : Polynomial R D) → (e : K × Polynomial R D) × (attach e ≡ f)
  unfolding attach
  detach f = let (g, e) = divide-x f in ((coefficient f 0, g), sym e)

  attach_injective : (e e' : K × Polynomial R D) → attach e ≡ attach e' → e ≡ e'
  unfolding attach
  attach_injective e e' p = λ i. (first i, rest i)
    where
      first : e.0 ≡ e'.0
      first =
          sym (coefficient-cons-zero e.0 e.1)
          ∙ ap (λ f. coefficient f 0) p
          ∙ coefficient-cons-zero e'.0 e'.1

      rest : e.1 ≡ e'.1
      rest =
          polynomial_ext
          (
          λ n.
          sym (coefficient-cons-suc e.0 e.1 n)
          ∙ ap (λ f. coefficient f (suc n)) p
          ∙ coefficient-cons-suc e'.0 e'.1 n
          )

  attach-below : (a : K) {f : Polynomial R D} {n : ℕ} → Below f n ↔ Below (attach (a, f)) (suc n)
  unfolding attach
  attach-below a {f} {n} = (
    below-cons a,
    λ b. record { above = λ i l. sym (coefficient-cons-suc a f i) ∙ b.above (suc i) (suc-le-suc l) },
  )

  below_prop : (f : Polynomial R D) (n : ℕ) → IsProp (Below f n)
  below_prop f n b c = λ i. record { above = λ j l. R.is_set _ _ (b.above j l) (c.above j l) i }

  module _ {q : ℕ} (E : Elements K q) where
    open E use {all, size, complete, once}

    pub polynomials-below : ℕ → List (Polynomial R D)
    polynomials-below zero = 0ₚ ∷ []
    polynomials-below (suc d) = map attach (product all (polynomials-below d))

    pub polynomials-below-length : (d : ℕ) → length (polynomials-below d) ≡ q ^ d
    unfolding polynomials-below
    polynomials-below-length zero = sym (ℕ.pow-zero q)
    polynomials-below-length (suc d) =
        length-map (product all (polynomials-below d)) attach
        ∙ length_pairs all (polynomials-below d)
        ∙ ap₂ ◌*◌ size (polynomials-below-length d)
        ∙ sym (ℕ.pow-succ' q d)

    pub polynomials-below_sound : (d : ℕ) {f : Polynomial R D} → Mem f (polynomials-below d) → Below f d
    unfolding polynomials-below
    polynomials-below_sound zero m = rw ((mem-singleton (polynomials R D).is_set).0 m) (below_of_zero R D 0)
    polynomials-below_sound (suc d) {f} m =
        ∥∥₁_elim
        ((mem-map {f = attach} {l = product all (polynomials-below d)}).0 m)
        (below_prop f (suc d))
        (
        λ w.
        let b = polynomials-below_sound d ((mem-product {l₁ = all}).0 w.1).1 in
        subst (λ g. Below g (suc d)) w.2 ((attach-below w.0.0).0 b)
        )

    pub polynomials-below_complete :
        (d : ℕ) {f : Polynomial R D} → Below f d → Mem f (polynomials-below d)
    unfolding polynomials-below
    polynomials-below_complete zero b = ∣ Memᴰ.head (below-zero b) ∣₁
    polynomials-below_complete (suc d) {f} b =
        let (e, p) = detach f in
        let c : Below e.1 d = (attach-below e.0).1 (rw p b) in
        subst
        (λ g. Mem g (polynomials-below (suc d)))
        p
        (mem-map_of_mem attach (mem-product.1 (complete e.0, polynomials-below_complete d c)))

    pub polynomials-below-once : (d : ℕ) → List.Nodup (polynomials-below d)
    unfolding polynomials-below
    polynomials-below-once zero = Nodup.Nodup-singleton 0ₚ
    polynomials-below-once (suc d) =
        Nodup.map attach_injective (Nodup.product once (polynomials-below-once d))

    -- Residues modulo a monic polynomial
    difference_below :
        (d : ℕ) {a b : Polynomial R D}
        → Mem a (polynomials-below d)
        → Mem b (polynomials-below d)
        → Below (a ⊞ ⊟ b) d
    difference_below d i j = below-add (polynomials-below_sound d i) (below-neg (polynomials-below_sound d j))

    pub below-residues :
        {f : Polynomial R D} {d : ℕ}
        → Monic f d
        → Residues (polynomials R D) (Divides (polynomials R D) f) (polynomials-below d)
    below-residues {d = d} m =
        record {
          reduce = λ h. (divide m h).remainder;
          member = λ h. polynomials-below_complete d (divide m h).small;
          congruent =
              λ h.
              record {
                quotient = (divide m h).quotient;
                equation = sym (sub-unique (polynomials R D) (sym (divide m h).equation));
              };
          once = polynomials-below-once d;
          apart = λ a b e. eq_of_sub-zero (polynomials R D) (divides-below m e (difference_below d a b));
        }

-- Over a field of q elements
module _ {K : Type 0} {R : Ring K} {q : ℕ} (F : Field R) (E : Elements K q) where
  open R use {0#, 1#, ◌⊕◌, ◌⊗◌}

  infixl 60 ◌⊕◌
  infixl 70 ◌⊗◌
  -- The elements 0 and 1 are there.
  pub elements-two : 1 < q
  elements-two = subst (λ n. 1 < n) E.size (go E.all E.complete)
    where
      go : (xs : List K) → ((a : K) → Mem a xs) → 1 < length xs
      go [] h = absurd (not-mem-nil (h 0#))
      go (x ∷ []) h = absurd (F.one_nonzero (only (h 1#) ∙ sym (only (h 0#))))
        where
          only : {a : K} → Mem a (x ∷ []) → a ≡ x
          only m = (mem-singleton R.is_set).0 m
      go (x ∷ y ∷ xs) h = omega arith

  pub residues-two : (d : ℕ) → 0 < d → 1 < q ^ d
  residues-two zero l = absurd (omega arith)
  residues-two (suc d) l =
      rw ℕ.pow-succ' (ℕ.le_trans elements-two (ℕ.le-mul_of_pos_right q (ℕ.one-le-pow d q some)))
    where
      some : 0 < q
      some = omega (arith, elements-two)

  zero-prime : PrimeIdeal R (λ a. a ≡ 0#)
  zero-prime = record {
    ideal = record {
      has_zero = refl;
      sum = λ e e'. ap₂ ◌⊕◌ e e' ∙ R.add-zero 0#;
      multiple = λ c e. ap (◌⊗◌ c) e ∙ mul-zero R c;
    };
    proper = F.one_nonzero;
    factor = mul_eq_zero F;
  }

  zero-residues : Residues R (λ a. a ≡ 0#) E.all
  zero-residues = record {
    reduce = λ a. a;
    member = E.complete;
    congruent = R.add_neg;
    once = E.once;
    apart = λ _ _. eq_of_sub-zero R;
  }

  pub element-power : {a : K} → ¬ (a ≡ 0#) → power R a (q - 1) ≡ 1#
  element-power {a} h =
      subst (λ n. power R a (n - 1) ≡ 1#) E.size
      (eq_of_sub-zero R (residue-power R zero-prime F.discrete zero-residues h))

  pub element-fixed : (a : K) → power R a q ≡ a
  element-fixed a = elim (F.discrete a 0#) [
    | yes z ↦ ap (λ u. power R u q) z ∙ power_of_zero R q (omega (arith, elements-two)) ∙ sym z
    | no h ↦
        ap (power R a) (omega (arith, elements-two))
        ∙ power-suc R a (q - 1)
        ∙ ap (λ u. u ⊗ a) (element-power h)
        ∙ one-mul R a
  ]

  module _ {D : Discrete K} where
    open polynomials R D use {1# as 1ₚ}

    pub irreducible-prime : {f : Polynomial R D} {d : ℕ}
        → Irreducible f d → PrimeIdeal (polynomials R D) (Divides (polynomials R D) f)
    irreducible-prime {f} {d} i = atom-prime (polynomials R D) (irreducible-atom F i) proper
      where
        proper : ¬ Divides (polynomials R D) f 1ₚ
        proper e =
            let z = divisor-degree i.monic (monic-degree F.one_nonzero (monic-one R D)) e in
            omega (arith, i.positive)

    pub irreducible-power : {f h : Polynomial R D} {d : ℕ}
        → Irreducible f d
        → ¬ Divides (polynomials R D) f h
        → Divides (polynomials R D) f (unity (polynomials R D) h (q ^ d - 1))
    irreducible-power {f} {h} {d} i k =
        subst
        (λ n. Divides (polynomials R D) f (unity (polynomials R D) h (n - 1)))
        (polynomials-below-length R D E d)
        (residue-power (polynomials R D) (irreducible-prime i) polynomial_discrete residues k)
      where
        residues : Residues (polynomials R D) (Divides (polynomials R D) f) (polynomials-below R D E d)
        residues = below-residues R D E i.monic
