-- Complete systems of residues modulo an ideal, and the powers of what is not in a prime ideal.
--
--   product R xs        == the product of the members of the list xs; 1# for the empty list
--   PrimeIdeal R I      == the ideal I does not hold 1#, and holds a product only where it holds a factor
--   atom-prime          == the multiples of an atom that is no unit form a prime ideal
--   Residues R I xs     == the list xs is a complete system of residues modulo I: each element of the ring
--                          differs from exactly one member of xs by an element of I, and no member is there
--                          twice; `reduce a` is that member for a
--   permuted            == a map of a list without repetition into itself that is injective there permutes it
--   residue-power       == modulo a prime ideal with n residues, h^(n-1) = 1 for each h outside of the ideal
--
-- "a = b modulo I" is `I (a ⊕ ⊖ b)`, as in Ideal.
-- Assumes nothing.
use mathlib.Core.Path.{◌≡◌, refl, sym, ap, subst, subst₂, ◌∙◌}
use mathlib.Core.Logic.{◌⊎◌, inl, inr, ∥∥₁_elim}
use mathlib.Core.Nat.{le_of_eq}
use mathlib.Core.List.{List, [], ◌∷◌, map, foldr, erase, length-map, erase-sublist}
use mathlib.Core.List.{Mem, Mem-prop, mem-map, mem-cons_self, mem-cons_of_mem}
use mathlib.Core.List.Nodup
use mathlib.Core.List.{Nodup}
use mathlib.Core.List.Perm
use mathlib.Core.List.Subperm
use mathlib.Core.List.{Perm, perm_cons_erase}
use mathlib.Mathlib.Data.List.Nodup.{map_on}
use lib.ListN.{length}
use Prim.Native.Nat.{suc, ◌-◌}
use native.Mathlib.Nat.{ℕ_set}
use native.Mathlib.Omega.{arith}
use Rattle.algebra.proofs.Rings.Ring.{Ring, mul_left_comm, mul-sub, sub-mul, one-mul}
use Rattle.algebra.proofs.Rings.Power.{power, power_zero, power-suc}
use Rattle.algebra.proofs.Rings.Ideal.{Ideal, Divides, Atom, multiples-ideal, atom-product, sub-member}
use Rattle.algebra.proofs.Rings.Ideal.{congruent-member, congruent-refl, congruent_sym}
use Rattle.algebra.proofs.Rings.Ideal.{congruent_trans, congruent-mul}
use Rattle.algebra.proofs.Rings.Solver.{solve, ◌:=◌, ◌:*◌}

-- Lists without repetition
module _ {A : Type 0} where
  length_fold : (xs : List A) → foldr (λ _ n. suc n) 0 xs ≡ length xs
  length_fold [] = refl
  length_fold (x ∷ xs) = ap suc (length_fold xs)

  pub perm_length : {xs ys : List A} → Perm xs ys → length xs ≡ length ys
  perm_length {xs} {ys} p =
      sym (length_fold xs) ∙ Perm.foldr-eq ℕ_set (λ _ n. suc n) (λ _ _ _. refl) p 0 ∙ length_fold ys

  pub permuted :
      {φ : A → A} {xs : List A}
      → Nodup xs
      → ((a : A) → Mem a xs → Mem (φ a) xs)
      → ((a : A) → Mem a xs → (b : A) → Mem b xs → φ a ≡ φ b → a ≡ b)
      → Perm (map φ xs) xs
  permuted {φ} {xs} once into injective =
      Subperm.perm_of_length_le
      (Nodup.subperm (map_on injective once) inside)
      (le_of_eq (sym (length-map xs φ)))
    where
      inside : (b : A) → Mem b (map φ xs) → Mem b xs
      inside b m =
          ∥∥₁_elim (mem-map.0 m) Mem-prop (λ w. subst (λ c. Mem c xs) w.2 (into w.0 w.1))

module _ {K : Type 0} (R : Ring K) where
  open R use {0#, 1#, ◌⊕◌, ◌⊗◌, ⊖◌}

  infixl 60 ◌⊕◌
  infixl 70 ◌⊗◌
  infix 80 ⊖◌
  pub product : List K → K
  product xs = foldr ◌⊗◌ 1# xs

  pub product_perm : {xs ys : List K} → Perm xs ys → product xs ≡ product ys
  unfolding product
  product_perm p = Perm.foldr-eq R.is_set ◌⊗◌ (mul_left_comm R) p 1#

  pub product-multiples : (h : K) (xs : List K)
      → product (map (◌⊗◌ h) xs) ≡ power R h (length xs) ⊗ product xs
  unfolding product
  product-multiples h [] = rw power_zero (sym (R.mul-one 1#))
  product-multiples h (x ∷ xs) =
      rw (power-suc, product-multiples h xs)
      (solve R 4 (λ h x a b. h :* x :* (a :* b) := a :* h :* (x :* b)) refl h x _ _)

  pub record PrimeIdeal (I : K → Type 0) : Type 0 where
    pub ideal : Ideal R I
    pub proper : ¬ I 1#
    pub factor : {a b : K} → I (a ⊗ b) → I a ⊎ I b

  pub record Residues (I : K → Type 0) (xs : List K) : Type 0 where
    pub reduce : K → K
    pub member : (a : K) → Mem (reduce a) xs
    pub congruent : (a : K) → I (a ⊕ ⊖ reduce a)
    pub once : Nodup xs
    pub apart : {a b : K} → Mem a xs → Mem b xs → I (a ⊕ ⊖ b) → a ≡ b

  pub atom-prime : {f : K} → Atom R f → ¬ Divides R f 1# → PrimeIdeal (Divides R f)
  atom-prime {f} atom proper = record {
    ideal = multiples-ideal R f;
    proper = proper;
    factor = atom-product R atom;
  }

  product-congruent : {I : K → Type 0} (ideal : Ideal R I) {φ ψ : K → K} → ((a : K) → I (φ a ⊕ ⊖ ψ a))
      → (xs : List K) → I (product (map φ xs) ⊕ ⊖ product (map ψ xs))
  unfolding product
  product-congruent ideal h [] = congruent-refl R ideal 1#
  product-congruent ideal h (x ∷ xs) = congruent-mul R ideal (h x) (product-congruent ideal h xs)

  -- Products and powers modulo a prime ideal
  module _ {I : K → Type 0} (prime : PrimeIdeal I) where
    open prime use {ideal, proper, factor}

    pub product-outside : (xs : List K) → ((a : K) → Mem a xs → ¬ I a) → ¬ I (product xs)
    unfolding product
    product-outside [] h m = proper m
    product-outside (x ∷ xs) h m = elim (factor m) [
      | inl n ↦ h x mem-cons_self n
      | inr n ↦ product-outside xs (λ a i. h a (mem-cons_of_mem x i)) n
    ]

    module _ (discrete : Discrete K) {xs : List K} (residues : Residues I xs) where
      open residues use {reduce, member, congruent, once, apart}

      -- The residues outside of the ideal
      outside : List K
      outside = erase discrete xs (reduce 0#)

      outside-length : length outside ≡ length xs - 1
      unfolding outside
      outside-length =
          let e : length xs ≡ suc (length outside) = perm_length (perm_cons_erase discrete (member 0#)) in
          omega arith

      outside-once : Nodup outside
      unfolding outside
      outside-once = Nodup.sublist (erase-sublist discrete (reduce 0#)) once

      zero-inside : I (reduce 0#)
      zero-inside = congruent-member R ideal (congruent_sym R ideal (congruent 0#)) ideal.has_zero

      outside-member : {a : K} → Mem a outside → Mem a xs
      unfolding outside
      outside-member m = ((Nodup.mem-erase_iff discrete once).0 m).1

      outside-not : {a : K} → Mem a outside → ¬ I a
      unfolding outside
      outside-not m i =
          ((Nodup.mem-erase_iff discrete once).0 m).0
          (apart (outside-member m) (member 0#) (sub-member R ideal i zero-inside))

      not-outside : (a : K) → ¬ I a → Mem (reduce a) outside
      unfolding outside
      not-outside a h =
          (Nodup.mem-erase_iff discrete once).1 (
            λ e. h (congruent-member R ideal (congruent a) (subst I (sym e) zero-inside)),
            member a,
          )

      module _ {h : K} (without : ¬ I h) where
        abbrev step : K → K
        step a = reduce (h ⊗ a)

        mul-outside : {a : K} → ¬ I a → ¬ I (h ⊗ a)
        mul-outside k m = elim (factor m) [ inl n ↦ without n | inr n ↦ k n ]

        step_injective : {a b : K} → Mem a outside → Mem b outside → step a ≡ step b → a ≡ b
        step_injective {a} {b} m n e = elim (factor same) [
          | inl i ↦ absurd (without i)
          | inr i ↦ apart (outside-member m) (outside-member n) i
        ]
          where
            same : I (h ⊗ (a ⊕ ⊖ b))
            same =
                rw mul-sub
                (
                congruent_trans
                R
                ideal
                (congruent (h ⊗ a))
                (rw e (congruent_sym R ideal (congruent (h ⊗ b))))
                )

        steps_permute : Perm (map step outside) outside
        steps_permute =
            permuted
            outside-once
            (λ a m. not-outside (h ⊗ a) (mul-outside (outside-not m)))
            (λ a m b n. step_injective m n)

        product-step : I (power R h (length outside) ⊗ product outside ⊕ ⊖ product outside)
        product-step =
            subst₂
            (λ a b. I (a ⊕ ⊖ b))
            (product-multiples h outside)
            (product_perm steps_permute)
            (product-congruent ideal (λ a. congruent (h ⊗ a)) outside)

        pub residue-power : I (power R h (length xs - 1) ⊕ ⊖ 1#)
        residue-power = elim (factor difference) [
          | inl i ↦ subst (λ n. I (power R h n ⊕ ⊖ 1#)) outside-length i
          | inr i ↦ absurd (product-outside outside (λ a m. outside-not m) i)
        ]
          where
            difference : I ((power R h (length outside) ⊕ ⊖ 1#) ⊗ product outside)
            difference = rw (sub-mul, one-mul) product-step
