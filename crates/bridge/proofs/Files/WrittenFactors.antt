-- The factors as a file writes them. One that the file's 10 and 11 do not turn down is a polynomial that the
-- list's 10 and 11 do not turn down, of the same degree; so a file is rated as the lists that it holds are.
--
--   AllFull fs       == each factor has all of its 32 coefficients
--   all-full         == so it is where the records are whole
--   polynomials-ten, polynomials-eleven == the polynomials of factors that pass 10, and 11 too
--   period_lists, set_lists == the answers of the two ways on the factors, and on their polynomials
-- Assumes nothing.
use Prim.Native.Nat.{ℕ, suc, ◌-◌, ◌≤◌, ◌<◌}
use native.Mathlib.Omega.{arith}
use mathlib.Core.Path.{◌≡◌, refl, sym, ap, ◌∙◌}
use mathlib.Core.Bool.{Bool, true, false, not, ◌||◌}
use mathlib.Core.List.{List, [], ◌∷◌, ◌++◌, map}
use mathlib.Core.Option.{some, some-injective}
use lib.Dec.{ltb, eqb}
use lib.ListN.{length, get_or, take, length-drop, length-map}
use lib.Seq.{length-take-le}
use borrow.Author.Tests.{ltb-false, eqb-true}
use Rattle.meaning.specs.Search.{holds_for_some}
use Rattle.meaning.specs.Field.{Field, are_elements}
use Rattle.meaning.specs.Polynomial.{Polynomial, is_monic, is_monic_over, monic_multiple}
use Rattle.meaning.specs.Conditions.{named, degree_out_of_range, factor_degree_out_of_range, not_monic}
use Rattle.meaning.specs.Period.{period_answer, period_in}
use Rattle.meaning.specs.Portion.{set_answer, set_in}
use Rattle.meaning.specs.Route.{RouteRecord, look_up, body_lengths, bodies}
use Rattle.meaning.specs.File.{WrittenFactor, file_factor, polynomial_of, file_degree_out_of_range}
use Rattle.meaning.specs.File.{file_coefficient_out_of_range}
use Rattle.bridge.proofs.Basics.Searches.{or-false, T_and, T-not-false, not-false, false-T, none-at}
use Rattle.bridge.proofs.Basics.Searches.{none-cons, none_uncons}
use Rattle.bridge.proofs.Basics.Interpretation.{IsField}
use Rattle.bridge.proofs.Lists.Polynomials.{leading_length, leading-monic}
use Rattle.bridge.proofs.Lists.Products.{accepted-monic}
use Rattle.bridge.proofs.Lists.Multiples.{monic-coefficients, monics-coefficients, multiple_self}
use Rattle.bridge.proofs.Lists.Multiples.{multiples_self}
use Rattle.bridge.proofs.Lists.Irreducibles.{list-degree}
use Rattle.bridge.proofs.Files.Records.{Whole}

pub named-map : {A : Type 0} (g : A → Polynomial) (h : A → ℕ) (l : List A)
    → named (map g l) (map h l) ≡ map (λ a. (g a, h a)) l
unfolding named
named-map g h [] = refl
named-map g h (a ∷ l) = ap (λ (m : List (Polynomial × ℕ)). (g a, h a) ∷ m) (named-map g h l)

-- THE FACTORS OF A FILE ARE WHOLE
abbrev pub AllFull : List WrittenFactor → Type 0
AllFull [] = Unit {0}
AllFull (f ∷ fs) = (length f.coefficients ≡ 32) × AllFull fs

full-factor : (r : RouteRecord) → look_up r.kind body_lengths ≡ some (length r.body) → r.kind ≡ 4
    → length (file_factor r.body).coefficients ≡ 32
unfolding file_factor look_up body_lengths
full-factor r e k =
    let n : 35 ≡ length r.body =
    some-injective _ _ (ap (λ j. look_up j body_lengths) (sym k) ∙ e) in
    length-drop 3 r.body ∙ ap (λ m. m - 3) (sym n)

pub all-full : (rs : List RouteRecord) → Whole rs → AllFull (map file_factor (bodies 4 rs))
unfolding bodies
all-full [] w = tt
all-full (r ∷ rs) w = go (all-full rs w.1) (eqb r.kind 4) refl
  where
    go :
        AllFull (map file_factor (bodies 4 rs))
        → (t : Bool)
        → eqb r.kind 4 ≡ t
        → AllFull (map file_factor (bodies 4 (r ∷ rs)))
    go rest true e = rw (e, bodies) (full-factor r w.0 (eqb-true r.kind 4 e), rest)
    go rest false e = rw (e, bodies) rest

-- ONE FACTOR
degree_limit : (F : Field) (d : ℕ) → degree_out_of_range F d ≡ false → d ≤ 32
unfolding degree_out_of_range
degree_limit F d h = go (eqb d 0 || ltb 32 d) refl
  where
    go : (b : Bool) → (eqb d 0 || ltb 32 d) ≡ b → d ≤ 32
    go true e = absurd (false-T (rw (e, degree_out_of_range) at h) tt)
    go false e = ltb-false 32 d (or-false (eqb d 0) (ltb 32 d) e).1

module _ (F : Field) (f : WrittenFactor) (full : length f.coefficients ≡ 32)
    (ten : file_degree_out_of_range F f ≡ false) where
  pub polynomial-length : length (polynomial_of f) ≡ suc f.degree
  unfolding polynomial_of file_degree_out_of_range
  polynomial-length =
      leading_length (take f.degree f.coefficients)
      ∙ ap suc
      (length-take-le f.degree f.coefficients (omega (arith, degree_limit F f.degree ten)))

  pub polynomial-ten : factor_degree_out_of_range F (polynomial_of f) ≡ false
  unfolding file_degree_out_of_range
  polynomial-ten =
      let n = polynomial-length in
      let d : length (polynomial_of f) - 1 ≡ f.degree = omega arith in
      sym (list-degree F (polynomial_of f) (λ e. omega arith)) ∙ ap (degree_out_of_range F) d ∙ ten

pub polynomial-eleven : {F : Field} → IsField F → (f : WrittenFactor) → file_coefficient_out_of_range F f ≡
    false
    → not_monic F (polynomial_of f) ≡ false
unfolding file_coefficient_out_of_range not_monic polynomial_of is_monic_over
polynomial-eleven {F} I f eleven =
    let l = take f.degree f.coefficients in
    let e = not-false (are_elements F l) (or-false (not (are_elements F l)) _ eleven).0 in
    let m = T_and (is_monic (l ++ (1 ∷ []))) (are_elements F (l ++ (1 ∷ []))) (leading-monic I l e) in
    rw (
      T-not-false (are_elements F (l ++ (1 ∷ []))) m.1,
      T-not-false (is_monic (l ++ (1 ∷ []))) m.0,
    )

-- ALL FACTORS OF A FILE
module _ (F : Field) where
  pub polynomials-ten : (fs : List WrittenFactor) → AllFull fs
      → holds_for_some (file_degree_out_of_range F) fs ≡ false
      → holds_for_some (factor_degree_out_of_range F) (map polynomial_of fs) ≡ false
  unfolding holds_for_some
  polynomials-ten [] w h = refl
  polynomials-ten (f ∷ fs) w h =
      let (e, k) = none_uncons (file_degree_out_of_range F) f fs h in
      none-cons (factor_degree_out_of_range F) (polynomial_of f) (map polynomial_of fs)
      (polynomial-ten F f w.0 e)
      (polynomials-ten fs w.1 k)

  pub polynomials-eleven : IsField F → (fs : List WrittenFactor)
      → holds_for_some (file_coefficient_out_of_range F) fs ≡ false
      → holds_for_some (not_monic F) (map polynomial_of fs) ≡ false
  unfolding holds_for_some
  polynomials-eleven I [] i = refl
  polynomials-eleven I (f ∷ fs) i =
      let (g, m) = none_uncons (file_coefficient_out_of_range F) f fs i in
      none-cons (not_monic F) (polynomial_of f) (map polynomial_of fs)
      (polynomial-eleven I f g)
      (polynomials-eleven I fs m)

-- A FILE IS RATED AS ITS LISTS ARE
module _ {F : Field} (I : IsField F) (fs : List WrittenFactor) (full : AllFull fs)
    (ten : holds_for_some (file_degree_out_of_range F) fs ≡ false)
    (eleven : holds_for_some (file_coefficient_out_of_range F) fs ≡ false)
    (ts : List ℕ) (answer work : ℕ) where
  list-ten : holds_for_some (factor_degree_out_of_range F) (map polynomial_of fs) ≡ false
  list-ten = polynomials-ten F fs full ten

  list-eleven : holds_for_some (not_monic F) (map polynomial_of fs) ≡ false
  list-eleven = polynomials-eleven F I fs eleven

  -- they are monic, and so their own multiples
  pub lists_themselves : map (monic_multiple F) (map polynomial_of fs) ≡ map polynomial_of fs
  lists_themselves = multiples_self I (map polynomial_of fs) list-eleven

  pub first-itself :
      1 ≤ length fs
      → monic_multiple F (get_or (map polynomial_of fs) 0 []) ≡ get_or (map polynomial_of fs) 0 []
  first-itself low =
      let n : 0 < length (map polynomial_of fs) = rw length-map low in
      let g = get_or (map polynomial_of fs) 0 [] in
      multiple_self I g
      (accepted-monic F g (none-at (not_monic F) [] (map polynomial_of fs) 0 list-eleven n))

  pub period_lists :
      1 ≤ length fs
      → period_answer F (holds_for_some (file_degree_out_of_range F) fs)
      (holds_for_some (file_coefficient_out_of_range F) fs) (get_or (map polynomial_of fs) 0 []) ts answer
      work
      ≡ period_in F (get_or (map polynomial_of fs) 0 []) ts answer work
  unfolding period_in
  period_lists low =
      let n : 0 < length (map polynomial_of fs) = rw length-map low in
      let g = get_or (map polynomial_of fs) 0 [] in
      let monic = none-at (not_monic F) [] (map polynomial_of fs) 0 list-eleven n in
      rw (
        ten,
        eleven,
        none-at (factor_degree_out_of_range F) [] (map polynomial_of fs) 0 list-ten n,
        monic-coefficients F g monic,
        first-itself low,
      )

  pub set_lists :
      set_answer F (holds_for_some (file_degree_out_of_range F) fs)
      (holds_for_some (file_coefficient_out_of_range F) fs) (map (λ f. (polynomial_of f, f.upper)) fs) ts
      answer work
      ≡ set_in F (map polynomial_of fs) (map (λ f. f.upper) fs) ts answer work
  unfolding set_in
  set_lists =
      rw (
        ten,
        eleven,
        list-ten,
        monics-coefficients F (map polynomial_of fs) list-eleven,
        lists_themselves,
        named-map,
      )
