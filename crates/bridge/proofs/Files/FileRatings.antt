-- The rating of a file by its records and its mode; its polynomial has as many coefficients as its degree and
-- one more.
--
--   accepted-file, refused_file == the rating of a file, by its records
--   known-mode, unknown_mode == the rating of the records, by their mode
--   period-map, set-map, free-map == a mode tells what its way answers
--   exactly-one == an accepted file in the period mode has one factor
--   Whole a     == the result a has so many
--   period-size, set-size, free-size == the answers of the ways have
--   file-size   == the answer for a file has
-- Assumes nothing.
use Prim.Native.Nat.{ℕ, zero, suc, ◌<◌, ◌≤◌}
use native.Mathlib.Omega.{arith}
use mathlib.Core.Path.{◌≡◌, refl, sym, ap, subst, ◌∙◌}
use mathlib.Core.Bool.{Bool, false, not}
use mathlib.Core.List.{List, [], ◌∷◌, map}
use mathlib.Core.Option.{Option, none, some}
use lib.Dec.{eqb, eqb→eq}
use lib.ListN.{length, get_or, take, length-append, length-map}
use Rattle.meaning.specs.Field.{Field}
use Rattle.meaning.specs.Polynomial.{Polynomial, power, product}
use Rattle.meaning.specs.Result.{Result, refused, answered, Rated, map_result}
use Rattle.meaning.specs.Conditions.{named}
use Rattle.meaning.specs.FieldNames.{in_field}
use Rattle.meaning.specs.Power.{PowerFigures, power_rating}
use Rattle.meaning.specs.Repeat.{shortest_period}
use Rattle.meaning.specs.Period.{period_power, period_table, period_answer}
use Rattle.meaning.specs.Portion.{SetFigures, factors_of, set_powers, set_rating, set_table, set_answer}
use Rattle.meaning.specs.Free.{FreeFigures, Fits, free_in}
use Rattle.meaning.specs.Route.{RouteRecord, Mode, period_mode, set_mode, free_mode, mode_of, byte_of, bodies}
use Rattle.meaning.specs.Route.{suits, mode_unsuited, records, factor_upper}
use Rattle.meaning.specs.File.{WrittenFactor, file_factor, polynomial_of, terms_of, powers, FileFigures}
use Rattle.meaning.specs.File.{file_answer, of_period, of_set, of_free, free_label, rate_mode, rate_records}
use Rattle.meaning.specs.File.{field_in, rate_file}
use Rattle.bridge.proofs.Basics.Searches.{settle_answered, map_answered, some-bind, some-map_option}
use Rattle.bridge.proofs.Basics.Searches.{not-false}
use Rattle.bridge.proofs.Basics.Searches.{T_and, never_answered, in_answered}
use Rattle.bridge.proofs.Basics.Interpretation.{IsField}
use Rattle.bridge.proofs.Lists.Polynomials.{degree-length, monic-nonempty}
use Rattle.bridge.proofs.Lists.Products.{power-nonempty, product-nonempty, Nonempties, factors_of-named}
use Rattle.bridge.proofs.Lists.Products.{factor_at-factors_of, length-factors_of, length-named}
use Rattle.bridge.proofs.Binary.NamedFields.{named-is_field}
use Rattle.bridge.proofs.Ways.Fitting.{free-rated}
use Rattle.bridge.proofs.Files.Records.{records-suited}

abbrev Whole : Rated FileFigures → Type 0
Whole a = length a.polynomial ≡ suc a.figures.degree

-- THE POLYNOMIALS OF A FILE ARE NOT EMPTY
polynomial-nonempty : (f : WrittenFactor) → 0 < length (polynomial_of f)
unfolding polynomial_of
polynomial-nonempty f = omega (arith, length-append (take f.degree f.coefficients) (1 ∷ []))

first-nonempty : (fs : List WrittenFactor) → 1 ≤ length fs → 0 < length (get_or (map polynomial_of fs) 0 [])
first-nonempty [] l = absurd (omega arith)
first-nonempty (f ∷ fs) l = polynomial-nonempty f

-- THE WAYS
pub period-size :
    {F : Field} (I : IsField F) (ten eleven : Bool) (f : Polynomial) (ts : List ℕ) (answer work : ℕ)
    → 0 < length f
    → {b : Rated PowerFigures}
    → period_answer F ten eleven f ts answer work ≡ answered b
    → length b.polynomial ≡ suc b.figures.degree
unfolding period_answer period_table power_rating
period-size {F} I ten eleven f ts answer work l e =
    let (h, v) = settle_answered _ (period_table F ten eleven f ts answer work) e in
    let (r, _, u) = some-bind (period_power F f ts) (power_rating F f ts) v in
    let (_, _, q) = some-map_option _ (shortest_period ts) u in
    subst (λ b. length b.polynomial ≡ suc b.figures.degree) q
    (degree-length (power F f r) (power-nonempty I f r l))

pub set-size :
    {F : Field} (I : IsField F) (ten eleven : Bool) (l : List (Polynomial × ℕ)) (ts : List ℕ)
    (answer work : ℕ)
    → Nonempties l
    → {b : Rated SetFigures}
    → set_answer F ten eleven l ts answer work ≡ answered b
    → length b.polynomial ≡ suc b.figures.degree
unfolding set_answer set_table set_rating
set-size {F} I ten eleven l ts answer work n e =
    let (h, v) = settle_answered _ (set_table F ten eleven l ts answer work) e in
    let (rs, _, q) = some-map_option (set_rating F l ts) (set_powers F l ts) v in
    subst (λ b. length b.polynomial ≡ suc b.figures.degree) q
    (degree-length (product F (named (factors_of l) rs))
    (product-nonempty I (named (factors_of l) rs) (named-nonempty rs)))
  where
    named-nonempty : (rs : List ℕ) → Nonempties (named (factors_of l) rs)
    named-nonempty rs i k =
        subst (λ f. 0 < length f)
        (sym (factor_at-factors_of l i)
        ∙ ap (λ fs. get_or fs i []) (sym (factors_of-named (factors_of l) rs))
        ∙ factor_at-factors_of (named (factors_of l) rs) i)
        (n i (omega (arith, length-named (factors_of l) rs, length-factors_of l)))

fits-size : {F : Field} {ts : List ℕ} {L : ℕ} {g : Polynomial} → Fits F ts L g → length g ≡ suc L
fits-size {F} {g = g} x = degree-length g (monic-nonempty F g x.monic) ∙ ap suc x.of_degree

-- the polynomial of the free way fits
pub free-size :
    {F : Field} (I : IsField F) (ts : List ℕ) (answer work : ℕ) {b : Rated FreeFigures}
    → free_in F ts answer work ≡ answered b
    → length b.polynomial ≡ suc b.figures.degree
free-size I ts answer work e = let (_, _, _, x) = free-rated I ts answer work e in fits-size x.fits

-- THE MODES
pub period-map :
    (x : Result (Rated PowerFigures))
    → of_period x
    ≡ map_result
    (λ b.
    file_answer b.figures.degree b.figures.repeat (powers (b.figures.power ∷ [])) b.polynomial)
    x
unfolding of_period map_result
period-map (refused n) = refl
period-map (answered b) = refl

pub set-map :
    (m : ℕ) (x : Result (Rated SetFigures))
    → of_set m x
    ≡ map_result (λ b. file_answer b.figures.degree m (powers b.figures.powers) b.polynomial) x
unfolding of_set map_result
set-map m (refused n) = refl
set-map m (answered b) = refl

pub free-map :
    (m : ℕ) (x : Result (Rated FreeFigures))
    → of_free m x
    ≡ map_result (λ b. file_answer b.figures.degree m (free_label b.figures.unique) b.polynomial) x
unfolding of_free map_result
free-map m (refused n) = refl
free-map m (answered b) = refl

-- the figures keep the degree, and the polynomial stays
whole_of :
    {A : Type 0} (f : A → Rated FileFigures) (x : Result A) {y : Result (Rated FileFigures)}
    {a : Rated FileFigures}
    → y ≡ map_result f x
    → ((b : A) → x ≡ answered b → Whole (f b))
    → y ≡ answered a
    → Whole a
whole_of f x s h e = let (b, q, v) = map_answered f x (sym s ∙ e) in subst Whole v (h b q)

-- the pairs of a file's factors and their upper powers
pub pairs-nonempty : (fs : List WrittenFactor) → Nonempties (map (λ f. (polynomial_of f, f.upper)) fs)
pairs-nonempty [] i l = absurd (omega arith)
pairs-nonempty (f ∷ fs) zero l = polynomial-nonempty f
pairs-nonempty (f ∷ fs) (suc i) l = pairs-nonempty fs i (omega arith)

mode-size :
    (m : Mode) {F : Field} (I : IsField F) (fs : List WrittenFactor) (ts : List ℕ) (answer work : ℕ)
    → (m ≡ period_mode → 1 ≤ length fs)
    → {a : Rated FileFigures}
    → rate_mode m F fs ts answer work ≡ answered a
    → Whole a
unfolding rate_mode file_answer
mode-size period_mode I fs ts answer work one e =
    whole_of _ _ (period-map _)
    (λ b q.
    period-size I _ _ (get_or (map polynomial_of fs) 0 []) ts answer work (first-nonempty fs (one refl)) q)
    e
mode-size set_mode I fs ts answer work one e =
    whole_of _ _ (set-map (length ts) _)
    (λ b q. set-size I _ _ (map (λ f. (polynomial_of f, f.upper)) fs) ts answer work (pairs-nonempty fs) q)
    e
mode-size free_mode I fs ts answer work one e =
    whole_of _ _ (free-map (length ts) _) (λ b q. free-size I ts answer work q) e

-- THE FILE
-- an accepted file in the period mode has one factor
pub exactly-one :
    (rs : List RouteRecord)
    → mode_of (byte_of 3 rs) ≡ some period_mode
    → mode_unsuited rs ≡ false
    → length (bodies 4 rs) ≡ 1
unfolding mode_unsuited suits
exactly-one rs m u =
    let s : mode_unsuited rs ≡ not (suits period_mode (bodies 4 rs)) = rw (m, mode_unsuited) in
    let t = not-false (suits period_mode (bodies 4 rs)) (sym s ∙ u) in
    eqb→eq (length (bodies 4 rs)) 1
    (T_and (eqb (length (bodies 4 rs)) 1) (eqb (factor_upper (get_or (bodies 4 rs) 0 [])) 0) t).0

-- what the records of a rated file hold
pub known-mode :
    (rs : List RouteRecord) (answer work : ℕ) {m : Mode}
    → mode_of (byte_of 3 rs) ≡ some m
    → rate_records rs answer work
    ≡ in_field (field_in rs) (λ F. rate_mode m F (map file_factor (bodies 4 rs)) (terms_of rs) answer work)
unfolding rate_records
known-mode rs answer work e = rw (e, rate_records)

pub unknown_mode :
    (rs : List RouteRecord) (answer work : ℕ)
    → mode_of (byte_of 3 rs) ≡ none
    → rate_records rs answer work ≡ refused 5
unfolding rate_records
unknown_mode rs answer work e = rw (e, rate_records)

pub accepted-file :
    (file : List ℕ) (answer work : ℕ) {rs : List RouteRecord}
    → records file ≡ answered rs
    → rate_file file answer work ≡ rate_records rs answer work
unfolding rate_file
accepted-file file answer work e = rw (e, rate_file)

pub refused_file :
    (file : List ℕ) (answer work : ℕ) {n : ℕ}
    → records file ≡ refused n
    → rate_file file answer work ≡ refused n
unfolding rate_file
refused_file file answer work e = rw (e, rate_file)

pub file-size :
    (file : List ℕ) (answer work : ℕ)
    → {a : Rated FileFigures}
    → rate_file file answer work ≡ answered a
    → length a.polynomial ≡ suc a.figures.degree
file-size file answer work {a} e = by-records (records file) refl
  where
    by_mode :
        (rs : List RouteRecord)
        → records file ≡ answered rs
        → (o : Option Mode)
        → mode_of (byte_of 3 rs) ≡ o
        → Whole a
    by_mode rs r none u =
        never_answered (sym (accepted-file file answer work r ∙ unknown_mode rs answer work u) ∙ e)
    by_mode rs r (some m) u =
        let (exists, rated) =
        in_answered (field_in rs) _ (sym (accepted-file file answer work r ∙ known-mode rs answer work u) ∙ e)
        in
        mode-size m (named-is_field (field_in rs) exists) (map file_factor (bodies 4 rs)) (terms_of rs) answer
        work
        (λ s.
        let one = exactly-one rs (u ∙ ap some s) (records-suited file r) in
        omega (arith, one, length-map (bodies 4 rs) file_factor))
        rated

    by-records : (x : Result (List RouteRecord)) → records file ≡ x → Whole a
    by-records (refused n) r = never_answered (sym (refused_file file answer work r) ∙ e)
    by-records (answered rs) r = by_mode rs r (mode_of (byte_of 3 rs)) refl
