-- What the rating of a file tells and leaves has the promise of its mode's way, from the contract alone.
--
--   rated-by, seventeen-by == an answer of a mode, and its 17, are those of the mode's way on the lists that
--                       the file holds, in the field with the name that it holds
--   file-way         == an answer for a file, or 17, is that of its mode
-- Assumes nothing.
use Prim.Native.Nat.{ℕ, ◌≤◌}
use native.Mathlib.Omega.{arith}
use mathlib.Core.Path.{◌≡◌, refl, sym, ap, subst, ◌∙◌}
use mathlib.Core.Bool.{Bool, true, false, true≢false}
use mathlib.Core.List.{List, [], ◌∷◌, map}
use mathlib.Core.Option.{Option, none, some}
use lib.ListN.{length, get_or, length-map}
use Rattle.meaning.specs.Answers.{file_places}
use Rattle.meaning.specs.declared.FileRating.{FileRating}
use Rattle.meaning.specs.Search.{holds_for_some}
use Rattle.meaning.specs.Field.{Field}
use Rattle.meaning.specs.Polynomial.{Polynomial, product}
use Rattle.meaning.specs.Result.{Check, Result, Rated, refused, answered, map_result, figures_of}
use Rattle.meaning.specs.Result.{answer_after}
use Rattle.meaning.specs.Result.{written}
use Rattle.meaning.specs.Conditions.{named}
use Rattle.meaning.specs.FieldNames.{in_field}
use Rattle.meaning.specs.Power.{PowerFigures}
use Rattle.meaning.specs.Period.{period_table, period_answer, NoPower}
use Rattle.meaning.specs.Portion.{SetFigures, set_table, set_answer}
use Rattle.meaning.specs.Free.{FreeFigures, free_table, free_in}
use Rattle.meaning.specs.Route.{RouteRecord, Mode, period_mode, set_mode, free_mode, mode_of, byte_of, bodies}
use Rattle.meaning.specs.Route.{records}
use Rattle.meaning.specs.File.{WrittenFactor, file_factor, polynomial_of, file_degree_out_of_range}
use Rattle.meaning.specs.File.{file_coefficient_out_of_range}
use Rattle.meaning.specs.File.{terms_of, FileFigures, file_answer, free_label, of_period, of_set, of_free}
use Rattle.meaning.specs.File.{rate_mode, field_in, rate_file}
use Rattle.meaning.specs.Answers.{told_file, set_figures_told, FileTold, file_figures_told, label_told}
use Rattle.meaning.specs.Answers.{file_padded}
use Rattle.meaning.specs.Answers.{label_powers, padded}
use Rattle.meaning.specs.Calls.{FileCall}
use Rattle.bridge.proofs.Basics.Searches.{settle_answered, settle_refused, map_answered, map_refused}
use Rattle.bridge.proofs.Basics.Searches.{in_answered, never_answered, refused_same}
use Rattle.bridge.proofs.Basics.Interpretation.{IsField}
use Rattle.bridge.proofs.Binary.NamedFields.{named-is_field}
use Rattle.bridge.proofs.Files.Records.{records-suited, records-whole, records-number}
use Rattle.bridge.proofs.Files.WrittenFactors.{AllFull, all-full, period_lists, set_lists, first-itself}
use Rattle.bridge.proofs.Files.WrittenFactors.{lists_themselves}
use Rattle.bridge.proofs.Files.FileRatings.{known-mode, unknown_mode, accepted-file, refused_file}
use Rattle.bridge.proofs.Files.FileRatings.{exactly-one}
use Rattle.bridge.proofs.Files.FileRatings.{period-map, set-map, free-map}
use Rattle.theorems.specs.Ratings.{GF, PeriodAnswered, SetAnswered, NoneBegins}
use Rattle.theorems.specs.Files.{factors_in, polynomials_in, uppers_in, PeriodFile, SetFile, FreeFile}
use Rattle.theorems.specs.Files.{free_told, RatedBy, SeventeenBy, Holds, FilePromise}
use Rattle.theorems.proofs.Names.{name-seventeen}
use Rattle.theorems.proofs.Ways.{period_answered, period-none, set_answered, set-none, free_answered}

-- a list of one
single : (l : List Polynomial) → length l ≡ 1 → l ≡ get_or l 0 [] ∷ []
single [] e = absurd (omega arith)
single (f ∷ []) e = refl
single (f ∷ g ∷ l) e = absurd (omega arith)

-- the label of the free way: its word, and no powers
free_label_lem : (x : FreeFigures) (m : ℕ) → label_told (free_label x.unique) x.degree m ≡ free_told x m
unfolding label_told free_label
free_label_lem x m = go x.unique refl
  where
    go : (u : Bool) → x.unique ≡ u → label_told (free_label x.unique) x.degree m ≡ free_told x m
    go true e = rw (e, label_told, free_label)
    go false e = rw (e, label_told, free_label)

free-powers : (u : Bool) → label_powers (free_label u) ≡ []
unfolding label_powers free_label
free-powers true = refl
free-powers false = refl

-- the eight places of a result
abbrev places_in : Rated FileFigures → List ℕ
places_in b = padded (label_powers b.figures.label)

-- THE MODES, in the field of the file; `eight` are the eight places and `answer'` the answer bytes afterwards
module _ (file : List ℕ) (rs : List RouteRecord) (its : records file ≡ answered rs)
    (I : IsField (GF (field_in rs))) (size work : ℕ)
  where
    abbrev F : Field
    F = GF (field_in rs)

    abbrev ts : List ℕ
    ts = terms_of rs

    abbrev fs : List WrittenFactor
    fs = factors_in rs

    abbrev ten : Bool
    ten = holds_for_some (file_degree_out_of_range F) fs

    abbrev eleven : Bool
    eleven = holds_for_some (file_coefficient_out_of_range F) fs

    full : AllFull fs
    full = all-full rs (records-whole file its).1

    -- MODE 1
    module _ (mode : mode_of (byte_of 3 rs) ≡ some period_mode) where
      abbrev first : Polynomial
      first = get_or (polynomials_in rs) 0 []

      abbrev period_result : Result (Rated PowerFigures)
      period_result = period_answer F ten eleven first ts size work

      abbrev period_checks : List Check
      period_checks = period_table F ten eleven first ts size work

      one-factor : length fs ≡ 1
      one-factor = length-map (bodies 4 rs) file_factor ∙ exactly-one rs mode (records-suited file its)

      its_factor : polynomials_in rs ≡ first ∷ []
      its_factor = single (polynomials_in rs) (length-map fs polynomial_of ∙ one-factor)

      period-rated :
          (a : FileTold) (b : Rated FileFigures) (eight answer answer' : List ℕ)
          → of_period period_result ≡ answered b
          → file_figures_told b.figures ≡ a
          → eight ≡ places_in b
          → answer' ≡ written b.polynomial answer
          → PeriodFile rs a eight answer'
      unfolding period_answer period_table file_answer file_figures_told label_told label_powers
      period-rated a b eight answer answer' q u places lent =
          let (d, w, v) = map_answered _ period_result (sym (period-map period_result) ∙ q) in
          let (h, _) = settle_answered _ period_checks w in
          let same =
          period_lists I fs full h.degrees_in_range h.coefficients_in_range ts size work
          (omega (arith, one-factor)) in
          record {
            factor = first;
            its_factor = its_factor;
            figures = d.figures;
            tells = sym u ∙ sym (ap (λ b. file_figures_told b.figures) v);
            places = places ∙ sym (ap places_in v);
            rated =
                subst (λ f. PeriodAnswered F f ts d.figures answer')
                (first-itself I fs full h.degrees_in_range h.coefficients_in_range ts size work
                (omega (arith, one-factor)))
                (period_answered I first ts size work d answer answer' (sym same ∙ w)
                (lent ∙ sym (ap (λ (b : Rated FileFigures). written b.polynomial answer) v)));
          }

      period-seventeen : of_period period_result ≡ refused 17 → SeventeenBy period_mode rs
      unfolding period_answer period_table
      period-seventeen e =
          let w = map_refused _ period_result (sym (period-map period_result) ∙ e) in
          let (h, _) = settle_refused _ period_checks (omega arith) w in
          let same =
          period_lists I fs full h.degrees_in_range h.coefficients_in_range ts size work
          (omega (arith, one-factor)) in (
            first,
            its_factor,
            subst (λ f. NoPower F f ts)
                (first-itself I fs full h.degrees_in_range h.coefficients_in_range ts size work
                (omega (arith, one-factor)))
                (period-none I first ts size work (sym same ∙ w)),
          )

    -- MODE 2
    abbrev pairs : List (Polynomial × ℕ)
    pairs = map (λ f. (polynomial_of f, f.upper)) fs

    abbrev set_result : Result (Rated SetFigures)
    set_result = set_answer F ten eleven pairs ts size work

    abbrev set_checks : List Check
    set_checks = set_table F ten eleven pairs ts size work

    set-rated :
        (a : FileTold) (b : Rated FileFigures) (eight answer answer' : List ℕ)
        → of_set (length ts) set_result ≡ answered b
        → file_figures_told b.figures ≡ a
        → eight ≡ places_in b
        → answer' ≡ written b.polynomial answer
        → SetFile rs a eight answer'
    unfolding set_answer set_table file_answer file_figures_told label_told label_powers set_figures_told
    set-rated a b eight answer answer' q u places lent =
        let (d, w, v) = map_answered _ set_result (sym (set-map (length ts) set_result) ∙ q) in
        let (h, _) = settle_answered _ set_checks w in
        let same = set_lists I fs full h.degrees_in_range h.coefficients_in_range ts size work in
        record {
          figures = set_figures_told d.figures;
          tells = sym u ∙ sym (ap (λ b. file_figures_told b.figures) v);
          rated =
              subst
              (λ (gs : List Polynomial).
              SetAnswered F gs (uppers_in rs) ts (set_figures_told d.figures) eight answer')
              (lists_themselves I fs full h.degrees_in_range h.coefficients_in_range ts size work)
              (set_answered I (polynomials_in rs) (uppers_in rs) ts size work d eight answer answer'
              (sym same ∙ w)
              (lent ∙ sym (ap (λ (b : Rated FileFigures). written b.polynomial answer) v))
              (places ∙ sym (ap places_in v)));
        }

    set-seventeen : of_set (length ts) set_result ≡ refused 17 → SeventeenBy set_mode rs
    unfolding set_answer set_table
    set-seventeen e =
        let w = map_refused _ set_result (sym (set-map (length ts) set_result) ∙ e) in
        let (h, _) = settle_refused _ set_checks (omega arith) w in
        let same = set_lists I fs full h.degrees_in_range h.coefficients_in_range ts size work in
        subst (λ (gs : List Polynomial). NoneBegins F (product F (named gs (uppers_in rs))) ts)
        (lists_themselves I fs full h.degrees_in_range h.coefficients_in_range ts size work)
        (set-none I (polynomials_in rs) (uppers_in rs) ts size work (sym same ∙ w))

    -- MODE 3
    abbrev free_result : Result (Rated FreeFigures)
    free_result = free_in F ts size work

    free-rated :
        (a : FileTold) (b : Rated FileFigures) (eight answer answer' : List ℕ)
        → of_free (length ts) free_result ≡ answered b
        → file_figures_told b.figures ≡ a
        → eight ≡ places_in b
        → answer' ≡ written b.polynomial answer
        → FreeFile rs a eight answer'
    unfolding file_answer file_figures_told
    free-rated a b eight answer answer' q u places lent =
        let (d, w, v) = map_answered _ free_result (sym (free-map (length ts) free_result) ∙ q) in
        record {
          figures = d.figures;
          tells =
              sym u ∙ sym (ap (λ b. file_figures_told b.figures) v) ∙ free_label_lem d.figures (length ts);
          places = places ∙ sym (ap places_in v) ∙ ap padded (free-powers d.figures.unique);
          rated =
              free_answered I ts size work d answer answer' w
              (lent ∙ sym (ap (λ (b : Rated FileFigures). written b.polynomial answer) v));
        }

    free-seventeen : of_free (length ts) free_result ≡ refused 17 → SeventeenBy free_mode rs
    unfolding free_in free_table
    free-seventeen e =
        let w = map_refused _ free_result (sym (free-map (length ts) free_result) ∙ e) in
        true≢false (sym (settle_refused _ (free_table F ts size work) (omega arith) w).1)

    -- EVERY MODE
    rated-by :
        (m : Mode)
        → mode_of (byte_of 3 rs) ≡ some m
        → (a : FileTold) (b : Rated FileFigures) (eight answer answer' : List ℕ)
        → rate_mode m F fs ts size work ≡ answered b
        → file_figures_told b.figures ≡ a
        → eight ≡ places_in b
        → answer' ≡ written b.polynomial answer
        → RatedBy m rs a eight answer'
    unfolding rate_mode
    rated-by period_mode mode = period-rated mode
    rated-by set_mode mode = set-rated
    rated-by free_mode mode = free-rated

    seventeen-by :
        (m : Mode)
        → mode_of (byte_of 3 rs) ≡ some m
        → rate_mode m F fs ts size work ≡ refused 17
        → SeventeenBy m rs
    unfolding rate_mode
    seventeen-by period_mode mode = period-seventeen mode
    seventeen-by set_mode mode = set-seventeen
    seventeen-by free_mode mode = free-seventeen

-- WHAT IS TOLD OF A FILE, AND THE RESULT
module _ (file answer work : List ℕ) (r : FileRating) (answer' work' : List ℕ)
    (c : FileCall file answer work r answer' work') where
  abbrev result : Result (Rated FileFigures)
  result = rate_file file (length answer) (length work)

  told_answered :
      (a : FileTold)
      → told_file r.outcome ≡ answered a
      → (b : Rated FileFigures) × (result ≡ answered b) × (file_figures_told b.figures ≡ a)
  unfolding figures_of
  told_answered a e =
      let (x, q, u) = map_answered file_figures_told (figures_of result) (sym c.rating ∙ e) in
      let (b, q', u') = map_answered (λ z. z.figures) result q in
      (b, q', ap file_figures_told u' ∙ u)

  told_refused : (n : ℕ) → told_file r.outcome ≡ refused n → result ≡ refused n
  unfolding figures_of
  told_refused n e =
      map_refused (λ z. z.figures) result
      (map_refused file_figures_told (figures_of result) (sym c.rating ∙ e))

  eight_of : {b : Rated FileFigures} → result ≡ answered b → (file_places r.outcome) ≡ places_in b
  unfolding figures_of map_result file_padded
  eight_of e = c.powers ∙ ap (λ x. file_padded (figures_of x)) e

  bytes_of : {b : Rated FileFigures} → result ≡ answered b → answer' ≡ written b.polynomial answer
  unfolding answer_after
  bytes_of e = c.lent.answer_bytes ∙ ap (λ x. answer_after x answer) e

  -- it is that of its mode, in the field with the name that the file holds
  module _ (rs : List RouteRecord) (m : Mode) (its : records file ≡ answered rs)
      (mode : mode_of (byte_of 3 rs) ≡ some m)
    where
      abbrev way : Field → Result (Rated FileFigures)
      way F = rate_mode m F (factors_in rs) (terms_of rs) (length answer) (length work)

      by_mode : result ≡ in_field (field_in rs) way
      by_mode =
          accepted-file file (length answer) (length work) its
          ∙ known-mode rs (length answer) (length work) mode

      mode-rated : (a : FileTold) → told_file r.outcome ≡ answered a
          → RatedBy m rs a (file_places r.outcome) answer'
      mode-rated a e =
          let (b, q, u) = told_answered a e in
          let (exists, w) = in_answered (field_in rs) way (sym by_mode ∙ q) in
          rated-by file rs its (named-is_field (field_in rs) exists) (length answer) (length work) m mode a b
          (file_places r.outcome) answer answer' w u (eight_of q) (bytes_of q)

      mode-seventeen : told_file r.outcome ≡ refused 17 → SeventeenBy m rs
      mode-seventeen e =
          let (exists, w) = name-seventeen (field_in rs) way (sym by_mode ∙ told_refused 17 e) in
          seventeen-by file rs its (named-is_field (field_in rs) exists) (length answer) (length work) m
          mode w

  -- an answer, or 17, is of a file whose records are accepted
  file-way :
      {B : List RouteRecord → Mode → Type 0}
      → ((n : ℕ) → result ≡ refused n → n ≤ 5 → ⊥)
      → ((rs : List RouteRecord) (m : Mode)
      → records file ≡ answered rs
      → mode_of (byte_of 3 rs) ≡ some m
      → B rs m)
      → (rs : List RouteRecord) × (m : Mode) × Holds file rs m × B rs m
  file-way {B} later way = go (records file) refl
    where
      go :
          (x : Result (List RouteRecord))
          → records file ≡ x
          → (rs : List RouteRecord) × (m : Mode) × Holds file rs m × B rs m
      go (refused n) its =
          absurd
          (later n (refused_file file (length answer) (length work) its) (records-number file its).1)
      go (answered rs) its = by (mode_of (byte_of 3 rs)) refl
        where
          by :
              (o : Option Mode)
              → mode_of (byte_of 3 rs) ≡ o
              → (rs : List RouteRecord) × (m : Mode) × Holds file rs m × B rs m
          by none mode =
              absurd
              (later 5
              (accepted-file file (length answer) (length work) its
              ∙ unknown_mode rs (length answer) (length work) mode)
              (omega arith))
          by (some m) mode = (rs, m, record { its_records = its; its_mode = mode }, way rs m its mode)

pub file_promise : FilePromise
file_promise file answer work r answer' work' c =
    record {
      rated =
          λ a e.
          let (b, q, _) = told_answered file answer work r answer' work' c a e in
          file-way file answer work r answer' work' c
          {B = λ rs m. RatedBy m rs a (file_places r.outcome) answer'}
          (λ n z l. never_answered (sym z ∙ q))
          (λ rs m its mode. mode-rated file answer work r answer' work' c rs m its mode a e);
      seventeen =
          λ e.
          let q = told_refused file answer work r answer' work' c 17 e in
          file-way file answer work r answer' work' c {B = λ rs m. SeventeenBy m rs}
          (λ n z l. omega (arith, refused_same (sym z ∙ q)))
          (λ rs m its mode. mode-seventeen file answer work r answer' work' c rs m its mode e);
    }
