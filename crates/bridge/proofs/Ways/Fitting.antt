-- Polynomials that fit known terms: the least degree of one, and where only one has it.
--
--   fits_algebra, algebra_fits == `Fits` of `meaning` is that of `algebra`; `fits-list` gives for each
--                     polynomial of `algebra` that fits its list
--   fits-long      == a monic list fits where its degree is at least the number of terms: it has no places
--   fits-degree, degree-fits == the search `fits_degree` says that some list fits
--   least_degree-some == there always is a least degree
--   least_degree-least, least-least_degree == it is that of the words `IsLeastDegree`
--   least-bound    == it is at most the number of terms
--   least_fit, fit_least == the words are those of `LeastFit` of `algebra`
--   fits-only      == where twice the least degree is at most the number of terms, only one list fits with it
--   is_unique-le, le-is_unique == the word `one` in words
--   FirstFit F ts e g == g fits with degree e, and precedes every other polynomial that does
--   only-first     == where only one list fits it is the first
--   first-polynomial, polynomial-first == the polynomial of the free way is that of the words `FirstFit`;
--                     `polynomial-some` says that there is one where some list fits
--   free-answer    == the answer of the free way, from the least degree and the first list that fits with it
--   free-rated     == what an answer of the free way says
--   stretch-fits, stretch-least == where a list with a constant term other than 0 annihilates an endless
--                     sequence: on every stretch of at least twice the degree of its minimal polynomial that
--                     degree is the least one, and the minimal polynomial fits; `stretch-answer` is the
--                     answer of the free way
--
-- Assumes nothing.
use Prim.Native.Nat.{ℕ, ◌*◌, ◌≤◌, ◌<◌}
use mathlib.Core.Path.{◌≡◌, refl, sym, ap, subst, ◌∙◌}
use mathlib.Core.Logic.{◌⊎◌, inl, inr, ◌≢◌}
use mathlib.Core.Bool.{Bool, true}
use mathlib.Core.List.{List, Memᴰ, List-discrete}
use mathlib.Core.Option.{some}
use native.Mathlib.Nat as ℕ
use native.Mathlib.Decide.{dec_lt, ℕ_discrete}
use native.Mathlib.Omega.{arith}
use lib.ListN.{length, get_or}
use lib.Dec.{T, leb→le, le→leb}
use Rattle.meaning.specs.Field.{Field, are_elements}
use Rattle.meaning.specs.Polynomial.{Polynomial, degree, is_monic_over, monics}
use Rattle.meaning.specs.Sequence.{Sequence, known, annihilates_known, cut, AnnihilatesEndless}
use Rattle.meaning.specs.Sequence.{MinimalPolynomial}
use Rattle.meaning.specs.Result.{Result, answered, Rated}
use Rattle.meaning.specs.Free.{fits_degree, least_degree, Fits, IsLeastDegree, is_unique, FreeFigures}
use Rattle.meaning.specs.Free.{Precedes, free_polynomial, free_rating, free_table, free_in}
use Rattle.meaning.proofs.Passes.{Passes}
use Rattle.algebra.proofs.Polynomials.Polynomial.{coefficient}
use Rattle.algebra.proofs.Sequences.Action.{Agree}
use Rattle.algebra.proofs.Sequences.Cut.{cut as algebra-cut, coprime-x}
use Rattle.algebra.proofs.Sequences.Massey.{Fits as AlgebraFits, LeastFit, least_fit_unique}
use Rattle.algebra.proofs.Sequences.Massey.{stretch-least_fit}
use Rattle.bridge.proofs.Basics.Searches.{T_true, true-T}
use Rattle.bridge.proofs.Basics.Searches.{least-some, least-found, least_exists, bind-some, some-bind}
use Rattle.bridge.proofs.Basics.Searches.{map_option-some, some-map_option, answered_settle}
use Rattle.bridge.proofs.Basics.Searches.{settle_answered}
use Rattle.bridge.proofs.Basics.Interpretation.{IsField, element-nonzero}
use Rattle.bridge.proofs.Lists.Polynomials.{Poly, poly, coefficient-poly, get_or-below, monic-list}
use Rattle.bridge.proofs.Lists.Polynomials.{monic-equal}
use Rattle.bridge.proofs.Lists.Monics.{monic_at, monic_at-monic, degree-monic_at, some-monics}
use Rattle.bridge.proofs.Lists.Monics.{monics-some}
use Rattle.bridge.proofs.Lists.Monics.{monic-monics, monics-monic}
use Rattle.bridge.proofs.Ways.Precedence.{monics_sorted, first_found, found_first, first_that-some}
use Rattle.bridge.proofs.Sequences.Actions.{sequence, known-fits, fits-known, places-known, length_cut}
use Rattle.bridge.proofs.Sequences.Actions.{known-cut, endless-kills, endless-known}
use Rattle.bridge.proofs.Sequences.Minimal.{minimal_algebra}

-- A list that fits, as a polynomial
module _ {F : Field} (I : IsField F) where
  pub fits_algebra :
      {ts : List ℕ} {e : ℕ} {g : Polynomial}
      → Fits F ts e g
      → AlgebraFits (poly I g) e (length ts) (sequence I (known ts))
  fits_algebra {ts} {e} {g} x =
      subst (λ n. AlgebraFits (poly I g) n (length ts) (sequence I (known ts))) x.of_degree
      (known-fits I g ts x.monic x.annihilates)

  pub algebra_fits :
      {ts : List ℕ} {e : ℕ} (g : Polynomial)
      → T (is_monic_over F g)
      → degree g ≡ e
      → AlgebraFits (poly I g) e (length ts) (sequence I (known ts))
      → Fits F ts e g
  algebra_fits {ts} g m d x =
      record {
        monic = m;
        of_degree = d;
        annihilates =
            fits-known I g ts
            (subst (λ n. AlgebraFits (poly I g) n (length ts) (sequence I (known ts))) (sym d) x);
      }

  pub fits-list :
      (ts : List ℕ) {e : ℕ} {h : Poly I}
      → AlgebraFits h e (length ts) (sequence I (known ts))
      → (g : Polynomial) × Fits F ts e g × (poly I g ≡ h)
  fits-list ts {e} x =
      let (g, m, d, p) = monic-list I x.monic in (
        g,
        algebra_fits g m d
            (subst (λ h. AlgebraFits h e (length ts) (sequence I (known ts))) (sym p) x),
        p,
      )

pub fits-long :
    (F : Field) (ts : List ℕ) (g : Polynomial)
    → T (is_monic_over F g)
    → length ts ≤ degree g
    → Fits F ts (degree g) g
fits-long F ts g m l =
    record {
      monic = m;
      of_degree = refl;
      annihilates = places-known F g ts (λ k b. absurd (omega arith));
    }

-- The search
module _ {F : Field} (I : IsField F) where
  pub degree-fits : (ts : List ℕ) (e : ℕ) → T (fits_degree F ts e) → (g : Polynomial) × Fits F ts e g
  unfolding fits_degree
  degree-fits ts e h =
      let (g, m, d, a) = some-monics I (λ g. annihilates_known F g ts) e h in
      (g, record { monic = m; of_degree = d; annihilates = a })

  pub fits-degree : (ts : List ℕ) (e : ℕ) (g : Polynomial) → Fits F ts e g → T (fits_degree F ts e)
  unfolding fits_degree
  fits-degree ts e g x =
      monics-some I (λ g. annihilates_known F g ts) e g x.monic x.of_degree x.annihilates

  -- a polynomial of degree m fits m terms
  full-fits : (ts : List ℕ) → Fits F ts (length ts) (monic_at F.size (length ts) 0)
  full-fits ts =
      subst (λ e. Fits F ts e g) d (fits-long F ts g (monic_at-monic I (length ts) 0) (omega (arith, d)))
    where
      g : Polynomial
      g = monic_at F.size (length ts) 0

      d : degree (monic_at F.size (length ts) 0) ≡ length ts
      d = degree-monic_at F.size (length ts) 0

  -- The least degree
  pub least_degree-some : (ts : List ℕ) → (L : ℕ) × (least_degree F ts ≡ some L)
  unfolding least_degree
  least_degree-some ts =
      let (L, e, _, _) =
      least_exists (length ts) (fits_degree F ts) (length ts) (ℕ.le_refl (length ts))
      (fits-degree ts (length ts) (monic_at F.size (length ts) 0) (full-fits ts)) in
      (L, e)

  pub least_degree-least : {ts : List ℕ} {L : ℕ} → least_degree F ts ≡ some L → IsLeastDegree F ts L
  unfolding least_degree
  least_degree-least {ts} {L} e =
      let (b, l) = least-some (length ts) (fits_degree F ts) e in
      let (g, x) = degree-fits ts L l.holds in
      record {
        fitting = g;
        fits = x;
        smallest = λ d h _ y. let n : ¬ (d < L) = λ o. l.least d o (fits-degree ts d h y) in omega arith;
      }

  pub least-bound : {ts : List ℕ} {L : ℕ} → IsLeastDegree F ts L → L ≤ length ts
  least-bound {ts} x =
      x.smallest (length ts) (monic_at F.size (length ts) 0) (ℕ.le_refl (length ts)) (full-fits ts)

  pub least-least_degree : {ts : List ℕ} {L : ℕ} → IsLeastDegree F ts L → least_degree F ts ≡ some L
  unfolding least_degree
  least-least_degree {ts} {L} x =
      least-found (length ts) (fits_degree F ts) (least-bound x)
      (record {
        holds = fits-degree ts L x.fitting x.fits;
        least = smaller;
      })
    where
      smaller : (d : ℕ) → d < L → ¬ T (fits_degree F ts d)
      smaller d l h =
          let (g, y) = degree-fits ts d h in
          omega (arith, x.smallest d g (omega (arith, least-bound x)) y)

  -- The words of `algebra`
  pub least_fit :
      {ts : List ℕ} {L : ℕ} {g : Polynomial}
      → IsLeastDegree F ts L
      → Fits F ts L g
      → LeastFit (poly I g) L (length ts) (sequence I (known ts))
  least_fit {ts} {L} x y =
      record { fits = fits_algebra I y; least = λ h e z. smaller h e z (dec_lt (length ts) e) }
    where
      smaller :
          (h : Poly I) (e : ℕ)
          → AlgebraFits h e (length ts) (sequence I (known ts))
          → Dec (length ts < e)
          → L ≤ e
      smaller h e z (yes o) = omega (arith, least-bound x)
      smaller h e z (no o) = let (f, u, _) = fits-list I ts z in x.smallest e f (omega arith) u

  pub fit_least :
      (ts : List ℕ) {L : ℕ} {h : Poly I}
      → LeastFit h L (length ts) (sequence I (known ts))
      → IsLeastDegree F ts L
  fit_least ts x =
      let (g, y, _) = fits-list I ts x.fits in
      record { fitting = g; fits = y; smallest = λ d f _ z. x.least (poly I f) d (fits_algebra I z) }

  pub fits-only :
      {ts : List ℕ} {L : ℕ} {g h : Polynomial}
      → IsLeastDegree F ts L
      → 2 * L ≤ length ts
      → Fits F ts L g
      → Fits F ts L h
      → g ≡ h
  fits-only {g = g} {h} x l y z =
      monic-equal I g h y.monic z.monic
      (least_fit_unique I.field (least_fit x z) l (fits_algebra I y))

-- The word `one`
pub is_unique-le : (ts : List ℕ) (e : ℕ) → is_unique ts e ≡ true → 2 * e ≤ length ts
unfolding is_unique
is_unique-le ts e h = leb→le (2 * e) (length ts) (true-T h)

pub le-is_unique : (ts : List ℕ) (e : ℕ) → 2 * e ≤ length ts → is_unique ts e ≡ true
unfolding is_unique
le-is_unique ts e l = T_true (le→leb (2 * e) (length ts) l)

-- The first that fits
pub record FirstFit (F : Field) (ts : List ℕ) (e : ℕ) (g : Polynomial) : Type 0 where
  pub fits : Fits F ts e g
  pub first : (h : Polynomial) → Fits F ts e h → h ≢ g → Precedes g h

module _ {F : Field} (I : IsField F) where
  pub only-first :
      {ts : List ℕ} {L : ℕ} {g : Polynomial}
      → IsLeastDegree F ts L
      → 2 * L ≤ length ts
      → Fits F ts L g
      → FirstFit F ts L g
  only-first x l y = record { fits = y; first = λ h z n. absurd (n (fits-only I x l z y)) }

  pub first-polynomial :
      {ts : List ℕ} {L : ℕ} {g : Polynomial} → FirstFit F ts L g → free_polynomial F ts L ≡ some g
  unfolding free_polynomial
  first-polynomial {ts} {L} {g} x =
      first_found (λ h. annihilates_known F h ts) (monics F L) g (monics_sorted F L)
      (record {
        member = monic-monics F L g x.fits.monic x.fits.of_degree;
        passes = x.fits.annihilates;
        first = λ h m a. later h m a (List-discrete ℕ_discrete h g);
      })
    where
      later :
          (h : Polynomial)
          → Memᴰ h (monics F L)
          → T (annihilates_known F h ts)
          → Dec (h ≡ g)
          → (h ≡ g) ⊎ Precedes g h
      later h m a (yes e) = inl e
      later h m a (no n) =
          let (o, d) = monics-monic I L m in
          inr (x.first h (record { monic = o; of_degree = d; annihilates = a }) n)

  pub polynomial-first :
      {ts : List ℕ} {L : ℕ} {g : Polynomial} → free_polynomial F ts L ≡ some g → FirstFit F ts L g
  unfolding free_polynomial
  polynomial-first {ts} {L} {g} e =
      let x = found_first (λ h. annihilates_known F h ts) (monics F L) (monics_sorted F L) e in
      let (o, d) = monics-monic I L x.member in
      record {
        fits = record { monic = o; of_degree = d; annihilates = x.passes };
        first =
            λ h y n.
            another h n (x.first h (monic-monics F L h y.monic y.of_degree) y.annihilates);
      }
    where
      another : (h : Polynomial) → h ≢ g → (h ≡ g) ⊎ Precedes g h → Precedes g h
      another h n (inl q) = absurd (n q)
      another h n (inr z) = z

  pub polynomial-some :
      {ts : List ℕ} {L : ℕ} {g : Polynomial}
      → Fits F ts L g
      → (h : Polynomial) × (free_polynomial F ts L ≡ some h)
  unfolding free_polynomial
  polynomial-some {ts} {L} {g} x =
      first_that-some (λ h. annihilates_known F h ts) (monics F L) g
      (monic-monics F L g x.monic x.of_degree)
      x.annihilates

-- The answer of the free way
module _ {F : Field} (I : IsField F) (ts : List ℕ) (answer work : ℕ) where
  pub free-answer :
      {L : ℕ} {g : Polynomial}
      → Passes (free_table F ts answer work)
      → least_degree F ts ≡ some L
      → FirstFit F ts L g
      → free_in F ts answer work
      ≡ answered (record { figures = record { degree = L; unique = is_unique ts L }; polynomial = g })
  unfolding free_in free_rating
  free-answer h e x =
      answered_settle _ (free_table F ts answer work) h
      (bind-some (free_rating F ts) e
      ∙ map_option-some _ (first-polynomial I x))

  pub free-rated :
      {b : Rated FreeFigures}
      → free_in F ts answer work ≡ answered b
      → Passes (free_table F ts answer work)
      × (least_degree F ts ≡ some b.figures.degree)
      × (b.figures.unique ≡ is_unique ts b.figures.degree)
      × FirstFit F ts b.figures.degree b.polynomial
  unfolding free_in free_rating
  free-rated e =
      let (h, v) = settle_answered _ (free_table F ts answer work) e in
      let (L, l, u) = some-bind (least_degree F ts) (free_rating F ts) v in
      let (g, o, q) = some-map_option _ (free_polynomial F ts L) u in
      let x = polynomial-first I o in (
        h,
        subst (λ b. least_degree F ts ≡ some b.figures.degree) q l,
        subst (λ b. b.figures.unique ≡ is_unique ts b.figures.degree) q refl,
        subst (λ b. FirstFit F ts b.figures.degree b.polynomial) q x,
      )

-- Stretches of an endless sequence
pub stretch-fits :
    (F : Field) (g : Polynomial) (s : Sequence) (k m : ℕ)
    → T (is_monic_over F g)
    → AnnihilatesEndless F g s
    → Fits F (cut s k m) (degree g) g
stretch-fits F g s k m o h = record { monic = o; of_degree = refl; annihilates = endless-known F g s k m h }

module _ {F : Field} (I : IsField F) where
  -- the terms of a stretch are those of the sequence from its place on
  stretch_agree :
      (s : Sequence) (k m : ℕ) → Agree m (algebra-cut (sequence I s) k) (sequence I (known (cut s k m)))
  stretch_agree s k m i l = ap I.element (sym (known-cut s k m i l))

  -- where a list with a constant term other than 0 annihilates the sequence, it may be cut anywhere
  pub stretch-least :
      (f g : Polynomial) (s : Sequence)
      → AnnihilatesEndless F f s
      → T (are_elements F f)
      → get_or f 0 0 ≢ 0
      → MinimalPolynomial F g s
      → (k m : ℕ)
      → 2 * degree g ≤ m
      → IsLeastDegree F (cut s k m) (degree g)
  stretch-least f g s h o z x k m l = fit_least I (cut s k m) {h = poly I g} (rw length_cut shortest)
    where
      nonzero : ¬ (coefficient (poly I f) 0 ≡ I.ring.0#)
      nonzero e = element-nonzero I (get_or-below I f o 0) z (sym (coefficient-poly I f 0) ∙ e)

      shortest : LeastFit (poly I g) (degree g) m (sequence I (known (cut s k m)))
      shortest =
          stretch-least_fit (endless-kills I f s h) (coprime-x I.field (poly I f) nonzero)
          (minimal_algebra I g s x) l k (stretch_agree s k m)

-- the answer of the free way on such a stretch
pub stretch-answer :
    {F : Field} (I : IsField F) (f g : Polynomial) (s : Sequence)
    → AnnihilatesEndless F f s
    → T (are_elements F f)
    → get_or f 0 0 ≢ 0
    → MinimalPolynomial F g s
    → (k m : ℕ)
    → 2 * degree g ≤ m
    → (answer work : ℕ)
    → Passes (free_table F (cut s k m) answer work)
    → free_in F (cut s k m) answer work
    ≡ answered (record { figures = record { degree = degree g; unique = true }; polynomial = g })
stretch-answer {F} I f g s h o z x k m l answer work a =
    free-answer I (cut s k m) answer work a (least-least_degree I least)
    (only-first I least (omega (arith, length_cut s k m))
    (stretch-fits F g s k m x.monic x.annihilates))
    ∙ ap rating unique
  where
    least : IsLeastDegree F (cut s k m) (degree g)
    least = stretch-least I f g s h o z x k m l

    unique : is_unique (cut s k m) (degree g) ≡ true
    unique = le-is_unique (cut s k m) (degree g) (omega (arith, length_cut s k m))

    rating : Bool → Result (Rated FreeFigures)
    rating u = answered (record { figures = record { degree = degree g; unique = u }; polynomial = g })
