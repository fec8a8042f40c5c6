-- How many terms it takes, as statements about endless sequences: no call and no contract stands in them. The
-- signs are those of Promises; D is the total degree of the factors with their upper powers, and the factors
-- are as they are given, x or a multiple of it among them or not. Terms are counted from the first.
--
--   Undecided name fs vs == two sequences over the field that the factors to their upper powers annihilate,
--                        equal in their first D − 1 terms, with different minimal polynomials: the product
--                        of the factors' monic multiples to their upper powers, and 1
--   NoShorterPromise  == there are two for every accepted choice of factors
--   Rateable name fs vs s == s is one of the sequences that are to be rated: over the field, and annihilated
--   Settles name fs vs m == m terms settle the rating: some function of the first m terms, whatever it is,
--                        gives the minimal polynomial of every such sequence
--   SettlesComplexity == the same of its degree alone
--   NoRaterPromise    == no number of terms below D settles the one or the other
--   EnoughPromise     == every number of terms from D on settles both
use Rattle.std.specs.Prelude.{ℕ, ◌-◌, ◌≤◌, ◌<◌, ◌≡◌, ◌≢◌, List, [], ◌∷◌, map, T}
use Rattle.meaning.specs.declared.FieldName.{FieldName}
use Rattle.meaning.specs.Polynomial.{Polynomial, degree, product, monic_multiple}
use Rattle.meaning.specs.Sequence.{Sequence, InField, cut, AnnihilatesEndless, MinimalPolynomial}
use Rattle.meaning.specs.Conditions.{named, total_degree}
use Rattle.meaning.specs.Portion.{accepted_factors}
use Rattle.theorems.specs.Ratings.{GF}

pub record Rateable (name : FieldName) (fs : List Polynomial) (vs : List ℕ) (s : Sequence) : Type 0 where
  pub in_field : InField (GF name) s
  pub annihilated : AnnihilatesEndless (GF name) (product (GF name) (named fs vs)) s

-- D is at least 1, so that D − 1 is one less.
pub record Undecided (name : FieldName) (fs : List Polynomial) (vs : List ℕ) : Type 0 where
  pub positive : 1 ≤ total_degree (named fs vs)
  pub s : Sequence
  pub t : Sequence
  pub s_rateable : Rateable name fs vs s
  pub t_rateable : Rateable name fs vs t
  pub agree : cut s 0 (total_degree (named fs vs) - 1) ≡ cut t 0 (total_degree (named fs vs) - 1)
  pub s_minimal :
      MinimalPolynomial (GF name) (product (GF name) (named (map (monic_multiple (GF name)) fs) vs)) s
  pub t_minimal : MinimalPolynomial (GF name) (1 ∷ []) t
  pub different : product (GF name) (named (map (monic_multiple (GF name)) fs) vs) ≢ 1 ∷ []

abbrev pub NoShorterPromise : Type 0
NoShorterPromise =
    (name : FieldName) (fs : List Polynomial) (vs : List ℕ)
    → T (accepted_factors name fs vs)
    → Undecided name fs vs

abbrev pub Settles : FieldName → List Polynomial → List ℕ → ℕ → Type 0
Settles name fs vs m =
    (rate : List ℕ → Polynomial)
    × ((s : Sequence) → Rateable name fs vs s → MinimalPolynomial (GF name) (rate (cut s 0 m)) s)

abbrev pub SettlesComplexity : FieldName → List Polynomial → List ℕ → ℕ → Type 0
SettlesComplexity name fs vs m =
    (rate : List ℕ → ℕ)
    × ((s : Sequence) (g : Polynomial)
    → Rateable name fs vs s
    → MinimalPolynomial (GF name) g s
    → degree g ≡ rate (cut s 0 m))

pub record TooFew (name : FieldName) (fs : List Polynomial) (vs : List ℕ) (m : ℕ) : Type 0 where
  pub no_polynomial : Settles name fs vs m → ⊥
  pub no_complexity : SettlesComplexity name fs vs m → ⊥

abbrev pub NoRaterPromise : Type 0
NoRaterPromise =
    (name : FieldName) (fs : List Polynomial) (vs : List ℕ)
    → T (accepted_factors name fs vs)
    → (m : ℕ)
    → m < total_degree (named fs vs)
    → TooFew name fs vs m

pub record Enough (name : FieldName) (fs : List Polynomial) (vs : List ℕ) (m : ℕ) : Type 0 where
  pub polynomial : Settles name fs vs m
  pub complexity : SettlesComplexity name fs vs m

abbrev pub EnoughPromise : Type 0
EnoughPromise =
    (name : FieldName) (fs : List Polynomial) (vs : List ℕ)
    → T (accepted_factors name fs vs)
    → (m : ℕ)
    → total_degree (named fs vs) ≤ m
    → Enough name fs vs m
