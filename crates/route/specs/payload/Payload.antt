-- What the contracts of the contents cite.
--
--   HoldsTerms r ts    == ts are the terms of the record; none where it is of another kind
--   Gathered file terms n terms' == n is the number of the terms of the file, and the lent bytes `terms` are
--                        left with the terms stored from their front on, as far as they fit (`sets` stores
--                        nothing past the end)
--   LaidFactor body at to n to' == n is the length of the polynomial of a factor's body, and the lent bytes
--                        `to` are left with its coefficients stored from the place `at` on, as far as they
--                        fit
use Rattle.std.specs.Prelude.{ℕ, ◌≤◌, ◌≡◌, List, ◌∷◌, ◌++◌, length}
use Rattle.std.proofs.lemmas.List.Edits.{sets}
use Rattle.meaning.specs.Route.{RouteRecord}
use Rattle.meaning.specs.File.{terms_of, file_factor, polynomial_of}
use Rattle.route.specs.framing.Framing.{records_from}

pub record HoldsTerms (r : RouteRecord) (ts : List ℕ) : Type 0 where
  pub terms : (rs : List RouteRecord) → terms_of (r ∷ rs) ≡ ts ++ terms_of rs
  pub short : length ts ≤ length r.body

pub record Gathered (file terms : List ℕ) (n : ℕ) (terms' : List ℕ) : Type 0 where
  pub count : n ≡ length (terms_of (records_from file 0))
  pub bytes : terms' ≡ sets terms 0 (terms_of (records_from file 0))

pub record LaidFactor (body : List ℕ) (at : ℕ) (to : List ℕ) (n : ℕ) (to' : List ℕ) : Type 0 where
  pub count : n ≡ length (polynomial_of (file_factor body))
  pub bytes : to' ≡ sets to at (polynomial_of (file_factor body))
