-- What the contracts of the products cite. fs are the factors, rs their powers.
--
--   ProductInput F fs rs == the factors are monic over F and of a degree from 1 to 32, each has a power, and
--                        the product of the powers has a degree of at most 4,096
--   ProductWritten F fs rs a a' n == the product of the powers is written into the answer bytes a, and n is
--                        its degree
--   PowerInput F f r, PowerWritten F f r a a' n == the same of one power
use Rattle.std.specs.Prelude.{ℕ, ◌*◌, ◌≤◌, ◌<◌, ◌≡◌, List, [], length, get_or, T}
use Rattle.meaning.specs.Field.{Field}
use Rattle.meaning.specs.Polynomial.{Polynomial, degree, is_monic_over, power, product}
use Rattle.meaning.specs.Result.{written}
use Rattle.meaning.specs.Conditions.{named, total_degree}

pub record ProductInput (F : Field) (fs : List Polynomial) (rs : List ℕ) : Type 0 where
  pub monic : (i : ℕ) → i < length fs → T (is_monic_over F (get_or fs i []))
  pub positive : (i : ℕ) → i < length fs → 1 ≤ degree (get_or fs i [])
  pub short : (i : ℕ) → i < length fs → length (get_or fs i []) ≤ 33
  pub enough : length fs ≤ length rs
  pub small : total_degree (named fs rs) ≤ 4096

pub record ProductWritten (F : Field) (fs : List Polynomial) (rs a a' : List ℕ) (n : ℕ) : Type 0 where
  pub new_degree : n ≡ degree (product F (named fs rs))
  pub answer : a' ≡ written (product F (named fs rs)) a

pub record PowerInput (F : Field) (f : Polynomial) (r : ℕ) : Type 0 where
  pub monic : T (is_monic_over F f)
  pub positive : 1 ≤ degree f
  pub short : length f ≤ 33
  pub small : r * degree f ≤ 4096

pub record PowerWritten (F : Field) (f : Polynomial) (r : ℕ) (a a' : List ℕ) (n : ℕ) : Type 0 where
  pub new_degree : n ≡ degree (power F f r)
  pub answer : a' ≡ written (power F f r) a
