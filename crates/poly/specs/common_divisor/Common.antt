-- What the contracts of the common divisor cite.
--
--   Trimmed f n       == f has n coefficients up to the last that is not 0
--   Euclidean F a b   == both are polynomials over F, b is no longer than a, and its last coefficient is not
--                        0
--   Turned field a b a' n == the turn from a and b to b and the first n coefficients of a': where n is 0,
--                        b is a greatest common divisor; else these can be turned again, and their greatest
--                        common divisors are those of a and b
--   Common field a b k == some greatest common divisor of a and b over the field has degree k
use Rattle.std.specs.Prelude.{ℕ, ◌-◌, ◌≤◌, ◌<◌, ◌≡◌, ◌≢◌, List, length, get_or, take, T}
use Rattle.meaning.specs.Field.{Field, are_elements}
use Rattle.meaning.specs.Polynomial.{Polynomial, leading}
use Rattle.bridge.proofs.Lists.IrreducibleTests.{CommonDegree}
use Rattle.arith.specs.Represented.{field_of}
use Rattle.arith.specs.declared.field.GaloisField.{GaloisField}
use Rattle.arith.proofs.Represented.{field-is_field}

pub record Trimmed (f : List ℕ) (n : ℕ) : Type 0 where
  pub within : n ≤ length f
  pub zeros : (i : ℕ) → n ≤ i → get_or f i 0 ≡ 0
  pub last : 0 < n → get_or f (n - 1) 0 ≢ 0

pub record Euclidean (F : Field) (a b : Polynomial) : Type 0 where
  pub dividend : T (are_elements F a)
  pub divisor : T (are_elements F b)
  pub shorter : length b ≤ length a
  pub nonzero : leading b ≢ 0

pub record Turned (field : GaloisField) (a b a' : Polynomial) (n : ℕ) : Type 0 where
  pub first : length a' ≡ length a
  pub falls : n < length b
  pub ends : n ≡ 0 → CommonDegree (field-is_field field) a b (length b - 1)
  pub turns : n ≢ 0 → Euclidean (field_of field) b (take n a')
  pub goes_on :
      (k : ℕ)
      → CommonDegree (field-is_field field) b (take n a') k
      → CommonDegree (field-is_field field) a b k

pub record Common (field : GaloisField) (a b : Polynomial) (k : ℕ) : Type 0 where
  pub degree : CommonDegree (field-is_field field) a b k
