-- What the contracts of crate powers cite: powers of p.
--
--   Base p            == p is a number from 2 to 251
--   IsLevel p l       == l is a power of p with its exponent, and its base is p
--   Reaching p r l    == l is the least power of p that is at least r
--   Dividing p n l    == l is the largest power of p that divides n: n is the power times `rest`, which p
--                        does not divide
use Rattle.std.specs.Prelude.{ℕ, ◌*◌, ◌^◌, ◌%◌, ◌≤◌, ◌≡◌, ◌≢◌}
use Rattle.bridge.proofs.Basics.Levels.{Level as Least}
use Rattle.lent.specs.declared.levels.Level.{Level}

pub record Base (p : ℕ) : Type 0 where
  pub low : 2 ≤ p
  pub high : p ≤ 251

pub record IsLevel (p : ℕ) (l : Level) : Type 0 where
  pub base : l.base ≡ p
  pub power : l.power ≡ p ^ l.exponent

pub record Reaching (p r : ℕ) (l : Level) : Type 0 where
  pub is_level : IsLevel p l
  pub least : Least p r l.exponent

pub record Dividing (p n : ℕ) (l : Level) : Type 0 where
  pub is_level : IsLevel p l
  pub rest : ℕ
  pub product : n ≡ p ^ l.exponent * rest
  pub undivided : rest % p ≢ 0
