-- What the contract of the status cites.
--
--   status_in r          == 0 where the reply r is a value, and else the number of the refusal
use Rattle.std.specs.Prelude.{ℕ, Ok, Err}
use Rattle.meaning.specs.Answers.{Reply, number_of}

unfoldable pub status_in : {A : Type 0} → Reply A → ℕ
status_in (Ok a) = 0
status_in (Err r) = number_of r
