-- How many terms an endless sequence takes to repeat.
--
--   comes_again s e n   == the e terms of s from place n on are its first e terms. Of a sequence that a monic
--                         polynomial of degree e annihilates it says that s repeats every n terms
--   longest_repeat      == 65,536, the longest repeat length that is told
--   least_within b t    == the least number from 1 to b that passes the test t; 0 where there is none
--   repeat_length g s   == the least n up to the longest repeat after which s comes again, by as many terms
--                          as
--                         the degree of g; 0 where x divides g, or where there is none. For the polynomial 1
--                         of the zero sequence it is 1
--   RepeatMeaning g s n == what n says in words: other than 0 it is the least period of s, at most 65,536; 0
--                         says that x divides g, and then s has no period, or that the least period exceeds
--                         65,536
use Rattle.std.specs.Prelude.{ℕ, ◌≤◌, ◌<◌, ◌≡◌, ◌⊎◌, Bool, true, false, ◌&&◌, get_or, eqb, leb}
use Rattle.std.proofs.Math.Option.{none, some}
use Rattle.meaning.specs.Search.{least}
use Rattle.meaning.specs.Polynomial.{Polynomial, degree, same}
use Rattle.meaning.specs.Sequence.{Sequence, cut, Period, LeastPeriod}

unfoldable pub comes_again : Sequence → ℕ → ℕ → Bool
comes_again s e n = same (cut s n e) (cut s 0 e)

unfoldable pub longest_repeat : ℕ
longest_repeat = 65536

unfoldable pub least_within : ℕ → (ℕ → Bool) → ℕ
least_within b t = elim (least b (λ n. leb 1 n && t n)) [ none ↦ 0 | some n ↦ n ]

unfoldable pub repeat_length : Polynomial → Sequence → ℕ
repeat_length g s =
    elim (eqb (get_or g 0 0) 0) [ true ↦ 0 | false ↦ least_within longest_repeat (comes_again s (degree g)) ]

pub record RepeatMeaning (g : Polynomial) (s : Sequence) (n : ℕ) : Type 0 where
  pub exact : 0 < n → LeastPeriod s n × (n ≤ 65536)
  pub beyond : n ≡ 0 → (get_or g 0 0 ≡ 0) ⊎ ((m : ℕ) × LeastPeriod s m × (65536 < m))
  pub never : get_or g 0 0 ≡ 0 → (m : ℕ) → Period s m → ⊥
