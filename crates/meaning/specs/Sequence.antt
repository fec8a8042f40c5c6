-- Sequences, the action of polynomials on them, and the minimal polynomial.
--
--   Sequence              == an endless sequence: a number at each place from 0
--   InField F s           == each of its numbers is an element of F
--   act_at F g s k         == the value at place k of the action of g on s: c0·s(k) + c1·s(k+1) + …
--   known ts, periodic ts == the terms ts read as endless sequences: with zeros after them, of which no
--                          definition here reads one; and as a period that repeats (ts not empty)
--   AnnihilatesEndless F g s == the action of g on the endless sequence s is 0 at every place
--   annihilates_known F g ts  == the action of g on the m terms ts is 0 at its m − deg g places; no places
--                          count as annihilated
--   annihilates_period F g ts == the action of g is 0 at each place of the period ts, and so at every place
--   act_on_known F g ts     == the action of g on the m terms ts, as the list of its m − deg g places; empty
--                            where there is none
--   act_on_period F g ts    == the action of g on the period ts, as a period of as many terms
--   cut s k m             == the stretch of m terms of s from place k on
--   Period s n            == s repeats every n terms, n at least 1
--   LeastPeriod s n       == n is the least number of terms after which s repeats
--   continuation F g start == the endless sequence that the monic polynomial g continues the starting terms
--                          to, as many as its degree; for degree 0 the zero sequence
--   Continues F g start s == the same in words: s is a sequence of F, begins with start, and g annihilates it
--   MinimalPolynomial F g s == g is monic over F and annihilates s, and every other such polynomial has a
--                          larger degree
--   LeastPower F f s r    == r is the least power for which f^r annihilates s
use Rattle.std.specs.Prelude.{ℕ, zero, suc, ◌+◌, ◌-◌, ◌%◌, ◌≤◌, ◌<◌, ◌≡◌, ◌≢◌, Bool, List, [], ◌∷◌, ◌++◌, map}
use Rattle.std.specs.Prelude.{length, get_or, take, drop, eqb, T}
use Rattle.meaning.specs.Search.{range, holds_for_all}
use Rattle.meaning.specs.Field.{Field, negative}
use Rattle.meaning.specs.Polynomial.{Polynomial, degree, is_monic_over, power}

abbrev pub Sequence : Type 0
Sequence = ℕ → ℕ

abbrev pub InField : Field → Sequence → Type 0
InField F s = (k : ℕ) → s k < F.size

unfoldable pub act_at : Field → Polynomial → Sequence → ℕ → ℕ
act_at F [] s k = 0
act_at F (c ∷ g) s k = F.add (F.mul c (s k)) (act_at F g s (suc k))

unfoldable pub known : List ℕ → Sequence
known ts i = get_or ts i 0

unfoldable pub periodic : List ℕ → Sequence
periodic ts i = get_or ts (i % length ts) 0

abbrev pub AnnihilatesEndless : Field → Polynomial → Sequence → Type 0
AnnihilatesEndless F g s = (k : ℕ) → act_at F g s k ≡ 0

unfoldable pub annihilates_known : Field → Polynomial → List ℕ → Bool
annihilates_known F g ts = holds_for_all (λ k. eqb (act_at F g (known ts) k) 0)
    (range 0 (length ts - degree g))

unfoldable pub annihilates_period : Field → Polynomial → List ℕ → Bool
annihilates_period F g ts = holds_for_all (λ k. eqb (act_at F g (periodic ts) k) 0) (range 0 (length ts))

unfoldable pub act_on_known : Field → Polynomial → List ℕ → List ℕ
act_on_known F g ts = map (act_at F g (known ts)) (range 0 (length ts - degree g))

unfoldable pub act_on_period : Field → Polynomial → List ℕ → List ℕ
act_on_period F g ts = map (act_at F g (periodic ts)) (range 0 (length ts))

unfoldable pub cut : Sequence → ℕ → ℕ → List ℕ
cut s k zero = []
cut s k (suc m) = s k ∷ cut s (suc k) m

pub record Period (s : Sequence) (n : ℕ) : Type 0 where
  pub positive : 1 ≤ n
  pub repeats : (i : ℕ) → s (i + n) ≡ s i

pub record LeastPeriod (s : Sequence) (n : ℕ) : Type 0 where
  pub period : Period s n
  pub least : (m : ℕ) → Period s m → n ≤ m

-- the term after the window of the last deg g terms: with it the action of g there is 0
unfoldable pub next : Field → Polynomial → List ℕ → ℕ
next F g window = negative F (act_at F (take (degree g) g) (known window) 0)

unfoldable pub continuation : Field → Polynomial → List ℕ → Sequence
continuation F g window zero = get_or window 0 0
continuation F g window (suc i) = continuation F g (drop 1 (window ++ (next F g window ∷ []))) i

pub record Continues (F : Field) (g : Polynomial) (start : List ℕ) (s : Sequence) : Type 0 where
  pub in_field : InField F s
  pub begins : cut s 0 (length start) ≡ start
  pub annihilated : AnnihilatesEndless F g s

pub record MinimalPolynomial (F : Field) (g : Polynomial) (s : Sequence) : Type 0 where
  pub monic : T (is_monic_over F g)
  pub annihilates : AnnihilatesEndless F g s
  pub smallest : (h : Polynomial)
      → T (is_monic_over F h)
      → AnnihilatesEndless F h s
      → h ≢ g
      → degree g < degree h

pub record LeastPower (F : Field) (f : Polynomial) (s : Sequence) (r : ℕ) : Type 0 where
  pub annihilates : AnnihilatesEndless F (power F f r) s
  pub smallest : (e : ℕ) → AnnihilatesEndless F (power F f e) s → r ≤ e
