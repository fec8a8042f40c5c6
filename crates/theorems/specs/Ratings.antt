-- Demand 2, as statements about the contracts of the calls: the polynomial is the minimal polynomial, or for
-- a portion alone the shortest recurrence. The signs are those of Promises. A factor is as the call takes it,
-- with any leading coefficient but 0; what is returned is said of its monic multiple, for which it stands,
-- and MultiplePromise says that the two annihilate the same.
--
-- A call is given the name of a field, and `GF name` is that field. The records are about any field F, and
-- the promises about `GF name`.
--
--   GF name          == the field with this name; NamesField name == it is the name of a field, of any size
--   Returns g told answer' == the call returns g: it tells the degree of g, and the answer bytes begin with g
--   …Answered        == what an answer of the way means: its figures, and the list in the answer bytes; of a
--                       set with a single factor SingleAnswered says more
--   …Right           == the same of what is told, and what 17 means
--   …Promise         == so it is of whatever meets the contract of the call, on every input
--   OneContinuation  == the first terms have exactly one continuation that the product annihilates
--   NoneBegins       == no sequence that a polynomial annihilates begins with the terms
--   MultiplePromise  == a factor and its monic multiple annihilate the same sequences; so do the products of
--                       their powers (MultiplesPromise)
--   NameWords        == what a name stands for, and its number
--   PrimeWords, IrreducibleWords == the tests for primes and irreducible polynomials are the words of the
--                                   request
--   ConditionWords   == the tests of the conditions are the words of the numbered list
use Rattle.meaning.specs.Answers.{Reply, told, set_places}
use Rattle.std.specs.Prelude.{ℕ, suc, ◌*◌, ◌-◌, ◌/◌, ◌^◌, ◌≤◌, ◌<◌, ◌≡◌, ◌↔◌, ◌⊎◌, ◌≢◌, Bool, true, false}
use Rattle.std.specs.Prelude.{List, [], ◌∷◌, ◌++◌, map, length, get_or, take, T}
use Rattle.meaning.specs.declared.FieldName.{FieldName}
use Rattle.meaning.specs.declared.FieldNumbers.{FieldNumbers}
use Rattle.meaning.specs.declared.PowerRating.{PowerRating}
use Rattle.meaning.specs.declared.SetRating.{SetRating}
use Rattle.meaning.specs.declared.FreeRating.{FreeRating}
use Rattle.meaning.specs.Field.{Field, prime, PrimeNumber, is_prime, are_elements}
use Rattle.meaning.specs.Extension.{reducing, binary}
use Rattle.meaning.specs.Polynomial.{Polynomial, degree, leading, is_monic_over, scale, power, product}
use Rattle.meaning.specs.Polynomial.{irreducible, monic_multiple, NotAProduct}
use Rattle.meaning.specs.Sequence.{Sequence, periodic, cut, LeastPeriod, Continues}
use Rattle.meaning.specs.Sequence.{AnnihilatesEndless, MinimalPolynomial, LeastPower}
use Rattle.meaning.specs.Result.{Result, refused, answered}
use Rattle.meaning.specs.Search.{holds_for_some}
use Rattle.meaning.specs.Conditions.{named, total_degree, count_out_of_range, place_out_of_range}
use Rattle.meaning.specs.Conditions.{term_out_of_field, factor_count_out_of_range, degree_out_of_range}
use Rattle.meaning.specs.Conditions.{continuation_degree_out_of_range}
use Rattle.meaning.specs.Conditions.{coefficient_out_of_range, fewer_terms_than, start_unlike_degree}
use Rattle.meaning.specs.Conditions.{lent_too_short}
use Rattle.meaning.specs.FieldNames.{named_field, not_field, field_number}
use Rattle.meaning.specs.RepeatLength.{RepeatMeaning}
use Rattle.meaning.specs.Power.{PowerFigures}
use Rattle.meaning.specs.Period.{NoPower}
use Rattle.meaning.specs.Portion.{onward, SetMeaning, PortionMeaning, Agrees}
use Rattle.meaning.specs.Free.{FreeFigures, IsLeastDegree, Fits, Precedes}
use Rattle.meaning.specs.Route.{RouteRecord, bodies, byte_of}
use Rattle.meaning.specs.File.{field_in}
use Rattle.meaning.specs.Answers.{SetTold, told_power, told_set, told_free, told_filling, told_irreducible}
use Rattle.meaning.specs.Answers.{padded}
use Rattle.meaning.specs.Exports.{named_by}
use Rattle.meaning.specs.Calls.{PrimeCall, IrreducibleCall, PeriodCall, SetCall, FreeCall, ContinueCall}

abbrev pub GF : FieldName → Field
GF name = named_field name

-- The name is that of a field, however large: of GF(p), p is a prime number; of GF(2^n), y^n + low is
-- irreducible over GF(2).
abbrev pub NamesField : FieldName → Type 0
NamesField (FieldName.Prime p) = T (is_prime p)
NamesField (FieldName.Binary n low) = (1 ≤ n) × T (irreducible (prime 2) (reducing n low))

-- THE POLYNOMIAL THAT A CALL RETURNS

-- The list in the answer bytes: as many coefficients as the degree that the call tells, and one more.
abbrev pub list_in : List ℕ → ℕ → Polynomial
list_in answer' told = take (suc told) answer'

-- The call returns g: it tells the degree of g, and the list in the answer bytes is g.
pub record Returns (g : Polynomial) (told : ℕ) (answer' : List ℕ) : Type 0 where
  pub degree-told : told ≡ degree g
  pub coefficients : list_in answer' told ≡ g

-- THE WAYS

-- The period way: the power is the least that annihilates the endless repetition, the polynomial returned is
-- the minimal polynomial of it, and the repeat length is its least period (`repeat`). What the repeat length
-- of a portion says it says too (`repeat_meaning`), and it is never 0 (`repeat_positive`): a period has a
-- least period, at most its number of terms, and x does not divide its polynomial. (In every way the degree
-- is at most 4,096, so that the list has its place in the 4,097 answer bytes: `small`.)
pub record PeriodAnswered (F : Field) (f : Polynomial) (ts : List ℕ) (a : PowerFigures) (answer' : List ℕ)
    : Type 0 where
  pub small : a.degree ≤ 4096
  pub least : LeastPower F f (periodic ts) a.power
  pub minimal : MinimalPolynomial F (list_in answer' a.degree) (periodic ts)
  pub returns : Returns (power F f a.power) a.degree answer'
  pub repeat : LeastPeriod (periodic ts) a.repeat
  pub repeat_meaning : RepeatMeaning (list_in answer' a.degree) (periodic ts) a.repeat
  pub repeat_positive : 0 < a.repeat

-- 17 means that no power of f, however large, annihilates it.
pub record PeriodRight (F : Field) (f : Polynomial) (ts : List ℕ) (told : Result PowerFigures)
    (answer' : List ℕ) : Type 0 where
  pub rated : (a : PowerFigures) → told ≡ answered a → PeriodAnswered F f ts a answer'
  pub seventeen : told ≡ refused 17 → NoPower F f ts

abbrev pub PeriodPromise : Type 0
PeriodPromise =
    (name : FieldName) (f : Polynomial) (ts answer work : List ℕ) (r : Reply PowerRating)
    (answer' work' : List ℕ)
    → PeriodCall name f ts answer work r answer' work'
    → PeriodRight (GF name) (monic_multiple (GF name) f) ts (told_power r) answer'

-- No sequence that g annihilates begins with the terms.
abbrev pub NoneBegins : Field → Polynomial → List ℕ → Type 0
NoneBegins F g ts = (s : Sequence) → AnnihilatesEndless F g s → cut s 0 (length ts) ≡ ts → ⊥

-- The first D terms, D the total degree of the factors l with their upper powers, have exactly one
-- continuation that the product of l annihilates (`onward`): it is over the field, begins with these terms
-- and is annihilated; and there is no other.
pub record OneContinuation (F : Field) (l : List (Polynomial × ℕ)) (ts : List ℕ) : Type 0 where
  pub continues : Continues F (product F l) (take (total_degree l) ts) (onward F l ts)
  pub only : (s : Sequence)
      → Continues F (product F l) (take (total_degree l) ts) s
      → (k : ℕ)
      → s k ≡ onward F l ts k

-- A single factor f with the upper power v: its power r is the least that annihilates the continuation by
-- f^v, and at most v, and the polynomial returned is f^r.
pub record SingleAnswered (F : Field) (f : Polynomial) (v : ℕ) (ts : List ℕ) (r : ℕ) (a : SetTold)
    (answer' : List ℕ) : Type 0 where
  pub at_most : r ≤ v
  pub least : PortionMeaning F f v ts r
  pub returns : Returns (power F f r) a.degree answer'

-- The set way, for portions with one to eight factors, x among them or not: the first terms have exactly one
-- continuation that the product of the factors to their upper powers annihilates, and all the terms agree
-- with it. The powers stand in the eight places, each is at most its upper power, and the polynomial returned
-- is the product of the factors to these powers and the minimal polynomial of that continuation. The repeat
-- length is the least period of the continuation, at most 65,536; it is 0 only where x divides the polynomial
-- returned, and then there is no period, or where the least period is longer. With a single factor
-- SingleAnswered holds too.
pub record SetAnswered (F : Field) (fs : List Polynomial) (vs ts : List ℕ) (a : SetTold)
    (eight answer' : List ℕ) : Type 0 where
  pub powers : List ℕ
  pub count_told : a.count ≡ length powers
  pub places : eight ≡ padded powers
  pub small : a.degree ≤ 4096
  pub continuation : OneContinuation F (named fs vs) ts
  pub agrees : Agrees F (named fs vs) ts
  pub at_most : (i : ℕ) → i < length fs → get_or powers i 0 ≤ get_or vs i 0
  pub meaning : SetMeaning F (named fs vs) ts powers
  pub minimal : MinimalPolynomial F (list_in answer' a.degree) (onward F (named fs vs) ts)
  pub returns : Returns (product F (named fs powers)) a.degree answer'
  pub repeat : RepeatMeaning (list_in answer' a.degree) (onward F (named fs vs) ts) a.repeat
  pub single : (f : Polynomial) (v : ℕ)
      → named fs vs ≡ (f, v) ∷ []
      → (r : ℕ) × (powers ≡ r ∷ []) × SingleAnswered F f v ts r a answer'

-- 17 means that the terms have no continuation that the product annihilates, with a single factor f^v.
pub record SetRight (F : Field) (fs : List Polynomial) (vs ts : List ℕ) (told : Result SetTold)
    (eight answer' : List ℕ) : Type 0 where
  pub rated : (a : SetTold) → told ≡ answered a → SetAnswered F fs vs ts a eight answer'
  pub seventeen : told ≡ refused 17 → NoneBegins F (product F (named fs vs)) ts
  pub single_seventeen : (f : Polynomial) (v : ℕ)
      → named fs vs ≡ (f, v) ∷ []
      → told ≡ refused 17
      → NoneBegins F (power F f v) ts

abbrev pub SetPromise : Type 0
SetPromise =
    (name : FieldName) (fs : List Polynomial) (vs ts answer work : List ℕ) (r : Reply SetRating)
    (answer' work' : List ℕ)
    → SetCall name fs vs ts answer work r answer' work'
    → SetRight (GF name) (map (monic_multiple (GF name)) fs) vs ts (told_set r) (set_places r) answer'

-- The free way: the degree is the least of a polynomial that annihilates the terms, and the polynomial
-- returned is the first of that degree: every other one that annihilates them comes later, which means that
-- at the highest place where the two differ the returned one has the smaller number. Under the word `one`
-- (`unique`), which stands where twice the degree is at most the number of terms, there is no other.
pub record FreeAnswered (F : Field) (ts : List ℕ) (a : FreeFigures) (answer' : List ℕ) : Type 0 where
  pub small : a.degree ≤ 4096
  pub least : IsLeastDegree F ts a.degree
  pub fits : Fits F ts a.degree (list_in answer' a.degree)
  pub word : (a.unique ≡ true) ↔ (2 * a.degree ≤ length ts)
  pub only : a.unique ≡ true
      → (h : Polynomial)
      → Fits F ts a.degree h
      → h ≡ list_in answer' a.degree
  pub first : (h : Polynomial)
      → Fits F ts a.degree h
      → h ≢ list_in answer' a.degree
      → Precedes (list_in answer' a.degree) h

abbrev pub FreePromise : Type 0
FreePromise =
    (name : FieldName) (ts answer work : List ℕ) (r : Reply FreeRating) (answer' work' : List ℕ)
    → FreeCall name ts answer work r answer' work'
    → (a : FreeFigures)
    → told_free r ≡ answered a
    → FreeAnswered (GF name) ts a answer'

-- The continuation: from the place on the buffer holds the sequence that begins with the starting terms and
-- that g annihilates; it is the only one. A refusal leaves the buffer as it was.
pub record ContinueFilled (F : Field) (g : Polynomial) (start buffer : List ℕ) (place : ℕ) (buffer' : List ℕ)
    : Type 0 where
  pub sequence : Sequence
  pub continues : Continues F g start sequence
  pub only : (s : Sequence) → Continues F g start s → (k : ℕ) → s k ≡ sequence k
  pub bytes : buffer' ≡ take place buffer ++ cut sequence 0 (length buffer - place)

pub record ContinueRight (F : Field) (g : Polynomial) (start buffer : List ℕ) (place : ℕ)
    (told : Result (Unit {0})) (buffer' : List ℕ) : Type 0 where
  pub filled : told ≡ answered tt → ContinueFilled F g start buffer place buffer'
  pub untouched : (n : ℕ) → told ≡ refused n → buffer' ≡ buffer

abbrev pub ContinuePromise : Type 0
ContinuePromise =
    (name : FieldName) (g : Polynomial) (start buffer : List ℕ) (place : ℕ) (r : Reply (Unit {0}))
    (buffer' : List ℕ)
    → ContinueCall name g start buffer place r buffer'
    → ContinueRight (GF name) (monic_multiple (GF name) g) start buffer place (told_filling r) buffer'

-- The two questions
abbrev pub IrreduciblePromise : Type 0
IrreduciblePromise =
    (name : FieldName) (f : Polynomial) (r : Reply Bool)
    → IrreducibleCall name f r
    → (said : Bool)
    → told_irreducible r ≡ answered said
    → T said ↔ NotAProduct (GF name) f

abbrev pub PrimePromise : Type 0
PrimePromise = (n : ℕ) (r : Bool) → PrimeCall n r → T r ↔ (PrimeNumber n × (n ≤ 251))

-- THE MONIC MULTIPLE

-- The monic multiple of f: it is monic, f is its leading coefficient times it, it has the degree of f, and
-- f^e annihilates exactly what its e-th power does, whatever e is; so a least power of the one is that of the
-- other. A monic f is its own.
pub record MonicMultiple (F : Field) (f g : Polynomial) : Type 0 where
  pub monic : T (is_monic_over F g)
  pub multiple : scale F (leading f) g ≡ f
  pub same-degree : degree g ≡ degree f
  pub annihilates : (e : ℕ) (s : Sequence)
      → AnnihilatesEndless F (power F f e) s ↔ AnnihilatesEndless F (power F g e) s
  pub least : (s : Sequence) (r : ℕ) → LeastPower F f s r ↔ LeastPower F g s r
  pub itself : leading f ≡ 1 → g ≡ f

abbrev pub MultiplePromise : Type 0
MultiplePromise =
    (name : FieldName) (f : Polynomial)
    → NamesField name
    → T (are_elements (GF name) f)
    → leading f ≢ 0
    → MonicMultiple (GF name) f (monic_multiple (GF name) f)

-- The product of the powers of factors that 11 lets pass annihilates exactly what the product of the same
-- powers of their monic multiples does, and has the same total degree.
pub record MonicMultiples (F : Field) (fs gs : List Polynomial) (vs : List ℕ) : Type 0 where
  pub same_total : total_degree (named gs vs) ≡ total_degree (named fs vs)
  pub annihilates : (s : Sequence)
      → AnnihilatesEndless F (product F (named fs vs)) s
      ↔ AnnihilatesEndless F (product F (named gs vs)) s

abbrev pub MultiplesPromise : Type 0
MultiplesPromise =
    (name : FieldName) (fs : List Polynomial) (vs : List ℕ)
    → NamesField name
    → holds_for_some (coefficient_out_of_range (GF name)) fs ≡ false
    → MonicMultiples (GF name) fs (map (monic_multiple (GF name)) fs) vs

-- THE WORDS OF THE REQUEST

-- What a name stands for: that of a prime p for the field of the p residues modulo p, that of n and low for
-- the polynomials in y over GF(2) modulo y^n + low; and the number by which it is refused. A name that is not
-- refused is that of a field (`FieldPromise` has its laws). A file names its field by a record of kind 9, n
-- and then low, and where there is none by that of kind 2, its prime; a program in another language by two
-- numbers, of which the first is 0 for a prime and else n.
pub record NameWords : Type 0 where
  pub prime-field : (p : ℕ) → named_field (FieldName.Prime p) ≡ prime p
  pub prime_number : (p : ℕ) → field_number (FieldName.Prime p) ≡ 6
  pub binary-field : (n low : ℕ) → named_field (FieldName.Binary n low) ≡ binary n low
  pub binary_number : (n low : ℕ) → field_number (FieldName.Binary n low) ≡ 20
  pub file_prime : (rs : List RouteRecord) → bodies 9 rs ≡ [] → field_in rs ≡ FieldName.Prime (byte_of 2 rs)
  pub file_binary : (rs : List RouteRecord) (body : List ℕ) (rest : List (List ℕ))
      → bodies 9 rs ≡ body ∷ rest
      → field_in rs ≡ FieldName.Binary (get_or body 0 0) (get_or body 1 0)
  pub numbers_prime : (f : FieldNumbers) → f.degree ≡ 0 → named_by f ≡ FieldName.Prime f.number
  pub numbers_binary : (f : FieldNumbers)
      → f.degree ≢ 0
      → named_by f ≡ FieldName.Binary f.degree f.number
  pub admitted : (name : FieldName) → not_field name ≡ false → NamesField name

abbrev pub PrimeWords : Type 0
PrimeWords = (n : ℕ) → T (is_prime n) ↔ PrimeNumber n

-- The conditions of the numbered list, in words: 6, of the name of a prime; 7, of a count and of a place; 8;
-- 9; 10, of a degree and for a continuation; 11; 15, of terms and for a continuation; 16; 20, of the name of
-- a field of 2^n elements. (12 is `IrreducibleWords`, of monic lists.)
pub record ConditionWords : Type 0 where
  pub six : (p : ℕ) → T (not_field (FieldName.Prime p)) ↔ ((PrimeNumber p × (p ≤ 251)) → ⊥)
  pub twenty : (n low : ℕ)
      → T (not_field (FieldName.Binary n low))
      ↔ (((2 ≤ n) × (n ≤ 8) × (low < 2 ^ n) × NotAProduct (prime 2) (reducing n low)) → ⊥)
  pub seven : (n : ℕ) → T (count_out_of_range n) ↔ ((n ≡ 0) ⊎ (4096 < n))
  pub seven_place : (size place : ℕ)
      → T (place_out_of_range size place) ↔ ((size < place) ⊎ (size - place ≡ 0) ⊎ (4096 < size - place))
  pub eight : (F : Field) (ts : List ℕ)
      → T (term_out_of_field F ts) ↔ (((i : ℕ) → i < length ts → get_or ts i 0 < F.size) → ⊥)
  pub nine : (n : ℕ) → T (factor_count_out_of_range n) ↔ ((n ≡ 0) ⊎ (8 < n))
  pub ten : (F : Field) (d : ℕ)
      → T (degree_out_of_range F d) ↔ (((d ≡ 0) ⊎ (32 < d)) ⊎ (65536 < F.size ^ (d / 2)))
  pub ten_continuation : (g : Polynomial) → T (continuation_degree_out_of_range g) ↔ (4096 < degree g)
  pub eleven : (F : Field) (f : Polynomial)
      → T (coefficient_out_of_range F f)
      ↔ ((((i : ℕ) → i < length f → get_or f i 0 < F.size) → ⊥) ⊎ (leading f ≡ 0))
  pub fifteen : (d : ℕ) (ts : List ℕ) → T (fewer_terms_than d ts) ↔ (length ts < d)
  pub fifteen_start : (g : Polynomial) (start : List ℕ)
      → T (start_unlike_degree g start) ↔ (length start ≢ degree g)
  pub sixteen : (answer work : ℕ) → T (lent_too_short answer work) ↔ ((answer < 4097) ⊎ (work < 8192))

abbrev pub IrreducibleWords : Type 0
IrreducibleWords =
    (name : FieldName) (f : Polynomial)
    → NamesField name
    → T (is_monic_over (GF name) f)
    → 1 ≤ degree f
    → T (irreducible (GF name) f) ↔ NotAProduct (GF name) f
