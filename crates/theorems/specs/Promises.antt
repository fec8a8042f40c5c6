-- What is promised, as statements about the contracts of the calls, or about fields and sequences alone: each
-- is a named type with all of its hypotheses, and `promises` of proofs/Promises.antt proves the record of
-- them all.
--
--   Answering        == demand 1: every call gives an answer or one of its numbered refusals, on every input
--   Ratings          == demand 2: the polynomial is the minimal polynomial, the repeat length the least
--                       period; the two questions
--   Fields           == the laws of the fields, in plain numbers
--   CutAnywhere      == demand 3: the same polynomial wherever the stretch is cut
--   NoShorter        == fewer first terms than the total degree are not always enough, and as many are
--   Files            == route files, the reader, the program
--   Density          == the density of a period
--   OtherLanguages   == the exported calls
--   Meters           == the meter: demand 1 of its calls, what it shows, the exported profile
--   Catalogue        == the catalogue and its search: demand 1, what it holds, what is found, the export
--
-- How to read the signs in these files:
--   (a : A) → B      == for every a of A, B holds; A → B: where A holds, B does
--   (a : A) × B      == there is an a of A, and B holds of it
--   A × B, A ⊎ B     == both hold; one of them does. A ↔ B: each follows from the other
--   A → ⊥, a ≢ b     == A never holds; a is not b
--   T b              == the test b passes
--   x.name          == the part of x that has this name
--   answer, answer'  == lent bytes as a call begins, and as it returns; so with work and buffer
--   f ∷ []           == the list of f alone; (f, v): f with its upper power v
--
-- `name` is the name of a field and `GF name` that field (`NameWords`); F any field; f a factor, which stands
-- for its monic multiple, `monic_multiple (GF name) f`; fs and vs the factors and their upper powers, `map`
-- of that over fs the list of their monic multiples, `named fs vs` each with its own, and `product` of that
-- the product of the factors to their upper powers; ts the terms given; s an endless sequence; g a
-- polynomial; r what a call returns, and `told…` of it what it tells.
use Rattle.theorems.specs.Answering.{PeriodAnswers, SetAnswers, FreeAnswers}
use Rattle.theorems.specs.Answering.{ContinueAnswers, IrreducibleAnswers, PrimeAnswers, FileAnswers}
use Rattle.theorems.specs.Answering.{RecordAnswers, ProgramAnswers, NeverZero}
use Rattle.theorems.specs.Ratings.{PeriodPromise, SetPromise, FreePromise}
use Rattle.theorems.specs.Ratings.{ContinuePromise, IrreduciblePromise, PrimePromise}
use Rattle.theorems.specs.Ratings.{MultiplePromise, MultiplesPromise, PrimeWords, IrreducibleWords}
use Rattle.theorems.specs.Ratings.{NameWords, ConditionWords}
use Rattle.theorems.specs.Fields.{FieldPromise}
use Rattle.theorems.specs.CutAnywhere.{CutAnywherePromise}
use Rattle.theorems.specs.NoShorter.{NoShorterPromise, NoRaterPromise, EnoughPromise}
use Rattle.theorems.specs.Files.{FilePromise, RecordPromise, ProgramAsCall, ProgramPromise}
use Rattle.theorems.specs.Density.{DensityPromise}
use Rattle.theorems.specs.OtherLanguages.{PeriodExport, SetExport, FreeExport}
use Rattle.theorems.specs.OtherLanguages.{ContinueExport, IrreducibleExport, RecordExport}
use Rattle.theorems.specs.OtherLanguages.{ExportAnswers}
use Rattle.theorems.specs.Meters.{StartAnswers, MeterPromise, ProfileExport, ProfileAnswers}
use Rattle.theorems.specs.Catalogue.{SearchAnswers, EntryAnswers, CataloguePromise, EntryPromise}
use Rattle.theorems.specs.Catalogue.{SearchExport, SearchExportAnswers}

pub record Promises : Type 0 where
  -- demand 1
  pub period_answers : PeriodAnswers
  pub set_answers : SetAnswers
  pub free_answers : FreeAnswers
  pub continue_answers : ContinueAnswers
  pub irreducible_answers : IrreducibleAnswers
  pub prime_answers : PrimeAnswers
  pub file_answers : FileAnswers
  pub record_answers : RecordAnswers
  pub program_answers : ProgramAnswers
  pub start_answers : StartAnswers
  pub search_answers : SearchAnswers
  pub entry_answers : EntryAnswers
  pub never-zero : NeverZero
  -- demand 2
  pub period : PeriodPromise
  pub set : SetPromise
  pub free : FreePromise
  pub continuation : ContinuePromise
  pub irreducibility : IrreduciblePromise
  pub primes : PrimePromise
  pub multiple : MultiplePromise
  pub multiples : MultiplesPromise
  pub name-words : NameWords
  pub fields : FieldPromise
  pub prime-words : PrimeWords
  pub irreducible-words : IrreducibleWords
  pub condition_words : ConditionWords
  -- the meter, with demand 1 of a term
  pub meter : MeterPromise
  -- the catalogue and its search
  pub catalogue : CataloguePromise
  pub entry : EntryPromise
  -- demand 3
  pub cut_anywhere : CutAnywherePromise
  -- how many terms it takes
  pub no_shorter : NoShorterPromise
  pub no_rater : NoRaterPromise
  pub enough : EnoughPromise
  -- route files, the reader, the program
  pub files : FilePromise
  pub records : RecordPromise
  pub program_as_call : ProgramAsCall
  pub program : ProgramPromise
  pub density : DensityPromise
  -- other languages
  pub period_export : PeriodExport
  pub set_export : SetExport
  pub free_export : FreeExport
  pub continue_export : ContinueExport
  pub irreducible_export : IrreducibleExport
  pub record_export : RecordExport
  pub profile_export : ProfileExport
  pub search_export : SearchExport
  pub export_answers : ExportAnswers
  pub profile_answers : ProfileAnswers
  pub search_export_answers : SearchExportAnswers
