-- All promises hold.
-- Assumes nothing.
use Rattle.meaning.specs.Search.{holds_for_some}
use Rattle.meaning.specs.Route.{records}
use Rattle.theorems.specs.Answering.{period_numbers, set_numbers, free_numbers}
use Rattle.theorems.specs.Answering.{continue_numbers, irreducible_numbers, reader_numbers, file_numbers}
use Rattle.theorems.specs.Answering.{NeverZero}
use Rattle.theorems.specs.Catalogue.{search_numbers}
use Rattle.theorems.specs.Promises.{Promises}
use Rattle.theorems.proofs.Telling.{tells_zero, no_zero, keeping-zero}
use Rattle.theorems.proofs.Answering.{period_answers, set_answers, free_answers}
use Rattle.theorems.proofs.Answering.{continue_answers, irreducible_answers, prime_answers}
use Rattle.theorems.proofs.Answering.{period-told, set_told, free-told, continue_told}
use Rattle.theorems.proofs.Answering.{irreducible-told, period-keeping, set-keeping, free-keeping}
use Rattle.theorems.proofs.Answering.{continue_keeping, irreducible-keeping}
use Rattle.theorems.proofs.FileAnswers.{file_answers, record_answers, program_answers, file_tells}
use Rattle.theorems.proofs.FileAnswers.{read_tells, file-keeping}
use Rattle.theorems.proofs.Words.{name-words, prime-words, irreducible-words, prime_promise}
use Rattle.theorems.proofs.Fields.{field_promise}
use Rattle.theorems.proofs.Conditions.{condition_words}
use Rattle.theorems.proofs.Words.{irreducible_promise, continue_promise, multiple_promise}
use Rattle.theorems.proofs.Words.{multiples_promise}
use Rattle.theorems.proofs.Ways.{period_promise, set_promise, free_promise}
use Rattle.theorems.proofs.CutAnywhere.{cut_anywhere}
use Rattle.theorems.proofs.NoShorter.{no_shorter_promise, no_rater_promise, enough_promise}
use Rattle.theorems.proofs.Files.{file_promise}
use Rattle.theorems.proofs.Program.{record_promise, program_as_call, program_promise}
use Rattle.theorems.proofs.Density.{density_promise}
use Rattle.theorems.proofs.OtherLanguages.{period_export, set_export, free_export}
use Rattle.theorems.proofs.OtherLanguages.{continue_export, irreducible_export, record_export}
use Rattle.theorems.proofs.OtherLanguages.{export_answers}
use Rattle.theorems.proofs.Meters.{start_answers, meter_promise, profile_export, profile_answers}
use Rattle.theorems.proofs.Catalogue.{search_answers, search_tells, entry_answers, catalogue_promise}
use Rattle.theorems.proofs.Catalogue.{entry_promise, search_export, search_export_answers}

never-zero : NeverZero
unfolding holds_for_some
never-zero =
    record {
      period =
          λ name f ts answer work.
          tells_zero (period_numbers name) _ (keeping-zero (period_numbers name) (period-keeping name))
          (period-told name f ts answer work);
      set =
          λ name fs vs ts answer work.
          tells_zero (set_numbers name) _ (keeping-zero (set_numbers name) (set-keeping name))
          (set_told name fs vs ts answer work);
      free =
          λ name ts answer work.
          tells_zero (free_numbers name) _ (keeping-zero (free_numbers name) (free-keeping name))
          (free-told name ts answer work);
      continuation =
          λ name g start place buffer.
          tells_zero (continue_numbers name) _ (keeping-zero (continue_numbers name) (continue_keeping name))
          (continue_told name g start buffer place);
      irreducibility =
          λ name f.
          tells_zero (irreducible_numbers name) _
          (keeping-zero (irreducible_numbers name) (irreducible-keeping name)) (irreducible-told name f);
      file =
          λ file answer work.
          tells_zero (file_numbers (records file)) _
          (keeping-zero (file_numbers (records file)) (file-keeping (records file)))
          (file_tells file answer work);
      reader = λ file n. tells_zero reader_numbers _ (no_zero reader_numbers tt) (read_tells file n);
      search = λ ts work. tells_zero search_numbers _ (no_zero search_numbers tt) (search_tells ts work);
    }

pub promises : Promises
promises =
    record {
      period_answers = period_answers;
      set_answers = set_answers;
      free_answers = free_answers;
      continue_answers = continue_answers;
      irreducible_answers = irreducible_answers;
      prime_answers = prime_answers;
      file_answers = file_answers;
      record_answers = record_answers;
      program_answers = program_answers;
      start_answers = start_answers;
      search_answers = search_answers;
      entry_answers = entry_answers;
      never-zero = never-zero;
      period = period_promise;
      set = set_promise;
      free = free_promise;
      continuation = continue_promise;
      irreducibility = irreducible_promise;
      primes = prime_promise;
      multiple = multiple_promise;
      multiples = multiples_promise;
      name-words = name-words;
      fields = field_promise;
      prime-words = prime-words;
      irreducible-words = irreducible-words;
      condition_words = condition_words;
      meter = meter_promise;
      catalogue = catalogue_promise;
      entry = entry_promise;
      cut_anywhere = cut_anywhere;
      no_shorter = no_shorter_promise;
      no_rater = no_rater_promise;
      enough = enough_promise;
      files = file_promise;
      records = record_promise;
      program_as_call = program_as_call;
      program = program_promise;
      density = density_promise;
      period_export = period_export;
      set_export = set_export;
      free_export = free_export;
      continue_export = continue_export;
      irreducible_export = irreducible_export;
      record_export = record_export;
      profile_export = profile_export;
      search_export = search_export;
      export_answers = export_answers;
      profile_answers = profile_answers;
      search_export_answers = search_export_answers;
    }
