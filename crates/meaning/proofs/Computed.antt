-- One name that opens every executable definition of specs/, so that a row computes under `unfolding
-- computed`. Each other name opens one file, or a part of it.
--
--   GF p              == the name of GF(p)
-- Assumes nothing.
use Prim.Native.Nat.{ℕ}
use Rattle.meaning.specs.declared.FieldName.{FieldName}
use Rattle.meaning.specs.Search.{range, holds_for_all, holds_for_some, first_that, map_option, bind, is_none}
use Rattle.meaning.specs.Search.{least, together, selected}
use Rattle.meaning.specs.Field.{prime, is_prime, largest_prime, prime_in_range, is_element, are_elements}
use Rattle.meaning.specs.Field.{multiple, negative}
use Rattle.meaning.specs.Polynomial.{degree, leading, is_monic, is_monic_over, plus, scale, times, power}
use Rattle.meaning.specs.Polynomial.{monic_multiple, product, each_head, monics, same, has_factor_of}
use Rattle.meaning.specs.Polynomial.{irreducible}
use Rattle.meaning.specs.Extension.{bits, of_bits, times_y, reduced, reducing, binary}
use Rattle.meaning.specs.Sequence.{act_at, known, periodic, annihilates_known, annihilates_period}
use Rattle.meaning.specs.Sequence.{act_on_known, act_on_period, cut, next, continuation}
use Rattle.meaning.specs.RepeatLength.{comes_again, longest_repeat, least_within, repeat_length}
use Rattle.meaning.specs.Result.{map_result, first_of, value_of, settle, figures_of, written, cleared}
use Rattle.meaning.specs.Result.{answer_after, clearing, clears, work_after}
use Rattle.meaning.specs.Conditions.{named, total_degree, not_prime, count_out_of_range, place_out_of_range}
use Rattle.meaning.specs.Conditions.{term_out_of_field, factor_count_out_of_range, degree_out_of_range}
use Rattle.meaning.specs.Conditions.{factor_degree_out_of_range, continuation_degree_out_of_range}
use Rattle.meaning.specs.Conditions.{coefficient_out_of_range, not_monic}
use Rattle.meaning.specs.Conditions.{is_asked, is_reducible, two_equal, upper_powers_out_of_range}
use Rattle.meaning.specs.Conditions.{fewer_terms_than, not_binary, least_extension, largest_extension}
use Rattle.meaning.specs.Conditions.{start_unlike_degree, lent_too_short, accepted_lent}
use Rattle.meaning.specs.FieldNames.{named_field, not_field, field_number, in_field}
use Rattle.meaning.specs.Power.{is_x, power_rating}
use Rattle.meaning.specs.Repeat.{repeats_every, shortest_period}
use Rattle.meaning.specs.Period.{period_power, period_table, period_answer, period_in, rate_period}
use Rattle.meaning.specs.Portion.{factors_of, with_power, least_at, set_powers, onward, set_rating, set_table}
use Rattle.meaning.specs.Portion.{set_answer, set_in, rate_set, factor_table, accepted_factors}
use Rattle.meaning.specs.Free.{fits_degree, least_degree, is_unique, free_polynomial, free_rating, free_table}
use Rattle.meaning.specs.Free.{free_in, rate_free}
use Rattle.meaning.specs.Meter.{free_figures, start_meter, meter_full, term_table, take_term, meter_reading}
use Rattle.meaning.specs.Meter.{unless_refused, profile_entry, reading_entry, profile_of}
use Rattle.meaning.specs.Catalogue.{bits_up_to, entry_polynomial, catalogue, entry_power, entry_figures}
use Rattle.meaning.specs.Catalogue.{first_entry, entry_table, find_entry}
use Rattle.meaning.specs.Continuation.{continue_table, filled, continue_in, continue_sequence}
use Rattle.meaning.specs.Irreducibility.{irreducible_table, irreducible_in, ask_irreducible}
use Rattle.meaning.specs.Route.{look_up, body_lengths, admitted, stopped, before, walk, bodies, appended}
use Rattle.meaning.specs.Route.{number, byte_of, factor_upper, mode_of, suits, mode_unsuited, suited}
use Rattle.meaning.specs.Route.{records, end_record, read_record, box_of}
use Rattle.meaning.specs.File.{file_factor, polynomial_of, file_degree_out_of_range}
use Rattle.meaning.specs.File.{file_coefficient_out_of_range, terms_of}
use Rattle.meaning.specs.File.{file_answer, of_period, of_set, free_label, of_free, rate_mode, rate_records}
use Rattle.meaning.specs.File.{field_in, rate_file}
use Rattle.meaning.specs.Print.{text, digits, decimal, joined, line, header, label_word, density}
use Rattle.meaning.specs.Print.{result_line, poly_line, report, printed}
use Rattle.meaning.specs.Answers.{number_of, told_irreducible, told_filling, told_power, told_free, told_set}
use Rattle.meaning.specs.Answers.{set_figures_told, told_file, label_told, file_figures_told, told_record}
use Rattle.meaning.specs.Answers.{padded, set_padded, label_powers, file_padded, told, free_figures_of}
use Rattle.meaning.specs.Answers.{set_places, file_told_of, file_places}
use Rattle.meaning.specs.Calls.{buffer_after, body_after}
use Rattle.meaning.specs.Exports.{version, named_by, status_of, period_told, set_told, word_number, free_told}
use Rattle.meaning.specs.Exports.{entry_told, answer_told, body_start, record_told}

abbrev pub GF : ℕ → FieldName
GF p = FieldName.Prime p

unfoldable pub open_search : Unit {0}
unfolding range holds_for_all holds_for_some first_that map_option bind is_none least together selected
open_search = tt

unfoldable pub open_field : Unit {0}
unfolding prime is_prime largest_prime prime_in_range is_element are_elements multiple negative
open_field = tt

unfoldable pub open_polynomial-1 : Unit {0}
unfolding degree leading is_monic is_monic_over plus scale times power product each_head monics same
    has_factor_of
open_polynomial-1 = tt

unfoldable pub open_polynomial-2 : Unit {0}
unfolding irreducible monic_multiple
open_polynomial-2 = tt

unfoldable pub open_extension : Unit {0}
unfolding bits of_bits times_y reduced reducing binary
open_extension = tt

unfoldable pub open_sequence-1 : Unit {0}
unfolding act_at known periodic annihilates_known annihilates_period act_on_known act_on_period cut next
open_sequence-1 = tt

unfoldable pub open_sequence-2 : Unit {0}
unfolding continuation
open_sequence-2 = tt

unfoldable pub open_repeat_length : Unit {0}
unfolding comes_again longest_repeat least_within repeat_length
open_repeat_length = tt

unfoldable pub open_result : Unit {0}
unfolding map_result first_of value_of settle figures_of written cleared answer_after clearing clears
    work_after
open_result = tt

unfoldable pub open_conditions-1 : Unit {0}
unfolding named total_degree not_prime count_out_of_range place_out_of_range term_out_of_field
    factor_count_out_of_range
open_conditions-1 = tt

unfoldable pub open_conditions-2 : Unit {0}
unfolding degree_out_of_range factor_degree_out_of_range continuation_degree_out_of_range
    coefficient_out_of_range not_monic
    is_asked is_reducible two_equal
open_conditions-2 = tt

unfoldable pub open_conditions-3 : Unit {0}
unfolding upper_powers_out_of_range fewer_terms_than start_unlike_degree lent_too_short accepted_lent
    not_binary least_extension largest_extension
open_conditions-3 = tt

unfoldable pub open_field_names : Unit {0}
unfolding named_field not_field field_number in_field
open_field_names = tt

unfoldable pub open_power : Unit {0}
unfolding is_x power_rating
open_power = tt

unfoldable pub open_repeat : Unit {0}
unfolding repeats_every shortest_period
open_repeat = tt

unfoldable pub open_period : Unit {0}
unfolding period_power period_table period_answer period_in rate_period
open_period = tt

unfoldable pub open_portion : Unit {0}
unfolding factors_of with_power least_at set_powers onward set_rating set_table set_answer set_in rate_set
    factor_table
    accepted_factors
open_portion = tt

unfoldable pub open_free : Unit {0}
unfolding fits_degree least_degree is_unique free_polynomial free_rating free_table free_in rate_free
open_free = tt

unfoldable pub open_meter : Unit {0}
unfolding free_figures start_meter meter_full term_table take_term meter_reading unless_refused profile_entry
open_meter = tt

unfoldable pub open_profile : Unit {0}
unfolding reading_entry profile_of
open_profile = tt

unfoldable pub open_catalogue : Unit {0}
unfolding bits_up_to entry_polynomial catalogue entry_power entry_figures first_entry entry_table find_entry
open_catalogue = tt

unfoldable pub open_continuation : Unit {0}
unfolding continue_table filled continue_in continue_sequence
open_continuation = tt

unfoldable pub open_irreducibility : Unit {0}
unfolding irreducible_table irreducible_in ask_irreducible
open_irreducibility = tt

unfoldable pub open_route-1 : Unit {0}
unfolding look_up body_lengths admitted stopped before walk bodies appended number byte_of factor_upper
    mode_of
open_route-1 = tt

unfoldable pub open_route-2 : Unit {0}
unfolding suits mode_unsuited suited records end_record read_record box_of
open_route-2 = tt

unfoldable pub open_file-1 : Unit {0}
unfolding file_factor polynomial_of file_degree_out_of_range file_coefficient_out_of_range terms_of
    file_answer of_period
    of_set
open_file-1 = tt

unfoldable pub open_file-2 : Unit {0}
unfolding free_label of_free rate_mode field_in rate_records rate_file
open_file-2 = tt

unfoldable pub open_print : Unit {0}
unfolding text digits decimal joined line header label_word density result_line poly_line report printed
open_print = tt

unfoldable pub open_answers-1 : Unit {0}
unfolding number_of told_irreducible told_filling told_power told_free told_set set_figures_told told_file
    label_told
open_answers-1 = tt

unfoldable pub open_answers-2 : Unit {0}
unfolding file_figures_told told_record padded set_padded label_powers file_padded told free_figures_of
    set_places
    file_told_of
    file_places
open_answers-2 = tt

unfoldable pub open_calls : Unit {0}
unfolding buffer_after body_after
open_calls = tt

unfoldable pub open_exports : Unit {0}
unfolding version named_by status_of period_told set_told word_number free_told entry_told answer_told
    body_start
    record_told
open_exports = tt

unfoldable pub opened-1 : Unit {0}
unfolding open_search open_field open_polynomial-1 open_polynomial-2 open_extension open_sequence-1
opened-1 = tt

unfoldable pub opened-2 : Unit {0}
unfolding open_sequence-2 open_repeat_length open_result open_conditions-1 open_conditions-2 open_conditions-3
opened-2 = tt

unfoldable pub opened-3 : Unit {0}
unfolding open_field_names open_power open_repeat open_period open_portion open_free open_meter open_profile
opened-3 = tt

unfoldable pub opened-4 : Unit {0}
unfolding open_catalogue open_continuation open_irreducibility open_route-1 open_route-2 open_file-1
opened-4 = tt

unfoldable pub opened-5 : Unit {0}
unfolding open_file-2 open_print open_answers-1 open_answers-2 open_calls open_exports
opened-5 = tt

unfoldable pub computed : Unit {0}
unfolding opened-1 opened-2 opened-3 opened-4 opened-5
computed = tt
