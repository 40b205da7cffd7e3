-- What some inputs print, by computation: none, two bad lines, R9.11's one line, and -0 and -0.
use mathlib.Core.Path.{refl}
use lib.Ieee.{size}
use Rattle.rounding_spec.specs.Round.{keep, last_place}
use Rattle.rounding_spec.specs.Value.{decode, encode}
use Rattle.pattern_spec.specs.Exact.{times, finer}
use Rattle.augmented_spec.specs.Pairs.{pair_of}
use Rattle.accumulator_spec.specs.Words.{integer, words_of_integer}
use Rattle.binary32_spec.specs.Steps.{add_step, sub_step, mul_step}
use Rattle.binary32_spec.specs.Marks.{mark_by, add_mark, sub_mark, mul_mark}
use Rattle.pattern_spec.specs.Comparisons.{same, less_magnitude}
use Rattle.augmented_spec.specs.Direct.{direct_pair}
use Rattle.worksheet_spec.specs.Sheets.{sheet_of, sum_sheet, swaps, sum_in_order, sum_from, recomposed_finished, recomposition, zero_finish, overflows}
use Rattle.worksheet_spec.specs.Filling.{lines_words, sheet_words, sheet_answer, filling, after_filling}
use Rattle.accumulator_spec.specs.Totals.{adding, after_adding, fit, reading}
use Rattle.accumulator_spec.specs.Columns.{column}
use Rattle.question_spec.specs.Questions.{letters_operation, all_digits, pattern_from, read_question, question_text, operation_letters_by_number}
use Rattle.transcript_spec.specs.Texts.{steps_text, answered_text, ask_text, decimal_up_to, step_text, step_letters_by_number, third_text, pair_text, flags_text, bad_text, total_text, end_text}
use Rattle.sheet_spec.specs.Printed.{lines_from, filled_text, line_text, after_line, after_lines, lines_text, closing_text, output}
use Rattle.sheet_spec.specs.Theorems.{EmptyInput, TwoBadLines, PrintedExample, PrintedMinusZero}

pub empty-input : EmptyInput
unfolding output lines_from lines_text after_lines closing_text reading fit integer encode pair_of keep last_place size total_text end_text decimal_up_to
empty-input = refl

pub two-bad-lines : TwoBadLines
unfolding
    output lines_from lines_text line_text after_lines after_line closing_text read_question column
    reading fit integer encode pair_of keep last_place size
    bad_text total_text end_text decimal_up_to
two-bad-lines = refl

pub printed-example : PrintedExample
unfolding
    output lines_from lines_text line_text filled_text after_lines after_line closing_text
    read_question letters_operation all_digits pattern_from
    filling after_filling lines_words sheet_words sheet_answer sheet_of sum_sheet swaps sum_in_order sum_from recomposed_finished recomposition zero_finish overflows
    less_magnitude same add_step sub_step mul_step add_mark sub_mark mul_mark mark_by times keep last_place size direct_pair
    reading column adding after_adding fit integer words_of_integer decode encode finer pair_of
    steps_text answered_text ask_text question_text operation_letters_by_number decimal_up_to step_text step_letters_by_number third_text pair_text flags_text total_text end_text
printed-example = (refl, refl)

pub printed-minus-zero : PrintedMinusZero
unfolding
    output lines_from lines_text line_text filled_text after_lines after_line closing_text
    read_question letters_operation all_digits pattern_from
    filling after_filling lines_words sheet_words sheet_answer sheet_of sum_sheet swaps sum_in_order sum_from recomposed_finished recomposition zero_finish overflows
    less_magnitude same add_step sub_step mul_step add_mark sub_mark mul_mark mark_by times keep last_place size direct_pair
    reading column adding after_adding fit integer words_of_integer decode encode finer pair_of
    steps_text answered_text ask_text question_text operation_letters_by_number decimal_up_to step_text step_letters_by_number third_text pair_text flags_text total_text end_text
printed-minus-zero = refl
