-- The marks of one sheet, by computing it.
use mathlib.Core.Path.{refl}
use lib.Ieee.{size}
use Rattle.rounding_spec.specs.Round.{keep, last_place}
use Rattle.pattern_spec.specs.Comparisons.{same, less_magnitude}
use Rattle.binary32_spec.specs.Steps.{add_step, sub_step, mul_step}
use Rattle.binary32_spec.specs.Marks.{add_mark, sub_mark, mul_mark}
use Rattle.worksheet_spec.specs.Sheets.{recomposition, zero_finish, recomposed_finished, overflows, sum_from, sum_in_order, swaps, sum_sheet, sheet_of}
use Rattle.worksheet_marks.specs.Theorems.{WorkedMarks}

pub worked-marks : WorkedMarks
unfolding sheet_of sum_sheet swaps sum_in_order sum_from recomposed_finished recomposition zero_finish overflows add_mark sub_mark mul_mark less_magnitude same add_step sub_step mul_step keep
    last_place size
worked-marks = refl
