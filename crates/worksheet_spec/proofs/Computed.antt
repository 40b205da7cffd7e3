-- One sheet, by computing it.
use mathlib.Core.Path.{refl}
use lib.Ieee.{size}
use Rattle.rounding_spec.specs.Round.{keep, last_place}
use Rattle.binary32_spec.specs.Steps.{add_step, sub_step, mul_step}
use Rattle.pattern_spec.specs.Comparisons.{same, less_magnitude}
use Rattle.worksheet_spec.specs.Sheets.{recomposition, zero_finish, recomposed_finished, overflows, sum_from, sum_in_order, swaps, sum_sheet, sheet_of}
use Rattle.worksheet_spec.specs.Theorems.{PrintedSheet}

pub printed-sheet : PrintedSheet
unfolding sheet_of sum_sheet swaps sum_in_order sum_from recomposed_finished recomposition zero_finish overflows less_magnitude same add_step sub_step mul_step keep last_place size
printed-sheet = refl
