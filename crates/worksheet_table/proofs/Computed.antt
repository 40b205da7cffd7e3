-- What is seen of the table by computing: each way is taken by a question, and none is ill-made.
use mathlib.Core.Path.{refl}
use lib.Ieee.{size}
use Rattle.rounding_spec.specs.Round.{keep, last_place}
use Rattle.pattern_spec.specs.Exact.{times}
use Rattle.binary32_spec.specs.Steps.{add_step, sub_step, mul_step, fma_step}
use Rattle.binary32_spec.specs.Marks.{mark_by, add_mark, sub_mark, mul_mark, fma_mark}
use Rattle.pattern_spec.specs.Comparisons.{same, less_magnitude}
use Rattle.worksheet_spec.proofs.Entries.{◌&◌}
use Rattle.worksheet_table.specs.Programs.{sheet_by, all_well_made}
use Rattle.worksheet_table.specs.Table.{sum_by_table, sheet_by_table}
use Rattle.worksheet_table.specs.Sampled.{GivesAll, SampledMarks}
use Rattle.worksheet_table.specs.Theorems.{EachTaken, none_exchanged, each_taken, WellMade}

pub well-made : WellMade
unfolding all_well_made
well-made = refl

pub each-taken : EachTaken
unfolding none_exchanged each_taken less_magnitude same add_step sub_step mul_step fma_step keep last_place size
each-taken = (refl, refl, refl)

-- ---- the sampled sheets, by the table
pub samples-by-table : GivesAll sheet_by_table
unfolding sheet_by_table sum_by_table sheet_by less_magnitude same add_step sub_step mul_step fma_step keep last_place size
samples-by-table = (
  refl & refl & refl & refl & refl & refl & refl & refl & refl & tt,
  refl & refl & refl & refl & refl & refl & tt,
  refl & refl & refl & refl & refl & refl & refl & refl & refl & tt,
  refl & refl & refl & refl & refl & refl & refl & refl & refl & refl & refl & refl & refl & refl & refl & refl & tt,
)

-- ---- and their marks
pub sampled-marks : SampledMarks
unfolding add_mark sub_mark mul_mark fma_mark mark_by times same add_step sub_step mul_step fma_step keep last_place size
sampled-marks = (
  refl & refl & refl & refl & refl & refl & refl & refl & refl & tt,
  refl & refl & refl & refl & refl & refl & refl & refl & refl & refl & refl & refl & refl & refl & refl & refl & tt,
)
