-- The examples, by computing them.
use mathlib.Core.Path.{refl}
use lib.Ieee.{size}
use Rattle.rounding_spec.specs.Round.{keep, last_place}
use Rattle.binary32_spec.specs.Steps.{add_step, mul_step, fma_step}
use Rattle.binary32_spec.specs.Marks.{add_mark, mul_mark, fma_mark}
use Rattle.marking_spec.specs.Marking.{marking}
use Rattle.marking_spec.specs.Theorems.{MarkedExamples}

pub marked-examples : MarkedExamples
unfolding marking add_step add_mark mul_step mul_mark fma_step fma_mark keep last_place size
marked-examples = (refl, refl, refl, refl, refl, refl, refl, refl, refl, refl, refl, refl, refl, refl, refl, refl)
