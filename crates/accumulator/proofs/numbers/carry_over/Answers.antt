use mathlib.Core.Path.{refl}
use Rattle.accumulator_add.proofs.Refusals.{by-refusal}
use Rattle.accumulator.proofs.numbers.carry_over.Goals as goal

pub returns : goal.returns
returns c = record {
  carries_numbered = by-refusal _ c.number.ensures c.carry_over.ensures.carries;
  old_kept = refl;
}
