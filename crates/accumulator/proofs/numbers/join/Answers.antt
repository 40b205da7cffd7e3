use mathlib.Core.Path.{refl}
use Rattle.accumulator_add.proofs.Refusals.{by-refusal}
use Rattle.accumulator.proofs.numbers.join.Goals as goal

pub returns : goal.returns
returns c = record {
  joins_numbered = by-refusal _ c.number.ensures c.join.ensures.joins;
  second_kept = refl;
}
