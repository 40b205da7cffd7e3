use Rattle.accumulator_add.proofs.Refusals.{by-refusal}
use Rattle.accumulator.proofs.numbers.clear.Goals as goal

pub returns : goal.returns
returns c = by-refusal _ c.number.ensures c.clear.ensures
