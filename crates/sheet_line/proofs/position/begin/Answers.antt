use Rattle.sheet_spec.proofs.Positions.{begins}
use Rattle.sheet_line.proofs.position.begin.Goals as goal

pub returns : goal.returns
returns c = begins
