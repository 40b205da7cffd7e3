use Rattle.pattern_spec.proofs.Shown.{finite-is}
use Rattle.pattern.proofs.is_finite.Goals as goal

pub returns : goal.returns
returns c = finite-is c.args.x
