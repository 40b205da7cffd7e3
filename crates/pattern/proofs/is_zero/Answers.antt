use Rattle.pattern_spec.proofs.Shown.{zero_is}
use Rattle.pattern.proofs.is_zero.Goals as goal

pub returns : goal.returns
returns c = zero_is c.args.x
