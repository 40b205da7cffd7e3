use Rattle.pattern_spec.proofs.Shown.{infinite-is}
use Rattle.pattern.proofs.is_infinite.Goals as goal

pub returns : goal.returns
returns c = infinite-is c.args.x
