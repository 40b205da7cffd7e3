use Rattle.pattern_spec.proofs.Shown.{nan_is}
use Rattle.pattern.proofs.is_nan.Goals as goal

pub returns : goal.returns
returns c = nan_is c.args.x
