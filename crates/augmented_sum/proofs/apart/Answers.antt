use mathlib.Core.Path.{ap, ◌∙◌}
use Rattle.augmented_spec.specs.Inner.{both}
use Rattle.augmented_spec.proofs.Unrounded.{apart-patterns}
use Rattle.augmented_sum.proofs.apart.Goals as goal

pub returns : goal.returns
returns c =
    ap (both c.args.p) c.zero_takes.ensures ∙ apart-patterns c.args.p c.args.q c.ranges.p.fits c.ranges.q.fits c.requires
