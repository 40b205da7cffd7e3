use mathlib.Core.Path.{◌∙◌}
use Rattle.worksheet_choices.proofs.Equality.{equal_is}
use Rattle.worksheet_choices.proofs.equal.Goals as goal

pub returns : goal.returns
returns c =
    c.choose.ensures ∙ equal_is c.args.x c.args.y c.ranges.x.fits c.ranges.y.fits
