use mathlib.Core.Path.{◌∙◌}
use Rattle.worksheet_choices.proofs.Choices.{edge-is}
use Rattle.worksheet_choices.proofs.at_edge.Goals as goal

pub returns : goal.returns
returns c =
    c.choose.ensures
    ∙ edge-is c.args.a c.args.b c.ranges.a.fits c.ranges.b.fits _ _ _ c.copy_sign.ensures c.copy_sign-2.ensures
    c.flipped.ensures
