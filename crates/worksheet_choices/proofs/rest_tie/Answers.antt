use mathlib.Core.Path.{◌∙◌}
use Rattle.worksheet_choices.proofs.Choices.{rest-tie-is}
use Rattle.worksheet_choices.proofs.rest_tie.Goals as goal

pub returns : goal.returns
returns c =
    c.choose.ensures
    ∙ rest-tie-is c.args.beta c.args.r c.ranges.r.fits _ _ c.copy_sign.ensures c.is_zero.ensures
