use mathlib.Core.Path.{◌∙◌}
use Rattle.worksheet_choices.proofs.Choices.{tiny-tie-is}
use Rattle.worksheet_choices.proofs.tiny_tie.Goals as goal

pub returns : goal.returns
returns c =
    let x = c.args in c.choose.ensures
    ∙ tiny-tie-is x.a x.z x.w x.t2 c.ranges.z.fits _ _ _ c.copy_sign.ensures c.flipped.ensures c.equal.ensures
