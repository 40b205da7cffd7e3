use mathlib.Core.Path.{◌∙◌}
use Rattle.worksheet_choices.proofs.Magnitudes.{swaps-is}
use Rattle.worksheet_choices.proofs.swaps.Goals as goal

pub returns : goal.returns
returns c =
    let b = c.args in c.choose.ensures ∙ swaps-is b.x b.y
