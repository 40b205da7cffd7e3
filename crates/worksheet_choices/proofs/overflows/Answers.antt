use mathlib.Core.Path.{◌∙◌}
use Rattle.worksheet_choices.proofs.Choices.{overflow-is}
use Rattle.worksheet_choices.proofs.overflows.Goals as goal

pub returns : goal.returns
returns c =
    let b = c.args in c.choose.ensures
    ∙ overflow-is b.second b.a _ _ c.is_zero.ensures c.is_infinite.ensures
