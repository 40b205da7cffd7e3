use mathlib.Core.Path.{◌∙◌}
use Rattle.binary32_spec.proofs.Near.{round-sum-is}
use Rattle.binary32_add.proofs.round_sum.Goals as goal

pub returns : goal.returns
returns c = c.rounded.ensures ∙ round-sum-is _ _ _ _ _ _ _ c.signed_sum-sign.ensures
