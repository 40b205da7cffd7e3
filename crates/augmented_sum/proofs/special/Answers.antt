use mathlib.Core.Path.{◌∙◌}
use Rattle.binary32_spec.specs.Steps.{add_value}
use Rattle.binary32_spec.proofs.Result.{add_step_lem}
use Rattle.augmented_spec.proofs.Unrounded.{special-patterns}
use Rattle.augmented_sum.proofs.special.Goals as goal

pub returns : goal.returns
unfolding add_value
returns c = special-patterns _ _ c.requires _ (c.unrounded-sum.ensures ∙ add_step_lem _ _)
