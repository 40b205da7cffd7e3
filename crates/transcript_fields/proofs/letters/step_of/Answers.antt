use mathlib.Core.Path.{◌∙◌}
use Rattle.transcript_fields.proofs.OfNumbers.{step_or_fused}
use Rattle.transcript_fields.proofs.letters.step_of.Goals as goal

pub returns : goal.returns
returns c = c.unwrap_or.ensures ∙ step_or_fused c.args.number c.try_from.result c.try_from.ensures
