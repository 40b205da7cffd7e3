use mathlib.Core.Path.{◌∙◌}
use Rattle.transcript_fields.proofs.OfNumbers.{operation_or_product}
use Rattle.transcript_fields.proofs.letters.operation_of.Goals as goal

pub returns : goal.returns
returns c = c.unwrap_or.ensures ∙ operation_or_product c.args.number c.try_from.result c.try_from.ensures
