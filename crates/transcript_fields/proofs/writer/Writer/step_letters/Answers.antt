use mathlib.Core.Path.{ap, ◌∙◌}
use native.Mathlib.Omega.{arith}
use lib.ListN.{length}
use Rattle.transcript_spec.specs.Texts.{step_letters, step_letters_by_number}
use Rattle.transcript_fields.proofs.Writing.{and_then}
use Rattle.transcript_fields.proofs.writer.Writer.step_letters.Goals as goal

pub byte-requires : goal.byte-requires
byte-requires c = omega (arith, c.requires)

pub bytes-requires : goal.bytes-requires
unfolding step_letters_by_number
bytes-requires c = omega (arith, c.requires, ap length (c.of_step.ensures ∙ ap step_letters c.step_of.ensures))

pub returns : goal.returns
unfolding step_letters_by_number
returns c = and_then c.byte.ensures (rw (c.of_step.ensures ∙ ap step_letters c.step_of.ensures) at c.bytes.ensures)
