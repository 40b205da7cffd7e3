use mathlib.Core.Path.{ap, ◌∙◌}
use native.Mathlib.Omega.{arith}
use lib.ListN.{length}
use Rattle.question_spec.specs.Questions.{operation_letters, operation_letters_by_number}
use Rattle.transcript_fields.proofs.Writing.{and_then}
use Rattle.transcript_fields.proofs.writer.Writer.letters.Goals as goal

pub byte-requires : goal.byte-requires
byte-requires c = omega (arith, c.requires)

pub bytes-requires : goal.bytes-requires
unfolding operation_letters_by_number
bytes-requires c = omega (arith, c.requires, ap length (c.question.ensures ∙ ap operation_letters c.operation_of.ensures))

pub returns : goal.returns
unfolding operation_letters_by_number
returns c = and_then c.byte.ensures (rw (c.question.ensures ∙ ap operation_letters c.operation_of.ensures) at c.bytes.ensures)
