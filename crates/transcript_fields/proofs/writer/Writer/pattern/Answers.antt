use Rattle.transcript_spec.proofs.FieldLaws.{halves}
use Rattle.transcript_fields.proofs.Writing.{and_then}
use Rattle.transcript_fields.proofs.writer.Writer.pattern.Goals as goal

pub returns : goal.returns
returns c = rw (halves c.args.x) at (and_then c.byte.ensures (and_then c.half.ensures c.half-2.ensures))
