use Rattle.transcript_fields.proofs.Writing.{and_then}
use Rattle.transcript_fields.proofs.writer.Writer.patterns.Goals as goal

pub returns : goal.returns
returns c = and_then c.pattern.ensures c.pattern-2.ensures
