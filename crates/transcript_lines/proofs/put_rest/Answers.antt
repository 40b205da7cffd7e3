use Rattle.transcript_fields.proofs.Writing.{and_then}
use Rattle.transcript_lines.proofs.put_rest.Goals as goal

pub returns : goal.returns
returns c = and_then c.third.ensures (and_then c.pattern.ensures c.mark.ensures)
