use Rattle.transcript_fields.proofs.Writing.{and_then}
use Rattle.transcript_lines.proofs.put_answered.Goals as goal

pub returns : goal.returns
returns c = and_then c.put_ask.ensures (and_then c.put_steps.ensures c.put_pair.ensures)
