use Rattle.transcript_fields.proofs.Writing.{and_then}
use Rattle.transcript_lines.proofs.put_counts.Goals as goal

pub returns : goal.returns
returns c =
    and_then c.bytes.ensures (and_then c.byte.ensures (and_then c.decimal.ensures (and_then c.byte-2.ensures (and_then c.decimal-2.ensures c.byte-3.ensures))))
