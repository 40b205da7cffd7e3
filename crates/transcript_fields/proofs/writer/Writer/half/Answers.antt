use Rattle.transcript_fields.proofs.Writing.{and_then}
use Rattle.transcript_fields.proofs.writer.Writer.half.Goals as goal

pub returns : goal.returns
returns c =
    rw (c.hexadecimal.ensures, c.hexadecimal-2.ensures, c.hexadecimal-3.ensures, c.hexadecimal-4.ensures)
    at (and_then c.byte.ensures (and_then c.byte-2.ensures (and_then c.byte-3.ensures c.byte-4.ensures)))
