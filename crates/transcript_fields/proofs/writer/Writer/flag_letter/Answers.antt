use native.Mathlib.Omega.{arith}
use Rattle.transcript_fields.proofs.Writing.{nothing_written}
use Rattle.transcript_fields.proofs.writer.Writer.flag_letter.Goals as goal

pub returns-else-raised : goal.returns-else-raised
returns-else-raised c = rw c.if-raised.false (nothing_written c.args.self.now (omega (arith, c.requires)))
