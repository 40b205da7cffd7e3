use mathlib.Core.Path.{refl}
use Rattle.transcript_fields.proofs.writer.Writer.decimal.Goals as goal

pub returns : goal.returns
returns c = record { same_buffer = refl; as_long = c.put_decimal-self.auto.out; put = c.put_decimal-self.ensures }
