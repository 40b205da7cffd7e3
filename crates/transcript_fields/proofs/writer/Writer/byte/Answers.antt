use Prim.Native.Nat.{◌+◌}
use mathlib.Core.Path.{refl}
use lib.ListN.{length-set}
use Rattle.transcript_spec.proofs.Stored.{stored}
use Rattle.transcript_fields.proofs.writer.Writer.byte.Goals as goal

pub returns : goal.returns
returns c =
    let w = c.args.self.now in
    record { same_buffer = refl; put = stored w.out.now w.at c.args.byte (w.at + 1) c.requires refl; as_long = length-set w.out.now w.at c.args.byte }
