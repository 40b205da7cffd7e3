use native.Mathlib.Omega.{arith}
use borrow.Rule.Slice.PartMut.{put_mid}
use mathlib.Core.Path.{◌≡◌, refl, ap, ◌∙◌}
use Prim.Native.Nat.{◌+◌, ◌-◌}
use lib.ListN.{length}
use Rattle.transcript_spec.specs.Buffers.{pasted}
use Rattle.transcript_spec.proofs.Pasted.{pasted_length}
use Rattle.transcript_fields.proofs.writer.Writer.bytes.Goals as goal

pub returns : goal.returns
unfolding pasted
returns c =
    let w = c.args.self.now in let t = c.args.text.now in
    let n : w.at + length t - w.at ≡ length t = omega arith in
    let is : put_mid w.at (w.at + length t - w.at) w.out.now c.copy_from_slice.new.self ≡ pasted w.out.now w.at t = rw (n, c.copy_from_slice.ensures.after) in
    record { same_buffer = refl; put = record { room = c.requires; ends = refl; bytes = is }; as_long = ap length is ∙ pasted_length w.out.now w.at t c.requires }
