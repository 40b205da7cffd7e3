use Rattle.sheet_stream.proofs.Writing.{more-written, more-within}
use Rattle.sheet_stream.proofs.write_text.Goals as goal

pub loop-done-preserved : goal.loop-done-preserved
loop-done-preserved g c = record {
  within = more-within c.args.text.now c.loop-done.done c.in_ok-n.n c.loop-done.invariant.within c.in_ok-n.ensures.bound;
  so_far = more-written c.args.text.now _ _ _ c.loop-done.done c.loop-done.invariant.so_far c.in_ok-n.n c.in_ok-n.ensures.bytes;
}
