use Rattle.std.proofs.Common.{length, ◌-◌, ◌≤◌, ◌≡◌, take}
use Rattle.std.specs.Io.KnownBytes.{Appends}
use Rattle.sheet_spec.specs.States.{take_bytes, bytes_text}
use Rattle.sheet_stream.specs.Inner.{state_in}
use Rattle.sheet_stream.proofs.Standing.take.Given as goal

abbrev pub invariant-loop-at : goal.invariant-loop-at
invariant-loop-at g l = record {
  within : l.at ≤ length l.bytes;
  out_length : length l.out ≡ length l.initial.out;
  state : state_in l.self ≡ take_bytes (state_in l.initial.self) (take l.at l.bytes);
  written : Appends (g.W.Write.contents l.initial.output) (g.W.Write.contents l.output) (bytes_text (state_in l.initial.self) (take l.at l.bytes));
}

abbrev pub decreases-loop-at : goal.decreases-loop-at
decreases-loop-at g l = length l.bytes - l.at
