use Rattle.std.proofs.Common.{length, ◌≡◌}
use Rattle.sheet_stream.specs.Inner.{state_in}
use Rattle.sheet_stream.proofs.Running.{Sofar}
use Rattle.sheet_stream.proofs.write_sheets.Given as goal

abbrev pub invariant-loop : goal.invariant-loop
invariant-loop g l = record {
  bytes_length : 65536 ≡ length l.bytes;
  out_length : 65536 ≡ length l.out;
  so_far : Sofar (g.R.Read.remaining l.initial.input) (g.R.Read.remaining l.input) (g.W.Write.contents l.initial.output) (g.W.Write.contents l.output)
      (state_in l.here);
}
