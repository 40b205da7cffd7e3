use Rattle.sheet_feed.specs.Inner.{state_in, SameLent}
use Rattle.sheet_feed.proofs.Feeding.{Taken}
use Rattle.sheet_feed.proofs.feed.Given as goal

abbrev pub invariant-loop-taken : goal.invariant-loop-taken
invariant-loop-taken l = record {
  taken : Taken l.bytes (state_in l.initial.run) l.initial.out l.taken l.written (state_in l.run) l.out;
  lent : SameLent l.initial.run l.run;
}
