use Rattle.std.proofs.Common.{arith, ◌∙◌, refl}
use Rattle.std.proofs.KnownBytes.{Appends-nil}
use Rattle.sheet_stream.proofs.Writing.{wrote_at-err}
use Rattle.sheet_spec.specs.States.{take_bytes, bytes_text}
use Rattle.sheet_stream.proofs.Taking.{step-within, step-taken, none-taken, all-after-stop, step-written, step-failed, none-taken-written, wrote_by-stop}
use Rattle.sheet_stream.proofs.Standing.take.Goals as goal

pub loop-at-init : goal.loop-at-init
unfolding take_bytes bytes_text
loop-at-init g c = record {
  within = omega arith;
  out_length = refl;
  state = refl;
  written = Appends-nil _;
}

pub returns-in_err-wrote_all-clause-writes : goal.returns-in_err-wrote_all-clause-writes
returns-in_err-wrote_all-clause-writes g c =
    let l = c.loop-at.invariant in
    λ room.
    wrote_at-err _ _ _ _ c.from_residual.ensures.0
    (step-failed c.args.bytes.now _ c.loop-at.at _ _ c.feed-fed.result _ _ l.state c.feed-fed.ensures _ _ _ l.written (c.in_err-wrote_all.ensures.part refl))

pub returns-then-taken-eq0-clause-takes : goal.returns-then-taken-eq0-clause-takes
returns-then-taken-eq0-clause-takes g c =
    let l = c.loop-at.invariant in
    λ room. none-taken c.args.bytes.now _ c.loop-at.at _ _ c.feed-fed.result _ _ l.state c.feed-fed.ensures (omega arith) c.loop-at-test.true c.if-taken-eq0.true

pub returns-then-taken-eq0-clause-writes : goal.returns-then-taken-eq0-clause-writes
returns-then-taken-eq0-clause-writes g c =
    let l = c.loop-at.invariant in
    λ room. none-taken-written c.args.bytes.now _ c.loop-at.at _ _ c.feed-fed.result _ _ l.state c.feed-fed.ensures _ _ _ l.written (omega arith)
    c.loop-at-test.true c.if-taken-eq0.true (c.in_ok-wrote_all.ensures.all refl)

pub loop-at-preserved : goal.loop-at-preserved
loop-at-preserved g c =
    let l = c.loop-at.invariant in
    record {
      within = step-within c.args.bytes.now _ c.loop-at.at _ _ c.feed-fed.result _ _ l.state c.feed-fed.ensures l.within;
      out_length = c.feed-fed.auto.out ∙ l.out_length;
      state = step-taken c.args.bytes.now _ c.loop-at.at _ _ c.feed-fed.result _ _ l.state c.feed-fed.ensures;
      written = step-written c.args.bytes.now _ c.loop-at.at _ _ c.feed-fed.result _ _ l.state c.feed-fed.ensures _ _ _ l.written (c.in_ok-wrote_all.ensures.all refl);
    }

pub returns-else-not-self-clause-takes : goal.returns-else-not-self-clause-takes
returns-else-not-self-clause-takes g c = λ room. all-after-stop _ _ c.loop-at.at _ _ _ c.loop-at.invariant.state c.if-not-self.false

pub returns-else-not-self-clause-writes : goal.returns-else-not-self-clause-writes
returns-else-not-self-clause-writes g c =
    let l = c.loop-at.invariant in
    λ room. wrote_by-stop c.args.bytes.now _ c.loop-at.at _ _ _ _ _ l.state c.if-not-self.false l.written
