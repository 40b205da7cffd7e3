use Rattle.std.proofs.Common.{rules, arith, refl}
use Rattle.sheet_spec.proofs.Positions.{running}
use Rattle.sheet_line.proofs.Ready.{is-ready, not-ready}
use Rattle.sheet_feed.proofs.Stepped.{still-same}
use Rattle.sheet_feed.proofs.Feeding.{none-taken, room-for-line, used-within, one-taken, run-feeds, run-feeds-all}
use Rattle.sheet_feed.proofs.feed.Goals as goal

pub loop-taken-init : goal.loop-taken-init
loop-taken-init c = record { taken = none-taken _ _ _; lent = record { line = refl; total = refl; total_length = refl } }

pub overflow_sub-out : goal.overflow_sub-out
overflow_sub-out c = c.loop-taken.invariant.taken.fits

pub returns-then-not-more : goal.returns-then-not-more
returns-then-not-more c =
    let l = c.loop-taken.invariant in
    run-feeds _ _ _ _ _ c.loop-taken.run _ _ _ l.taken (search (rules, l.lent.line)) (search (rules, l.lent.total)) (not-ready _ _ _ _ c.more.ensures c.if-not-more.true)

pub byte-written-requires : goal.byte-written-requires
byte-written-requires c =
    let m = is-ready _ _ _ _ c.more.ensures c.if-not-more.false in (m.1, room-for-line _ _ _ _ _ c.loop-taken.run _ c.loop-taken.invariant.taken m.0)

pub overflow_add-written : goal.overflow_add-written
overflow_add-written c =
    let h = c.loop-taken.invariant.taken in let m = is-ready _ _ _ _ c.more.ensures c.if-not-more.false in
    omega (arith, h.long, used-within _ _ _ _ _ c.loop-taken.run _ h m.0 _ _ _ c.byte-written.ensures)

pub loop-taken-preserved : goal.loop-taken-preserved
loop-taken-preserved c =
    let l = c.loop-taken.invariant in let m = is-ready _ _ _ _ c.more.ensures c.if-not-more.false in
    record {
      taken = one-taken _ _ _ _ _ c.loop-taken.run _ l.taken m.0 _ _ _ c.byte-written.ensures (running _ _ _ m.1) c.loop-taken-test.true;
      lent = still-same l.lent c.byte-written.ensures.lent;
    }

pub returns : goal.returns
returns c =
    let l = c.loop-taken.invariant in
    run-feeds-all _ _ _ _ _ c.loop-taken.run _ _ _ l.taken (search (rules, l.lent.line)) (search (rules, l.lent.total)) c.loop-taken-test.false
