use native.Mathlib.Omega.{arith}
use Rattle.sheet_feed.proofs.Closing.{ends-early, last_within, room-behind, ends-most, ends}
use Rattle.sheet_spec.proofs.Positions.{running}
use Rattle.sheet_line.proofs.Ready.{is-ready}
use Rattle.sheet_feed.proofs.finish.Goals as goal

pub returns-then-not-ready : goal.returns-then-not-ready
returns-then-not-ready c = ends-early _ _ _ _ _ c.ready.ensures c.if-not-ready.true

pub open_line-here-requires : goal.open_line-here-requires
open_line-here-requires c = let g = is-ready _ _ _ _ c.ready.ensures c.if-not-ready.false in (g.1, omega (arith, g.0))

pub slice_bounds-closing-count : goal.slice_bounds-closing-count
slice_bounds-closing-count c =
    let ready = c.ready in let if1 = c.if-not-ready in let open-line = c.open_line-here in last_within _ _ _ _ _ open-line.ensures (is-ready _ _ _ _ ready.ensures if1.false).0

pub slice_bounds-closing-start : goal.slice_bounds-closing-start
slice_bounds-closing-start c =
    let ready = c.ready in let if1 = c.if-not-ready in let open-line = c.open_line-here in last_within _ _ _ _ _ open-line.ensures (is-ready _ _ _ _ ready.ensures if1.false).0

pub closing-requires : goal.closing-requires
closing-requires c =
    let ready = c.ready in let if1 = c.if-not-ready in let open-line = c.open_line-here in
    (open-line.ensures.sound, room-behind _ _ _ _ _ open-line.ensures (is-ready _ _ _ _ ready.ensures if1.false).0)

pub overflow_add-result : goal.overflow_add-result
overflow_add-result c =
    let ready = c.ready in let if1 = c.if-not-ready in let open-line = c.open_line-here in let closing = c.closing in
    omega (arith, ends-most _ _ _ _ _ open-line.ensures (is-ready _ _ _ _ ready.ensures if1.false).0 _ _ closing.ensures)

pub returns : goal.returns
returns c =
    let ready = c.ready in let if1 = c.if-not-ready in let open-line = c.open_line-here in let closing = c.closing in let g = is-ready _ _ _ _ ready.ensures if1.false in
    ends _ _ _ _ _ open-line.ensures g.0 _ _ (running _ _ _ g.1) closing.ensures
