use Rattle.std.proofs.Common.{arith, sym}
use Rattle.sheet_spec.proofs.Positions.{counts, lines-most}
use Rattle.sheet_line.proofs.Answering.{as_many, good-ends, bad-ends}
use Rattle.sheet_line.proofs.end_line.Goals as goal

pub overflow_add-number : goal.overflow_add-number
overflow_add-number c = omega (arith, lines-most _ c.requires.0)

pub slice_bounds-read-end : goal.slice_bounds-read-end
slice_bounds-read-end c = as_many c.args.line.now c.args.position.length (counts _ c.requires.0).length c.told-line

pub returns-in-Ok : goal.returns-in-Ok
returns-in-Ok c =
    let a = c.args in
    let s = c.answer-written in
    let whole = sym (as_many a.line.now a.position.length (counts _ c.requires.0).length c.told-line) in
    rw c.ended.ensures (good-ends a.position a.line.now a.total.now a.out.now whole c.requires.1 c.in-Ok.question c.in-Ok.ensures s.result _ _ s.ensures.writes s.ensures.total_after)

pub returns-in-Err : goal.returns-in-Err
returns-in-Err c =
    let a = c.args in
    let whole = sym (as_many a.line.now a.position.length (counts _ c.requires.0).length c.told-line) in
    rw c.ended-in-Err.ensures
    (bad-ends a.position a.line.now a.total.now a.out.now whole c.requires.1 c.in-Err.why c.in-Err.ensures _ c.from.ensures c.bad-written.result _ c.bad-written.ensures)

pub shared_ref_as_front-read : goal.shared_ref_as_front-read
shared_ref_as_front-read c = (counts _ c.requires.0).length
