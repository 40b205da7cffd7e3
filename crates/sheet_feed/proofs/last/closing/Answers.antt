use native.Mathlib.Omega.{arith}
use Rattle.sheet_spec.specs.Positions.{progress_of}
use Rattle.sheet_feed.proofs.Closing.{total-short, closes-short, closes}
use Rattle.sheet_feed.proofs.last.closing.Goals as goal

pub slice_bounds-end-count : goal.slice_bounds-end-count
slice_bounds-end-count c =
    let a = c.args in let pre = c.requires in let total-line = c.total_line-used in total-short (progress_of a.position a.total.now) _ _ _ total-line.ensures pre.1

pub slice_bounds-end-start : goal.slice_bounds-end-start
slice_bounds-end-start c =
    let a = c.args in let pre = c.requires in let total-line = c.total_line-used in total-short (progress_of a.position a.total.now) _ _ _ total-line.ensures pre.1

pub overflow_add-result : goal.overflow_add-result
overflow_add-result c =
    let a = c.args in let pre = c.requires in let total-line = c.total_line-used in let end = c.end in
    omega (arith, closes-short (progress_of a.position a.total.now) _ _ _ total-line.ensures pre.1 _ _ end.ensures)

pub returns : goal.returns
returns c =
    let a = c.args in let pre = c.requires in let total-line = c.total_line-used in let end = c.end in closes (progress_of a.position a.total.now) _ _ _ total-line.ensures pre.1 _ _ end.ensures
