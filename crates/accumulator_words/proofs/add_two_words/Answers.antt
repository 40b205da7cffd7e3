use Rattle.std.proofs.Common.{◌^◌, ◌<◌, arith}
use Rattle.accumulator_spec.proofs.TwoWords.{upper_lt, two-words-added}
use Rattle.accumulator_words.proofs.add_two_words.Goals as goal

pub overflow_mul-held : goal.overflow_mul-held
overflow_mul-held c =
    let w = (c.slice_known-3-1.given 1).fits in
    omega (arith, w, c.from-2.ensures)

pub overflow_add-held : goal.overflow_add-held
overflow_add-held c =
    let v = (c.slice_known-2-1.given 0).fits in
    let w = (c.slice_known-3-1.given 1).fits in
    omega (arith, v, w, c.from.ensures, c.from-2.ensures)

pub overflow_cast-words-2 : goal.overflow_cast-words-2
overflow_cast-words-2 c =
    let a = c.args in let m = c.choose-mask.ensures in let l : c.wrapping_add_u64-sum.result < 2 ^ 64 = omega (arith, c.wrapping_add_u64-sum.ensures) in
    omega (arith, upper_lt a.minus _ m c.wrapping_add_u64-sum.result l)

pub returns : goal.returns
returns c =
    let a = c.args in two-words-added a.minus _ c.choose-mask.ensures a.words.now (λ i. (c.slice_known-1.given i).fits) c.requires _ _ a.low _ _
    c.from.ensures c.from-2.ensures c.ranges.low.fits c.wrapping_add_u64-sum.ensures.value c.choose.ensures
