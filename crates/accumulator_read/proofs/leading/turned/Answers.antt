use mathlib.Core.Path.{◌∙◌}
use native.Mathlib.Omega.{arith}
use Rattle.accumulator_spec.specs.Totals.{number_size}
use Rattle.accumulator_read.proofs.Arrays.{array-length, array-words}
use Rattle.accumulator_read.proofs.TurnedWords.{next, whole}
use Rattle.accumulator_read.proofs.leading.turned.Goals as goal

pub loop-w-preserved : goal.loop-w-preserved
loop-w-preserved c =
    let l = c.loop-w in let k = c.well_formed.0 in let e = array-length number_size c.args.number _ k in
    (omega arith, next c.args.minus c.args.number l.w-index (omega arith) l.w-items _ (array-words number_size c.args.number _ k) c.choose-mask.ensures l.invariant.1)

pub returns : goal.returns
returns c =
    let l = c.loop-w in let e = array-length number_size c.args.number _ c.well_formed.0 in
    l.invariant.1 ∙ whole c.args.minus c.args.number l.w-index (omega arith)
