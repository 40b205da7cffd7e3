use mathlib.Core.Path.{◌∙◌}
use native.Mathlib.Omega.{arith}
use Rattle.pattern_spec.specs.Exact.{plus}
use Rattle.binary32_spec.proofs.Jam.{jam-le}
use Rattle.binary32_fma.proofs.Places.{first-fits, sum-is}
use Rattle.binary32_fma.proofs.aligned.Goals as goal

pub overflow_shl-x : goal.overflow_shl-x
overflow_shl-x c = omega (arith, c.requires.steps)

pub round_sum-requires : goal.round_sum-requires
round_sum-requires c =
    let j = jam-le c.args.x.low.sig _ _ c.jammed-low.ensures in (first-fits c.args.x c.requires _ c.min-up.ensures, omega (arith, c.requires.second))

pub returns : goal.returns
unfolding plus
returns c = c.round_sum.ensures ∙ sum-is c.args.x c.requires _ c.min-up.ensures _ c.jammed-low.ensures
