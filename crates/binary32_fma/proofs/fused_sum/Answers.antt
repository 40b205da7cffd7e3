use mathlib.Core.Path.{ap, ap₂, ◌∙◌}
use native.Mathlib.Omega.{arith}
use Rattle.rounding_spec.specs.Value.{Value, finite}
use Rattle.rounding_spec.specs.Numbers.{number_value}
use Rattle.pattern_spec.specs.Exact.{plus}
use Rattle.pattern_spec.proofs.Products.{vanished}
use Rattle.binary32_spec.specs.Inner.{outcome}
use Rattle.binary32_fma.proofs.Ordering.{ordered-reaches, ordered-sum}
use Rattle.binary32_fma.proofs.fused_sum.Goals as goal

pub returns-then-c-eq0 : goal.returns-then-c-eq0
unfolding plus
returns-then-c-eq0 c = let a = c.args in rw (← vanished a.c.sig a.p.exp a.c.exp c.if-c-eq0.true) c.round_sum.ensures

pub returns-then-p-eq0 : goal.returns-then-p-eq0
unfolding plus
returns-then-p-eq0 c = let a = c.args in rw (← vanished a.p.sig a.c.exp a.p.exp c.if-p-eq0.true) c.round_sum-then-p-eq0.ensures

pub aligned-requires : goal.aligned-requires
aligned-requires c =
    let z = c.normalised.ensures.normal in ordered-reaches c.args.p _ _ c.ordered.ensures c.requires.product (omega arith) z.low z.high

pub returns : goal.returns
returns c =
    let z = c.normalised.ensures in c.aligned.ensures ∙ ap outcome (ordered-sum _ _ _ c.ordered.ensures)
    ∙ ap (λ (v : Value). outcome (plus (number_value c.args.p) v)) (ap₂ finite z.sign_kept z.normal.value)
