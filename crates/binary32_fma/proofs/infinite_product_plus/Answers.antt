use mathlib.Core.Path.{sym, ap, ◌∙◌}
use Rattle.rounding_spec.specs.Format.{binary32}
use Rattle.rounding_spec.specs.Value.{Value, infinite, encode}
use Rattle.rounding_spec.proofs.NaN.{nan_is}
use Rattle.pattern_spec.specs.Exact.{plus}
use Rattle.pattern_spec.proofs.Classified.{class-value}
use Rattle.binary32_spec.proofs.Fused.{third-nan, third-number}
use Rattle.binary32_fma.proofs.infinite_product_plus.Goals as goal

pub returns-then-is_nan : goal.returns-then-is_nan
unfolding plus
returns-then-is_nan c =
    let a = c.args in let is = nan_is _ (sym c.is_nan.ensures ∙ c.if-is_nan.true) in
    c.quieted.ensures ∙ third-nan a.z is _ (ap (plus (infinite a.s)) is)

pub returns : goal.returns
returns c =
    let a = c.args in c.infinite_plus.ensures
    ∙ ap (λ (v : Value). encode binary32 (plus (infinite a.s) v)) (class-value a.z _ c.classify.ensures)
    ∙ third-number a.z (sym c.is_nan.ensures ∙ c.if-is_nan.false) _
