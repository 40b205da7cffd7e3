use mathlib.Core.Path.{sym, ◌∙◌}
use Rattle.rounding_spec.proofs.NaN.{nan_is}
use Rattle.binary32_spec.proofs.Sums.{sub_number, sub-nan}
use Rattle.binary32.proofs.sub.Goals as goal

pub returns-then-is_nan : goal.returns-then-is_nan
returns-then-is_nan c =
    let a = sub-nan _ _ (nan_is _ (sym c.is_nan.ensures ∙ c.if-is_nan.true)) in
    rw (c.special.ensures, c.nan_of.ensures) (record { result_value = a.0; mark_value = a.1 })

pub returns : goal.returns
returns c =
    let s = sub_number c.args.x c.args.y _ c.ranges.y.fits c.flipped.ensures (sym c.is_nan.ensures ∙ c.if-is_nan.false) in record {
      result_value = c.of_patterns.ensures.result_value ∙ s.0;
      mark_value = c.of_patterns.ensures.mark_value ∙ s.1;
    }
