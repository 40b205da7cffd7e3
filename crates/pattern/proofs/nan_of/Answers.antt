use Rattle.std.proofs.Common.{sym, ap, ◌∙◌, arith}
use Rattle.std.proofs.lemmas.List.{at_drop_more, drop_all}
use Rattle.rounding_spec.specs.Format.{binary32}
use Rattle.rounding_spec.specs.Value.{nan_of}
use Rattle.rounding_spec.proofs.NaN.{nan-first, nan-later}
use Rattle.pattern.proofs.nan_of.Goals as goal

pub returns-then-is_nan : goal.returns-then-is_nan
returns-then-is_nan g c =
    c.quieted.ensures ∙ sym (nan-first binary32 _ _ (sym c.is_nan.ensures ∙ c.if-is_nan.true))
    ∙ sym (at_drop_more (nan_of binary32) c.args.operands c.loop-x.x-index 0 (omega arith)) ∙ c.loop-x.invariant

pub loop-x-preserved : goal.loop-x-preserved
loop-x-preserved g c =
    sym (nan-later binary32 _ _ (sym c.is_nan.ensures ∙ c.if-is_nan.false))
    ∙ sym (at_drop_more (nan_of binary32) c.args.operands c.loop-x.x-index 0 (omega arith)) ∙ c.loop-x.invariant

pub returns : goal.returns
unfolding nan_of
returns g c = sym (ap (nan_of binary32) (drop_all c.loop-x.x-index c.args.operands (omega arith))) ∙ c.loop-x.invariant
