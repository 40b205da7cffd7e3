use mathlib.Core.Path.{sym, ap, ◌∙◌}
use mathlib.Core.Bool.{Bool, false, cond}
use Rattle.pattern_spec.proofs.Shown.{chosen-and}
use Rattle.binary32_spec.proofs.Marks.{outcome-by-rest}
use Rattle.binary32_add.proofs.marks.rounded.Goals as goal

pub returns : goal.returns
returns c =
    let a = c.args in let w = c.round_with_rest-number.ensures in let none = c.round_with_rest-number.result.none in
    let kept = sym (chosen-and none c.is_finite.result) ∙ ap (λ (b : Bool). cond none b false) c.is_finite.ensures in
    outcome-by-rest a.n.sign a.n.sig a.n.exp _ _ _ w.pattern_value w.none_value (c.choose.ensures ∙ ap (λ (b : Bool). cond b 0 1) kept)
