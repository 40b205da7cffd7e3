use mathlib.Core.Path.{refl, sym, ◌∙◌}
use Rattle.conservation.specs.Inner.{posed, totals}
use Rattle.conservation_spec.proofs.Settled.{refused-settles, outside-settles, entering-settles}
use Rattle.conservation.proofs.settling.settle.Goals as goal

pub returns-then-enters : goal.returns-then-enters
returns-then-enters c =
    let a = c.args in
    entering-settles (posed a.question a.words.now) (totals a.first.now a.other.now) c.in-Ok.ensures _ _ refl (sym c.enters.ensures ∙ c.if-enters.true) _ _
    c.add_two.ensures c.add_set.ensures

pub returns-else-enters : goal.returns-else-enters
returns-else-enters c =
    let a = c.args in
    outside-settles (posed a.question a.words.now) (totals a.first.now a.other.now) c.in-Ok.ensures _ _ refl (sym c.enters.ensures ∙ c.if-enters.false)

pub returns-in_default : goal.returns-in_default
returns-in_default c =
    let a = c.args in refused-settles (posed a.question a.words.now) (totals a.first.now a.other.now) c.in_default.ensures _ refl
