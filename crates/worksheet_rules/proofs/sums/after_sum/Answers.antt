use mathlib.Core.Path.{sym, ◌∙◌}
use Rattle.worksheet_rules.proofs.SumLines.{room-to-halve, not-halved, with-halved}
use Rattle.worksheet_rules.proofs.sums.after_sum.Goals as goal

pub returns-then-overflows : goal.returns-then-overflows
returns-then-overflows c =
    with-halved _ _ _ c.sub-v.ensures c.sub-b.ensures c.recomposed_finished-pair.ensures
    (sym c.overflows.ensures ∙ c.if-overflows.true) c.halved.ensures

pub returns : goal.returns
returns c =
    not-halved _ _ _ c.sub-v.ensures c.sub-b.ensures c.recomposed_finished-pair.ensures (sym c.overflows.ensures ∙ c.if-overflows.false)

pub halved-requires : goal.halved-requires
halved-requires c =
    room-to-halve _ _ _ c.sub-v.ensures c.sub-b.ensures c.recomposed_finished-pair.ensures (sym c.overflows.ensures ∙ c.if-overflows.true) c.requires
