use mathlib.Core.Path.{sym, ◌∙◌}
use Rattle.marking_spec.proofs.Counts.{markable}
use Rattle.marking_spec.proofs.Answered.{none-asked, unfit-asked, fit-asked}
use Rattle.marking.proofs.mark.Goals as goal

pub returns-in_default-clause-answer : goal.returns-in_default-clause-answer
returns-in_default-clause-answer c = sym (none-asked _ _ _ _ c.in_default.ensures)

pub returns-then-not-is_markable-clause-answer : goal.returns-then-not-is_markable-clause-answer
returns-then-not-is_markable-clause-answer c = sym (unfit-asked _ _ _ _ c.in-Ok.operation c.in-Ok.ensures (sym c.if-not-is_markable.ensures))

pub in_order-requires : goal.in_order-requires
in_order-requires c = markable _ (sym c.if-not-is_markable.ensures)

pub returns-clause-answer : goal.returns-clause-answer
returns-clause-answer c = c.in_order.ensures ∙ sym (fit-asked _ _ _ _ c.in-Ok.operation c.in-Ok.ensures (sym c.if-not-is_markable.ensures))
