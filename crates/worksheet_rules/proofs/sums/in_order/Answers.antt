use mathlib.Core.Path.{sym, ◌∙◌}
use Rattle.worksheet_rules.proofs.SumLines.{ended, gone-on}
use Rattle.worksheet_rules.proofs.sums.in_order.Goals as goal

pub returns-then-is_nan : goal.returns-then-is_nan
returns-then-is_nan c =
    ended _ _ c.add-a.ensures (sym c.is_nan.ensures ∙ c.if-is_nan.true) (c.first_line.ensures _)

pub returns : goal.returns
returns c =
    gone-on _ _ c.add-a.ensures (sym c.is_nan.ensures ∙ c.if-is_nan.false) c.after_sum.ensures
