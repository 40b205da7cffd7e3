use mathlib.Core.Path.{sym, ◌∙◌}
use Rattle.worksheet_lines.proofs.SharedLines.{zero-finished, not-zero-finished}
use Rattle.worksheet_lines.proofs.blocks.zero_finish.Goals as goal

pub returns-then-is_zero : goal.returns-then-is_zero
returns-then-is_zero c = zero-finished _ _ (sym c.is_zero.ensures ∙ c.if-is_zero.true) c.mul-nought.ensures

pub returns : goal.returns
returns c = not-zero-finished _ _ _ (sym c.is_zero.ensures ∙ c.if-is_zero.false)
