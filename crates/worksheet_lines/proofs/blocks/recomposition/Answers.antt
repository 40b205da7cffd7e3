use mathlib.Core.Path.{sym, ◌∙◌}
use Rattle.worksheet_lines.proofs.SharedLines.{recomposed, kept}
use Rattle.worksheet_lines.proofs.blocks.recomposition.Goals as goal

pub returns-then-equal : goal.returns-then-equal
returns-then-equal c =
    recomposed _ _ c.mul-z.ensures c.sub-d.ensures c.mul-e.ensures (sym c.equal.ensures ∙ c.if-equal.true) c.flipped.ensures

pub returns : goal.returns
returns c =
    kept _ _ c.mul-z.ensures c.sub-d.ensures c.mul-e.ensures (sym c.equal.ensures ∙ c.if-equal.false)
