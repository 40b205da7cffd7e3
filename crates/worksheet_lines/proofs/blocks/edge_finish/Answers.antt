use mathlib.Core.Path.{sym, ◌∙◌}
use Rattle.worksheet_lines.proofs.SharedLines.{at_edge_lem, not-at-edge}
use Rattle.worksheet_lines.proofs.blocks.edge_finish.Goals as goal

pub returns-then-at_edge : goal.returns-then-at_edge
returns-then-at_edge c = at_edge_lem _ _ _ (sym c.at_edge.ensures ∙ c.if-at_edge.true) c.mul-first.ensures c.mul-second.ensures

pub returns : goal.returns
returns c = not-at-edge _ _ _ _ (sym c.at_edge.ensures ∙ c.if-at_edge.false)
