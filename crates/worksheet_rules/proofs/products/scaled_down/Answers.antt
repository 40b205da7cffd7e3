use mathlib.Core.Path.{sym, ◌∙◌}
use Rattle.worksheet_rules.proofs.ProductLines.{lowered-rest, scaled-down}
use Rattle.worksheet_rules.proofs.products.scaled_down.Goals as goal

pub returns-then-rest_tie : goal.returns-then-rest_tie
returns-then-rest_tie c =
    lowered-rest _ _ c.mul-first.ensures c.mul-beta.ensures c.mul-g.ensures c.sub-r.ensures (sym c.rest_tie.ensures ∙ c.if-rest_tie.true)
    c.copy_sign.ensures c.sub-second.ensures c.zero_finish.ensures

pub returns : goal.returns
returns c =
    scaled-down _ _ c.mul-first.ensures c.mul-beta.ensures c.mul-g.ensures c.sub-r.ensures (sym c.rest_tie.ensures ∙ c.if-rest_tie.false) c.zero_finish-2.ensures
