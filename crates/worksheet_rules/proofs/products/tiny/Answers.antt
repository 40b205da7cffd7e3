use mathlib.Core.Path.{sym, ◌∙◌}
use Rattle.worksheet_rules.proofs.ProductLines.{lowered-tiny, tiny}
use Rattle.worksheet_rules.proofs.products.tiny.Goals as goal

pub returns-then-tiny_tie : goal.returns-then-tiny_tie
returns-then-tiny_tie c =
    lowered-tiny _ _ _ c.mul-m.ensures c.mul-n.ensures c.mul-t1.ensures c.flipped.ensures c.fused-t2.ensures c.mul-g.ensures c.sub-t3.ensures
    c.add-z.ensures c.sub-w.ensures (sym c.tiny_tie.ensures ∙ c.if-tiny_tie.true) c.copy_sign.ensures c.sub-first.ensures c.mul-second.ensures

pub returns : goal.returns
returns c =
    tiny _ _ _ c.mul-m.ensures c.mul-n.ensures c.mul-t1.ensures c.flipped.ensures c.fused-t2.ensures c.mul-g.ensures c.sub-t3.ensures
    c.add-z.ensures c.sub-w.ensures (sym c.tiny_tie.ensures ∙ c.if-tiny_tie.false) c.mul-second-2.ensures
