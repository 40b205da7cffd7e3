use Rattle.worksheet_rules.proofs.ProductLines.{other}
use Rattle.worksheet_rules.proofs.products.other.Goals as goal

pub returns : goal.returns
returns c = other _ _ _ c.flipped.ensures c.fused-b.ensures c.recomposed_finished.ensures
