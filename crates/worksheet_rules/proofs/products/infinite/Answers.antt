use Rattle.worksheet_rules.proofs.ProductLines.{infinite}
use Rattle.worksheet_rules.proofs.products.infinite.Goals as goal

pub returns : goal.returns
returns c =
    infinite _ _ _ c.mul-h.ensures c.mul-half.ensures c.flipped.ensures c.fused-rest.ensures c.edge_finish.ensures
