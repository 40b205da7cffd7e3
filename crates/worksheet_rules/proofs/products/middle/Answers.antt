use native.Mathlib.Omega.{arith}
use Rattle.worksheet_rules.proofs.ProductLines.{room-to-scale, middle}
use Rattle.worksheet_rules.proofs.products.middle.Goals as goal

pub returns : goal.returns
returns c =
    middle _ _ c.mul-m.ensures c.mul-a.ensures c.flipped.ensures c.fused-b.ensures c.recomposition-pair.ensures c.scaled_down.ensures

pub scaled_down-requires : goal.scaled_down-requires
scaled_down-requires c = room-to-scale _ _ c.recomposition-pair.ensures (omega arith)
