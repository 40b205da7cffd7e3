use Rattle.worksheet_rules.proofs.SumLines.{ordered}
use Rattle.worksheet_rules.proofs.sums.sum.Goals as goal

pub returns : goal.returns
returns c = ordered _ _ _ _ _ c.swaps-swap.ensures c.choose.ensures c.choose-2.ensures c.in_order.ensures
