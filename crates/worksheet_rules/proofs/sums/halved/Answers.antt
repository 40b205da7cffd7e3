use Rattle.worksheet_rules.proofs.SumLines.{halved}
use Rattle.worksheet_rules.proofs.sums.halved.Goals as goal

pub returns : goal.returns
returns c =
    halved _ _ _ c.mul-p.ensures c.mul-q.ensures c.add-half.ensures c.sub-v.ensures c.sub-rest.ensures c.edge_finish.ensures
