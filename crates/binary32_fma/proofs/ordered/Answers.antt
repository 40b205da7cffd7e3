use Rattle.binary32_fma.proofs.Ordering.{ordered-is}
use Rattle.binary32_fma.proofs.ordered.Goals as goal

pub returns : goal.returns
returns c =
    ordered-is _ _ _ c.choose.ensures c.choose-2.ensures c.choose-3.ensures
