use Rattle.jirmeklo.proofs.jirmeklo_sum.Goals as goal

pub returns : goal.returns
returns c = c.sum.ensures
