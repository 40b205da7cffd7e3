use Rattle.jirmeklo.proofs.jirmeklo_difference.Goals as goal

pub returns : goal.returns
returns c = c.difference.ensures
