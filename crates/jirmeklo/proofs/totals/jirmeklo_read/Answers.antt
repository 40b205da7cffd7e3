use Rattle.jirmeklo.proofs.totals.jirmeklo_read.Goals as goal

pub returns : goal.returns
returns c = c.read.ensures
