use Rattle.jirmeklo.proofs.totals.jirmeklo_clear.Goals as goal

pub returns : goal.returns
returns c = c.clear.ensures
