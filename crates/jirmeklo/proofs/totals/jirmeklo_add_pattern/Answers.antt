use Rattle.jirmeklo.proofs.totals.jirmeklo_add_pattern.Goals as goal

pub returns : goal.returns
returns c = c.add_pattern.ensures
