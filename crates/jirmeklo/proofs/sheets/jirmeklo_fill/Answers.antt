use Rattle.jirmeklo.proofs.sheets.jirmeklo_fill.Goals as goal

pub returns : goal.returns
returns c = c.fill.ensures
