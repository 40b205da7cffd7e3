use Rattle.jirmeklo.proofs.sheets.jirmeklo_replay.Goals as goal

pub returns : goal.returns
returns c = c.replay.ensures
