use Rattle.sheet_stream.proofs.LastText.{closed}
use Rattle.sheet_stream.proofs.Standing.close.Goals as goal

pub returns : goal.returns
returns g c = closed _ _ _ _ _ c.finish-n.ensures _ _ _ c.wrote_all.ensures
