use Rattle.worksheet_lines.proofs.SharedLines.{room-to-finish, recomposed-and-finished}
use Rattle.worksheet_lines.proofs.blocks.recomposed_finished.Goals as goal

pub zero_finish-requires : goal.zero_finish-requires
zero_finish-requires c = room-to-finish _ _ c.recomposition-pair.ensures c.requires

pub returns : goal.returns
returns c = recomposed-and-finished _ _ c.recomposition-pair.ensures c.zero_finish.ensures
