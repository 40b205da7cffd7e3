use Rattle.worksheet_lines.proofs.Rows.{foot-follows}
use Rattle.worksheet_lines.proofs.blocks.first_line.Goals as goal

pub returns : goal.returns
returns c lines = foot-follows lines _ _
