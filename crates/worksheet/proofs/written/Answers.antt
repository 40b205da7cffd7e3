use Rattle.worksheet.proofs.SheetWords.{fills-words}
use Rattle.worksheet.proofs.written.Goals as goal

pub returns : goal.returns
returns c =
    rw c.count.ensures (fills-words _ _ _ _ c.requires c.new-lines.ensures c.sheet-foot.ensures c.flags.ensures c.copy_out.ensures)
