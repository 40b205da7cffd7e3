use native.Mathlib.Omega.{arith}
use Rattle.worksheet.proofs.SheetWords.{not-an-operation, too-few-words}
use Rattle.worksheet.proofs.fill.Goals as goal

pub returns-in_default : goal.returns-in_default
returns-in_default c = not-an-operation _ _ _ _ c.in_default.ensures

pub returns-then-words-lt-SHEET_SIZE : goal.returns-then-words-lt-SHEET_SIZE
returns-then-words-lt-SHEET_SIZE c =
    let a = c.args in rw c.in-Ok.ensures at (too-few-words c.in-Ok.operation a.x a.y a.words.now (omega arith))

pub returns : goal.returns
returns c = rw c.in-Ok.ensures at c.written.ensures
