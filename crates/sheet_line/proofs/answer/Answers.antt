use Rattle.sheet_line.proofs.Answering.{sheet-answered, no-sheet}
use Rattle.sheet_line.proofs.answer.Goals as goal

pub returns-in_default : goal.returns-in_default
returns-in_default c =
    let a = c.args in
    let none = no-sheet a.number a.question a.total.now a.out.now _ c.from-operation.ensures _ c.in_default.ensures.0 in
    record { writes = none.0; total_after = none.1 }

pub returns : goal.returns
returns c =
    let a = c.args in
    let fill = c.in-Ok.ensures in
    let sheet = c.in-Ok.sheet in
    let answered =
    sheet-answered a.number a.question a.total.now a.out.now _ c.from-operation.ensures sheet.lines sheet.pair c.fill.new.words c.answered.result c.halves.new.total c.answered.new.out
    fill.0 fill.1 c.halves.ensures c.answered.ensures in
    record { writes = answered.0; total_after = answered.1 }
