use Rattle.std.proofs.Common.{◌∙◌}
use Rattle.question_spec.proofs.Refusals.{length-refused}
use Rattle.question.proofs.Cases.{handed-on, found, missing, no-letters, no-first-tab, no-second-tab, first-refused, second-refused, taken}
use Rattle.question.proofs.read.Goals.{then-line-ne9-via-then-line-ne9, then-line-ne9-via-else-line-ne9+then-line-ne9-2}
use Rattle.question.proofs.read.Goals as goal

pub returns-then-line-ne-QUESTION_SIZE : goal.returns-then-line-ne-QUESTION_SIZE
returns-then-line-ne-QUESTION_SIZE c = length-refused c.args.line.now c.if-line-ne-QUESTION_SIZE.true

pub returns-in_err-operation : goal.returns-in_err-operation
returns-in_err-operation c =
    let m = missing c.operation.result _ _ c.in_err-operation.ensures.value in
    handed-on _ _ _ c.from_residual.ensures m.1
    ∙ no-letters c.args.line.now c.if-line-ne-QUESTION_SIZE.false _ m.0 c.operation.ensures

pub returns-then-line-ne9 : goal.returns-then-line-ne9
returns-then-line-ne9 c =
    let e = found c.operation.result _ _ c.in_ok-operation.ensures.value in
    elim c.then-line-ne9.branch [
      | then-line-ne9-via-then-line-ne9 w ↦ no-first-tab c.args.line.now c.if-line-ne-QUESTION_SIZE.false _ _ c.operation.ensures e w.if-line-ne9.true
      | then-line-ne9-via-else-line-ne9+then-line-ne9-2 w ↦
          no-second-tab c.args.line.now c.if-line-ne-QUESTION_SIZE.false _ _ c.operation.ensures e w.if-line-ne9.false w.if-line-ne9-2.true
    ]

pub returns-in_err-x : goal.returns-in_err-x
returns-in_err-x c =
    let e = found c.operation.result _ _ c.in_ok-operation.ensures.value in
    let m = missing c.value.result _ _ c.in_err-x.ensures.value in
    handed-on _ _ _ c.from_residual-in_err-x.ensures m.1
    ∙ first-refused c.args.line.now c.if-line-ne-QUESTION_SIZE.false _ _ c.operation.ensures e c.if-line-ne9.false c.if-line-ne9-2.false (m.0 ∙ c.value.ensures)

pub returns-in_err-y : goal.returns-in_err-y
returns-in_err-y c =
    let e = found c.operation.result _ _ c.in_ok-operation.ensures.value in
    let x = found c.value.result _ _ c.in_ok-x.ensures.value in
    let m = missing c.value-2.result _ _ c.in_err-y.ensures.value in
    handed-on _ _ _ c.from_residual-in_err-y.ensures m.1
    ∙ second-refused c.args.line.now c.if-line-ne-QUESTION_SIZE.false _ _ c.operation.ensures e c.if-line-ne9.false c.if-line-ne9-2.false _ (x ∙ c.value.ensures)
    (m.0 ∙ c.value-2.ensures)

pub returns : goal.returns
returns c =
    let e = found c.operation.result _ _ c.in_ok-operation.ensures.value in
    let x = found c.value.result _ _ c.in_ok-x.ensures.value in
    let y = found c.value-2.result _ _ c.in_ok-y.ensures.value in
    taken c.args.line.now c.if-line-ne-QUESTION_SIZE.false _ _ c.operation.ensures e c.if-line-ne9.false c.if-line-ne9-2.false _ (x ∙ c.value.ensures) _ (y ∙ c.value-2.ensures)
