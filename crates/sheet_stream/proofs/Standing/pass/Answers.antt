use Rattle.std.proofs.Common.{◌∙◌, sym}
use Rattle.std.specs.declared.ops.ControlFlow.TheVariants.{Continue, Break}
use Rattle.sheet_stream.proofs.Answers.{taken, wrote_so-many, wrote_none-read}
use Rattle.sheet_stream.proofs.Writing.{wrote_at-err}
use Rattle.sheet_stream.proofs.Standing.pass.Goals as goal

pub returns-then-got-eq0-clause-writes : goal.returns-then-got-eq0-clause-writes
returns-then-got-eq0-clause-writes g c = wrote_none-read c.args.got c.in-Ok.got c.in-Ok.is c.args.bytes.now _ _ _ c.if-got-eq0.true

pub returns-in_err-take-clause-writes : goal.returns-in_err-take-clause-writes
returns-in_err-take-clause-writes g c =
    wrote_so-many c.args.got c.in-Ok.got c.in-Ok.is c.args.bytes.now _ _ _ _ _ c.min-n.result c.min-n.ensures
    (λ room. wrote_at-err _ _ _ _ c.from_residual.ensures.0 (c.in_err-take.ensures.writes room))

pub returns-then-goes_on-clause-next : goal.returns-then-goes_on-clause-next
returns-then-goes_on-clause-next g c =
    let flow = taken c.args.got c.in-Ok.got c.in-Ok.is c.args.bytes.now _ _ _ _ _ c.min-n.result c.min-n.ensures c.if-got-eq0.false in
    flow (Continue _) (sym c.if-goes_on.true ∙ c.goes_on.ensures) c.in_ok-take.ensures.takes

pub returns-else-goes_on-clause-next : goal.returns-else-goes_on-clause-next
returns-else-goes_on-clause-next g c =
    let flow = taken c.args.got c.in-Ok.got c.in-Ok.is c.args.bytes.now _ _ _ _ _ c.min-n.result c.min-n.ensures c.if-got-eq0.false in
    flow (Break _) (sym c.if-goes_on.false ∙ c.goes_on.ensures) c.in_ok-take.ensures.takes
