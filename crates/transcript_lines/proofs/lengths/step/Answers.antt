use Rattle.transcript_spec.proofs.TextLengths.{step-length-two, step-length-three}
use native.Mathlib.Omega.{arith}
use Rattle.transcript_lines.proofs.lengths.step.Goals as goal

pub returns-then-takes_two : goal.returns-then-takes_two
returns-then-takes_two c =
    let two = c.takes_two in (λ words is. omega (arith, step-length-two c.args.number words two.result (rw is two.ensures) c.if-takes_two.true), omega arith)

pub returns : goal.returns
returns c =
    let two = c.takes_two in (λ words is. omega (arith, step-length-three c.args.number words two.result (rw is two.ensures) c.if-takes_two.false), omega arith)
