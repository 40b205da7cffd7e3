use native.Mathlib.Omega.{arith}
use Rattle.transcript_spec.proofs.DecimalLaws.{one-length, decimal-length, decimal-most}
use Rattle.transcript_lines.proofs.lengths.+decimal.Goals as goal

pub returns-then-n-lt10 : goal.returns-then-n-lt10
returns-then-n-lt10 t c = let one = one-length c.args.n c.if-n-lt10.true in (omega arith, omega arith)

pub returns : goal.returns
returns t c =
    let n = c.args.n in
    let long = decimal-length n (omega arith) (omega arith) in
    let most = decimal-most n in
    (omega arith, omega arith)
