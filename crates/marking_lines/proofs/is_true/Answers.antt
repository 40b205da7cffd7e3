use native.Mathlib.Omega.{arith}
use Rattle.marking_lines.proofs.LineTests.{true-by}
use Rattle.marking_lines.proofs.is_true.Goals as goal

pub returns-then-line-outcome : goal.returns-then-line-outcome
returns-then-line-outcome c = let s = c.step-outcome in grind (arith, true-by c.args.line s.ensures.0 s.ensures.1)

pub returns-else-line-outcome : goal.returns-else-line-outcome
returns-else-line-outcome c = let s = c.step-outcome in grind (arith, true-by c.args.line s.ensures.0 s.ensures.1)
