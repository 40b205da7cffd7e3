use native.Mathlib.Omega.{arith}
use Rattle.sheet_spec.proofs.Positions.{counts, lines-most}
use Rattle.sheet_line.proofs.ended.Goals as goal

pub overflow_add-result : goal.overflow_add-result
overflow_add-result c = omega (arith, lines-most _ c.requires.0)

pub overflow_add-result-2 : goal.overflow_add-result-2
overflow_add-result-2 c = let p = c.requires in omega (arith, lines-most _ p.0, (counts _ p.0).good, p.1)
