use native.Mathlib.Omega.{arith}
use Rattle.marking_spec.specs.Marking.{claims}
use Rattle.marking_spec.proofs.Lookup.{known_is}
use Rattle.marking_lines.proofs.operands.known.Goals as goal

pub returns-then-is_constant : goal.returns-then-is_constant
returns-then-is_constant c = grind (arith, known_is c.args.p c.args.x c.args.y (claims c.args.earlier.now))

pub returns-else-is_constant : goal.returns-else-is_constant
returns-else-is_constant c = grind (arith, known_is c.args.p c.args.x c.args.y (claims c.args.earlier.now))
