use Rattle.marking_spec.proofs.Lookup.{either_is}
use mathlib.Core.Path.{sym}
use native.Mathlib.Omega.{arith}
use Rattle.marking_lines.proofs.operands.is_either.Goals as goal

pub returns : goal.returns
returns c = let q = c.args in sym (either_is q.p q.k (omega arith) (omega arith))
