use native.Mathlib.Omega.{arith}
use Rattle.pattern_spec.proofs.Classified.{class-zero, class-normal, class-infinite, class-nan}
use Rattle.pattern.proofs.classify.Goals as goal

pub returns-in-0 : goal.returns-in-0
returns-in-0 c = class-zero _ c.in-0.is

pub returns-in-1-to-254 : goal.returns-in-1-to-254
returns-in-1-to-254 c = class-normal _ (omega arith) (omega arith)

pub returns-then-fraction-eq0 : goal.returns-then-fraction-eq0
returns-then-fraction-eq0 c = class-infinite _ (omega arith) c.if-fraction-eq0.true

pub returns-else-fraction-eq0 : goal.returns-else-fraction-eq0
returns-else-fraction-eq0 c = class-nan _ (omega arith) c.if-fraction-eq0.false
