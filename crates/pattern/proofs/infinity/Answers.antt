use Rattle.rounding_spec.specs.Value.{encode}
use Rattle.pattern.proofs.infinity.Goals as goal

pub returns-then-sign : goal.returns-then-sign
unfolding encode
returns-then-sign c = rw c.if-sign.true

pub returns-else-sign : goal.returns-else-sign
unfolding encode
returns-else-sign c = rw c.if-sign.false
