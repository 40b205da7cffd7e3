use Rattle.rounding_spec.specs.Value.{encode}
use Rattle.pattern_spec.specs.Exact.{plus}
use Rattle.pattern_spec.specs.Classes.{value_of}
use Rattle.binary32_add.proofs.infinite_plus.Goals as goal

pub returns-in-NotANumber : goal.returns-in-NotANumber
unfolding value_of plus encode
returns-in-NotANumber c = rw c.in-NotANumber.is

pub returns-then-s-t : goal.returns-then-s-t
unfolding value_of plus
returns-then-s-t c = rw (c.in-Infinite.is, c.if-s-t.true) c.infinity.ensures

pub returns-else-s-t : goal.returns-else-s-t
unfolding value_of plus encode
returns-else-s-t c = rw (c.in-Infinite.is, c.if-s-t.false)

pub returns-in-Finite : goal.returns-in-Finite
unfolding value_of plus
returns-in-Finite c = rw c.in-Finite.is c.infinity-in-Finite.ensures
