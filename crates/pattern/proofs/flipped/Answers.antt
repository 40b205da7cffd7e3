use borrow.Author.Tests.{le-leb, lt-leb}
use Rattle.pattern.proofs.flipped.Goals as goal

pub returns-then-x-ge2147483648 : goal.returns-then-x-ge2147483648
returns-then-x-ge2147483648 c = rw (le-leb _ _ c.if-x-ge2147483648.true)

pub returns-else-x-ge2147483648 : goal.returns-else-x-ge2147483648
returns-else-x-ge2147483648 c = rw (lt-leb _ _ c.if-x-ge2147483648.false)
