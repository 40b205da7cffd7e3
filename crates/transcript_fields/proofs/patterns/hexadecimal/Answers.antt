use Prim.Native.Nat.{◌%◌}
use native.Mathlib.Omega.{arith}
use borrow.Author.Tests.{lt-ltb, le-ltb}
use Rattle.transcript_fields.proofs.patterns.hexadecimal.Goals as goal

pub returns-then-d-lt10 : goal.returns-then-d-lt10
returns-then-d-lt10 c = rw (lt-ltb (c.args.x % 16) 10 c.if-d-lt10.true)

pub returns : goal.returns
returns c = rw (le-ltb (c.args.x % 16) 10 c.if-d-lt10.false) (omega arith)
