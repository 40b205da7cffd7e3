use mathlib.Core.Path.{ap}
use native.Mathlib.Omega.{arith}
use lib.ListN.{length}
use Rattle.transcript_spec.proofs.FieldLaws.{third-unused, third-used}
use Rattle.transcript_fields.proofs.writer.Writer.third.Goals as goal

pub bytes-requires : goal.bytes-requires
bytes-requires c =
    let a = c.args in omega (arith, c.requires, ap length (third-unused a.operation a.z c.takes_two.result c.if-takes_two.true c.takes_two.ensures))

pub returns-then-takes_two : goal.returns-then-takes_two
returns-then-takes_two c = rw (third-unused c.args.operation c.args.z c.takes_two.result c.if-takes_two.true c.takes_two.ensures) c.bytes.ensures

pub pattern-requires : goal.pattern-requires
pattern-requires c =
    let a = c.args in omega (arith, c.requires, ap length (third-used a.operation a.z c.takes_two.result c.if-takes_two.false c.takes_two.ensures))

pub returns : goal.returns
returns c = rw (third-used c.args.operation c.args.z c.takes_two.result c.if-takes_two.false c.takes_two.ensures) c.pattern.ensures
