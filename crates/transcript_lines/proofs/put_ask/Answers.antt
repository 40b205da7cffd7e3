use native.Mathlib.Omega.{arith}
use Rattle.transcript_spec.proofs.FieldLaws.{letters-length}
use Rattle.transcript_spec.proofs.TextLengths.{ask-fields, ask-length}
use Rattle.transcript_fields.proofs.Writing.{and_then}
use Rattle.transcript_lines.proofs.put_ask.Goals as goal

pub bytes-requires : goal.bytes-requires
bytes-requires c = let a = c.args in omega (arith, c.requires, ask-length a.number a.operation a.x a.y)

pub decimal-requires : goal.decimal-requires
decimal-requires c = let a = c.args in omega (arith, c.requires, ask-length a.number a.operation a.x a.y)

pub letters-requires : goal.letters-requires
letters-requires c = let a = c.args in omega (arith, c.requires, ask-length a.number a.operation a.x a.y, letters-length a.operation)

pub patterns-requires : goal.patterns-requires
patterns-requires c = let a = c.args in omega (arith, c.requires, ask-length a.number a.operation a.x a.y, letters-length a.operation)

pub byte-requires : goal.byte-requires
byte-requires c = let a = c.args in omega (arith, c.requires, ask-length a.number a.operation a.x a.y, letters-length a.operation)

pub returns : goal.returns
returns c =
    let a = c.args in
    rw (ask-fields a.number a.operation a.x a.y)
    (and_then c.bytes.ensures (and_then c.decimal.ensures (and_then c.letters.ensures (and_then c.patterns.ensures c.byte.ensures))))
