use native.Mathlib.Omega.{arith}
use Rattle.transcript_spec.proofs.FieldLaws.{flag-letters-length, flags-room, some-flags}
use Rattle.transcript_fields.proofs.Writing.{and_then, dash_written}
use Rattle.transcript_fields.proofs.writer.Writer.flags.Goals as goal

pub flag_letter-requires : goal.flag_letter-requires
flag_letter-requires c = let f = c.args.flags in omega (arith, c.requires, flag-letters-length f, flags-room f)

pub flag_letter-requires-2 : goal.flag_letter-requires-2
flag_letter-requires-2 c = let f = c.args.flags in omega (arith, c.requires, flag-letters-length f, flags-room f)

pub flag_letter-requires-3 : goal.flag_letter-requires-3
flag_letter-requires-3 c = let f = c.args.flags in omega (arith, c.requires, flag-letters-length f, flags-room f)

pub flag_letter-requires-4 : goal.flag_letter-requires-4
flag_letter-requires-4 c = let f = c.args.flags in omega (arith, c.requires, flag-letters-length f, flags-room f)

pub byte-requires : goal.byte-requires
byte-requires c = omega (arith, c.requires, c.if-self-start.true, flags-room c.args.flags)

pub returns-then-self-start : goal.returns-then-self-start
returns-then-self-start c =
    let all = and_then c.flag_letter.ensures (and_then c.flag_letter-2.ensures (and_then c.flag_letter-3.ensures c.flag_letter-4.ensures)) in
    dash_written c.args.flags all c.if-self-start.true c.byte.ensures

pub returns-else-self-start : goal.returns-else-self-start
returns-else-self-start c =
    let all = and_then c.flag_letter.ensures (and_then c.flag_letter-2.ensures (and_then c.flag_letter-3.ensures c.flag_letter-4.ensures)) in
    rw (some-flags c.args.flags (λ z. c.if-self-start.false (omega (arith, all.put.ends, z)))) all
