use native.Mathlib.Omega.{arith}
use Rattle.transcript_spec.specs.Texts.{pair_text}
use Rattle.transcript_spec.proofs.TextLengths.{pair-length}
use Rattle.transcript_fields.proofs.Writing.{and_then}
use Rattle.transcript_lines.proofs.put_pair.Goals as goal

pub bytes-requires : goal.bytes-requires
bytes-requires c = omega (arith, c.requires, pair-length c.args.pair)

pub patterns-requires : goal.patterns-requires
patterns-requires c = omega (arith, c.requires, pair-length c.args.pair)

pub byte-requires : goal.byte-requires
byte-requires c = omega (arith, c.requires, pair-length c.args.pair)

pub flags-requires : goal.flags-requires
flags-requires c = omega (arith, c.requires, pair-length c.args.pair)

pub byte-requires-2 : goal.byte-requires-2
byte-requires-2 c = omega (arith, c.requires, pair-length c.args.pair)

pub returns : goal.returns
unfolding pair_text
returns c = and_then c.bytes.ensures (and_then c.patterns.ensures (and_then c.byte.ensures (and_then c.flags.ensures c.byte-2.ensures)))
