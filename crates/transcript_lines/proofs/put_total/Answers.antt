use native.Mathlib.Omega.{arith}
use Rattle.transcript_spec.specs.Texts.{total_text}
use Rattle.transcript_fields.proofs.Writing.{and_then}
use Rattle.transcript_lines.proofs.put_total.Goals as goal

pub bytes-requires : goal.bytes-requires
unfolding total_text
bytes-requires c = omega (arith, c.requires)

pub patterns-requires : goal.patterns-requires
unfolding total_text
patterns-requires c = omega (arith, c.requires)

pub byte-requires : goal.byte-requires
unfolding total_text
byte-requires c = omega (arith, c.requires)

pub returns : goal.returns
unfolding total_text
returns c = and_then c.bytes.ensures (and_then c.patterns.ensures c.byte.ensures)
