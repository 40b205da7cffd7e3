use Rattle.std.proofs.Common.{rules}
use Rattle.std.proofs.iter.Serving.{serving}
use native.Mathlib.Omega.{arith}
use Rattle.transcript_spec.specs.Texts.{pair_text}
use Rattle.transcript_spec.proofs.TextLengths.{pair-length}
use Rattle.transcript.proofs.pair.Goals as goal

pub written-requires-clause-room : goal.written-requires-clause-room
written-requires-clause-room c = grind (serving, arith, pair-length c.args.pair)

pub returns : goal.returns
returns c = c.written.ensures (pair_text c.args.pair) (omega (arith, pair-length c.args.pair)) (search rules)
