use Rattle.std.proofs.Common.{rules}
use Rattle.std.proofs.iter.Serving.{serving}
use native.Mathlib.Omega.{arith}
use Rattle.transcript_spec.specs.Texts.{ask_text}
use Rattle.transcript_spec.proofs.TextLengths.{ask-length}
use Rattle.transcript.proofs.ask.Goals as goal

pub written-requires-clause-room : goal.written-requires-clause-room
written-requires-clause-room c = let a = c.args in grind (serving, arith, ask-length a.number a.operation a.x a.y)

pub returns : goal.returns
returns c = let a = c.args in c.written.ensures (ask_text a.number a.operation a.x a.y) (omega (arith, ask-length a.number a.operation a.x a.y)) (search rules)
