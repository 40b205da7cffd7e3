use Rattle.std.proofs.Common.{rules}
use Rattle.std.proofs.iter.Serving.{serving}
use native.Mathlib.Omega.{arith}
use mathlib.Core.Path.{refl}
use Rattle.transcript_spec.specs.Texts.{total_text}
use Rattle.transcript.proofs.notices.total.Goals as goal

pub written-requires-clause-room : goal.written-requires-clause-room
unfolding total_text
written-requires-clause-room c = grind (serving, arith)

pub returns : goal.returns
unfolding total_text
returns c = let a = c.args in c.written.ensures (total_text a.first a.second) refl (search rules)
