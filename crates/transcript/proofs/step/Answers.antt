use Rattle.std.proofs.Common.{rules}
use Rattle.std.proofs.iter.Serving.{serving}
use mathlib.Core.Path.{refl}
use native.Mathlib.Omega.{arith}
use Rattle.transcript_spec.specs.Texts.{step_text}
use Rattle.transcript.proofs.step.Goals as goal

pub written-requires-clause-room : goal.written-requires-clause-room
written-requires-clause-room c = grind (serving, arith, c.step.ensures.0 c.args.line refl)

pub returns : goal.returns
returns c =
    let a = c.args in c.written.ensures (step_text a.number a.line) (omega (arith, c.step.ensures.0 a.line refl)) (search rules)
