use Rattle.std.proofs.Common.{rules}
use mathlib.Core.Path.{refl}
use native.Mathlib.Omega.{arith}
use Rattle.transcript_fields.proofs.Writing.{whole_text}
use Rattle.transcript_spec.proofs.Buffers.{too_short}
use Rattle.transcript.proofs.written.Goals as goal

pub returns-then-out-need : goal.returns-then-out-need
returns-then-out-need g c = λ text long writes. too_short c.args.out.now text (omega arith)

pub returns : goal.returns
returns g c = λ text long writes. whole_text (writes _ _ (refl, refl) c.put.ensures) refl (search (rules, c.requires.same _ _ c.put.ensures))
