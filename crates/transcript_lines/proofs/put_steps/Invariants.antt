use Rattle.transcript_fields.specs.Writers.{Wrote}
use Rattle.transcript_spec.specs.Texts.{steps_text}
use Rattle.transcript_lines.proofs.put_steps.Given as goal

abbrev pub invariant-loop-k : goal.invariant-loop-k
invariant-loop-k l = Wrote l.initial.to (steps_text l.k 1 l.words) l.to
