use Prim.Native.Nat.{◌+◌, ◌*◌}
use mathlib.Core.Path.{ap, ◌∙◌}
use native.Mathlib.Omega.{arith}
use lib.ListN.{length, drop, length-take}
use Rattle.worksheet_spec.specs.Lines.{line_size}
use Rattle.transcript_spec.specs.Texts.{step_text, steps_text}
use Rattle.transcript_spec.proofs.WholeSteps.{one_more, more-length, fewer}
use Rattle.transcript_fields.proofs.Writing.{and_then, nothing_written}
use Rattle.transcript_lines.proofs.SheetLines.{line_at, same_step}
use Rattle.transcript_lines.proofs.put_steps.Goals as goal

pub loop-k-init : goal.loop-k-init
unfolding steps_text
loop-k-init c = nothing_written c.args.to.now (omega (arith, c.requires))

pub put_step-requires : goal.put_step-requires
put_step-requires c =
    let l = c.loop-k in let words = c.args.words.now in let lines = c.args.lines in
    let line = line_at l.k lines words c.as_chunks.result.0.now (omega arith) (omega arith) (omega arith) c.as_chunks.ensures.front in
    let is = ap (step_text (l.k + 1)) line ∙ same_step (l.k + 1) (drop (line_size * l.k) words) in
    omega (arith, c.requires, l.invariant.put.ends, l.invariant.as_long, ap length is, more-length l.k words, fewer (l.k + 1) lines 1 words (omega (arith, length-take lines c.as_chunks.result.0.now)))

pub loop-k-preserved : goal.loop-k-preserved
loop-k-preserved c =
    let l = c.loop-k in let words = c.args.words.now in let lines = c.args.lines in
    let line = line_at l.k lines words c.as_chunks.result.0.now (omega arith) (omega arith) (omega arith) c.as_chunks.ensures.front in
    let is = ap (step_text (l.k + 1)) line ∙ same_step (l.k + 1) (drop (line_size * l.k) words) in
    rw (one_more l.k words) (and_then l.invariant (rw is at c.put_step.ensures))
