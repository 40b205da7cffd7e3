use Prim.Native.Nat.{ℕ, ◌*◌}
use mathlib.Core.Path.{ap, ◌∙◌, sym}
use mathlib.Core.List.{List}
use native.Mathlib.Omega.{arith}
use lib.ListN.{get_or, drop}
use Rattle.std.proofs.lemmas.List.{get_or-take}
use Rattle.worksheet_spec.specs.Lines.{line_size}
use Rattle.transcript_spec.specs.Texts.{steps_text}
use Rattle.transcript_spec.proofs.WholeSteps.{more-length}
use Rattle.transcript_lines.proofs.SheetLines.{line_at}
use Rattle.transcript_lines.proofs.lengths.steps.Goals as goal

pub loop-k-init : goal.loop-k-init
unfolding steps_text
loop-k-init c = (omega arith, omega arith)

pub loop-k-preserved : goal.loop-k-preserved
loop-k-preserved c =
    let l = c.loop-k in let words = c.args.words.now in
    let line = line_at l.k c.args.lines words c.as_chunks.result.0.now (omega arith) (omega arith) (omega arith) c.as_chunks.ensures.front in
    let its = drop (line_size * l.k) words in
    let first = sym (ap (λ (w : List ℕ). get_or w 0 0) line ∙ get_or-take line_size its 0 0 (omega arith)) in
    (omega (arith, more-length l.k words, c.step-n.ensures.0 its first), omega arith)
