use mathlib.Core.Path.{refl, sym, ap, ◌∙◌}
use Prim.Native.Nat.{◌*◌}
use native.Mathlib.Omega.{arith}
use Rattle.worksheet_spec.specs.Lines.{line_size}
use Rattle.marking_spec.specs.Marking.{claims, judged}
use Rattle.marking_spec.proofs.InOrder.{from_end}
use Rattle.marking.proofs.Cut.{operands-cut, truth-cut, passes-cut}
use Rattle.marking.proofs.in_order.Goals as goal

pub loop-i-init : goal.loop-i-init
unfolding claims
loop-i-init c = refl

pub returns-then-not-allowed : goal.returns-then-not-allowed
returns-then-not-allowed c =
    let q = c.args in
    sym (operands-cut q.operation q.x q.y _ _ c.as_chunks.ensures.front c.loop-i.i (omega arith) _ c.from-claim.ensures (sym c.if-not-allowed.ensures))
    ∙ c.loop-i.invariant

pub returns-then-not-is_true : goal.returns-then-not-is_true
returns-then-not-is_true c =
    let q = c.args in
    sym (truth-cut q.operation q.x q.y _ _ c.as_chunks.ensures.front c.loop-i.i (omega arith) _ c.from-claim.ensures (sym c.if-not-allowed.ensures) (sym c.if-not-is_true.ensures))
    ∙ c.loop-i.invariant

pub loop-i-preserved : goal.loop-i-preserved
loop-i-preserved c =
    let q = c.args in
    sym (passes-cut q.operation q.x q.y _ _ c.as_chunks.ensures.front c.loop-i.i (omega arith) _ c.from-claim.ensures (sym c.if-not-allowed.ensures) (sym c.if-not-is_true.ensures))
    ∙ c.loop-i.invariant

pub returns : goal.returns
returns c =
    let q = c.args in let l = c.loop-i in
    ap judged c.is_right.ensures ∙ sym (from_end q.operation q.x q.y q.words.now (line_size * l.i) (omega arith)) ∙ l.invariant
