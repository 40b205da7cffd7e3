use Rattle.std.proofs.Common.{rules}
use Rattle.std.proofs.iter.Serving.{serving}
use Prim.Native.Nat.{ℕ}
use mathlib.Core.Path.{sym, ap}
use lib.ListN.{length}
use native.Mathlib.Omega.{arith}
use Rattle.transcript_spec.specs.Texts.{steps_text, shown_text, answered_text}
use Rattle.transcript_spec.proofs.TextLengths.{answered-length}
use Rattle.transcript.proofs.answered.Goals as goal

pub written-requires-clause-room : goal.written-requires-clause-room
unfolding answered_text
written-requires-clause-room c =
    let a = c.args in let long = answered-length a.number a.operation a.x a.y a.words.now a.lines a.pair in
    let same = ap (λ (k : ℕ). length (steps_text k 1 a.words.now)) c.shown-shown.ensures in
    let whole = ap (λ (k : ℕ). length (shown_text a.number a.operation a.x a.y a.words.now k a.pair)) c.shown-shown.ensures in
    grind (serving, arith, long, same, whole)

pub returns : goal.returns
unfolding answered_text
returns c =
    let a = c.args in let long = answered-length a.number a.operation a.x a.y a.words.now a.lines a.pair in
    let same = ap (λ (k : ℕ). length (steps_text k 1 a.words.now)) c.shown-shown.ensures in
    c.written.ensures (answered_text a.number a.operation a.x a.y a.words.now a.lines a.pair) (omega (arith, long, same))
    (rw (sym c.shown-shown.ensures) (search rules))
