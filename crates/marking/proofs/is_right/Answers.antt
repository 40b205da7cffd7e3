use mathlib.Core.Path.{sym, ◌∙◌}
use native.Mathlib.Omega.{arith}
use lib.ListN.{length}
use borrow.Author.Tests.{eq-eqb, ne_eqb}
use Rattle.marking.proofs.Cut.{right-cut}
use Rattle.marking.proofs.is_right.Goals as goal

pub returns-then-first-pair : goal.returns-then-first-pair
returns-then-first-pair c =
    let q = c.args in let lines = c.as_chunks.result.0.now in
    let is = right-cut q.operation q.x q.y q.words.now lines c.as_chunks.ensures.front (length lines) (omega arith) (omega arith) _ _ c.from-first.ensures c.from-second.ensures in
    sym (is ∙ rw (← c.direct-pair.ensures, eq-eqb _ _ c.if-first-pair.true))

pub returns-else-first-pair : goal.returns-else-first-pair
returns-else-first-pair c =
    let q = c.args in let lines = c.as_chunks.result.0.now in
    let is = right-cut q.operation q.x q.y q.words.now lines c.as_chunks.ensures.front (length lines) (omega arith) (omega arith) _ _ c.from-first.ensures c.from-second.ensures in
    sym (is ∙ rw (← c.direct-pair.ensures, ne_eqb _ _ c.if-first-pair.false))
