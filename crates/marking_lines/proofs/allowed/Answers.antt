use native.Mathlib.Omega.{arith}
use Rattle.marking_spec.specs.Marking.{claims, known}
use Rattle.marking_lines.proofs.LineTests.{no-step, allowed-by, third-looked-up, third-unused}
use Rattle.marking_lines.proofs.allowed.Goals as goal

pub returns-in_default : goal.returns-in_default
returns-in_default c = no-step _ c.args.line c.in_default.ensures

pub returns-in-Fused : goal.returns-in-Fused
returns-in-Fused c =
    let q = c.args in let ks = known q.x q.y (claims q.earlier.now) in
    grind (arith, allowed-by ks q.line c.in-Ok.step c.in-Ok.ensures, third-looked-up ks q.line c.in-Ok.step c.in-Fused.is)

pub returns-in_default-step : goal.returns-in_default-step
returns-in_default-step c =
    let q = c.args in let ks = known q.x q.y (claims q.earlier.now) in
    grind (arith, allowed-by ks q.line c.in-Ok.step c.in-Ok.ensures, third-unused ks q.line c.in-Ok.step c.in_default-step.not-Fused)

pub returns-else-known-2 : goal.returns-else-known-2
returns-else-known-2 c =
    let q = c.args in let ks = known q.x q.y (claims q.earlier.now) in grind (arith, allowed-by ks q.line c.in-Ok.step c.in-Ok.ensures)
