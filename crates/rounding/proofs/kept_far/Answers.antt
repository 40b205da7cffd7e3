use native.Mathlib.Omega.{arith}
use mathlib.Core.Path.{◌≡◌, ◌∙◌, ap}
use Prim.Native.Nat.{ℕ}
use Rattle.rounding_spec.specs.Round.{keep}
use Rattle.rounding_spec.proofs.Remainder.{far_none, far-up, far-down}
use Rattle.rounding.proofs.kept_far.Goals as goal

pub returns-then-shift-gt64 : goal.returns-then-shift-gt64
returns-then-shift-gt64 c = far_none _ _ c.ranges.n.fits _ c.if-shift-gt64.true

pub returns-then-n-gt9223372036854775808 : goal.returns-then-n-gt9223372036854775808
returns-then-n-gt9223372036854775808 c =
    let a = c.args in let e : 64 ≡ a.shift = omega arith in
    far-up a.ties a.n c.ranges.n.fits c.if-n-gt9223372036854775808.true ∙ ap (λ (s : ℕ). keep a.ties s a.n) e

pub returns-else-n-gt9223372036854775808 : goal.returns-else-n-gt9223372036854775808
returns-else-n-gt9223372036854775808 c =
    let a = c.args in let e : 64 ≡ a.shift = omega arith in
    far-down a.ties a.n c.ranges.n.fits c.if-n-gt9223372036854775808.false ∙ ap (λ (s : ℕ). keep a.ties s a.n) e
