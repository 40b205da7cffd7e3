use mathlib.Core.Path.{◌≡◌, sym, ◌∙◌}
use Prim.Native.Nat.{ℕ, ◌+◌, ◌*◌, min}
use native.Mathlib.Nat.{zero-add}
use native.Mathlib.Omega.{arith}
use Rattle.rounding.proofs.packed.Goals as goal

swapped : (b : ℕ) → min b 0x7f80_0000 ≡ min 0x7f80_0000 b
swapped b = omega arith

pub returns-then-sign : goal.returns-then-sign
returns-then-sign c =
    let b = c.args in rw (c.if-sign.true, c.min-below.ensures ∙ swapped (b.exp * 0x80_0000 + b.sig))

pub returns-else-sign : goal.returns-else-sign
returns-else-sign c =
    let b = c.args in rw (c.if-sign.false, c.min-below.ensures ∙ swapped (b.exp * 0x80_0000 + b.sig)) (sym (zero-add _))
