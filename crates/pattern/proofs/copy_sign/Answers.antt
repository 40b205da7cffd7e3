use mathlib.Core.Path.{ap, ◌∙◌}
use mathlib.Core.Bool.{cond}
use Prim.Native.Nat.{ℕ, ◌^◌}
use lib.Dec.{leb}
use Rattle.pattern.proofs.copy_sign.Goals as goal

pub returns : goal.returns
returns c =
    let b = c.args in c.choose.ensures
    ∙ ap (λ (z : ℕ). cond (leb (2 ^ 31) b.a) z b.c) c.flipped.ensures
