use mathlib.Core.Path.{sym, ap₂, ◌∙◌}
use mathlib.Core.Bool.{Bool, cond}
use Prim.Native.Nat.{ℕ}
use native.Mathlib.Nat.{add-zero}
use Rattle.pattern.proofs.zero_takes.Goals as goal

pub returns : goal.returns
returns c =
    let x = c.args.x in c.choose.ensures ∙ ap₂ (λ (k : Bool) (p : ℕ). cond k p x) c.is_zero.ensures (c.choose-zero.ensures ∙ sym (add-zero _))
