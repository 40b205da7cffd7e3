use mathlib.Core.Path.{◌≡◌, refl, ap, ap₂, ◌∙◌, sym}
use mathlib.Core.Bool.{Bool, true, false, beq, cond, ◌&&◌}
use Prim.Native.Nat.{ℕ, ◌+◌, ◌-◌}
use native.Mathlib.Omega.{arith}
use lib.Dec.{ltb}
use Rattle.rounding_spec.specs.Value.{finite}
use Rattle.pattern_spec.proofs.Sums.{chosen-order, sum-chosen}
use Rattle.exact.proofs.signed_sum.Goals as goal

pub overflow_add-high : goal.overflow_add-high
overflow_add-high c =
    let o = chosen-order c.args.a c.args.b in
    omega (arith, c.choose-high.ensures, c.choose-low.ensures, c.requires)

pub overflow_sub-high : goal.overflow_sub-high
overflow_sub-high c =
    let o = chosen-order c.args.a c.args.b in
    omega (arith, c.choose-high.ensures, c.choose-low.ensures)

-- the sign of an exact zero
both : (s t : Bool) → s && t ≡ cond s t false
both true t = refl
both false t = refl

pub returns : goal.returns
returns c =
    let a = c.args in sum-chosen a.s a.a a.t a.b
    ∙ sym (ap₂ finite (c.choose-2.ensures ∙ ap (λ (x : Bool). cond (ltb a.b a.a) a.s x)
    (c.choose.ensures ∙ ap (λ (x : Bool). cond (ltb a.a a.b) a.t x) (both a.s a.t)))
    (c.choose-3.ensures ∙ ap₂ (λ (h l : ℕ). cond (beq a.s a.t) (h + l) (h - l)) c.choose-high.ensures c.choose-low.ensures))
