use mathlib.Core.Path.{refl, sym, ap, ◌∙◌}
use Prim.Native.Nat.{ℕ, ◌+◌, ◌*◌, ◌^◌}
use native.Mathlib.Omega.{arith}
use Rattle.rounding_spec.specs.Format.{binary32}
use Rattle.rounding_spec.specs.Value.{Value, finite, is_nan}
use Rattle.rounding_spec.specs.Numbers.{number_value}
use Rattle.rounding_spec.proofs.Multiple.{joined}
use Rattle.pattern_spec.specs.Exact.{plus, finer}
use Rattle.pattern_spec.specs.Classes.{value_of}
use Rattle.pattern_spec.proofs.Classified.{class-value, class-operand}
use Rattle.binary32_spec.specs.Inner.{outcome}
use Rattle.binary32_spec.proofs.Fused.{outcome-number, outcome-nan, outcome-infinite}
use Rattle.binary32_fma.proofs.finite_product_plus.Goals as goal

-- the third operand's bounds, where it is finite
pub overflow_add-c : goal.overflow_add-c
overflow_add-c c = let third = class-operand _ _ (sym c.in-Finite.is ∙ c.classify.ensures) in omega (arith, third.exp)

pub fused_sum-requires : goal.fused_sum-requires
fused_sum-requires c =
    let bounds = class-operand _ _ (sym c.in-Finite.is ∙ c.classify.ensures) in record {
      product = c.requires;
      third = omega (arith, bounds);
    }

pub returns-in-NotANumber : goal.returns-in-NotANumber
unfolding value_of
returns-in-NotANumber c =
    let a = c.args in let is = sym (class-value a.z _ (sym c.in-NotANumber.is ∙ c.classify.ensures)) in
    c.special.ensures ∙ ap (λ (r : ℕ). record { result = r; mark = 2 }) c.quieted.ensures ∙ outcome-nan a.z (number_value a.p) is

pub returns-in-Infinite : goal.returns-in-Infinite
unfolding value_of
returns-in-Infinite c =
    let a = c.args in let is = sym (class-value a.z _ (sym c.in-Infinite.is ∙ c.classify.ensures)) in
    c.special-in-Infinite.ensures ∙ ap (λ (r : ℕ). record { result = r; mark = 2 }) c.infinity.ensures ∙ outcome-infinite a.z a.p.sign _ (a.p.sig * 2 ^ a.p.exp) is

pub returns-in-Finite : goal.returns-in-Finite
unfolding value_of finer plus
returns-in-Finite c =
    let a = c.args in let n = c.in-Finite.c in let is = sym (class-value a.z _ (sym c.in-Finite.is ∙ c.classify.ensures)) in
    c.fused_sum.ensures
    ∙ ap (λ (x : ℕ). outcome (plus (number_value a.p) (finite n.sign x))) (sym (joined n.sig n.exp 149 (n.exp + 149) refl))
    ∙ ap (λ (v : Value). outcome (plus (number_value a.p) (finer binary32 v))) (sym is)
    ∙ outcome-number a.z (ap is_nan is) _
