use mathlib.Core.Path.{refl, sym, ap, ◌∙◌}
use Prim.Native.Nat.{ℕ}
use Rattle.rounding_spec.specs.Value.{nan, infinite, encode}
use Rattle.pattern_spec.specs.Exact.{plus, finer}
use Rattle.pattern_spec.specs.Classes.{value_of}
use Rattle.binary32_spec.proofs.Marks.{outcome-special}
use Rattle.binary32_add.proofs.finite_plus.Goals as goal

pub finite_sum-requires : goal.finite_sum-requires
finite_sum-requires c = record {
  order = rw c.in-Finite.is at c.requires.below;
  operand = c.requires.operand;
  operand_2 = rw c.in-Finite.is at c.requires.bounded;
}

pub returns-in-NotANumber : goal.returns-in-NotANumber
unfolding value_of plus finer encode
returns-in-NotANumber c = rw c.in-NotANumber.is (c.special.ensures ∙ sym (outcome-special nan refl))

pub returns-in-Infinite : goal.returns-in-Infinite
unfolding value_of plus finer
returns-in-Infinite c =
    rw c.in-Infinite.is
    (c.special-in-Infinite.ensures ∙ ap (λ (r : ℕ). record { result = r; mark = 2 }) c.infinity.ensures ∙ sym (outcome-special (infinite _) refl))

pub returns-in-Finite : goal.returns-in-Finite
unfolding value_of
returns-in-Finite c = rw c.in-Finite.is c.finite_sum.ensures
