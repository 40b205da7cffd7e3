use mathlib.Core.Path.{sym, ap, ap₂, ◌∙◌}
use Rattle.rounding_spec.specs.Format.{binary32}
use Rattle.rounding_spec.specs.Value.{Value, decode}
use Rattle.pattern_spec.specs.Exact.{times}
use Rattle.pattern_spec.specs.Classes.{value_of}
use Rattle.pattern_spec.proofs.Classified.{class-value, class-operand}
use Rattle.exact.proofs.product.Goals as goal

pub finite_times-requires : goal.finite_times-requires
finite_times-requires c = record {
  operand = class-operand _ _ (sym c.in-Finite.is ∙ c.classify-a.ensures);
  bounded = class-operand _ _ c.classify-b.ensures;
}

pub returns-in-NotANumber : goal.returns-in-NotANumber
unfolding value_of times
returns-in-NotANumber c =
    let none = class-value c.args.x _ (sym c.in-NotANumber.is ∙ c.classify-a.ensures) in
    record { is = sym (ap (λ (v : Value). times v (decode binary32 c.args.y)) none); bounded = tt }

pub returns-in-Infinite : goal.returns-in-Infinite
unfolding value_of
returns-in-Infinite c =
    let same = ap₂ times (class-value _ _ (sym c.in-Infinite.is ∙ c.classify-a.ensures)) (class-value _ _ c.classify-b.ensures) in
    record { is = sym same ∙ c.infinite_times.ensures.is; bounded = c.infinite_times.ensures.bounded }

pub returns-in-Finite : goal.returns-in-Finite
unfolding value_of
returns-in-Finite c =
    let same = ap₂ times (class-value _ _ (sym c.in-Finite.is ∙ c.classify-a.ensures)) (class-value _ _ c.classify-b.ensures) in
    record { is = sym same ∙ c.finite_times.ensures.is; bounded = c.finite_times.ensures.bounded }
