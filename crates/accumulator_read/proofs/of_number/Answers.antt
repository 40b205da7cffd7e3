use mathlib.Core.Path.{sym, ap₂, ◌∙◌}
use native.Mathlib.Omega.{arith}
use Rattle.pattern_spec.proofs.Classified.{class-operand}
use Rattle.accumulator_spec.specs.Words.{integer}
use Rattle.accumulator_spec.specs.Totals.{pair_read}
use Rattle.accumulator_spec.proofs.Terms.{not-finite}
use Rattle.accumulator_spec.proofs.TotalPair.{halves-finite, halves-other}
use Rattle.accumulator_read.proofs.of_number.Goals as goal

pub overflow_add-taken : goal.overflow_add-taken
overflow_add-taken c = let o = (class-operand _ _ (sym c.in-Finite.is ∙ c.classify.ensures)).exp in omega arith

pub moved-requires : goal.moved-requires
moved-requires c = let o = (class-operand _ _ (sym c.in-Finite.is ∙ c.classify.ensures)).exp in omega arith

pub returns-in_default : goal.returns-in_default
returns-in_default c =
    ap₂ pair_read c.twice.ensures.0 c.twice.ensures.1
    ∙ halves-other (integer c.args.number) _ c.rounded-first.ensures _ c.classify.ensures (not-finite _ c.in_default.not-Finite)

pub returns : goal.returns
returns c =
    let class = sym c.in-Finite.is ∙ c.classify.ensures in
    let second = c.rounded-second.ensures in halves-finite (integer c.args.number) _ c.rounded-first.ensures _ _ _ class c.requires _ c.moved.ensures _ second _ c.zero_takes.ensures
