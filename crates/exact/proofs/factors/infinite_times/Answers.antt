use mathlib.Core.Path.{refl}
use Rattle.pattern_spec.specs.Exact.{times}
use Rattle.pattern_spec.specs.Classes.{value_of}
use Rattle.pattern_spec.proofs.Products.{none, some_left}
use Rattle.exact.proofs.factors.infinite_times.Goals as goal

pub returns-in-NotANumber : goal.returns-in-NotANumber
unfolding value_of times
returns-in-NotANumber c = rw c.in-NotANumber.is (record { is = refl; bounded = tt })

pub returns-in-Infinite : goal.returns-in-Infinite
unfolding value_of times
returns-in-Infinite c = rw c.in-Infinite.is (record { is = refl; bounded = tt })

pub returns-then-n-eq0 : goal.returns-then-n-eq0
unfolding value_of times
returns-then-n-eq0 c = record { is = rw (c.in-Finite.is, none _ _ c.if-n-eq0.true); bounded = tt }

pub returns-else-n-eq0 : goal.returns-else-n-eq0
unfolding value_of times
returns-else-n-eq0 c = record { is = rw (c.in-Finite.is, some_left _ _ c.if-n-eq0.false); bounded = tt }
