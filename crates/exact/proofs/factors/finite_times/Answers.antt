use Rattle.rounding_spec.specs.Value.{finite}
use Rattle.pattern_spec.specs.Exact.{times}
use Rattle.pattern_spec.specs.Classes.{value_of}
use mathlib.Core.Path.{refl, ap}
use native.Mathlib.Nat.{le_trans}
use native.Mathlib.Omega.{arith}
use lib.Ieee.{unlike}
use lib.Pow.{pow_mono}
use Rattle.pattern_spec.proofs.Products.{none, some_left, product_value, product-bounded}
use Rattle.exact.proofs.factors.finite_times.Goals as goal

-- the factors' bounds, where both are finite
pub overflow_mul-result : goal.overflow_mul-result
overflow_mul-result c =
    let f = product-bounded _ _ _ _ c.requires.operand (rw c.in-Finite.is at c.requires.bounded) in
    record { fits = le_trans f.sig (pow_mono {i = 48} {j = 64} (omega arith)) }

pub overflow_add-result : goal.overflow_add-result
overflow_add-result c =
    let f = product-bounded _ _ _ _ c.requires.operand (rw c.in-Finite.is at c.requires.bounded) in omega (arith, f.exp)

pub returns-in-NotANumber : goal.returns-in-NotANumber
unfolding value_of times
returns-in-NotANumber c = rw c.in-NotANumber.is (record { is = refl; bounded = tt })

pub returns-then-m-eq0 : goal.returns-then-m-eq0
unfolding value_of times
returns-then-m-eq0 c = record { is = rw (c.in-Infinite.is, none _ _ c.if-m-eq0.true); bounded = tt }

pub returns-else-m-eq0 : goal.returns-else-m-eq0
unfolding value_of times
returns-else-m-eq0 c = record { is = rw (c.in-Infinite.is, some_left _ _ c.if-m-eq0.false); bounded = tt }

pub returns-in-Finite : goal.returns-in-Finite
unfolding value_of times
returns-in-Finite c =
    let a = c.args in
    let f = product-bounded _ _ _ _ c.requires.operand (rw c.in-Finite.is at c.requires.bounded) in
    rw c.in-Finite.is
    (record { is = ap (finite (unlike a.m.sign c.in-Finite.n.sign)) (product_value a.m.sig a.m.exp c.in-Finite.n.sig c.in-Finite.n.exp); bounded = f })
