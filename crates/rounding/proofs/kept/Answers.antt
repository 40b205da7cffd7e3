use Prim.Native.Nat.{◌/◌, ◌^◌}
use native.Mathlib.Omega.{arith}
use Rattle.rounding_spec.proofs.Remainder.{tie-bit-le, rest_le, rest_lt, quot-lt, word-up, word-down}
use Rattle.rounding.proofs.kept.Goals as goal

pub overflow_sub-rest : goal.overflow_sub-rest
overflow_sub-rest c = rest_le c.args.n c.args.shift c.ranges.n.fits

pub overflow_add-rest : goal.overflow_add-rest
overflow_add-rest c =
    let a = c.args in omega (arith, c.tie_bit.ensures, tie-bit-le a.ties (a.n / 2 ^ a.shift), rest_lt a.n a.shift c.ranges.n.fits c.if-shift-gt63.false)

pub overflow_add-result : goal.overflow_add-result
overflow_add-result c =
    omega (arith, quot-lt c.args.n c.args.shift c.ranges.n.fits c.requires)

pub returns-then-rest-tie_bit : goal.returns-then-rest-tie_bit
returns-then-rest-tie_bit c =
    word-up c.args.n c.args.shift c.ranges.n.fits c.requires c.if-shift-gt63.false _ _ c.tie_bit.ensures c.if-rest-tie_bit.true

pub returns-else-rest-tie_bit : goal.returns-else-rest-tie_bit
returns-else-rest-tie_bit c =
    word-down c.args.n c.args.shift c.ranges.n.fits c.requires c.if-shift-gt63.false _ _ c.tie_bit.ensures c.if-rest-tie_bit.false
