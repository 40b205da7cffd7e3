use native.Mathlib.Omega.{arith}
use lib.Count.{leading_le}
use Rattle.binary32_spec.proofs.ThirdOperand.{zeros-ge, normalised-is}
use Rattle.binary32_fma.proofs.normalised.Goals as goal

pub overflow_sub-up : goal.overflow_sub-up
overflow_sub-up c = zeros-ge c.args.c.sig c.args.c.exp c.requires.0 c.requires.1 c.requires.2

pub overflow_cast-result : goal.overflow_cast-result
overflow_cast-result c = omega (arith, leading_le 64 c.args.c.sig)

pub overflow_shl-result : goal.overflow_shl-result
overflow_shl-result c = omega (arith, leading_le 64 c.args.c.sig)

pub overflow_cast-result-2 : goal.overflow_cast-result-2
overflow_cast-result-2 c = omega (arith, leading_le 64 c.args.c.sig)

pub overflow_sub-result : goal.overflow_sub-result
overflow_sub-result c = omega (arith, leading_le 64 c.args.c.sig)

pub returns-clause-normal : goal.returns-clause-normal
returns-clause-normal c = normalised-is _ _ c.requires.0 c.requires.1 c.requires.2
