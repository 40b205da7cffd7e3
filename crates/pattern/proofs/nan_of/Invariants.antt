use Rattle.std.proofs.Common.{◌≡◌, drop}
use Rattle.rounding_spec.specs.Format.{binary32}
use Rattle.rounding_spec.specs.Value.{nan_of}
use Rattle.pattern.proofs.nan_of.Given as goal

-- the operands so far do not matter: none is NaN
abbrev pub invariant-loop-x : goal.invariant-loop-x
invariant-loop-x g l = nan_of binary32 (drop l.x-index l.fn.operands) ≡ nan_of binary32 l.fn.operands
