use native.Mathlib.Omega.{arith}
use mathlib.Core.Path.{◌∙◌}
use lib.Pow.{shr_le}
use Rattle.binary32_fma.proofs.Places.{smaller-second}
use Rattle.binary32_spec.proofs.Jam.{jam-is}
use Rattle.binary32_fma.proofs.jammed.Goals as goal

pub overflow_add-q : goal.overflow_add-q
overflow_add-q c = omega (arith, shr_le c.args.b c.min-h.result)

pub returns : goal.returns
returns c = jam-is _ _ _ _ c.requires (c.min-h.ensures ∙ smaller-second c.args.g 48) c.choose.ensures
