use mathlib.Core.Path.{ap}
use mathlib.Core.Bool.{Bool, ◌&&◌}
use Prim.Native.Nat.{◌/◌, ◌%◌}
use lib.Dec.{eqb}
use Rattle.rounding_spec.specs.Value.{signalling}
use Rattle.pattern.proofs.signalling.Goals as goal

pub returns : goal.returns
unfolding signalling
returns c = ap (λ (b : Bool). b && eqb (c.args.x / 0x40_0000 % 2) 0) c.is_nan.ensures
