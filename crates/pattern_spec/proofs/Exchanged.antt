-- The addends of an exact sum may be exchanged.
use mathlib.Core.Path.{◌≡◌, refl}
use mathlib.Core.Bool.{Bool, true, false, beq, cond}
use Rattle.rounding_spec.specs.Value.{Value, nan, infinite, finite}
use Rattle.pattern_spec.specs.Exact.{plus}
use Rattle.pattern_spec.proofs.Sums.{sum-swap}

infinite-comm : (s t : Bool) → cond (beq t s) (infinite t) nan ≡ cond (beq s t) (infinite s) nan
infinite-comm true true = refl
infinite-comm true false = refl
infinite-comm false true = refl
infinite-comm false false = refl

pub plus_comm : (u v : Value) → plus v u ≡ plus u v
unfolding plus
plus_comm nan nan = refl
plus_comm nan (infinite t) = refl
plus_comm nan (finite t b) = refl
plus_comm (infinite s) nan = refl
plus_comm (infinite s) (infinite t) = infinite-comm s t
plus_comm (infinite s) (finite t b) = refl
plus_comm (finite s a) nan = refl
plus_comm (finite s a) (infinite t) = refl
plus_comm (finite s a) (finite t b) = sum-swap s a t b
