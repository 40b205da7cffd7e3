-- Comparisons of values (R5.4): false where NaN takes part; the two zeros are equal.
use Rattle.std.specs.Prelude.{Bool, true, false, ◌&&◌, ◌||◌, ltb, eqb}
use Rattle.std.specs.Bool.{beq}
use Rattle.rounding_spec.specs.Value.{Value, nan, infinite, finite}

-- x = y
unfoldable pub same : Value → Value → Bool
same nan y = false
same (infinite s) nan = false
same (infinite s) (infinite t) = beq s t
same (infinite s) (finite t b) = false
same (finite s a) nan = false
same (finite s a) (infinite t) = false
same (finite s a) (finite t b) = eqb a b && (beq s t || eqb a 0)

-- |x| < |y|
unfoldable pub less_magnitude : Value → Value → Bool
less_magnitude nan y = false
less_magnitude (infinite s) y = false
less_magnitude (finite s a) nan = false
less_magnitude (finite s a) (infinite t) = true
less_magnitude (finite s a) (finite t b) = ltb a b
