-- Exact arithmetic on values: no rounding here.
-- The magnitudes of operands count u, those of a product u * u; a sum is in its addends' unit.
use Rattle.std.specs.Prelude.{ℕ, ◌+◌, ◌-◌, ◌*◌, ◌^◌, Bool, true, false, not, cond, ltb, eqb, ℤ, pos, neg_ℤ}
use Rattle.std.specs.Bool.{beq}
use Rattle.std.specs.Float.Ieee.{unlike}
use Rattle.rounding_spec.specs.Format.{Format, low}
use Rattle.rounding_spec.specs.Value.{Value, nan, infinite, finite}

unfoldable pub negate : Value → Value
negate nan = nan
negate (infinite s) = infinite (not s)
negate (finite s a) = finite (not s) a

-- signed addition of magnitudes; an exact zero has the sign that both addends share, else plus (R2.5)
unfoldable pub plus_finite : Bool → ℕ → Bool → ℕ → Value
plus_finite s a t b =
    cond (beq s t) (finite s (a + b))
    (cond (ltb b a) (finite s (a - b)) (cond (ltb a b) (finite t (b - a)) (finite false 0)))

-- R2.3: the sum of opposite infinities is NaN
unfoldable pub plus : Value → Value → Value
unfolding plus_finite
plus nan y = nan
plus (infinite s) nan = nan
plus (infinite s) (infinite t) = cond (beq s t) (infinite s) nan
plus (infinite s) (finite t b) = infinite s
plus (finite s a) nan = nan
plus (finite s a) (infinite t) = infinite t
plus (finite s a) (finite t b) = plus_finite s a t b

-- R2.6: signs are multiplied, a zero's too; R2.3: zero times infinity is NaN
unfoldable pub times : Value → Value → Value
times nan y = nan
times (infinite s) nan = nan
times (infinite s) (infinite t) = infinite (unlike s t)
times (infinite s) (finite t b) = cond (eqb b 0) nan (infinite (unlike s t))
times (finite s a) nan = nan
times (finite s a) (infinite t) = cond (eqb a 0) nan (infinite (unlike s t))
times (finite s a) (finite t b) = finite (unlike s t) (a * b)

-- a whole number by its sign and magnitude
abbrev pub int : Bool → ℕ → ℤ
int false a = pos a
int true a = neg_ℤ (pos a)

-- a finite value as a whole number; of the others no use is made
abbrev pub whole : Value → ℤ
whole nan = pos 0
whole (infinite s) = pos 0
whole (finite s a) = int s a

-- the same value, counted in u * u
unfoldable pub finer : Format → Value → Value
finer F nan = nan
finer F (infinite s) = infinite s
finer F (finite s a) = finite s (a * 2 ^ low F)
