-- Finite values; an exact sum or product is finite exactly where both operands are.
use mathlib.Core.Path.{◌≡◌, refl}
use mathlib.Core.Bool.{Bool, true, false, cond, beq, ◌&&◌, false≢true}
use Prim.Native.Nat.{ℕ}
use lib.Dec.{eqb}
use lib.Ieee.{unlike}
use Rattle.rounding_spec.specs.Format.{Format}
use Rattle.rounding_spec.specs.Value.{Value, nan, infinite, finite, is_finite}
use Rattle.pattern_spec.specs.Exact.{negate, plus, times, finer}
use Rattle.pattern_spec.proofs.Sums.{sum-finite}

-- a finite value has a sign and a magnitude
pub number-of : (v : Value) → is_finite v ≡ true → (s : Bool) × (a : ℕ) × (v ≡ finite s a)
number-of nan e = absurd (false≢true e)
number-of (infinite s) e = absurd (false≢true e)
number-of (finite s a) e = (s, a, refl)

pub negate-finite : (v : Value) → is_finite (negate v) ≡ is_finite v
unfolding negate
negate-finite nan = refl
negate-finite (infinite s) = refl
negate-finite (finite s a) = refl

pub finer-finite : (F : Format) (v : Value) → is_finite (finer F v) ≡ is_finite v
unfolding finer
finer-finite F nan = refl
finer-finite F (infinite s) = refl
finer-finite F (finite s a) = refl

-- an infinity or NaN, whichever is chosen
chosen : (c s : Bool) → is_finite (cond c (infinite s) nan) ≡ false
chosen true s = refl
chosen false s = refl

other : (c s : Bool) → is_finite (cond c nan (infinite s)) ≡ false
other true s = refl
other false s = refl

pub plus-finite : (v w : Value) → is_finite (plus v w) ≡ is_finite v && is_finite w
unfolding plus
plus-finite nan w = refl
plus-finite (infinite s) nan = refl
plus-finite (infinite s) (infinite t) = chosen (beq s t) s
plus-finite (infinite s) (finite t b) = refl
plus-finite (finite s a) nan = refl
plus-finite (finite s a) (infinite t) = refl
plus-finite (finite s a) (finite t b) = rw (sum-finite s a t b).2 refl

pub times-finite : (v w : Value) → is_finite (times v w) ≡ is_finite v && is_finite w
unfolding times
times-finite nan w = refl
times-finite (infinite s) nan = refl
times-finite (infinite s) (infinite t) = refl
times-finite (infinite s) (finite t b) = other (eqb b 0) (unlike s t)
times-finite (finite s a) nan = refl
times-finite (finite s a) (infinite t) = other (eqb a 0) (unlike s t)
times-finite (finite s a) (finite t b) = refl
