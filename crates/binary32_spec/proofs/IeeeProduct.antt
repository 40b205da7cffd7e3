-- The product of the same operands is the same.
use mathlib.Core.Bool.{Bool, true, false, cond}
use lib.Dec.{eqb}
use lib.Ieee.{Float, nan as not-number, inf, Format as Standard, unlike, up, mul}
use lib.Ieee.Fits.{up_pos}
use Rattle.rounding_spec.specs.declared.Ties.TheVariants.{ToEven}
use Rattle.rounding_spec.specs.Value.{Value, nan, infinite, round}
use Rattle.binary32_spec.specs.Steps.{mul_value}
use Rattle.binary32_spec.proofs.IeeeFraction.{counts-mul, counts_zero}
use Rattle.binary32_spec.proofs.IeeeSame.{ours, both-nan, both-inf, both-fin, Agree}
use Rattle.binary32_spec.proofs.IeeeRound.{round-agrees}

-- an infinity times a number that z says to be zero
by-infinity : (f : Standard) (s z : Bool) → Agree f (round ToEven (ours f) (cond z nan (infinite s))) (cond z not-number (inf s))
unfolding round
by-infinity f s true = both-nan
by-infinity f s false = both-inf

pub mul-same : (f : Standard) {v w : Value} {x y : Float} → Agree f v x → Agree f w y → Agree f (mul_value (ours f) v w) (mul f x y)
unfolding mul_value mul
mul-same f both-nan q = both-nan
mul-same f both-inf both-nan = both-nan
mul-same f both-inf both-inf = both-inf
mul-same f (both-inf {s}) (both-fin {s = t} {a = b} {m = n} {e = d} q) = rw (counts_zero b n (up d) (up_pos d) q) (by-infinity f (unlike s t) (eqb n 0))
mul-same f (both-fin p) both-nan = both-nan
mul-same f (both-fin {s} {a} {m} {e} p) (both-inf {s = t}) = rw (counts_zero a m (up e) (up_pos e) p) (by-infinity f (unlike s t) (eqb m 0))
mul-same f (both-fin {s} p) (both-fin {s = t} q) = round-agrees f (unlike s t) (counts-mul p q)
