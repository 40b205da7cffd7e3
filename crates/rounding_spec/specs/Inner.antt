-- What the inner functions of `rounding` promise. No contract of `rounding::round` cites it.
use Rattle.std.specs.Prelude.{ℕ, ◌+◌, ◌*◌, ◌%◌, ◌^◌, min, Bool}
use Rattle.rounding_spec.specs.declared.Ties.{Ties}
use Rattle.rounding_spec.specs.declared.Ties.TheVariants.{ToEven, ToZero}
use Rattle.rounding_spec.specs.Format.{binary32, infinity}
use Rattle.rounding_spec.specs.Value.{signed}

-- what is added to a remainder, so that more than half a unit means up: a tie goes up from an odd quotient under RNe alone
abbrev pub tie_bit : Ties → ℕ → ℕ
tie_bit ToEven q = q % 2
tie_bit ToZero q = 0

-- sign, exponent and significand side by side: a leading digit in the significand adds one to the exponent field, and where the field
-- would be infinity's or above, the fraction is 0
abbrev pub packed : Bool → ℕ → ℕ → ℕ
packed s e m = signed binary32 s (min (infinity binary32) (e * 2 ^ 23 + m))
