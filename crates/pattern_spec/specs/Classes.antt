-- Patterns of binary32: the class by exponent field, as the code holds it, both finite, and patterns with another sign.
use Rattle.std.specs.Prelude.{ℕ, zero, suc, ◌+◌, ◌-◌, ◌/◌, ◌%◌, ◌^◌, Bool, cond, ◌&&◌, leb, eqb}
use Rattle.rounding_spec.specs.Format.{Format, binary32, sign_bit}
use Rattle.rounding_spec.specs.Value.{Value, nan, infinite, decode, is_finite, is_zero, signed}
use Rattle.rounding_spec.specs.Numbers.{number, number_value}
use Rattle.pattern_spec.specs.declared.Class.{Class}
use Rattle.pattern_spec.specs.declared.Class.TheVariants.{Finite, Infinite, NotANumber}

-- R1.2: by exponent field and fraction
abbrev pub by_field : Bool → ℕ → ℕ → Class
by_field s zero m = Finite (number s m 0)
by_field s (suc e) m = cond (eqb (suc e) 255) (cond (eqb m 0) (Infinite s) NotANumber) (Finite (number s (2 ^ 23 + m) e))

unfoldable pub class_of : ℕ → Class
class_of x = by_field (leb (2 ^ 31) x) (x % 2 ^ 31 / 2 ^ 23) (x % 2 ^ 23)

-- the value that a class stands for
unfoldable pub value_of : Class → Value
value_of (Finite n) = number_value n
value_of (Infinite s) = infinite s
value_of NotANumber = nan

-- both patterns are finite
abbrev pub both_finite : ℕ → ℕ → Bool
both_finite x y = is_finite (decode binary32 x) && is_finite (decode binary32 y)

-- ---- another sign
-- the pattern with its sign bit flipped, in any format: a NaN's too (R3.5)
abbrev pub flip : Format → ℕ → ℕ
flip F x = cond (leb (sign_bit F) x) (x - sign_bit F) (x + sign_bit F)

-- the positive constant c with the sign of a: IEEE 754's copySign
abbrev pub copy_sign : ℕ → ℕ → ℕ
copy_sign c a = cond (leb (sign_bit binary32) a) (flip binary32 c) c

-- R3.3: a zero's pattern gets the sign s, any other stays
abbrev pub zero_pattern : Bool → ℕ → ℕ
zero_pattern s x = cond (is_zero (decode binary32 x)) (signed binary32 s 0) x
