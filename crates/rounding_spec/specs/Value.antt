-- Patterns, the values that they stand for, and the rounding of an exact result to a value (R1).
use Rattle.std.specs.Prelude.{ℕ, zero, suc, ◌+◌, ◌-◌, ◌*◌, ◌/◌, ◌%◌, ◌^◌, ◌<◌, Bool, true, false, cond, ◌&&◌, List, [], ◌∷◌, ltb, leb, eqb}
use Rattle.std.specs.Float.Ieee.{size}
use Rattle.rounding_spec.specs.declared.Ties.{Ties}
use Rattle.rounding_spec.specs.declared.Ties.TheVariants.{ToEven, ToZero}
use Rattle.rounding_spec.specs.Format.{Format, low, limit, infinity, sign_bit}
use Rattle.rounding_spec.specs.Round.{rounded}
use Rattle.rounding_spec.specs.Nearest.{Rep}

-- A sign is `true` for minus. The magnitude of a pattern's value counts u; what `round` takes, an exact result, counts u * u.
pub data Value : Type 0 where
  nan : Value
  infinite : Bool → Value
  finite : Bool → ℕ → Value

-- the values that the format has: multiples of u with a significand of at most `suc fraction` digits, below 2 ^ (emax + 1); infinities
-- and NaN
unfoldable pub Fits : Format → Value → Type 0
unfolding limit
Fits F nan = Unit {0}
Fits F (infinite s) = Unit {0}
Fits F (finite s a) = Rep (suc F.fraction) 0 a × (a < limit F)

-- ---- from a pattern to its value

-- what exponent field and fraction stand for, in units of u: without a leading one in field 0
unfoldable pub fields : ℕ → ℕ → ℕ → ℕ
fields f zero m = m
fields f (suc E) m = (2 ^ f + m) * 2 ^ E

-- the same of a pattern below infinity's: field and fraction stand side by side
unfoldable pub magnitude : ℕ → ℕ → ℕ
unfolding fields
magnitude f c = fields f (c / 2 ^ f) (c % 2 ^ f)

-- R1.2: of the bits below the sign, which are finite below infinity's, and NaN above
unfoldable pub unsigned : Format → Bool → ℕ → Value
unfolding magnitude
unsigned F s c = cond (ltb c (infinity F)) (finite s (magnitude F.fraction c)) (cond (eqb c (infinity F)) (infinite s) nan)

unfoldable pub decode : Format → ℕ → Value
unfolding unsigned
decode F x = unsigned F (leb (sign_bit F) x) (x % sign_bit F)

-- the kinds of values
abbrev pub is_nan : Value → Bool
is_nan nan = true
is_nan (infinite s) = false
is_nan (finite s a) = false

abbrev pub is_infinite : Value → Bool
is_infinite nan = false
is_infinite (infinite s) = true
is_infinite (finite s a) = false

abbrev pub is_finite : Value → Bool
is_finite nan = false
is_finite (infinite s) = false
is_finite (finite s a) = true

abbrev pub is_zero : Value → Bool
is_zero nan = false
is_zero (infinite s) = false
is_zero (finite s a) = eqb a 0

-- R1.3: a NaN whose highest fraction bit is 0
unfoldable pub signalling : Format → ℕ → Bool
unfolding decode
signalling F x = is_nan (decode F x) && eqb (x / 2 ^ (F.fraction - 1) % 2) 0

-- ---- from a value to its pattern

-- the bits of a magnitude a that the format has: the leading digit adds one to the exponent field
unfoldable pub bits : ℕ → ℕ → ℕ
bits f a = (size a - suc f) * 2 ^ f + a / 2 ^ (size a - suc f)

abbrev pub signed : Format → Bool → ℕ → ℕ
signed F s c = cond s (sign_bit F) 0 + c

-- the quiet NaN with the sign s: all exponent bits and the highest fraction bit are 1, and the payload p stands in the fraction bits below
abbrev pub quiet_nan : Format → Bool → ℕ → ℕ
quiet_nan F s p = signed F s (infinity F + 2 ^ (F.fraction - 1) + p)

-- of operands none of which is NaN: 7FC00000 in binary32
abbrev pub default_nan : Format → ℕ
default_nan F = quiet_nan F false 0

unfoldable pub encode : Format → Value → ℕ
unfolding bits
encode F nan = default_nan F
encode F (infinite s) = signed F s (infinity F)
encode F (finite s a) = signed F s (bits F.fraction a)

-- a NaN with its highest fraction bit set: its sign and its payload stay
abbrev pub quieted : Format → ℕ → ℕ
quieted F x = quiet_nan F (leb (sign_bit F) x) (x % 2 ^ (F.fraction - 1))

-- R2.4, R3.7: the pattern of a NaN result, fixed here alone: the first NaN among the operands, quieted; where none is NaN, `default_nan`
unfoldable pub nan_of : Format → List ℕ → ℕ
unfolding decode
nan_of F [] = default_nan F
nan_of F (x ∷ xs) = cond (is_nan (decode F x)) (quieted F x) (nan_of F xs)

-- ---- rounding an exact result

-- RNe and RN0 of the magnitude N, in units of u * u, with the sign s: a value in units of u.
-- A result that is rounded to zero keeps its sign (R2.7).
unfoldable pub round_finite : Ties → Format → Bool → ℕ → Value
unfolding rounded limit
round_finite t F s N = let a = rounded t F.fraction (low F) N in cond (ltb a (limit F)) (finite s a) (infinite s)

unfoldable pub round : Ties → Format → Value → Value
unfolding round_finite
round t F nan = nan
round t F (infinite s) = infinite s
round t F (finite s N) = round_finite t F s N

-- R1.6
abbrev pub RNe : Format → Value → Value
RNe = round ToEven

-- R1.7
abbrev pub RN0 : Format → Value → Value
RN0 = round ToZero
