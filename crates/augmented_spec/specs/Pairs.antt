-- Pairs and flags of two patterns (R3, R4), in any format.
-- An exact result counts u * u, as everything that is rounded does; the halves of a pair count u.
use Rattle.std.specs.Prelude.{ℕ, Bool, false, not, cond, ◌&&◌, ◌||◌, [], ◌∷◌, eqb}
use Rattle.rounding_spec.specs.Format.{Format}
use Rattle.rounding_spec.specs.Value.{Value, nan, infinite, finite, decode, is_nan, is_infinite, is_finite, is_zero, signalling, round, RN0}
use Rattle.pattern_spec.specs.Exact.{negate, plus, times, finer}
use Rattle.binary32_spec.specs.Steps.{result}
use Rattle.pattern_spec.specs.Classes.{flip}
use Rattle.augmented_spec.specs.declared.Flags.{Flags}
use Rattle.augmented_spec.specs.declared.Pair.{Pair}

-- ---- pairs, on values
pub record Halves : Type 0 where
  pub first : Value
  pub second : Value

-- what is left of an exact result when a half is taken from it, in u * u as the exact result
unfoldable pub rest : Format → Value → Value → Value
unfolding plus negate finer
rest F exact half = plus exact (negate (finer F half))

-- R3.3: a zero has the sign s, even where the rest was not zero and had the other sign. 3F7FFFFF times 00000001 is 00000001 and +0,
-- though the rest is negative.
unfoldable pub zero_takes : Bool → Value → Value
zero_takes s nan = nan
zero_takes s (infinite r) = infinite r
zero_takes s (finite r a) = finite (cond (eqb a 0) s r) a

-- R3.2: RN0 of the rest; in a sum that is the rest itself (R3.1; `SumAddsUp` of Theorems). An infinite or NaN first stands in second
-- again (R3.6, R3.7).
unfoldable pub second_of : Format → Value → Value → Value
unfolding rest zero_takes round
second_of F exact (finite s a) = zero_takes s (RN0 F (rest F exact (finite s a)))
second_of F exact (infinite s) = infinite s
second_of F exact nan = nan

-- The pair of an exact result: first is its RN0 (R3.1, R3.2). An exact zero has its sign already, which RN0 keeps; a first that is
-- rounded to zero keeps the exact value's sign (R3.4).
unfoldable pub pair_of : Format → Value → Halves
unfolding second_of round
pair_of F exact = let first = RN0 F exact in record { first = first; second = second_of F exact first }

-- ---- flags, as four truth values (R4.1)
-- I (R4.2): a signalling operand, or a NaN first where no operand is NaN
unfoldable pub invalid : Format → ℕ → ℕ → Value → Bool
unfolding signalling decode
invalid F x y first = signalling F x || signalling F y || (is_nan first && not (is_nan (decode F x)) && not (is_nan (decode F y)))

-- O (R4.3): an infinite first where both operands are finite
unfoldable pub overflowed : Format → ℕ → ℕ → Value → Bool
unfolding decode
overflowed F x y first = is_infinite first && is_finite (decode F x) && is_finite (decode F y)

-- first + second = exact, for finite halves; false otherwise
unfoldable pub adds_up : Format → Value → Halves → Bool
unfolding rest
adds_up F exact p = is_zero (rest F (rest F exact p.first) p.second)

-- U (R4.4), of a product: both halves are finite and do not add up to it
unfoldable pub underflowed : Format → Value → Halves → Bool
unfolding adds_up
underflowed F exact p = is_finite p.first && is_finite p.second && not (adds_up F exact p)

-- the flags from I, O and U: X is raised with O and with U, and never alone
abbrev pub flags_of : Bool → Bool → Bool → Flags
flags_of is_invalid is_overflow is_underflow =
    record {
      invalid = is_invalid;
      overflow = is_overflow;
      underflow = is_underflow;
      inexact = is_overflow || is_underflow;
    }

-- ---- of two patterns
-- the patterns of a pair, a NaN's by the operands (R3.7), with the flags; `underflow` says whether U is raised
unfoldable pub answer : Format → ℕ → ℕ → Halves → Bool → Pair
unfolding result invalid overflowed
answer F x y p underflow =
    record {
      first = result F (x ∷ y ∷ []) p.first;
      second = result F (x ∷ y ∷ []) p.second;
      flags = flags_of (invalid F x y p.first) (overflowed F x y p.first) underflow;
    }

-- R3.1: operands and their sum count u
abbrev pub exact_sum : Format → ℕ → ℕ → Value
exact_sum F x y = finer F (plus (decode F x) (decode F y))

unfoldable pub sum_pair : Format → ℕ → ℕ → Pair
unfolding answer pair_of
sum_pair F x y = answer F x y (pair_of F (exact_sum F x y)) false

-- R3.5
unfoldable pub difference_pair : Format → ℕ → ℕ → Pair
unfolding sum_pair
difference_pair F x y = sum_pair F x (flip F y)

-- R3.2: a product of operands counts u * u
abbrev pub exact_product : Format → ℕ → ℕ → Value
exact_product F x y = times (decode F x) (decode F y)

unfoldable pub product_pair : Format → ℕ → ℕ → Pair
unfolding answer pair_of underflowed
product_pair F x y = let p = pair_of F (exact_product F x y) in answer F x y p (underflowed F (exact_product F x y) p)
