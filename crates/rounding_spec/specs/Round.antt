-- Rounding to nearest (R1.6, R1.7), with no upper bound on the exponent.
-- f fraction bits are kept behind the leading one. A magnitude N is a whole number of some unit, in which u is 2 ^ L:
-- L is 0 where N counts u, and 149 where N counts 2 ^ -298, the unit of products and totals, in binary32.
use Prim.Native.Nat.{ℕ, suc, ◌+◌, ◌-◌, ◌*◌, ◌/◌, ◌%◌, ◌^◌, max, compare, Ordering}
use Rattle.std.specs.Prelude.{ltb, Bool}
use Rattle.std.specs.Float.Ieee.{size}
use Rattle.rounding_spec.specs.declared.Ties.{Ties}
use Rattle.rounding_spec.specs.declared.Ties.TheVariants.{ToEven, ToZero}
use Rattle.rounding_spec.specs.Nearest.{dist}

-- halfway between q and suc q: RNe takes the one that is even (R1.6), RN0 the smaller (R1.7)
abbrev pub tied : Ties → ℕ → ℕ
tied ToEven q = q + q % 2
tied ToZero q = q

-- q or suc q, whichever is nearer, by how twice the remainder compares with the divisor
abbrev pub nearest : Ties → ℕ → Ordering → ℕ
nearest t q Ordering.lt = q
nearest t q Ordering.eq = tied t q
nearest t q Ordering.gt = suc q

-- N / 2 ^ k to the nearest whole number
unfoldable pub keep : Ties → ℕ → ℕ → ℕ
keep t k N = nearest t (N / 2 ^ k) (compare (2 * (N % 2 ^ k)) (2 ^ k))

-- The exponent of N's last place: suc f digits are kept, and none below u. `size` counts binary digits.
unfoldable pub last_place : ℕ → ℕ → ℕ → ℕ
last_place f L N = max L (size N - suc f)

-- N rounded to the nearest number of the format, in units of u
unfoldable pub rounded : Ties → ℕ → ℕ → ℕ → ℕ
rounded t f L N = keep t (last_place f L N) N * 2 ^ (last_place f L N - L)

-- what the rounding leaves over, in N's unit, and whether the rounded number is the larger of the two
abbrev pub left_over : Ties → ℕ → ℕ → ℕ → ℕ
left_over t f L N = dist (rounded t f L N * 2 ^ L) N

abbrev pub rounded_up : Ties → ℕ → ℕ → ℕ → Bool
rounded_up t f L N = ltb N (rounded t f L N * 2 ^ L)
