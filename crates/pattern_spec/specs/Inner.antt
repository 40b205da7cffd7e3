-- What functions below the entry points ask and promise of operands and exact numbers. No contract of an entry point cites it.
use Rattle.std.specs.Prelude.{ℕ, ◌+◌, ◌*◌, ◌%◌, ◌^◌, ◌≤◌, ◌<◌, ◌≡◌, ◌⊎◌, cond, ltb}
use Rattle.rounding_spec.specs.Value.{Value}
use Rattle.pattern_spec.specs.declared.Class.{Class}
use Rattle.pattern_spec.specs.declared.Class.TheVariants.{Finite, Infinite, NotANumber}
use Rattle.pattern_spec.specs.Classes.{value_of}

-- ---- operands
-- bounds of an operand's significand and exponent: 24 digits at most, and all of them where the exponent could be lower
pub record Operand (m e : ℕ) : Type 0 where
  pub sig : m < 2 ^ 24
  pub exp : e ≤ 253
  pub leads : 0 < e → 2 ^ 23 ≤ m

-- what holds of significand and exponent, where there are any
abbrev pub Bounded : (ℕ → ℕ → Type 0) → Class → Type 0
Bounded P (Finite n) = P n.sig n.exp
Bounded P (Infinite s) = Unit {0}
Bounded P NotANumber = Unit {0}

-- ---- two operands in order
-- by magnitude; where both are equal the first is the larger and the second the smaller
abbrev pub larger : ℕ → ℕ → ℕ
larger x y = cond (ltb (x % 2 ^ 31) (y % 2 ^ 31)) y x

abbrev pub smaller : ℕ → ℕ → ℕ
smaller x y = cond (ltb (x % 2 ^ 31) (y % 2 ^ 31)) x y

-- the exponent of a second addend is not above that of the first
abbrev pub Below : ℕ → Class → Type 0
Below e (Finite n) = n.exp ≤ e
Below e (Infinite t) = Unit {0}
Below e NotANumber = Unit {0}

abbrev pub Descending : Class → Class → Type 0
Descending (Finite n) b = Below n.exp b
Descending (Infinite s) b = Unit {0}
Descending NotANumber b = Unit {0}

-- ---- products
-- bounds of the significand and the exponent of a product of two operands, in u * u
pub record Product (m e : ℕ) : Type 0 where
  pub sig : m < 2 ^ 48
  pub exp : e ≤ 506
  pub leads : 0 < e → 0 < m → 2 ^ 23 ≤ m

-- r is the exact product v
pub record ProductIs (v : Value) (r : Class) : Type 0 where
  pub is : v ≡ value_of r
  pub bounded : Bounded Product r

-- ---- a number cut off at a place
-- r is odd and less than 1 away from b / 2 ^ g
pub record Odd (b g r : ℕ) : Type 0 where
  pub odd : r % 2 ≡ 1
  pub over : b < (r + 1) * 2 ^ g
  pub under : r * 2 ^ g < b + 2 ^ g

-- r is b / 2 ^ g itself, or such an odd number
abbrev pub Jammed : ℕ → ℕ → ℕ → Type 0
Jammed b g r = (r * 2 ^ g ≡ b) ⊎ Odd b g r
