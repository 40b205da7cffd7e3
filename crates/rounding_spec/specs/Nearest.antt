-- What it is to be nearest, as a relation on magnitudes: the meaning that `rounded` is shown to have.
-- p is the precision; every number of the format is a multiple of 2 ^ l.
use Rattle.std.specs.Prelude.{ℕ, ◌+◌, ◌-◌, ◌*◌, ◌^◌, ◌≤◌, ◌<◌, ◌≡◌}

-- the distance of two magnitudes
abbrev pub dist : ℕ → ℕ → ℕ
dist a b = (a - b) + (b - a)

-- n is representable: a significand m of at most p digits at an exponent e that is not below l
pub record Rep (p l n : ℕ) : Type 0 where
  pub e : ℕ
  pub m : ℕ
  pub low : l ≤ e
  pub small : m < 2 ^ p
  pub is : n ≡ m * 2 ^ e

-- a is a representable number to which none is nearer to n
pub record Near (p l n a : ℕ) : Type 0 where
  pub rep : Rep p l a
  pub best : (m : ℕ) → Rep p l m → dist a n ≤ dist m n

-- and no smaller one is equally near: at a tie the smaller magnitude
pub record Near0 (p l n a : ℕ) : Type 0 where
  pub near : Near p l n a
  pub tie : (m : ℕ) → Rep p l m → dist m n ≡ dist a n → a ≤ m
