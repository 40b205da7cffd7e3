-- What the functions below `binary32` ask and promise. No contract of `binary32` cites it.
use Rattle.std.specs.Prelude.{ℕ, ◌+◌, ◌-◌, ◌*◌, ◌^◌, ◌≤◌, ◌<◌, ◌≡◌, List}
use Rattle.rounding_spec.specs.Format.{binary32}
use Rattle.rounding_spec.specs.Value.{Value, is_finite, encode, RNe}
use Rattle.binary32_spec.specs.declared.Outcome.{Outcome}
use Rattle.binary32_spec.specs.Steps.{result}
use Rattle.binary32_spec.specs.Marks.{mark_by}

-- ---- a step by its exact value, which counts u * u and is finite exactly where all operands are
-- where no operand is NaN
unfoldable pub outcome : Value → Outcome
unfolding mark_by encode
outcome v = let r = encode binary32 (RNe binary32 v) in record { result = r; mark = mark_by (is_finite v) v r }

-- with operands that may be NaN
unfoldable pub outcome_of : List ℕ → Value → Outcome
unfolding mark_by result
outcome_of operands v = let r = result binary32 operands (RNe binary32 v) in record { result = r; mark = mark_by (is_finite v) v r }

-- ---- parts of a fused sum
-- a * 2 ^ k is c * 2 ^ j, with all 24 digits
pub record Normal (c j a k : ℕ) : Type 0 where
  pub value : a * 2 ^ k ≡ c * 2 ^ j
  pub low : 2 ^ 23 ≤ a
  pub high : a < 2 ^ 24
  pub exp : 126 ≤ k
  pub below : k ≤ j

-- the first significand can go up by `room` places, and where that is not the whole way it then stands far above the second
pub record Reaches (a i b j room : ℕ) : Type 0 where
  pub order : j ≤ i
  pub steps : (0 < room) × (room ≤ 39)
  pub high : a * 2 ^ room < 2 ^ 63
  pub second : b < 2 ^ 48
  pub first : room < i - j → 2 * b + 2 ^ 26 ≤ a * 2 ^ room
