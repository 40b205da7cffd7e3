-- The mark of a step (R2.8): whether its result is the exact value. It goes by the operands, the exact value and the result, and by nothing
-- of how the result was rounded.
use Rattle.std.specs.Prelude.{ℕ, Bool, cond, ◌&&◌}
use Rattle.rounding_spec.specs.Format.{binary32}
use Rattle.rounding_spec.specs.Value.{Value, decode, is_finite}
use Rattle.pattern_spec.specs.Classes.{both_finite}
use Rattle.pattern_spec.specs.Comparisons.{same}
use Rattle.pattern_spec.specs.Exact.{negate, plus, times, finer}
use Rattle.binary32_spec.specs.Steps.{add_step, sub_step, mul_step, fma_step}

-- 2 where an operand is infinite or NaN. Else 0 where the result, a pattern, has the exact value, which counts u * u, and 1 where it was
-- rounded or overflowed; +0 and -0 are the same value.
unfoldable pub mark_by : Bool → Value → ℕ → ℕ
unfolding same finer decode
mark_by operands_finite exact result = cond operands_finite (cond (same (finer binary32 (decode binary32 result)) exact) 0 1) 2

-- none of a fused step's operands is infinite or NaN
abbrev pub all_finite : ℕ → ℕ → ℕ → Bool
all_finite x y z = is_finite (decode binary32 x) && both_finite y z

unfoldable pub add_mark : ℕ → ℕ → ℕ
unfolding mark_by add_step plus
add_mark x y = mark_by (both_finite x y) (finer binary32 (plus (decode binary32 x) (decode binary32 y))) (add_step x y)

unfoldable pub sub_mark : ℕ → ℕ → ℕ
unfolding mark_by sub_step plus negate
sub_mark x y = mark_by (both_finite x y) (finer binary32 (plus (decode binary32 x) (negate (decode binary32 y)))) (sub_step x y)

unfoldable pub mul_mark : ℕ → ℕ → ℕ
unfolding mark_by mul_step times
mul_mark x y = mark_by (both_finite x y) (times (decode binary32 x) (decode binary32 y)) (mul_step x y)

unfoldable pub fma_mark : ℕ → ℕ → ℕ → ℕ
unfolding mark_by fma_step plus times
fma_mark x y z =
    mark_by (all_finite x y z)
    (plus (times (decode binary32 x) (decode binary32 y)) (finer binary32 (decode binary32 z))) (fma_step x y z)
