-- The four rounding steps (R2.1): the exact result, and one rounding, RNe.
use Rattle.std.specs.Prelude.{ℕ, List, [], ◌∷◌}
use Rattle.rounding_spec.specs.Format.{Format, binary32}
use Rattle.rounding_spec.specs.Value.{Value, nan, infinite, finite, decode, nan_of, encode, round, RNe}
use Rattle.pattern_spec.specs.Exact.{negate, plus, times, finer}

-- ---- on values, in any format
unfoldable pub add_value : Format → Value → Value → Value
unfolding round plus finer
add_value F x y = RNe F (finer F (plus x y))

-- the second flipped (R2.5)
unfoldable pub sub_value : Format → Value → Value → Value
unfolding add_value negate
sub_value F x y = add_value F x (negate y)

unfoldable pub mul_value : Format → Value → Value → Value
unfolding round times
mul_value F x y = RNe F (times x y)

-- R2.2: one rounding, of the exact product and the third operand together
unfoldable pub fma_value : Format → Value → Value → Value → Value
unfolding round plus times finer
fma_value F x y z = RNe F (plus (times x y) (finer F z))

-- The pattern of a result: `encode`, but for NaN, whose pattern goes by the operands as they stand (R2.4): a subtraction's second keeps its
-- own sign.
unfoldable pub result : Format → List ℕ → Value → ℕ
unfolding encode nan_of
result F operands nan = nan_of F operands
result F operands (infinite s) = encode F (infinite s)
result F operands (finite s a) = encode F (finite s a)

-- ---- on patterns of binary32

unfoldable pub add_step : ℕ → ℕ → ℕ
unfolding result add_value decode
add_step x y = result binary32 (x ∷ y ∷ []) (add_value binary32 (decode binary32 x) (decode binary32 y))

unfoldable pub sub_step : ℕ → ℕ → ℕ
unfolding result sub_value decode
sub_step x y = result binary32 (x ∷ y ∷ []) (sub_value binary32 (decode binary32 x) (decode binary32 y))

unfoldable pub mul_step : ℕ → ℕ → ℕ
unfolding result mul_value decode
mul_step x y = result binary32 (x ∷ y ∷ []) (mul_value binary32 (decode binary32 x) (decode binary32 y))

unfoldable pub fma_step : ℕ → ℕ → ℕ → ℕ
unfolding result fma_value decode
fma_step x y z = result binary32 (x ∷ y ∷ z ∷ []) (fma_value binary32 (decode binary32 x) (decode binary32 y) (decode binary32 z))
