-- Steps on infinities and NaN give no finite value.
use mathlib.Core.Path.{◌≡◌, refl, ◌∙◌, subst}
use mathlib.Core.Bool.{Bool, true, false, ◌&&◌}
use mathlib.Core.Logic.{inl, inr}
use lib.Dec.{T}
use Rattle.rounding_spec.specs.Format.{Format}
use Rattle.rounding_spec.specs.Value.{Value, nan, infinite, finite, is_finite, is_zero, round, RNe}
use Rattle.pattern_spec.specs.Exact.{negate, plus, times, finer}
use Rattle.binary32_spec.specs.Steps.{add_value, sub_value, mul_value}
use Rattle.pattern_spec.proofs.Finiteness.{negate-finite, finer-finite, plus-finite, times-finite}
pub use Rattle.pattern_spec.proofs.Truth.{one_of, some-false, both_of}
pub use Rattle.pattern_spec.proofs.Finiteness.{number-of}

-- "is finite" does not hold of a value that is not
pub not-both : {P : Type 0} → true ≡ false → P
not-both e = absurd (subst (λ (b : Bool). T b) e tt)

pub none-zero : (v : Value) → is_finite v ≡ false → is_zero v ≡ false
none-zero nan h = refl
none-zero (infinite s) h = refl
none-zero (finite s a) h = not-both h

-- ---- exact operations
pub sum-none : (v w : Value) → is_finite v && is_finite w ≡ false → is_finite (plus v w) ≡ false
sum-none v w n = plus-finite v w ∙ n

pub product-none : (v w : Value) → is_finite v && is_finite w ≡ false → is_finite (times v w) ≡ false
product-none v w n = times-finite v w ∙ n

pub negate-none : (v : Value) → is_finite v ≡ false → is_finite (negate v) ≡ false
negate-none v h = negate-finite v ∙ h

pub finer-none : (F : Format) (v : Value) → is_finite v ≡ false → is_finite (finer F v) ≡ false
finer-none F v h = finer-finite F v ∙ h

-- ---- rounded
round-none : (F : Format) (v : Value) → is_finite v ≡ false → is_finite (RNe F v) ≡ false
unfolding round
round-none F nan h = refl
round-none F (infinite s) h = refl
round-none F (finite s a) h = not-both h

-- ---- the steps
module _ (F : Format) (v w : Value) where
  pub add_none : is_finite v && is_finite w ≡ false → is_finite (add_value F v w) ≡ false
  unfolding add_value
  add_none n = round-none F (finer F (plus v w)) (finer-none F (plus v w) (sum-none v w n))

  pub add_left : is_finite v ≡ false → is_finite (add_value F v w) ≡ false
  add_left h = add_none (some-false (is_finite v) (is_finite w) (inl h))

  pub add_right : is_finite w ≡ false → is_finite (add_value F v w) ≡ false
  add_right h = add_none (some-false (is_finite v) (is_finite w) (inr h))

  pub mul-none : is_finite v && is_finite w ≡ false → is_finite (mul_value F v w) ≡ false
  unfolding mul_value
  mul-none n = round-none F (times v w) (product-none v w n)

  pub mul_left : is_finite v ≡ false → is_finite (mul_value F v w) ≡ false
  mul_left h = mul-none (some-false (is_finite v) (is_finite w) (inl h))

  pub mul_right : is_finite w ≡ false → is_finite (mul_value F v w) ≡ false
  mul_right h = mul-none (some-false (is_finite v) (is_finite w) (inr h))

module _ (F : Format) (v w : Value) where
  pub sub-left : is_finite v ≡ false → is_finite (sub_value F v w) ≡ false
  unfolding sub_value
  sub-left h = add_left F v (negate w) h

  pub sub-right : is_finite w ≡ false → is_finite (sub_value F v w) ≡ false
  unfolding sub_value
  sub-right h = add_right F v (negate w) (negate-none w h)

-- ---- an exact result that is no number is not rounded
module _ (F : Format) where
  pub add_kept : (v w u : Value) → plus v w ≡ u → is_finite u ≡ false → add_value F v w ≡ u
  unfolding add_value finer round
  add_kept v w nan e h = rw e refl
  add_kept v w (infinite s) e h = rw e refl
  add_kept v w (finite s a) e h = not-both h

  pub mul-kept : (v w u : Value) → times v w ≡ u → is_finite u ≡ false → mul_value F v w ≡ u
  unfolding mul_value round
  mul-kept v w nan e h = rw e refl
  mul-kept v w (infinite s) e h = rw e refl
  mul-kept v w (finite s a) e h = not-both h
