-- The pattern of a step's result: callers go by these laws.
use mathlib.Core.Path.{◌≡◌, refl, ap, ◌∙◌}
use mathlib.Core.Bool.{Bool, false, true≢false}
use mathlib.Core.List.{List, [], ◌∷◌}
use Prim.Native.Nat.{ℕ, ◌*◌, ◌<◌}
use Rattle.rounding_spec.specs.Format.{Format, binary32, Proper, sign_bit}
use Rattle.rounding_spec.specs.Theorems.{NoneNaN}
use Rattle.rounding_spec.specs.Value.{Value, nan, infinite, finite, Fits, is_nan, signalling, nan_of, encode, decode, round_finite, round}
use Rattle.rounding_spec.proofs.Codec.{decode-encode, encode-width}
use Rattle.rounding_spec.specs.declared.Ties.TheVariants.{ToEven}
use Rattle.rounding_spec.proofs.NaN.{differs, rounded-number, nan-of-quiet, none-nan}
use Rattle.rounding_spec.proofs.RoundValue.{round-fits}
use Rattle.pattern_spec.specs.Exact.{negate, plus, times, finer}
use Rattle.binary32_spec.specs.Steps.{add_value, sub_value, mul_value, fma_value, result, add_step, sub_step, mul_step, fma_step}

-- ---- of any value
module _ (F : Format) (operands : List ℕ) where
  -- what is no NaN is encoded, whatever the operands
  pub result-number : (v : Value) → is_nan v ≡ false → result F operands v ≡ encode F v
  unfolding result
  result-number nan n = absurd (true≢false n)
  result-number (infinite s) n = refl
  result-number (finite s a) n = refl

  pub result-nan : result F operands nan ≡ nan_of F operands
  unfolding result
  result-nan = refl

  pub decode-result : Proper F → (v : Value) → Fits F v → decode F (result F operands v) ≡ v
  unfolding result
  decode-result ok nan h = (nan-of-quiet F ok operands).0
  decode-result ok (infinite s) h = decode-encode F ok.0 (infinite s) h
  decode-result ok (finite s a) h = decode-encode F ok.0 (finite s a) h

  pub result-quiet : Proper F → (v : Value) → Fits F v → signalling F (result F operands v) ≡ false
  unfolding result signalling
  result-quiet ok nan h = (nan-of-quiet F ok operands).1
  result-quiet ok (infinite s) h = rw (decode-encode F ok.0 (infinite s) h)
  result-quiet ok (finite s a) h = rw (decode-encode F ok.0 (finite s a) h)

  pub result-width : Proper F → (v : Value) → Fits F v → result F operands v < 2 * sign_bit F
  unfolding result
  result-width ok nan h = (nan-of-quiet F ok operands).2
  result-width ok (infinite s) h = encode-width F ok.0 (infinite s) h
  result-width ok (finite s a) h = encode-width F ok.0 (finite s a) h

  -- other operands give another pattern only where their NaN is another
  pub result-same : (others : List ℕ) → nan_of F operands ≡ nan_of F others → (v : Value) → result F operands v ≡ result F others v
  unfolding result
  result-same others e nan = e
  result-same others e (infinite s) = refl
  result-same others e (finite s a) = refl

  -- and where no operand is NaN, every value is encoded
  pub result-plain : NoneNaN F operands → (v : Value) → result F operands v ≡ encode F v
  unfolding result encode
  result-plain none nan = none-nan F operands none
  result-plain none (infinite s) = refl
  result-plain none (finite s a) = refl

-- ---- a rounded value is one of the format
module _ (F : Format) (x y : Value) where
  pub add-fits : Fits F (add_value F x y)
  unfolding add_value
  add-fits = round-fits ToEven F (finer F (plus x y))

  pub sub-fits : Fits F (sub_value F x y)
  unfolding sub_value add_value
  sub-fits = round-fits ToEven F (finer F (plus x (negate y)))

  pub mul-fits : Fits F (mul_value F x y)
  unfolding mul_value
  mul-fits = round-fits ToEven F (times x y)

  pub fma-fits : (z : Value) → Fits F (fma_value F x y z)
  unfolding fma_value
  fma-fits z = round-fits ToEven F (plus (times x y) (finer F z))

-- ---- of the steps
pub add_step_lem : (x y : ℕ) → add_step x y ≡ result binary32 (x ∷ y ∷ []) (add_value binary32 (decode binary32 x) (decode binary32 y))
unfolding add_step
add_step_lem x y = refl

pub sub-step : (x y : ℕ) → sub_step x y ≡ result binary32 (x ∷ y ∷ []) (sub_value binary32 (decode binary32 x) (decode binary32 y))
unfolding sub_step
sub-step x y = refl

pub mul-step : (x y : ℕ) → mul_step x y ≡ result binary32 (x ∷ y ∷ []) (mul_value binary32 (decode binary32 x) (decode binary32 y))
unfolding mul_step
mul-step x y = refl

pub fma-step : (x y z : ℕ) → fma_step x y z ≡ result binary32 (x ∷ y ∷ z ∷ []) (fma_value binary32 (decode binary32 x) (decode binary32 y) (decode binary32 z))
unfolding fma_step
fma-step x y z = refl

-- a sum of numbers
pub add-plain : (x y : ℕ) → is_nan (decode binary32 x) ≡ false → is_nan (decode binary32 y) ≡ false
    → add_step x y ≡ encode binary32 (add_value binary32 (decode binary32 x) (decode binary32 y))
add-plain x y m n =
    add_step_lem x y ∙ result-plain binary32 (x ∷ y ∷ []) (differs (decode binary32 x) m, (differs (decode binary32 y) n, tt)) (add_value binary32 (decode binary32 x) (decode binary32 y))

-- a product by its exact value
pub mul-once : (x y : ℕ) (v : Value) → times (decode binary32 x) (decode binary32 y) ≡ v → mul_step x y ≡ result binary32 (x ∷ y ∷ []) (round ToEven binary32 v)
unfolding mul_value
mul-once x y v e = mul-step x y ∙ ap (λ (w : Value). result binary32 (x ∷ y ∷ []) (round ToEven binary32 w)) e

pub mul-rounded : (x y : ℕ) (s : Bool) (N : ℕ) → times (decode binary32 x) (decode binary32 y) ≡ finite s N → mul_step x y ≡ encode binary32 (round_finite ToEven binary32 s N)
unfolding round
mul-rounded x y s N e =
    mul-once x y (finite s N) e ∙ result-number binary32 (x ∷ y ∷ []) (round_finite ToEven binary32 s N) (rounded-number ToEven binary32 s N)
