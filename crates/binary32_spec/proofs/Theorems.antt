-- The theorems of `specs/Theorems.antt`.
use mathlib.Core.Path.{◌≡◌, refl, sym, ap, ap₂, ◌∙◌}
use mathlib.Core.Bool.{Bool, false, not, ◌&&◌}
use mathlib.Core.List.{List, [], ◌∷◌}
use Prim.Native.Nat.{ℕ, ◌*◌, ◌^◌}
use native.Mathlib.Nat.{eq_of_mul-eq-mul_right, zero-mul}
use native.Mathlib.Omega.{arith}
use lib.Ieee.{unlike}
use lib.IntN.{ℤ, pos, ◌+ℤ◌, ◌*ℤ◌}
use lib.Pow.{pow_pos}
use Rattle.rounding_spec.specs.declared.Ties.TheVariants.{ToEven}
use Rattle.rounding_spec.specs.Format.{binary32}
use Rattle.rounding_spec.specs.Value.{Value, nan, finite, Fits, decode, signalling, round}
use Rattle.rounding_spec.specs.Theorems.{NoneNaN}
use Rattle.rounding_spec.proofs.NaN.{none-nan}
use Rattle.pattern_spec.specs.Exact.{negate, plus, times, finer, int}
use Rattle.binary32_spec.specs.Steps.{add_value, sub_value, mul_value, fma_value, result, add_step, sub_step, mul_step, fma_step}
use Rattle.binary32_spec.specs.Theorems.{RoundedOnce, AddFinite, SubFinite, MulFinite, FmaFinite, StepNaN, NaNResults, StepQuiet, StepNaNLandmarks, StepInvalid, StepInfinite}
use Rattle.binary32_spec.specs.Theorems.{All}
use Rattle.binary32_spec.specs.Agreement.{AddAgrees, SubAgrees, MulAgrees}
use Rattle.binary32_spec.proofs.Agreement as agreement
pub use Rattle.binary32_spec.proofs.Decoded.{add-decodes, sub-decodes, mul-decodes, fma-decodes}
pub use Rattle.binary32_spec.proofs.MarkTheorems.{add-mark-means, sub-mark-means, mul-mark-means, fma-mark-means, zero-and-overflow, mark-landmarks}
use Rattle.binary32_spec.proofs.Infinities as infinities
use Rattle.pattern_spec.proofs.Integers as integers
use Rattle.binary32_spec.proofs.Result.{result-nan, result-quiet, add-fits, sub-fits, mul-fits, fma-fits, add_step_lem, sub-step, mul-step, fma-step}

-- ---- finite operands
-- a sum in units of u, counted in 2 ^ -298 and rounded
sum-once : (q : ℕ) (s t : Bool) (a b : ℕ) → decode binary32 q ≡ add_value binary32 (finite s a) (finite t b) → RoundedOnce ((int s a +ℤ int t b) *ℤ pos (2 ^ 149)) (s && t) q
unfolding add_value plus finer round
sum-once q s t a b d =
    let e = integers.plus-exact s a t b in (
      e.0,
      e.1 * 2 ^ 149,
      integers.int-scale e.0 e.1 (2 ^ 149) ∙ ap (λ (k : ℤ). k *ℤ pos (2 ^ 149)) e.3,
      λ z. e.4 (eq_of_mul-eq-mul_right (2 ^ 149) (pow_pos 149) e.1 0 (z ∙ sym (zero-mul (2 ^ 149)))),
      d ∙ ap (λ (v : Value). round ToEven binary32 (finer binary32 v)) e.2,
    )

pub add-finite : AddFinite
add-finite x y s t a b p q = sum-once (add_step x y) s t a b (add-decodes x y ∙ ap₂ (add_value binary32) p q)

pub sub-finite : SubFinite
unfolding sub_value negate
sub-finite x y s t a b p q =
    let e = sum-once (sub_step x y) s (not t) a b (sub-decodes x y ∙ ap₂ (sub_value binary32) p q) in
    (e.0, e.1, e.2 ∙ ap (λ (k : ℤ). (int s a +ℤ k) *ℤ pos (2 ^ 149)) (integers.int-not t b), e.3, e.4)

pub mul-finite : MulFinite
unfolding mul_value times round
mul-finite x y s t a b p q = (unlike s t, a * b, integers.times-exact s a t b, λ z. refl, mul-decodes x y ∙ ap₂ (mul_value binary32) p q)

pub fma-finite : FmaFinite
unfolding fma_value times plus finer round
fma-finite x y z s t u a b c p q w =
    let e = integers.plus-exact (unlike s t) (a * b) u (c * 2 ^ 149) in
    let d : decode binary32 (fma_step x y z) ≡ fma_value binary32 (finite s a) (finite t b) (finite u c) = fma-decodes x y z ∙ ap₂ (λ (f g : Value). fma_value binary32 f g (decode binary32 z)) p q
    ∙ ap (fma_value binary32 (finite s a) (finite t b)) w in
    (e.0, e.1, e.3 ∙ ap₂ ◌+ℤ◌ (integers.times-exact s a t b) (integers.int-scale u c (2 ^ 149)), e.4, d ∙ ap (round ToEven binary32) e.2)

-- ---- NaN
pub step-nan : StepNaN
step-nan = infinities.step-nan

-- a NaN q of operands that are not NaN
nan-result : (operands : List ℕ) (q : ℕ) (v : Value) → NoneNaN binary32 operands → q ≡ result binary32 operands v → decode binary32 q ≡ v
    → decode binary32 q ≡ nan → q ≡ 0x7fc0_0000
nan-result operands q v none e d n =
    e ∙ ap (result binary32 operands) (sym d ∙ n) ∙ result-nan binary32 operands ∙ none-nan binary32 operands none

pub nan-results : NaNResults
nan-results = (
  λ x y m n. (
    nan-result (x ∷ y ∷ []) _ (add_value binary32 (decode binary32 x) (decode binary32 y)) (m, (n, tt)) (add_step_lem x y) (add-decodes x y),
    nan-result (x ∷ y ∷ []) _ (sub_value binary32 (decode binary32 x) (decode binary32 y)) (m, (n, tt)) (sub-step x y) (sub-decodes x y),
    nan-result (x ∷ y ∷ []) _ (mul_value binary32 (decode binary32 x) (decode binary32 y)) (m, (n, tt)) (mul-step x y) (mul-decodes x y),
  ),
  λ x y z l m n.
      nan-result (x ∷ y ∷ z ∷ []) _ (fma_value binary32 (decode binary32 x) (decode binary32 y) (decode binary32 z)) (l, (m, (n, tt))) (fma-step x y z) (fma-decodes x y z),
)

pub step-quiet : StepQuiet
step-quiet = (
  λ x y. let u = decode binary32 x in let v = decode binary32 y in (
    quiet (x ∷ y ∷ []) _ (add_step_lem x y) (add-fits binary32 u v),
    quiet (x ∷ y ∷ []) _ (sub-step x y) (sub-fits binary32 u v),
    quiet (x ∷ y ∷ []) _ (mul-step x y) (mul-fits binary32 u v),
  ),
  λ x y z. quiet (x ∷ y ∷ z ∷ []) _ (fma-step x y z) (fma-fits binary32 (decode binary32 x) (decode binary32 y) (decode binary32 z)),
)
  where
    quiet : (operands : List ℕ) (v : Value) {q : ℕ} → q ≡ result binary32 operands v → Fits binary32 v → signalling binary32 q ≡ false
    quiet operands v e fits = ap (signalling binary32) e ∙ result-quiet binary32 operands (omega arith) v fits

pub step-nan-landmarks : StepNaNLandmarks
unfolding add_step sub_step mul_step fma_step
step-nan-landmarks = (refl, refl, refl, refl, refl, refl, refl, refl, refl)

pub step-invalid : StepInvalid
step-invalid = infinities.step-invalid

pub step-infinite : StepInfinite
step-infinite = infinities.step-infinite

pub add-agrees : AddAgrees
add-agrees = agreement.add-agrees

pub sub-agrees : SubAgrees
sub-agrees = agreement.sub-agrees

pub mul-agrees : MulAgrees
mul-agrees = agreement.mul-agrees

-- ---- all of them
pub all : All
all = (
  add-finite,
  sub-finite,
  mul-finite,
  fma-finite,
  step-nan,
  nan-results,
  step-quiet,
  step-nan-landmarks,
  step-invalid,
  step-infinite,
  add-decodes,
  sub-decodes,
  mul-decodes,
  fma-decodes,
  add-agrees,
  sub-agrees,
  mul-agrees,
  add-mark-means,
  sub-mark-means,
  mul-mark-means,
  fma-mark-means,
  zero-and-overflow,
  mark-landmarks,
)
