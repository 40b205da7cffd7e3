-- Steps with NaN and infinities: the pattern that they give.
use mathlib.Core.Path.{◌≡◌, refl, sym, ap, ap₂, ◌∙◌}
use mathlib.Core.Logic.{◌≢◌, inl, inr}
use mathlib.Core.Bool.{Bool, true, false, not}
use mathlib.Core.List.{List, [], ◌∷◌}
use Prim.Native.Nat.{ℕ}
use native.Mathlib.Omega.{arith}
use borrow.Author.Tests.{ne_eqb}
use lib.Ieee.{unlike}
use Rattle.rounding_spec.specs.declared.Ties.TheVariants.{ToEven}
use Rattle.rounding_spec.specs.Format.{binary32}
use Rattle.rounding_spec.specs.Value.{Value, nan, infinite, finite, decode, is_nan, encode, nan_of, round}
use Rattle.rounding_spec.proofs.NaN.{differs, number, nan-first, nan-later, none-nan}
use Rattle.pattern_spec.specs.Exact.{negate, plus, times, finer}
use Rattle.binary32_spec.specs.Steps.{add_value, sub_value, fma_value, result, add_step, sub_step, mul_step, fma_step}
use Rattle.binary32_spec.specs.Theorems.{InfiniteFactors, StepNaN, StepInvalid, StepInfinite}
use Rattle.binary32_spec.proofs.Result.{add_step_lem, sub-step, mul-once, fma-step}

-- ---- sums and products of values
pub plus-nan : (v : Value) → plus v nan ≡ nan
unfolding plus
plus-nan nan = refl
plus-nan (infinite s) = refl
plus-nan (finite s a) = refl

times-nan : (v : Value) → times v nan ≡ nan
unfolding times
times-nan nan = refl
times-nan (infinite s) = refl
times-nan (finite s a) = refl

plus-like : (s : Bool) → plus (infinite s) (infinite s) ≡ infinite s
unfolding plus
plus-like true = refl
plus-like false = refl

plus-opposite : (s : Bool) → plus (infinite s) (infinite (not s)) ≡ nan
unfolding plus
plus-opposite true = refl
plus-opposite false = refl

not-not : (s : Bool) → not (not s) ≡ s
not-not true = refl
not-not false = refl

times-infinite : (x : ℕ) (s : Bool) (y : ℕ) (t : Bool) → InfiniteFactors x s y t → times (decode binary32 x) (decode binary32 y) ≡ infinite (unlike s t)
unfolding times
times-infinite x s y t f =
    elim f [
      | inl h ↦ ap₂ times h.0 h.1
      | inr o ↦ elim o [
        | inl h ↦ ap₂ times h.2 h.3 ∙ rw (ne_eqb h.0 0 (λ (e : h.0 ≡ 0). omega (arith, h.1)))
        | inr h ↦ ap₂ times h.2 h.3 ∙ rw (ne_eqb h.0 0 (λ (e : h.0 ≡ 0). omega (arith, h.1)))
      ]
    ]

-- ---- a step whose exact result is NaN or infinite is not rounded
-- the pattern of the exact result v of operands
abbrev once : List ℕ → Value → ℕ
once operands v = result binary32 operands (round ToEven binary32 v)

module _ (x y : ℕ) (u v w : Value) (p : decode binary32 x ≡ u) (q : decode binary32 y ≡ v) where
  add-gives : finer binary32 (plus u v) ≡ w → add_step x y ≡ once (x ∷ y ∷ []) w
  unfolding add_value
  add-gives e = add_step_lem x y ∙ ap (result binary32 (x ∷ y ∷ [])) (ap₂ (add_value binary32) p q) ∙ ap (once (x ∷ y ∷ [])) e

  sub-gives : finer binary32 (plus u (negate v)) ≡ w → sub_step x y ≡ once (x ∷ y ∷ []) w
  unfolding sub_value add_value
  sub-gives e = sub-step x y ∙ ap (result binary32 (x ∷ y ∷ [])) (ap₂ (sub_value binary32) p q) ∙ ap (once (x ∷ y ∷ [])) e

  mul-gives : times u v ≡ w → mul_step x y ≡ once (x ∷ y ∷ []) w
  mul-gives e = mul-once x y w (ap₂ times p q ∙ e)

fma-gives : (x y z : ℕ) (u v w : Value) → times (decode binary32 x) (decode binary32 y) ≡ u → decode binary32 z ≡ v → plus u (finer binary32 v) ≡ w
    → fma_step x y z ≡ once (x ∷ y ∷ z ∷ []) w
unfolding fma_value
fma-gives x y z u v w p q e = fma-step x y z ∙ ap (once (x ∷ y ∷ z ∷ [])) (ap₂ (λ (a b : Value). plus a (finer binary32 b)) p q ∙ e)

-- ---- a NaN operand
-- of two, each in the other's company
abbrev AllGive : ℕ → ℕ → ℕ → Type 0
AllGive x y r = (add_step x y ≡ r) × (sub_step x y ≡ r) × (mul_step x y ≡ r)

pub left-nan : (x y : ℕ) → decode binary32 x ≡ nan → AllGive x y (nan_of binary32 (x ∷ y ∷ []))
unfolding result round finer plus times
left-nan x y e =
    let v = decode binary32 y in
    (add-gives x y nan v nan e refl refl, sub-gives x y nan v nan e refl refl, mul-gives x y nan v nan e refl refl)

pub right-nan : (x y : ℕ) → decode binary32 y ≡ nan → AllGive x y (nan_of binary32 (x ∷ y ∷ []))
unfolding result round finer negate
right-nan x y e =
    let u = decode binary32 x in (
      add-gives x y u nan nan refl e (ap (finer binary32) (plus-nan u)),
      sub-gives x y u nan nan refl e (ap (finer binary32) (plus-nan u)),
      mul-gives x y u nan nan refl e (times-nan u),
    )

-- a NaN product, or a NaN third operand
pub product-nan : (x y z : ℕ) → times (decode binary32 x) (decode binary32 y) ≡ nan → fma_step x y z ≡ nan_of binary32 (x ∷ y ∷ z ∷ [])
unfolding result round plus
product-nan x y z e = fma-gives x y z nan (decode binary32 z) nan e refl refl

third-nan : (x y z : ℕ) → decode binary32 z ≡ nan → fma_step x y z ≡ nan_of binary32 (x ∷ y ∷ z ∷ [])
unfolding result round finer
third-nan x y z e =
    let p = times (decode binary32 x) (decode binary32 y) in fma-gives x y z p nan nan refl e (plus-nan p)

-- which NaN that is
all_give : (x y : ℕ) {r q : ℕ} → r ≡ q → AllGive x y r → AllGive x y q
all_give x y e g = (g.0 ∙ e, g.1 ∙ e, g.2 ∙ e)

pub step-nan : StepNaN
unfolding times
step-nan = (
  λ x y e. all_give x y (nan-first binary32 x (y ∷ []) (ap is_nan e)) (left-nan x y e),
  λ x y n e. all_give x y (later x n (y ∷ []) ∙ nan-first binary32 y [] (ap is_nan e)) (right-nan x y e),
  λ x y z e. product-nan x y z (ap (λ (u : Value). times u (decode binary32 y)) e) ∙ nan-first binary32 x (y ∷ z ∷ []) (ap is_nan e),
  λ x y z n e.
      product-nan x y z (ap (times (decode binary32 x)) e ∙ times-nan (decode binary32 x)) ∙ later x n (y ∷ z ∷ []) ∙ nan-first binary32 y (z ∷ []) (ap is_nan e),
  λ x y z m n e. third-nan x y z e ∙ later x m (y ∷ z ∷ []) ∙ later y n (z ∷ []) ∙ nan-first binary32 z [] (ap is_nan e),
)
  where
    later : (x : ℕ) → decode binary32 x ≢ nan → (xs : List ℕ) → nan_of binary32 (x ∷ xs) ≡ nan_of binary32 xs
    later x n xs = nan-later binary32 x xs (number (decode binary32 x) n)

-- ---- NaN from operands that are not NaN
no_nan : (x : ℕ) {v : Value} → decode binary32 x ≡ v → is_nan v ≡ false → decode binary32 x ≢ nan
no_nan x {v} e n h = differs v n (sym e ∙ h)

none_of_two : (x y : ℕ) {u v : Value} → decode binary32 x ≡ u → decode binary32 y ≡ v → is_nan u ≡ false → is_nan v ≡ false → nan_of binary32 (x ∷ y ∷ []) ≡ 0x7fc0_0000
none_of_two x y p q m n = none-nan binary32 (x ∷ y ∷ []) (no_nan x p m, (no_nan y q n, tt))

pub step-invalid : StepInvalid
unfolding result round finer plus times negate
step-invalid = (
  λ x y s p q. add-gives x y (infinite s) (infinite (not s)) nan p q (ap (finer binary32) (plus-opposite s)) ∙ none_of_two x y p q refl refl,
  λ x y s p q. sub-gives x y (infinite s) (infinite s) nan p q (ap (finer binary32) (plus-opposite s)) ∙ none_of_two x y p q refl refl,
  λ x y s t p q. (
    mul-gives x y (finite s 0) (infinite t) nan p q refl ∙ none_of_two x y p q refl refl,
    mul-gives y x (infinite t) (finite s 0) nan q p refl ∙ none_of_two y x q p refl refl,
  ),
  λ x y z s t p q n. (
    product-nan x y z (ap₂ times p q) ∙ none-nan binary32 (x ∷ y ∷ z ∷ []) (no_nan x p refl, (no_nan y q refl, (n, tt))),
    product-nan y x z (ap₂ times q p) ∙ none-nan binary32 (y ∷ x ∷ z ∷ []) (no_nan y q refl, (no_nan x p refl, (n, tt))),
  ),
  λ x y z s t f q.
      fma-gives x y z (infinite (unlike s t)) (infinite (not (unlike s t))) nan (times-infinite x s y t f) q (plus-opposite (unlike s t))
      ∙ none-nan binary32 (x ∷ y ∷ z ∷ []) ((factor-numbers x s y t f).0, ((factor-numbers x s y t f).1, (no_nan z q refl, tt))),
)
  where
    factor-numbers : (x : ℕ) (s : Bool) (y : ℕ) (t : Bool) → InfiniteFactors x s y t → (decode binary32 x ≢ nan) × (decode binary32 y ≢ nan)
    factor-numbers x s y t (inl h) = (no_nan x h.0 refl, no_nan y h.1 refl)
    factor-numbers x s y t (inr (inl h)) = (no_nan x h.2 refl, no_nan y h.3 refl)
    factor-numbers x s y t (inr (inr h)) = (no_nan x h.2 refl, no_nan y h.3 refl)

-- ---- an infinite result
pub step-infinite : StepInfinite
unfolding result encode round finer plus times negate
step-infinite = (
  λ x y s t b p q. (
    add-gives x y (infinite s) (finite t b) (infinite s) p q refl,
    add-gives y x (finite t b) (infinite s) (infinite s) q p refl,
    sub-gives x y (infinite s) (finite t b) (infinite s) p q refl,
    sub-gives y x (finite t b) (infinite s) (infinite (not s)) q p refl,
  ),
  λ x y s p q. add-gives x y (infinite s) (infinite s) (infinite s) p q (ap (finer binary32) (plus-like s)),
  λ x y s p q. sub-gives x y (infinite s) (infinite (not s)) (infinite s) p q (ap (λ (r : Bool). finer binary32 (plus (infinite s) (infinite r))) (not-not s) ∙ ap (finer binary32) (plus-like s)),
  λ x y s t f. mul-gives x y (decode binary32 x) (decode binary32 y) (infinite (unlike s t)) refl refl (times-infinite x s y t f),
  λ x y z s t u c f q. fma-gives x y z (infinite (unlike s t)) (finite u c) (infinite (unlike s t)) (times-infinite x s y t f) q refl,
  λ x y z s t f q. fma-gives x y z (infinite (unlike s t)) (infinite (unlike s t)) (infinite (unlike s t)) (times-infinite x s y t f) q (plus-like (unlike s t)),
  λ x y z s t u a b p q w. fma-gives x y z (times (finite s a) (finite t b)) (infinite u) (infinite u) (ap₂ times p q) w refl,
)
