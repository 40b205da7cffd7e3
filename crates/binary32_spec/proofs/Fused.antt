-- The fused step as the code makes it: of a product that is no NaN, only the third operand's NaN is left.
use mathlib.Core.Path.{◌≡◌, refl, sym, ap, ap₂, ◌∙◌}
use mathlib.Core.Bool.{Bool, false, ◌&&◌, true≢false}
use mathlib.Core.List.{[], ◌∷◌}
use Prim.Native.Nat.{ℕ}
use Rattle.rounding_spec.specs.declared.Ties.TheVariants.{ToEven}
use Rattle.rounding_spec.specs.Format.{binary32}
use Rattle.rounding_spec.specs.Value.{Value, nan, infinite, finite, decode, is_nan, is_finite, encode, quieted, nan_of, round}
use Rattle.rounding_spec.proofs.NaN.{differs, nan-first, nan-later}
use Rattle.pattern_spec.specs.Exact.{plus, times, finer}
use Rattle.pattern_spec.proofs.Finiteness.{plus-finite}
use Rattle.binary32_spec.specs.declared.Outcome.{Outcome}
use Rattle.binary32_spec.specs.Steps.{fma_value, result, fma_step}
use Rattle.binary32_spec.specs.Marks.{mark_by, fma_mark}
use Rattle.binary32_spec.specs.Inner.{outcome, outcome_of}
use Rattle.binary32_spec.proofs.Marks.{special-mark, outcome-special, exact_fused, fma-mark}
use Rattle.binary32_spec.proofs.Infinities.{plus-nan, product-nan}
use Rattle.binary32_spec.proofs.Special.{round-infinite-plus, infinite-plus-finer}
use Rattle.binary32_spec.proofs.Result.{result-nan, result-plain, result-same, fma-step}

-- ---- the factors of a product that is no NaN
numbers : (v w : Value) → is_nan (times v w) ≡ false → (is_nan v ≡ false) × (is_nan w ≡ false)
unfolding times
numbers nan w n = absurd (true≢false n)
numbers (infinite s) nan n = absurd (true≢false n)
numbers (infinite s) (infinite t) n = (refl, refl)
numbers (infinite s) (finite t b) n = (refl, refl)
numbers (finite s a) nan n = absurd (true≢false n)
numbers (finite s a) (infinite t) n = (refl, refl)
numbers (finite s a) (finite t b) n = (refl, refl)

-- ---- r is what the fused step gives
abbrev pub Fuses : ℕ → ℕ → ℕ → Outcome → Type 0
Fuses x y z r = (r.result ≡ fma_step x y z) × (r.mark ≡ fma_mark x y z)

module _ (x y z : ℕ) where
  pub fused-number : (p : Value) → times (decode binary32 x) (decode binary32 y) ≡ p → is_nan p ≡ false
      → Fuses x y z (outcome_of (z ∷ []) (plus p (finer binary32 (decode binary32 z))))
  unfolding outcome_of fma_value
  fused-number p e n =
      let k = numbers (decode binary32 x) (decode binary32 y) (ap is_nan e ∙ n) in
      let same = nan-later binary32 x (y ∷ z ∷ []) k.0 ∙ nan-later binary32 y (z ∷ []) k.1 in
      let is : result binary32 (z ∷ []) (round ToEven binary32 (exact_fused x y z)) ≡ fma_step x y z =
      sym (fma-step x y z ∙ result-same binary32 (x ∷ y ∷ z ∷ []) (z ∷ []) same (round ToEven binary32 (exact_fused x y z))) in
      rw (← e) (is, ap (mark_by (is_finite (exact_fused x y z)) (exact_fused x y z)) is ∙ sym (fma-mark x y z))

  -- a product that is NaN or infinite: nothing is rounded
  special-fused : (p : Value) → times (decode binary32 x) (decode binary32 y) ≡ p → is_finite p ≡ false → 2 ≡ fma_mark x y z
  special-fused p e n =
      let none : is_finite (exact_fused x y z) ≡ false =
      plus-finite (times (decode binary32 x) (decode binary32 y)) (finer binary32 (decode binary32 z)) ∙ ap (λ (v : Value). is_finite v && is_finite (finer binary32 (decode binary32 z))) e
      ∙ ap (λ (b : Bool). b && is_finite (finer binary32 (decode binary32 z))) n in
      sym (fma-mark x y z ∙ special-mark (exact_fused x y z) (fma_step x y z) none)

  pub fused-infinite : (s : Bool) → times (decode binary32 x) (decode binary32 y) ≡ infinite s
      → Fuses x y z (record { result = result binary32 (z ∷ []) (plus (infinite s) (decode binary32 z)); mark = 2 })
  unfolding outcome_of
  fused-infinite s e =
      let z' = decode binary32 z in (
        ap (result binary32 (z ∷ [])) (sym (round-infinite-plus binary32 s ToEven (finer binary32 z') ∙ infinite-plus-finer binary32 s z')) ∙ (fused-number (infinite s) e refl).0,
        special-fused (infinite s) e refl,
      )

  pub fused-nan : times (decode binary32 x) (decode binary32 y) ≡ nan → Fuses x y z (record { result = nan_of binary32 (x ∷ y ∷ z ∷ []); mark = 2 })
  fused-nan e = (sym (product-nan x y z e), special-fused nan e refl)

-- ---- a third operand
module _ (z : ℕ) where
  -- it is NaN
  pub third-nan : decode binary32 z ≡ nan → (v : Value) → v ≡ nan → quieted binary32 z ≡ result binary32 (z ∷ []) v
  third-nan e v n = sym (ap (result binary32 (z ∷ [])) n ∙ result-nan binary32 (z ∷ []) ∙ nan-first binary32 z [] (ap is_nan e))

  -- or none
  pub third-number : is_nan (decode binary32 z) ≡ false → (v : Value) → encode binary32 v ≡ result binary32 (z ∷ []) v
  third-number n v = sym (result-plain binary32 (z ∷ []) (differs (decode binary32 z) n, tt) v)

  pub outcome-number : is_nan (decode binary32 z) ≡ false → (v : Value) → outcome v ≡ outcome_of (z ∷ []) v
  unfolding outcome outcome_of
  outcome-number n v = ap (λ (r : ℕ). record { result = r; mark = mark_by (is_finite v) v r }) (third-number n (round ToEven binary32 v))

  -- after a finite product, NaN or infinite
  pub outcome-nan : (p : Value) → decode binary32 z ≡ nan → record { result = quieted binary32 z; mark = 2 } ≡ outcome_of (z ∷ []) (plus p (finer binary32 (decode binary32 z)))
  unfolding outcome_of round finer
  outcome-nan p e =
      let is : plus p (finer binary32 (decode binary32 z)) ≡ nan = ap (λ (v : Value). plus p (finer binary32 v)) e ∙ plus-nan p in
      rw is (ap₂ (λ (r m : ℕ). record { result = r; mark = m }) (third-nan e nan refl) (sym (special-mark nan (result binary32 (z ∷ []) nan) refl)))

  pub outcome-infinite : (s t : Bool) (N : ℕ) → decode binary32 z ≡ infinite t
      → record { result = encode binary32 (infinite t); mark = 2 } ≡ outcome_of (z ∷ []) (plus (finite s N) (finer binary32 (decode binary32 z)))
  unfolding plus finer
  outcome-infinite s t N e =
      sym (outcome-special (infinite t) refl)
      ∙ ap (λ (v : Value). outcome (plus (finite s N) (finer binary32 v))) (sym e)
      ∙ outcome-number (ap is_nan e) (plus (finite s N) (finer binary32 (decode binary32 z)))
