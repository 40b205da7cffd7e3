-- A sum that is infinite or NaN needs no rounding: it is an operand, or the operands' NaN.
use mathlib.Core.Path.{◌≡◌, refl, sym, ap, ◌∙◌}
use mathlib.Core.Logic.{inl, inr}
use mathlib.Core.Bool.{Bool, true, false, ◌&&◌, ◌||◌, or-false, true≢false}
use mathlib.Core.List.{[], ◌∷◌}
use Prim.Native.Nat.{ℕ, ◌*◌, ◌<◌}
use borrow.Author.Tests.{eq-eqb, eqb-true}
use lib.Dec.{eqb}
use Rattle.rounding_spec.specs.Format.{binary32, sign_bit, infinity}
use Rattle.rounding_spec.specs.Value.{Value, nan, infinite, finite, decode, is_nan, is_finite, is_infinite, encode, signed, nan_of}
use Rattle.rounding_spec.proofs.Codec.{encode-decode}
use Rattle.rounding_spec.proofs.NaN.{differs, none-nan}
use Rattle.pattern_spec.specs.Exact.{plus, finer}
use Rattle.pattern_spec.proofs.Finiteness.{finer-finite, plus-finite}
use Rattle.pattern_spec.proofs.Sums.{like?, like-eq, unlike-eq}
use Rattle.binary32_spec.specs.Steps.{add_step}
use Rattle.binary32_spec.proofs.Infinities.{left-nan, right-nan, step-infinite, step-invalid}

-- an infinity's pattern
infinite-pattern : (x : ℕ) (s : Bool) → x < 2 * sign_bit binary32 → decode binary32 x ≡ infinite s → signed binary32 s (infinity binary32) ≡ x
unfolding encode
infinite-pattern x s w e = ap (encode binary32) (sym e) ∙ encode-decode binary32 x w (differs (decode binary32 x) (ap is_nan e))

either : (b : Bool) → b || true ≡ true
either true = refl
either false = refl

module _ (x y : ℕ) (wx : x < 2 * sign_bit binary32) (wy : y < 2 * sign_bit binary32) where
  -- as the code asks: x is infinite, and y is finite or the same; y is infinite, and x is finite
  abbrev takes_first : Value → Value → Bool
  takes_first v w = is_infinite v && (eqb x y || is_finite w)

  abbrev takes_second : Value → Value → Bool
  takes_second v w = is_infinite w && is_finite v

  abbrev pub Sum : Value → Value → Type 0
  Sum v w =
      (takes_first v w ≡ true → x ≡ add_step x y) × (takes_second v w ≡ true → y ≡ add_step x y)
      × (takes_first v w ≡ false → takes_second v w ≡ false → nan_of binary32 (x ∷ y ∷ []) ≡ add_step x y)

  by_values : (v w : Value) → decode binary32 x ≡ v → decode binary32 y ≡ w → is_finite v && is_finite w ≡ false → Sum v w
  by_values nan w e f n = (λ h. absurd (true≢false (sym h)), λ h. never w h, λ h k. sym (left-nan x y e).0)
    where
      never : (u : Value) {A : Type 0} → is_infinite u && false ≡ true → A
      never nan h = absurd (true≢false (sym h))
      never (infinite s) h = absurd (true≢false (sym h))
      never (finite s a) h = absurd (true≢false (sym h))
  by_values (infinite s) nan e f n = (
    λ h. let q = eqb-true x y (sym (or-false (eqb x y)) ∙ h) in absurd (true≢false (sym (ap is_nan f) ∙ ap (λ (k : ℕ). is_nan (decode binary32 k)) (sym q) ∙ ap is_nan e)),
    λ h. absurd (true≢false (sym h)),
    λ h k. sym (right-nan x y f).0,
  )
  by_values (infinite s) (infinite t) e f n = (
    λ h.
        let q = eqb-true x y (sym (or-false (eqb x y)) ∙ h) in
        sym (step-infinite.1 x y s e (ap (decode binary32) (sym q) ∙ e) ∙ infinite-pattern x s wx e),
    λ h. absurd (true≢false (sym h)),
    λ h k. none-nan binary32 (x ∷ y ∷ []) (differs (decode binary32 x) (ap is_nan e), (differs (decode binary32 y) (ap is_nan f), tt)) ∙ sym (opposite h),
  )
    where
      opposite : eqb x y || false ≡ false → add_step x y ≡ 0x7fc0_0000
      opposite h =
          elim (like? s t) [
            | inl l ↦
                let q : x ≡ y = sym (infinite-pattern x s wx e) ∙ ap (λ (r : Bool). signed binary32 r (infinity binary32)) (like-eq s t l) ∙ infinite-pattern y t wy f in
                absurd (true≢false (sym (ap (λ (b : Bool). b || false) (eq-eqb x y q)) ∙ h))
            | inr u ↦ step-invalid.0 x y s e (f ∙ ap infinite (unlike-eq s t u))
          ]
  by_values (infinite s) (finite t b) e f n = (
    λ h. sym ((step-infinite.0 x y s t b e f).0 ∙ infinite-pattern x s wx e),
    λ h. absurd (true≢false (sym h)),
    λ h k. absurd (true≢false (sym (either (eqb x y)) ∙ h)),
  )
  by_values (finite s a) nan e f n = (λ h. absurd (true≢false (sym h)), λ h. absurd (true≢false (sym h)), λ h k. sym (right-nan x y f).0)
  by_values (finite s a) (infinite t) e f n =
      (λ h. absurd (true≢false (sym h)), λ h. sym ((step-infinite.0 y x t s a f e).1 ∙ infinite-pattern y t wy f), λ h k. absurd (true≢false k))
  by_values (finite s a) (finite t b) e f n = absurd (true≢false n)

  -- the exact sum is not finite, so that not both operands are
  pub unrounded-sum : is_finite (finer binary32 (plus (decode binary32 x) (decode binary32 y))) ≡ false → Sum (decode binary32 x) (decode binary32 y)
  unrounded-sum n =
      let u = decode binary32 x in
      let w = decode binary32 y in
      by_values u w refl refl (sym (finer-finite binary32 (plus u w) ∙ plus-finite u w) ∙ n)
