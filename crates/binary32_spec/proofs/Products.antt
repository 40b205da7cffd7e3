-- The step multiply as the code makes it: by its exact product.
use mathlib.Core.Path.{◌≡◌, refl, sym, ap, ◌∙◌}
use mathlib.Core.Bool.{Bool, false}
use mathlib.Core.List.{[], ◌∷◌}
use Prim.Native.Nat.{ℕ}
use Rattle.rounding_spec.specs.Format.{binary32}
use Rattle.rounding_spec.specs.Value.{Value, nan, infinite, finite, is_finite, encode, nan_of, round}
use Rattle.binary32_spec.specs.declared.Outcome.{Outcome}
use Rattle.binary32_spec.specs.Steps.{result, mul_step}
use Rattle.binary32_spec.specs.Marks.{mark_by, mul_mark}
use Rattle.binary32_spec.specs.Inner.{outcome}
use Rattle.binary32_spec.proofs.Marks.{special-mark, exact_product, mul-mark}
use Rattle.binary32_spec.proofs.Result.{mul-once, mul-rounded}

-- r is what multiplication gives
abbrev pub Multiplies : ℕ → ℕ → Outcome → Type 0
Multiplies x y r = (r.result ≡ mul_step x y) × (r.mark ≡ mul_mark x y)

module _ (x y : ℕ) where
  -- nothing is rounded
  special-product : (v : Value) → exact_product x y ≡ v → is_finite v ≡ false → 2 ≡ mul_mark x y
  special-product v e n = sym (mul-mark x y ∙ special-mark (exact_product x y) (mul_step x y) (ap is_finite e ∙ n))

  pub nan-product : exact_product x y ≡ nan → Multiplies x y (record { result = nan_of binary32 (x ∷ y ∷ []); mark = 2 })
  unfolding result round
  nan-product e = (sym (mul-once x y nan e), special-product nan e refl)

  pub infinite-product : (s : Bool) → exact_product x y ≡ infinite s → Multiplies x y (record { result = encode binary32 (infinite s); mark = 2 })
  unfolding result round
  infinite-product s e = (sym (mul-once x y (infinite s) e), special-product (infinite s) e refl)

  pub finite-product : (s : Bool) (N : ℕ) → exact_product x y ≡ finite s N → Multiplies x y (outcome (finite s N))
  unfolding outcome round
  finite-product s N e =
      let is = mul-rounded x y s N e in
      (sym is, sym (mul-mark x y ∙ ap (λ (v : Value). mark_by (is_finite v) v (mul_step x y)) e ∙ ap (mark_by (is_finite (finite s N)) (finite s N)) is))
