-- The product's sheet, all branches together: its foot is the pair of the exact product, for all patterns.
use mathlib.Core.Path.{◌≡◌, refl, sym, ap, ap₂, ◌∙◌, subst}
use mathlib.Core.Logic.{inl, inr}
use mathlib.Core.Bool.{Bool, true, false, ◌&&◌}
use mathlib.Core.List.{[], ◌∷◌}
use Prim.Native.Nat.{ℕ, ◌*◌, ◌^◌, ◌<◌}
use native.Mathlib.Nat.{eq-zero-or-pos}
use native.Mathlib.Decide.{dec_le}
use native.Mathlib.Omega.{arith}
use lib.Ieee.{unlike}
use Rattle.rounding_spec.specs.declared.Ties.TheVariants.{ToEven}
use Rattle.rounding_spec.specs.Format.{binary32, limit}
use Rattle.rounding_spec.specs.Nearest.{Rep}
use Rattle.rounding_spec.specs.Value.{Value, nan, infinite, finite, is_nan, nan_of, encode, is_finite}
use Rattle.rounding_spec.proofs.RoundValue.{round-above}
use Rattle.pattern_spec.specs.Exact.{times}
use Rattle.binary32_spec.specs.Steps.{mul_value, result, mul_step, fma_step}
use Rattle.binary32_spec.proofs.Theorems.{mul-decodes}
use Rattle.binary32_spec.proofs.Result.{result-number, result-nan, mul-step}
use Rattle.errorfree_spec.proofs.Steps.{to_even}
use Rattle.worksheet_spec.specs.Constants.{half}
use Rattle.worksheet_spec.specs.declared.Step.TheVariants.{Multiply as multiply}
use Rattle.worksheet_spec.specs.Lines.{line, Sheet, before, ends, value, minus}
use Rattle.worksheet_spec.specs.declared.Branch.{Branch}
use Rattle.worksheet_spec.specs.Sheets.{infinite_product, branch_of, product_by, product_sheet}
use Rattle.worksheet_spec.proofs.Patterns.{number_at}
use Rattle.worksheet_spec.proofs.Foots.{Foots, foots-infinite}
use Rattle.worksheet_spec.proofs.Blocks.{edge_none}
use Rattle.errorfree_spec.proofs.NoNumber.{not-both, one_of, both_of, product-none, mul_left, mul_right, mul-kept}
use Rattle.worksheet_spec.proofs.Branches.{branch-zero, branch-tiny, branch-middle, branch-other}
use Rattle.worksheet_spec.proofs.Products.{p-value, pi, infinite-foot, zero-foot, tiny-foot, middle-foot, other-foot}

-- ---- finite operands: by the magnitude of a
module _ (x y : ℕ) (s t : Bool) (a b : ℕ) (xi : value x ≡ finite s a) (yi : value y ≡ finite t b) (xr : Rep 24 0 a) (yr : Rep 24 0 b) (xb : a < limit binary32) (yb : b < limit binary32) where
  abbrev r : Bool
  r = unlike s t

  abbrev p : ℕ
  p = mul_step x y

  abbrev A : ℕ
  A = to_even binary32 (a * b)

  abbrev Ends : Branch → Type 0
  Ends k = Foots (finite r (a * b)) (product_by k x y p)

  fine-foot : A < limit binary32 → Ends (branch_of (finite r A))
  unfolding product_by
  fine-foot fine = elim (eq-zero-or-pos A) [
    | inl z ↦ subst Ends (sym (branch-zero r A z)) (zero-foot x y s t a b xi yi xr yr xb yb fine z)
    | inr h ↦ elim (dec_le (2 ^ 24) A) [
      | no low ↦ let k : A < 2 ^ 24 = omega arith in subst Ends (sym (branch-tiny r A h k)) (tiny-foot x y s t a b xi yi xr yr xb yb fine h k)
      | yes high ↦ elim (dec_le A (2 ^ 47)) [
        | yes k ↦ subst Ends (sym (branch-middle r A high k)) (middle-foot x y s t a b xi yi xr yr xb yb fine high k)
        | no over ↦ let k : 2 ^ 47 < A = omega arith in subst Ends (sym (branch-other r A k)) (other-foot x y s t a b xi yi xr yr xb yb fine k)
      ]
    ]
  ]

  finite-foot : Ends (branch_of (value p))
  unfolding branch_of product_by
  finite-foot = elim (dec_le (limit binary32) A) [
    | yes over ↦ rw (p-value x y s t a b xi yi xr yr xb yb ∙ round-above ToEven binary32 r (a * b) over) (infinite-foot x y s t a b xi yi xr yr xb yb over)
    | no fine ↦ let f : A < limit binary32 = omega arith in rw (pi x y s t a b xi yi xr yr xb yb f) (fine-foot f)
  ]

-- ---- infinities
module _ (x y : ℕ) where
  infinity-foot : (s : Bool) → times (value x) (value y) ≡ infinite s → is_finite (value x) && is_finite (value y) ≡ false → Foots (infinite s) (infinite_product x y (mul_step x y))
  unfolding infinite_product
  infinity-foot s e n =
      let p = mul_step x y in
      let h = mul_step half x in
      let a' = mul_step h y in
      let none : is_finite (value a') ≡ false =
      ap is_finite (mul-decodes h y)
      ∙ elim (one_of (is_finite (value x)) (is_finite (value y)) n)
      [ inl m ↦ mul_left binary32 (value h) (value y) (ap is_finite (mul-decodes half x) ∙ mul_right binary32 (value half) (value x) m) | inr m ↦ mul_right binary32 (value h) (value y) m ]
      in
      let q = edge_none p a' (fma_step h y (minus a')) none in
      let k = mul-kept binary32 (value x) (value y) (infinite s) e refl in
      let pe : p ≡ encode binary32 (infinite s) = mul-step x y ∙ ap (result binary32 (x ∷ y ∷ [])) k ∙ result-number binary32 (x ∷ y ∷ []) (infinite s) refl in
      foots-infinite s (infinite_product x y p) (q.0 ∙ pe) (q.1 ∙ pe)

  -- an operand is infinite
  none-foot : is_finite (value x) && is_finite (value y) ≡ false → is_nan (times (value x) (value y)) ≡ false
      → Foots (times (value x) (value y)) (product_by (branch_of (value (mul_step x y))) x y (mul_step x y))
  unfolding branch_of product_by
  none-foot n m = by (times (value x) (value y)) refl (product-none (value x) (value y) n) m
    where
      by : (v : Value) → times (value x) (value y) ≡ v → is_finite v ≡ false → is_nan v ≡ false → Foots v (product_by (branch_of (value (mul_step x y))) x y (mul_step x y))
      by nan e f m = not-both m
      by (infinite s) e f m = rw (mul-decodes x y ∙ mul-kept binary32 (value x) (value y) (infinite s) e refl) (infinity-foot s e n)
      by (finite s k) e f m = not-both f

-- ---- all numbers
pub product-foot : (x y : ℕ) → is_nan (times (value x) (value y)) ≡ false → Foots (times (value x) (value y)) (product_sheet x y)
unfolding product_sheet times
product-foot x y m = by (is_finite (value x) && is_finite (value y)) refl
  where
    by : (c : Bool) → is_finite (value x) && is_finite (value y) ≡ c → Foots (times (value x) (value y)) (product_sheet x y)
    by false n = none-foot x y n m
    by true n =
        let h = both_of (is_finite (value x)) (is_finite (value y)) n in
        let u = number_at x h.0 in
        let w = number_at y h.1 in
        subst (λ (v : Value). Foots v (product_sheet x y)) (sym (ap₂ times u.2 w.2)) (finite-foot x y u.0 w.0 u.1 w.1 u.2 w.2 u.3 w.3 u.4 w.4)

-- ---- NaN: the sheet is one line, whose result stands twice
pub product-ends : (x y : ℕ) → value (mul_step x y) ≡ nan
    → product_sheet x y ≡ before (line multiply x y (mul_step x y) ∷ []) (ends (mul_step x y) (mul_step x y))
unfolding product_sheet branch_of product_by
product-ends x y e = ap (λ (v : Value). before (line multiply x y (mul_step x y) ∷ []) (product_by (branch_of v) x y (mul_step x y))) e

pub product-nan : (x y : ℕ) → times (value x) (value y) ≡ nan
    → ((product_sheet x y).first ≡ nan_of binary32 (x ∷ y ∷ [])) × ((product_sheet x y).second ≡ nan_of binary32 (x ∷ y ∷ []))
product-nan x y e = (ap (λ (s : Sheet). s.first) same ∙ is, ap (λ (s : Sheet). s.second) same ∙ is)
  where
    k : mul_value binary32 (value x) (value y) ≡ nan
    k = mul-kept binary32 (value x) (value y) nan e refl

    is : mul_step x y ≡ nan_of binary32 (x ∷ y ∷ [])
    is = mul-step x y ∙ ap (result binary32 (x ∷ y ∷ [])) k ∙ result-nan binary32 (x ∷ y ∷ [])

    same : product_sheet x y ≡ before (line multiply x y (mul_step x y) ∷ []) (ends (mul_step x y) (mul_step x y))
    same = product-ends x y (mul-decodes x y ∙ k)
