-- The lines of a product's sheet, where finite operands overflow.
use mathlib.Core.Path.{◌≡◌, refl, sym, ap, ap₂, ◌∙◌, subst}
use mathlib.Core.Bool.{Bool, true, false, cond, ◌&&◌, and-false}
use mathlib.Core.List.{[], ◌∷◌}
use Prim.Native.Nat.{ℕ, ◌*◌, ◌^◌, ◌≤◌, ◌<◌}
use native.Mathlib.Decide.{dec_le}
use native.Mathlib.Omega.{arith}
use lib.Ieee.{unlike}
use Rattle.rounding_spec.specs.declared.Ties.TheVariants.{ToEven}
use Rattle.rounding_spec.specs.Format.{binary32, low, limit}
use Rattle.rounding_spec.specs.Nearest.{Rep}
use Rattle.rounding_spec.specs.Value.{Value, finite, is_finite, is_infinite}
use Rattle.rounding_spec.proofs.RoundValue.{round-above}
use Rattle.binary32_spec.specs.Steps.{mul_step, fma_step}
use Rattle.binary32_spec.specs.Marks.{mul_mark, fma_mark}
use Rattle.errorfree_spec.proofs.Halved as halved
use Rattle.errorfree_spec.proofs.NoNumber.{both_of, negate-none}
use Rattle.errorfree_spec.proofs.Steps.{to_even, over-of}
use Rattle.worksheet_spec.specs.Constants.{half}
use Rattle.worksheet_spec.specs.Lines.{value, minus, is_zero_pattern}
use Rattle.worksheet_spec.specs.declared.Branch.TheVariants.{Infinite as when_infinite}
use Rattle.worksheet_spec.specs.Sheets.{infinite_product, branch_of, product_by, sheet_of}
use Rattle.worksheet_spec.proofs.Entries.{◌&◌}
use Rattle.worksheet_spec.proofs.FiniteProduct.{Factors}
use Rattle.worksheet_spec.proofs.Patterns.{mul-width, minus-value, number_at}
use Rattle.worksheet_spec.proofs.Products.{p-value}
use Rattle.worksheet_spec.proofs.ProductSteps.{sheet-by}
use Rattle.worksheet_marks.specs.Tables.{exact, rounded, special, exact_where, MarkTable}
use Rattle.worksheet_marks.specs.Theorems.{OverflowingProduct}
use Rattle.worksheet_marks.proofs.Exactness.{mul-overflowed, fma-special}
use Rattle.worksheet_marks.proofs.Powers.{half-exact}
use Rattle.worksheet_marks.proofs.Edge.{edge-table}
use Rattle.worksheet_marks.proofs.Overflows.{infinite-of}
use Rattle.worksheet_marks.proofs.Products.{p-is, product-mark, rest-exact}

module _ (x y : ℕ) (s t : Bool) (a b : ℕ) (xi : value x ≡ finite s a) (yi : value y ≡ finite t b) (xr : Rep 24 0 a) (yr : Rep 24 0 b) (xb : a < limit binary32) (yb : b < limit binary32)
    (over : limit binary32 ≤ to_even binary32 (a * b)) where
  abbrev h : ℕ
  h = mul_step half x

  abbrev a' : ℕ
  a' = mul_step h y

  abbrev b' : ℕ
  b' = fma_step h y (minus a')

  -- half of x
  abbrev H : ℕ
  H = halved.H binary32 (omega arith) (omega arith) a b xr yr xb yb over

  H-is : a ≡ 2 * H
  H-is = halved.H-is binary32 (omega arith) (omega arith) a b xr yr xb yb over

  H-rep : Rep 24 0 H
  H-rep = halved.H-rep binary32 (omega arith) (omega arith) a b xr yr xb yb over

  H-fine : H < limit binary32
  H-fine = less a H (limit binary32) H-is xb
    where
      less : (i j W : ℕ) → i ≡ 2 * j → i < W → j < W
      less i j W e k = omega arith

  least : 2 ^ 47 * 2 ^ low binary32 ≤ H * b
  least = halved.big-half binary32 (omega arith) (omega arith) a b xr yr xb yb over

  h-exact : (value h ≡ finite s H) × (mul_mark half x ≡ 0)
  h-exact = half-exact x s a H xi H-is H-rep H-fine

  -- a' is finite, or overflows too
  finite-half : to_even binary32 (H * b) < limit binary32 → (is_finite (value a') ≡ true) × (mul_mark h y ≡ cond (is_zero_pattern b') 0 1) × (fma_mark h y (minus a') ≡ 0)
  finite-half fine =
      let o : Factors h y (to_even binary32 (H * b)) =
      record { s = s; t = t; a = H; b = b; xi = h-exact.0; yi = yi; xr = H-rep; yr = yr; xb = H-fine; yb = yb; fine = fine; is = refl } in
      (ap is_finite (p-is h y (to_even binary32 (H * b)) o), product-mark h y (to_even binary32 (H * b)) o least, rest-exact h y (to_even binary32 (H * b)) o least)

  infinite-half : limit binary32 ≤ to_even binary32 (H * b) → (is_finite (value a') ≡ false) × (mul_mark h y ≡ 1) × (fma_mark h y (minus a') ≡ 2)
  infinite-half g =
      let e = p-value h y s t H b h-exact.0 yi H-rep yr H-fine yb ∙ round-above ToEven binary32 (unlike s t) (H * b) g in
      let n : is_finite (value (minus a')) ≡ false = ap is_finite (minus-value a' (mul-width h y)) ∙ negate-none (value a') (ap is_finite e) in (
        ap is_finite e,
        mul-overflowed h y (ap₂ (λ (v w : Value). is_finite v && is_finite w) h-exact.0 yi) (ap is_infinite e),
        fma-special h y (minus a') (ap₂ (λ (i j : Bool). is_finite (value h) && (i && j)) (ap is_finite yi) n ∙ and-false (is_finite (value h))),
      )

  abbrev Behind : Bool → Type 0
  Behind c = MarkTable (exact ∷ cond c (exact_where (is_zero_pattern b')) rounded ∷ cond c exact special ∷ []) (infinite_product x y (mul_step x y)).lines

  infinite-table : Behind (is_finite (value a'))
  unfolding infinite_product
  infinite-table =
      elim (dec_le (limit binary32) (to_even binary32 (H * b))) [
        | yes g ↦ let k = infinite-half g in subst Behind (sym k.0) (h-exact.1 & k.1 & k.2 & edge-table (mul_step x y) a' b')
        | no g ↦ let k = finite-half (omega arith) in subst Behind (sym k.0) (h-exact.1 & k.1 & k.2 & edge-table (mul_step x y) a' b')
      ]

pub overflowing-product : OverflowingProduct
unfolding sheet_of product_by branch_of infinite_product
overflowing-product x y f i =
    let e = both_of (is_finite (value x)) (is_finite (value y)) f in
    let p = number_at x e.0 in
    let q = number_at y e.1 in
    let step = p-value x y p.0 q.0 p.1 q.1 p.2 q.2 p.3 q.3 p.4 q.4 in
    let over = over-of binary32 (unlike p.0 q.0) (p.1 * q.1) (sym (ap is_infinite step) ∙ i) in
    rw (sheet-by x y when_infinite (ap branch_of (infinite-of (value (mul_step x y)) i).1))
    (mul-overflowed x y f i & infinite-table x y p.0 q.0 p.1 q.1 p.2 q.2 p.3 q.3 p.4 q.4 over)
