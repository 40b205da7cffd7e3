-- The lines of a product's sheet, where a is zero, and in the last branch; and of any product that is not small, a and what a fused step leaves.
use mathlib.Core.Path.{◌≡◌, refl, sym, ap, ap₂, ◌∙◌, subst}
use mathlib.Core.Logic.{inl, inr}
use mathlib.Core.Bool.{Bool, true, false, not, cond, ◌||◌, or-true}
use mathlib.Core.List.{[], ◌∷◌}
use Prim.Native.Nat.{ℕ, ◌*◌, ◌^◌, ◌≤◌, ◌<◌}
use native.Mathlib.Nat.{zero-mul, mul-zero, mul-pos, eq-zero-or-pos}
use native.Mathlib.Omega.{arith}
use borrow.Author.Tests.{eq-eqb, eqb-true}
use lib.Dec.{eqb}
use lib.Ieee.{unlike}
use Rattle.rounding_spec.specs.Format.{binary32, low}
use Rattle.rounding_spec.specs.Value.{Value, finite, is_zero}
use Rattle.pattern_spec.specs.Exact.{negate}
use Rattle.binary32_spec.specs.Steps.{fma_value, mul_step, fma_step}
use Rattle.binary32_spec.specs.Marks.{mul_mark, fma_mark}
use Rattle.errorfree_spec.proofs.Powers.{pow-above}
use Rattle.errorfree_spec.proofs.ProductSplit.{whole, product-split}
use Rattle.errorfree_spec.proofs.Split.{Split}
use Rattle.errorfree_spec.proofs.Steps.{to_even}
use Rattle.worksheet_spec.specs.Lines.{value, minus, is_zero_pattern}
use Rattle.worksheet_spec.specs.declared.Branch.TheVariants.{Zero as when_zero, Other as otherwise}
use Rattle.worksheet_spec.specs.Sheets.{other_product, branch_of, product_by, sheet_of}
use Rattle.worksheet_spec.proofs.Entries.{◌&◌}
use Rattle.worksheet_spec.proofs.Branches.{branch-zero, branch-other}
use Rattle.worksheet_spec.proofs.FiniteProduct.{Factors, factors-of}
use Rattle.worksheet_spec.proofs.Patterns.{mul-width, minus-value, negate-finite}
use Rattle.worksheet_spec.proofs.Products.{fused-value, pi}
use Rattle.worksheet_spec.proofs.ProductSteps.{sheet-by}
use Rattle.worksheet_marks.specs.Theorems.{ZeroProduct, OtherProduct}
use Rattle.worksheet_marks.proofs.Exactness.{mul-where, mul_left, fma-exact}
use Rattle.worksheet_marks.proofs.Blocks.{recomposed-table}

-- ---- a finite product of x and y
module _ (x y m : ℕ) (o : Factors x y m) where
  abbrev p : ℕ
  p = mul_step x y

  abbrev pub r : Bool
  r = unlike o.s o.t

  abbrev pub A : ℕ
  A = to_even binary32 (o.a * o.b)

  pub p-is : value p ≡ finite r A
  p-is = pi x y o.s o.t o.a o.b o.xi o.yi o.xr o.yr o.xb o.yb o.fine

  -- that is not small, and what a fused step leaves of it
  module _ (least : 2 ^ 47 * 2 ^ low binary32 ≤ o.a * o.b) where
    abbrev c : ℕ
    c = fma_step x y (minus p)

    pub n : ℕ
    n = (whole binary32 o.a o.b o.xr o.yr least).0

    n-is : o.a * o.b ≡ n * 2 ^ 149
    unfolding n
    n-is = (whole binary32 o.a o.b o.xr o.yr least).1

    minus_is : value (minus p) ≡ finite (not r) A
    minus_is = minus-value p (mul-width x y) ∙ ap negate p-is ∙ negate-finite r A

    pub split : Split binary32 r n A (value c)
    unfolding n
    split =
        let v = finite o.s o.a in
        let w = finite o.t o.b in
        let ci : value c ≡ fma_value binary32 v w (negate (finite r A)) =
        fused-value x y p v w o.xi o.yi (mul-width x y) ∙ ap (λ (u : Value). fma_value binary32 v w (negate u)) p-is in
        subst (Split binary32 r n A) (sym ci) (product-split binary32 o.a o.b o.xr o.yr least o.s o.t o.fine)

    -- the product loses nothing exactly where the fused step leaves nothing, and the fused step never does
    pub product-mark : mul_mark x y ≡ cond (is_zero_pattern c) 0 1
    product-mark = mul_left x y o.s o.a o.t o.b o.xi o.yi n A n-is p-is (value c) split.rest

    pub rest-exact : fma_mark x y (minus p) ≡ 0
    rest-exact = fma-exact x y (minus p) o.s o.a o.t o.b n A o.xi o.yi minus_is n-is split.rest

-- ---- a is zero
no-factor : (a b : ℕ) → eqb a 0 || eqb b 0 ≡ true → 0 ≡ a * b
no-factor a b h = by (eqb a 0) refl h
  where
    by : (c : Bool) → eqb a 0 ≡ c → c || eqb b 0 ≡ true → 0 ≡ a * b
    by true e k = sym (ap (λ (i : ℕ). i * b) (eqb-true a 0 e) ∙ zero-mul b)
    by false e k = sym (ap (λ (i : ℕ). a * i) (eqb-true b 0 k) ∙ mul-zero a)

some-factor : (a b : ℕ) → a * b ≡ 0 → eqb a 0 || eqb b 0 ≡ true
some-factor a b h =
    elim (eq-zero-or-pos a) [
      | inl z ↦ ap (λ (c : Bool). c || eqb b 0) (eq-eqb a 0 z)
      | inr p ↦ elim (eq-zero-or-pos b) [
        | inl z ↦ ap (λ (c : Bool). eqb a 0 || c) (eq-eqb b 0 z) ∙ or-true (eqb a 0)
        | inr q ↦ absurd (omega (arith, mul-pos p q))
      ]
    ]

pub zero-product : ZeroProduct
unfolding sheet_of product_by
zero-product x y s e =
    let o = factors-of x y s 0 e in
    let v = p-is x y 0 o ∙ ap (finite (r x y 0 o)) (sym o.is) in
    let c = is_zero_pattern x || is_zero_pattern y in
    let test : c ≡ eqb o.a 0 || eqb o.b 0 = ap₂ (λ (v w : Value). is_zero v || is_zero w) o.xi o.yi in
    rw (sheet-by x y when_zero (ap branch_of e ∙ branch-zero s 0 refl))
    (ap (λ (k : ℕ). k ∷ []) (mul-where x y o.s o.a o.t o.b o.xi o.yi 0 v c (λ h. zero-mul (2 ^ 149) ∙ no-factor o.a o.b (sym test ∙ h))
    (λ h. test ∙ some-factor o.a o.b (sym h ∙ zero-mul (2 ^ 149)))))

-- ---- the last branch
pub other-product : OtherProduct
unfolding sheet_of product_by other_product
other-product x y s m e h =
    let o = factors-of x y s m e in
    let p = mul_step x y in
    let c = fma_step x y (minus p) in
    let least = pow-above binary32 (o.a * o.b) 47 (subst (λ (k : ℕ). 2 ^ 47 < k) o.is h) in
    rw (sheet-by x y otherwise (ap branch_of e ∙ branch-other s m h))
    (product-mark x y m o least & rest-exact x y m o least & recomposed-table (r x y m o) (n x y m o least) (A x y m o) p c (p-is x y m o) (split x y m o least))
