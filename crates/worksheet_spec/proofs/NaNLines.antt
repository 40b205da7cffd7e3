-- NaN on a sheet: on line 1, and on line 4 of u or -u times an infinity.
use mathlib.Core.Path.{◌≡◌, refl, sym, ap, ap₂, ◌∙◌}
use mathlib.Core.Logic.{inl, inr}
use mathlib.Core.Bool.{Bool, true, false}
use mathlib.Core.List.{[], ◌∷◌}
use Prim.Native.Nat.{ℕ}
use lib.Ieee.{unlike, size}
use Rattle.rounding_spec.specs.Format.{binary32}
use Rattle.rounding_spec.specs.Round.{keep, last_place}
use Rattle.rounding_spec.specs.Value.{Value, infinite, finite, decode, round}
use Rattle.rounding_spec.proofs.NaN.{differs}
use Rattle.pattern_spec.specs.Exact.{times}
use Rattle.binary32_spec.specs.Steps.{mul_value, mul_step, fma_step}
use Rattle.binary32_spec.proofs.Theorems.{mul-decodes, step-invalid, step-nan}
use Rattle.pattern_spec.specs.Comparisons.{same}
use Rattle.worksheet_spec.specs.Constants.{half}
use Rattle.worksheet_spec.specs.declared.Step.TheVariants.{Multiply as multiply}
use Rattle.worksheet_spec.specs.Lines.{line, fused_line, Sheet, before, ends, value, minus}
use Rattle.worksheet_spec.specs.Sheets.{at_edge, edge_finish, infinite_product, branch_of, product_by, product_sheet, sheet_of}
use Rattle.worksheet_spec.specs.Theorems.{EndsAtNaN, SmallestTimesInfinity}
use Rattle.worksheet_spec.proofs.Sums.{sum-ends}
use Rattle.worksheet_spec.proofs.ProductSheet.{product-ends}

pub ends-at-nan : EndsAtNaN
unfolding sheet_of
ends-at-nan = (sum-ends, λ x y. sum-ends x (minus y), product-ends)

-- ---- the smallest numbers times an infinity
-- x is u with the sign s, whose half h is rounded to zero
module _ (x y : ℕ) (s t : Bool) (xi : value x ≡ finite s 1) (hi : value (mul_step half x) ≡ finite s 0) (yi : value y ≡ infinite t) where
  abbrev a : ℕ
  a = mul_step x y

  abbrev h : ℕ
  h = mul_step half x

  -- the sheet with the results of lines 3 and 4
  abbrev made : ℕ → ℕ → Sheet
  made a' b' =
      before (line multiply x y a ∷ line multiply half x h ∷ line multiply h y a' ∷ fused_line h y (minus a') b' ∷ []) (edge_finish a a' b')

  a-infinite : value a ≡ infinite (unlike s t)
  unfolding mul_value times round
  a-infinite = mul-decodes x y ∙ ap₂ (mul_value binary32) xi yi

  in-branch : product_sheet x y ≡ made (mul_step h y) (fma_step h y (minus (mul_step h y)))
  unfolding product_sheet branch_of product_by infinite_product
  in-branch = ap (λ (v : Value). before (line multiply x y a ∷ []) (product_by (branch_of v) x y a)) a-infinite

  third-line : mul_step h y ≡ 0x7fc0_0000
  third-line = (step-invalid.2 h y s t hi yi).0

  fourth-line : fma_step h y 0xffc0_0000 ≡ 0xffc0_0000
  unfolding decode
  fourth-line = step-nan.4 h y 0xffc0_0000 (λ e. differs (finite s 0) refl (sym hi ∙ e)) (λ e. differs (infinite t) refl (sym yi ∙ e)) refl

  no_edge : edge_finish a 0x7fc0_0000 0xffc0_0000 ≡ ends a a
  unfolding edge_finish at_edge same decode
  no_edge = refl

  pub small-sheet : product_sheet x y
      ≡ before (line multiply x y a ∷ line multiply half x h ∷ line multiply h y 0x7fc0_0000 ∷ fused_line h y 0xffc0_0000 0xffc0_0000 ∷ []) (ends a a)
  small-sheet =
      in-branch
      ∙ ap (λ (a' : ℕ). made a' (fma_step h y (minus a'))) third-line
      ∙ ap (made 0x7fc0_0000) fourth-line
      ∙ ap (before (line multiply x y a ∷ line multiply half x h ∷ line multiply h y 0x7fc0_0000 ∷ fused_line h y 0xffc0_0000 0xffc0_0000 ∷ [])) no_edge

pub smallest-times-infinity : SmallestTimesInfinity
unfolding sheet_of decode mul_step keep last_place size
smallest-times-infinity x y t o yi =
    elim o [
      | inl e ↦ small-sheet x y false t (ap value e) (ap (λ (k : ℕ). value (mul_step half k)) e) yi
      | inr e ↦ small-sheet x y true t (ap value e) (ap (λ (k : ℕ). value (mul_step half k)) e) yi
    ]
