-- The ways of a product.
use Prim.Native.Nat.{ℕ}
use mathlib.Core.Path.{◌≡◌, refl, ◌∙◌}
use mathlib.Core.Bool.{true, false}
use Rattle.binary32_spec.specs.Steps.{mul_step}
use Rattle.pattern_spec.specs.Comparisons.{less_magnitude}
use Rattle.worksheet_spec.specs.Lines.{value}
use Rattle.worksheet_spec.specs.declared.Branch.TheVariants.{NotANumber as when_nan, Infinite as when_infinite, Zero as when_zero, Tiny as when_tiny, Middle as when_middle, Other as otherwise}
use Rattle.worksheet_spec.specs.Sheets.{recomposition, zero_finish, recomposed_finished, at_edge, edge_finish, infinite_product}
use Rattle.worksheet_spec.specs.Sheets.{lowered, lowering, tiny_tie, tiny_product, rest_tie, scaled_down, middle_product, other_product, product_by, product_sheet}
use Rattle.worksheet_spec.proofs.Products.{tie}
use Rattle.worksheet_spec.proofs.ProductSteps.{sheet-by}
use Rattle.worksheet_table.specs.Programs.{line, ◌equals◌, is_zero, sheet_along, passes, not_above}
use Rattle.worksheet_table.specs.Table.{product_nan, product_infinite, product_edge, product_zero, tiny_lowered, tiny_kept}
use Rattle.worksheet_table.specs.Table.{middle_changed, middle_changed_zero, middle_kept, middle_kept_zero, middle_lowered, at_rest_tie, other_changed, other_kept, other_kept_zero}
use Rattle.worksheet_table.proofs.Told.{Told, asked}
use Rattle.worksheet_table.proofs.Branches.{low, high, nan-branch, infinite-branch, zero-branch, tiny-branch, middle-branch, other-branch}
use Rattle.worksheet_table.proofs.Excluded.{lowered-nonzero}

module _ (x y : ℕ) where
  abbrev p : ℕ
  p = mul_step x y

  pub nan-product : Told product_nan x y → product_sheet x y ≡ sheet_along product_nan x y
  unfolding product_by sheet_along passes
  nan-product k = sheet-by x y when_nan (nan-branch (value p) k.0)

  pub infinite-product : Told product_infinite x y → product_sheet x y ≡ sheet_along product_infinite x y
  unfolding product_by infinite_product edge_finish at_edge sheet_along passes
  infinite-product k = sheet-by x y when_infinite (infinite-branch (value p) k.0) ∙ rw k.1.0 refl

  pub edge-product : Told product_edge x y → product_sheet x y ≡ sheet_along product_edge x y
  unfolding product_by infinite_product edge_finish at_edge sheet_along passes
  edge-product k = sheet-by x y when_infinite (infinite-branch (value p) k.0) ∙ rw k.1.0 refl

  pub zero-product : Told product_zero x y → product_sheet x y ≡ sheet_along product_zero x y
  unfolding product_by sheet_along passes
  zero-product k = sheet-by x y when_zero (zero-branch (value p) k.0)

  pub tiny-lowered : Told tiny_lowered x y → product_sheet x y ≡ sheet_along tiny_lowered x y
  unfolding product_by tiny_product tiny_tie lowered lowering sheet_along passes
  tiny-lowered k = sheet-by x y when_tiny (tiny-branch (value p) k.0 k.1.0) ∙ rw k.1.1.0 refl

  pub tiny-kept : Told tiny_kept x y → product_sheet x y ≡ sheet_along tiny_kept x y
  unfolding product_by tiny_product tiny_tie lowered lowering sheet_along passes
  tiny-kept k = sheet-by x y when_tiny (tiny-branch (value p) k.0 k.1.0) ∙ rw k.1.1.0 refl

  pub middle-changed : Told middle_changed x y → product_sheet x y ≡ sheet_along middle_changed x y
  unfolding product_by middle_product recomposition scaled_down rest_tie lowered lowering zero_finish sheet_along passes
  middle-changed k = sheet-by x y when_middle (middle-branch (value p) k.0 k.1.0 k.1.1.0) ∙ rw (k.1.1.1.0, k.1.1.1.1.0, k.1.1.1.1.1.0) refl

  pub middle-changed-zero : Told middle_changed_zero x y → product_sheet x y ≡ sheet_along middle_changed_zero x y
  unfolding product_by middle_product recomposition scaled_down rest_tie lowered lowering zero_finish sheet_along passes
  middle-changed-zero k = sheet-by x y when_middle (middle-branch (value p) k.0 k.1.0 k.1.1.0) ∙ rw (k.1.1.1.0, k.1.1.1.1.0, k.1.1.1.1.1.0) refl

  pub middle-kept : Told middle_kept x y → product_sheet x y ≡ sheet_along middle_kept x y
  unfolding product_by middle_product recomposition scaled_down rest_tie lowered lowering zero_finish sheet_along passes
  middle-kept k = sheet-by x y when_middle (middle-branch (value p) k.0 k.1.0 k.1.1.0) ∙ rw (k.1.1.1.0, k.1.1.1.1.0, k.1.1.1.1.1.0) refl

  pub middle-kept-zero : Told middle_kept_zero x y → product_sheet x y ≡ sheet_along middle_kept_zero x y
  unfolding product_by middle_product recomposition scaled_down rest_tie lowered lowering zero_finish sheet_along passes
  middle-kept-zero k = sheet-by x y when_middle (middle-branch (value p) k.0 k.1.0 k.1.1.0) ∙ rw (k.1.1.1.0, k.1.1.1.1.0, k.1.1.1.1.1.0) refl

  -- a kept pair's lowered rest is not zero
  pub kept-lowered : less_magnitude (value p) low ≡ false → not_above (value p) high ≡ true → asked middle_lowered x y (line 7 equals line 6) ≡ false → asked middle_lowered x y at_rest_tie ≡ true
      → asked middle_lowered x y (is_zero (line 12)) ≡ false
  unfolding product_by middle_product recomposition scaled_down rest_tie lowered lowering zero_finish sheet_along passes
  kept-lowered l h e t = let tied : tie x y ≡ true = rw e t in rw (e, t) at (lowered-nonzero x y l h tied)

  pub middle-lowered : Told middle_lowered x y → product_sheet x y ≡ sheet_along middle_lowered x y
  unfolding product_by middle_product recomposition scaled_down rest_tie lowered lowering zero_finish sheet_along passes
  middle-lowered k = sheet-by x y when_middle (middle-branch (value p) k.0 k.1.0 k.1.1.0) ∙ rw (k.1.1.1.0, k.1.1.1.1.0, k.1.1.1.1.1.0) refl

  pub other-changed : Told other_changed x y → product_sheet x y ≡ sheet_along other_changed x y
  unfolding product_by other_product recomposed_finished recomposition zero_finish sheet_along passes
  other-changed k = sheet-by x y otherwise (other-branch (value p) k.0 k.1.0 k.1.1.0 k.1.1.1.0 k.1.1.1.1.0) ∙ rw (k.1.1.1.1.1.0, k.1.1.1.1.1.1.0) refl

  pub other-kept : Told other_kept x y → product_sheet x y ≡ sheet_along other_kept x y
  unfolding product_by other_product recomposed_finished recomposition zero_finish sheet_along passes
  other-kept k = sheet-by x y otherwise (other-branch (value p) k.0 k.1.0 k.1.1.0 k.1.1.1.0 k.1.1.1.1.0) ∙ rw (k.1.1.1.1.1.0, k.1.1.1.1.1.1.0) refl

  pub other-kept-zero : Told other_kept_zero x y → product_sheet x y ≡ sheet_along other_kept_zero x y
  unfolding product_by other_product recomposed_finished recomposition zero_finish sheet_along passes
  other-kept-zero k = sheet-by x y otherwise (other-branch (value p) k.0 k.1.0 k.1.1.0 k.1.1.1.0 k.1.1.1.1.0) ∙ rw (k.1.1.1.1.1.0, k.1.1.1.1.1.1.0) refl
