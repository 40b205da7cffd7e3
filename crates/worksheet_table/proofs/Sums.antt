-- The ways of a sum.
use Prim.Native.Nat.{ℕ}
use mathlib.Core.Path.{◌≡◌, refl, ◌∙◌}
use mathlib.Core.Bool.{Bool, true, false, and-false}
use Rattle.rounding_spec.specs.Value.{is_nan, is_infinite}
use Rattle.binary32_spec.specs.Steps.{add_step, sub_step, mul_step}
use Rattle.errorfree_spec.proofs.NoNumber.{none-zero}
use Rattle.worksheet_spec.specs.Constants.{psi, two}
use Rattle.worksheet_spec.specs.Lines.{value, equal, is_zero_pattern}
use Rattle.worksheet_spec.specs.Sheets.{recomposition, zero_finish, recomposed_finished, at_edge, edge_finish, halved_sum, overflows, sum_from, sum_in_order}
use Rattle.worksheet_spec.proofs.Blocks.{none-recomposed}
use Rattle.worksheet_spec.proofs.Sums.{goes_on_lem, b-none}
use Rattle.worksheet_table.specs.Programs.{sheet_along, passes}
use Rattle.worksheet_table.specs.Table.{sum_nan, sum_changed, sum_changed_zero, sum_kept, sum_kept_zero, sum_infinite, sum_edge}
use Rattle.worksheet_table.proofs.Told.{Told}
use Rattle.worksheet_table.proofs.Alone.{nan-alone, infinite-alone, finite-by}

module _ (x y : ℕ) where
  abbrev pub a : ℕ
  a = add_step x y

  abbrev pub b : ℕ
  b = sub_step y (sub_step a x)

  abbrev pub e=d : Bool
  e=d = equal (mul_step two b) (sub_step (mul_step psi a) a)

  -- ---- only a finite a is recomposed, or leaves a zero
  pub changed-finite : e=d ≡ true → (is_nan (value a) ≡ false) × (is_infinite (value a) ≡ false)
  changed-finite h = finite-by (value a) e=d h (none-recomposed a b)

  zero-finite : is_zero_pattern b ≡ true → (is_nan (value a) ≡ false) × (is_infinite (value a) ≡ false)
  zero-finite h = finite-by (value a) (is_zero_pattern b) h (λ n. none-zero (value b) (b-none x y a n))

  pub sum-nan-alone : is_nan (value a) ≡ true → (e=d ≡ false) × (is_zero_pattern b ≡ false) × (is_infinite (value a) ≡ false)
  sum-nan-alone h = let n = nan-alone (value a) h in (none-recomposed a b n.1, none-zero (value b) (b-none x y a n.1), n.0)

  -- ---- the ways
  pub nan-sum : Told sum_nan x y → sum_in_order x y ≡ sheet_along sum_nan x y
  unfolding sum_in_order sheet_along passes
  nan-sum k = rw k.0 refl

  pub changed : Told sum_changed x y → sum_in_order x y ≡ sheet_along sum_changed x y
  unfolding sum_from recomposed_finished recomposition zero_finish overflows sheet_along passes
  changed k = goes_on_lem x y (changed-finite k.0).0 ∙ rw (k.0, k.1.0, k.1.0, k.1.1.0) refl

  pub changed-zero : Told sum_changed_zero x y → sum_in_order x y ≡ sheet_along sum_changed_zero x y
  unfolding sum_from recomposed_finished recomposition zero_finish overflows sheet_along passes
  changed-zero k = let f = changed-finite k.0 in goes_on_lem x y f.0 ∙ rw (k.0, k.1.0, f.1, and-false) refl

  pub kept : Told sum_kept x y → sum_in_order x y ≡ sheet_along sum_kept x y
  unfolding sum_from recomposed_finished recomposition zero_finish overflows sheet_along passes
  kept k = goes_on_lem x y k.1.1.1.0 ∙ rw (k.0, k.1.0, k.1.0, k.1.1.0) refl

  pub kept-zero : Told sum_kept_zero x y → sum_in_order x y ≡ sheet_along sum_kept_zero x y
  unfolding sum_from recomposed_finished recomposition zero_finish overflows sheet_along passes
  kept-zero k = let f = zero-finite k.1.0 in goes_on_lem x y f.0 ∙ rw (k.0, k.1.0, f.1, and-false) refl

  pub infinite-sum : Told sum_infinite x y → sum_in_order x y ≡ sheet_along sum_infinite x y
  unfolding sum_from recomposed_finished recomposition zero_finish overflows halved_sum edge_finish at_edge sheet_along passes
  infinite-sum k = goes_on_lem x y (infinite-alone (value a) k.1.1.0).0 ∙ rw (k.0, k.1.0, k.1.0, k.1.1.0, k.1.1.1.0) refl

  pub edge-sum : Told sum_edge x y → sum_in_order x y ≡ sheet_along sum_edge x y
  unfolding sum_from recomposed_finished recomposition zero_finish overflows halved_sum edge_finish at_edge sheet_along passes
  edge-sum k = goes_on_lem x y (infinite-alone (value a) k.1.1.0).0 ∙ rw (k.0, k.1.0, k.1.0, k.1.1.0, k.1.1.1.0) refl
