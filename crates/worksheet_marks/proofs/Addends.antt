-- Sums in any order, and their finite operands.
use mathlib.Core.Path.{◌≡◌, refl, sym, ap₂, ◌∙◌, subst}
use mathlib.Core.Bool.{Bool, true, false, cond, and_comm}
use mathlib.Core.List.{List}
use Prim.Native.Nat.{ℕ, ◌≤◌, ◌<◌}
use borrow.Author.Tests.{ltb-false}
use Rattle.rounding_spec.specs.Format.{binary32, limit}
use Rattle.rounding_spec.specs.Nearest.{Rep}
use Rattle.rounding_spec.specs.Value.{Value, finite, is_finite}
use Rattle.pattern_spec.specs.Comparisons.{less_magnitude}
use Rattle.binary32_spec.specs.Steps.{add_step}
use Rattle.pattern_spec.specs.Classes.{both_finite}
use Rattle.errorfree_spec.proofs.NoNumber.{both_of}
use Rattle.worksheet_spec.specs.Lines.{Line, value, minus}
use Rattle.worksheet_spec.specs.Sheets.{sum_in_order, swaps, sum_sheet, sheet_of}
use Rattle.worksheet_spec.proofs.Patterns.{number_at}
use Rattle.worksheet_spec.proofs.Sums.{not-less}
use Rattle.worksheet_spec.proofs.SumSteps.{swapped}
use Rattle.worksheet_marks.specs.Theorems.{OfSums}

-- ---- what is said of the lines, by the operands and a, holds of all sums where it holds of those whose first operand is not the smaller
pub in-any-order : (P : Bool → Value → List Line → Type 0)
    → ((x y : ℕ) → less_magnitude (value x) (value y) ≡ false → P (both_finite x y) (value (add_step x y)) (sum_in_order x y).lines)
    → OfSums (λ (x y : ℕ) (ls : List Line). P (both_finite x y) (value (add_step x y)) ls)
unfolding sheet_of sum_sheet swaps
in-any-order P h = (sums, λ x y. sums x (minus y))
  where
    sums : (x y : ℕ) → P (both_finite x y) (value (add_step x y)) (sum_sheet x y).lines
    sums x y = by (swaps x y) refl
      where
        by : (c : Bool) → swaps x y ≡ c → P (both_finite x y) (value (add_step x y)) (cond c (sum_in_order y x) (sum_in_order x y)).lines
        by true l =
            subst (λ (c : Bool). P c (value (add_step x y)) (sum_in_order y x).lines) (and_comm (is_finite (value y)) (is_finite (value x)))
            (subst (λ (v : Value). P (both_finite y x) v (sum_in_order y x).lines) (swapped x y) (h y x (not-less (value x) (value y) l)))
        by false l = h x y l

-- ---- the numbers of x and y, the first of which is not the smaller
pub record Addends (x y : ℕ) : Type 0 where
  pub s : Bool
  pub t : Bool
  pub X : ℕ
  pub Y : ℕ
  pub xi : value x ≡ finite s X
  pub yi : value y ≡ finite t Y
  pub xr : Rep 24 0 X
  pub yr : Rep 24 0 Y
  pub xb : X < limit binary32
  pub le : Y ≤ X

pub addends-of : (x y : ℕ) → less_magnitude (value x) (value y) ≡ false → both_finite x y ≡ true → Addends x y
unfolding less_magnitude
addends-of x y l n =
    let h = both_of (is_finite (value x)) (is_finite (value y)) n in
    let p = number_at x h.0 in
    let q = number_at y h.1 in
    let le = ltb-false p.1 q.1 (sym (ap₂ less_magnitude p.2 q.2) ∙ l) in
    record { s = p.0; t = q.0; X = p.1; Y = q.1; xi = p.2; yi = q.2; xr = p.3; yr = q.3; xb = p.4; le = le }
