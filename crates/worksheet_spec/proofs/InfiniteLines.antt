-- The lines of a sheet whose first line is infinite, up to those of the edge.
use mathlib.Core.Path.{◌≡◌, refl, ap, ap₂, ◌∙◌}
use mathlib.Core.Bool.{Bool, false, cond}
use mathlib.Core.List.{List, [], ◌∷◌, ◌++◌}
use Prim.Native.Nat.{ℕ}
use lib.ListN.{take}
use Rattle.rounding_spec.specs.Value.{Value, infinite, is_nan, is_finite}
use Rattle.binary32_spec.specs.Steps.{add_step, sub_step, mul_step}
use Rattle.errorfree_spec.proofs.NoNumber.{none-zero}
use Rattle.worksheet_spec.specs.Constants.{psi, two}
use Rattle.worksheet_spec.specs.declared.Step.TheVariants.{Add as add, Subtract as subtract, Multiply as multiply}
use Rattle.worksheet_spec.specs.Lines.{Line, line, Sheet, before, ends, value, is_zero_pattern}
use Rattle.worksheet_spec.specs.Sheets.{recomposition, zero_finish, recomposed_finished, halved_sum, sum_from, sum_in_order, swaps, sum_sheet, infinite_product, branch_of, product_by, product_sheet}
use Rattle.worksheet_spec.specs.Sheets.{sheet_of}
use Rattle.worksheet_spec.specs.Theorems.{infinite_sum_lines, infinite_product_lines, InfiniteLines}
use Rattle.worksheet_spec.proofs.Blocks.{recomposition-none}
use Rattle.worksheet_spec.proofs.Sums.{goes_on_lem, b-none, asks-edge}

-- ---- sums
-- a second that is not zero has no zero finish
unfinished : (first second : ℕ) → is_zero_pattern second ≡ false → (zero_finish first second).lines ≡ []
unfolding zero_finish
unfinished first second h = rw h refl

recomposed : (a b : ℕ) → is_finite (value a) ≡ false → is_zero_pattern b ≡ false → let z = mul_step psi a in
    (recomposed_finished a b).lines ≡ line multiply psi a z ∷ line subtract z a (sub_step z a) ∷ line multiply two b (mul_step two b) ∷ []
unfolding recomposed_finished recomposition
recomposed a b h k =
    let z = mul_step psi a in
    ap (λ (ls : List Line). line multiply psi a z ∷ line subtract z a (sub_step z a) ∷ line multiply two b (mul_step two b) ∷ ls)
    (unfinished (recomposition a b).first (recomposition a b).second (ap is_zero_pattern (recomposition-none a b h).1 ∙ k))

-- the six lines before those of the halves
abbrev pub opening : ℕ → ℕ → List Line
opening x y =
    let a = add_step x y in
    let v = sub_step a x in
    let b = sub_step y v in
    let z = mul_step psi a in
    line add x y a ∷ line subtract a x v ∷ line subtract y v b ∷ line multiply psi a z ∷ line subtract z a (sub_step z a) ∷ line multiply two b (mul_step two b) ∷ []

pub infinite-sum-lines : (x y : ℕ) (s : Bool) → value (add_step x y) ≡ infinite s → (sum_in_order x y).lines ≡ opening x y ++ (halved_sum x y (add_step x y)).lines
unfolding sum_from
infinite-sum-lines x y s h =
    let a = add_step x y in
    let v = sub_step a x in
    let b = sub_step y v in
    let r = recomposed_finished a b in
    let n : is_finite (value a) ≡ false = ap is_finite h in
    ap (λ (t : Sheet). t.lines) (goes_on_lem x y (ap is_nan h))
    ∙ ap₂ {C = List Line} (λ (ls : List Line) (c : Bool). line add x y a ∷ line subtract a x v ∷ line subtract y v b ∷ (ls ++ (cond c (halved_sum x y a) (ends r.first r.second)).lines))
    (recomposed a b n (none-zero (value b) (b-none x y a n))) (asks-edge x y s h)

infinite-sum : (x y : ℕ) (s : Bool) → value (add_step x y) ≡ infinite s → take 11 (sum_in_order x y).lines ≡ infinite_sum_lines x y
unfolding halved_sum
infinite-sum x y s h = ap (λ (ls : List Line). take 11 ls) (infinite-sum-lines x y s h)

-- ---- products
infinite-product : (x y : ℕ) (s : Bool) → value (mul_step x y) ≡ infinite s → take 4 (product_sheet x y).lines ≡ infinite_product_lines x y
unfolding product_sheet branch_of product_by infinite_product
infinite-product x y s h =
    let a = mul_step x y in
    ap (λ (v : Value). take 4 (before (line multiply x y a ∷ []) (product_by (branch_of v) x y a)).lines) h

pub infinite-lines : InfiniteLines
unfolding sheet_of sum_sheet swaps
infinite-lines = (λ x y s h. (λ o. rw o (infinite-sum x y s h), λ o. rw o (infinite-sum x y s h)), infinite-product)
