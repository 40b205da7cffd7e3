-- Each line of a sheet has the step of its own operands for a result.
use mathlib.Core.Path.{refl}
use mathlib.Core.Bool.{Bool, true, false, cond}
use mathlib.Core.List.{List, [], ◌∷◌, ◌++◌}
use Prim.Native.Nat.{ℕ}
use Rattle.rounding_spec.specs.Value.{is_nan}
use Rattle.binary32_spec.specs.Steps.{add_step, sub_step, mul_step, fma_step}
use Rattle.augmented_spec.specs.declared.Operation.TheVariants.{Sum as sum, Difference as difference, Product as product}
use Rattle.pattern_spec.specs.Classes.{copy_sign}
use Rattle.worksheet_spec.specs.declared.Step.TheVariants.{Add as add, Subtract as subtract, Multiply as multiply}
use Rattle.worksheet_spec.specs.Lines.{Line, line, fused_line, Sheet, before, ends, value, minus, is_zero_pattern}
use Rattle.worksheet_spec.specs.Constants.{psi, two, minus_two, half, kappa, two_to_24, two_to_48, two_to_minus_24, plus_zero, smallest}
use Rattle.worksheet_spec.specs.declared.Branch.{Branch}
use Rattle.worksheet_spec.specs.declared.Branch.TheVariants.{NotANumber as when_nan, Infinite as when_infinite, Zero as when_zero, Tiny as when_tiny, Middle as when_middle, Other as otherwise}
use Rattle.worksheet_spec.specs.Sheets.{recomposition, zero_finish, recomposed_finished, at_edge, edge_finish}
use Rattle.worksheet_spec.specs.Sheets.{halved_sum}
use Rattle.worksheet_spec.specs.Sheets.{overflows}
use Rattle.worksheet_spec.specs.Sheets.{sum_from, sum_in_order, swaps, sum_sheet, infinite_product, lowered, lowering, tiny_product, rest_tie, scaled_down, middle_product, other_product, branch_of}
use Rattle.worksheet_spec.specs.Sheets.{product_by}
use Rattle.worksheet_spec.specs.Sheets.{product_sheet, sheet_of}
use Rattle.worksheet_spec.proofs.TinyResults as tiny
use Rattle.worksheet_spec.specs.Theorems.{Each, EachLine}

-- ---- lists and choices
each_append : (ls ms : List Line) → Each ls → Each ms → Each (ls ++ ms)
unfolding Each
each_append [] ms h k = k
each_append (l ∷ ls) ms h k = (h.0, each_append ls ms h.1 k)

each-cond : (c : Bool) (s t : Sheet) → Each s.lines → Each t.lines → Each (cond c s t).lines
each-cond true s t h k = h
each-cond false s t h k = k

none : Each []
unfolding Each
none = tt

-- ---- a line of each operation, before others
adds : (x y : ℕ) (ls : List Line) → Each ls → Each (line add x y (add_step x y) ∷ ls)
unfolding Each
adds x y ls h = ((refl, refl, refl), h)

subtracts : (x y : ℕ) (ls : List Line) → Each ls → Each (line subtract x y (sub_step x y) ∷ ls)
unfolding Each
subtracts x y ls h = ((refl, refl, refl), h)

multiplies : (x y : ℕ) (ls : List Line) → Each ls → Each (line multiply x y (mul_step x y) ∷ ls)
unfolding Each
multiplies x y ls h = ((refl, refl, refl), h)

fuses : (x y z : ℕ) (ls : List Line) → Each ls → Each (fused_line x y z (fma_step x y z) ∷ ls)
unfolding Each
fuses x y z ls h = ((refl, refl), h)

-- ---- the parts
-- a correction, where there is one
correction-each : (c : Bool) (a : ℕ) → Each (cond c (lowering a ∷ []) [])
unfolding lowering
correction-each true a = subtracts a (copy_sign smallest a) _ none
correction-each false a = none

recomposition-each : (a b : ℕ) → Each (recomposition a b).lines
unfolding recomposition
recomposition-each a b = multiplies psi a _ (subtracts (mul_step psi a) a _ (multiplies two b _ none))

finish-each : (x y : ℕ) → Each (zero_finish x y).lines
unfolding zero_finish
finish-each x y = each-cond (is_zero_pattern y) (before (line multiply plus_zero x (mul_step plus_zero x) ∷ []) (ends x (mul_step plus_zero x))) (ends x y) (multiplies plus_zero x _ none) none

recomposed-each : (a b : ℕ) → Each (recomposed_finished a b).lines
unfolding recomposed_finished
recomposed-each a b =
    let r = recomposition a b in
    each_append r.lines (zero_finish r.first r.second).lines (recomposition-each a b) (finish-each r.first r.second)

edge-each : (a a' b' : ℕ) → Each (edge_finish a a' b').lines
unfolding edge_finish
edge-each a a' b' =
    each-cond (at_edge a' b') (before (line multiply kappa a' (mul_step kappa a') ∷ line multiply minus_two b' (mul_step minus_two b') ∷ []) (ends (mul_step kappa a') (mul_step minus_two b')))
    (ends a a)
    (multiplies kappa a' _ (multiplies minus_two b' _ none)) none

-- ---- sums
halved-each : (x y a : ℕ) → Each (halved_sum x y a).lines
unfolding halved_sum
halved-each x y a =
    let x' = mul_step half x in
    let y' = mul_step half y in
    let a' = add_step x' y' in
    let v' = sub_step a' x' in
    multiplies half x _ (multiplies half y _ (adds x' y' _ (subtracts a' x' _ (subtracts y' v' _ (edge-each a a' (sub_step y' v'))))))

from_each : (x y a : ℕ) → Each (sum_from x y a).lines
unfolding sum_from
from_each x y a =
    let v = sub_step a x in
    let b = sub_step y v in
    let r = recomposed_finished a b in
    let c = overflows r.second a in
    subtracts a x _ (subtracts y v _
    (each_append r.lines (cond c (halved_sum x y a) (ends r.first r.second)).lines (recomposed-each a b)
    (each-cond c (halved_sum x y a) (ends r.first r.second) (halved-each x y a) none)))

order-each : (x y : ℕ) → Each (sum_in_order x y).lines
unfolding sum_in_order
order-each x y = let a = add_step x y in adds x y _ (each-cond (is_nan (value a)) (ends a a) (sum_from x y a) none (from_each x y a))

sum-each : (x y : ℕ) → Each (sum_sheet x y).lines
unfolding sum_sheet
sum-each x y = each-cond (swaps x y) (sum_in_order y x) (sum_in_order x y) (order-each y x) (order-each x y)

-- ---- products
infinite-each : (x y a : ℕ) → Each (infinite_product x y a).lines
unfolding infinite_product
infinite-each x y a =
    let h = mul_step half x in
    let a' = mul_step h y in
    multiplies half x _ (multiplies h y _ (fuses h y (minus a') _ (edge-each a a' (fma_step h y (minus a')))))

tiny-each : (x y a : ℕ) → Each (tiny_product x y a).lines
unfolding tiny_product
tiny-each x y a =
    multiplies two_to_24 x _ (multiplies two_to_24 y _ (multiplies (tiny.m x y a) (tiny.n x y a) _
    (fuses (tiny.m x y a) (tiny.n x y a) (minus (tiny.t1 x y a)) _
    (multiplies two_to_48 a _ (subtracts (tiny.t1 x y a) (tiny.g x y a) _ (adds (tiny.t2 x y a) (tiny.t3 x y a) _ (subtracts (tiny.z x y a) (tiny.t3 x y a) _
    (each_append (cond (tiny.tie x y a) (lowering a ∷ []) []) (line multiply plus_zero (tiny.first x y a) (mul_step plus_zero (tiny.first x y a)) ∷ []) (correction-each (tiny.tie x y a) a)
    (multiplies plus_zero (tiny.first x y a) _ none)))))))))

scaled-each : (A B : ℕ) → Each (scaled_down A B).lines
unfolding scaled_down
scaled-each A B =
    let first = mul_step two_to_minus_24 A in
    let β = mul_step two_to_minus_24 B in
    let g = mul_step two_to_24 β in
    let r = sub_step g B in
    let tie = rest_tie β r in
    multiplies two_to_minus_24 A _ (multiplies two_to_minus_24 B _ (multiplies two_to_24 β _ (subtracts g B _
    (each_append (cond tie (lowering β ∷ []) []) (zero_finish first (cond tie (lowered β) β)).lines (correction-each tie β) (finish-each first (cond tie (lowered β) β))))))

middle-each : (x y : ℕ) → Each (middle_product x y).lines
unfolding middle_product
middle-each x y =
    let m = mul_step two_to_24 x in
    let a' = mul_step m y in
    let b' = fma_step m y (minus a') in
    let r = recomposition a' b' in
    multiplies two_to_24 x _ (multiplies m y _ (fuses m y (minus a') _
    (each_append r.lines (scaled_down r.first r.second).lines (recomposition-each a' b') (scaled-each r.first r.second))))

other-each : (x y a : ℕ) → Each (other_product x y a).lines
unfolding other_product
other-each x y a = fuses x y (minus a) _ (recomposed-each a (fma_step x y (minus a)))

product_each : (x y : ℕ) → Each (product_sheet x y).lines
unfolding product_sheet product_by
product_each x y = multiplies x y _ (by (branch_of (value (mul_step x y))))
  where
    by : (k : Branch) → Each (product_by k x y (mul_step x y)).lines
    by when_nan = none
    by when_infinite = infinite-each x y (mul_step x y)
    by when_zero = none
    by when_tiny = tiny-each x y (mul_step x y)
    by when_middle = middle-each x y
    by otherwise = other-each x y (mul_step x y)

pub each_line : EachLine
unfolding sheet_of
each_line sum x y = sum-each x y
each_line difference x y = sum-each x _
each_line product x y = product_each x y
