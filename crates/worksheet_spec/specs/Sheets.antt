-- The step sheet of a question (R5), in the order of its rules.
-- Each `let` is the result of a line, by the name that the rules give it. The lines repeat its step and operands; `EachLine` of Theorems
-- says that they agree.
use Rattle.std.specs.Prelude.{ℕ, ◌^◌, Bool, not, cond, ◌&&◌, [], ◌∷◌, ltb, leb, eqb}
use Rattle.rounding_spec.specs.Value.{Value, nan, infinite, finite, is_nan, is_infinite}
use Rattle.binary32_spec.specs.Steps.{add_step, sub_step, mul_step, fma_step}
use Rattle.augmented_spec.specs.declared.Operation.{Operation}
use Rattle.augmented_spec.specs.declared.Operation.TheVariants.{Sum as sum, Difference as difference, Product as product}
use Rattle.pattern_spec.specs.Comparisons.{less_magnitude}
use Rattle.worksheet_spec.specs.Constants.{psi, two, minus_two, half, kappa, two_to_24, two_to_48, two_to_minus_24, plus_zero, smallest}
use Rattle.worksheet_spec.specs.Constants.{two_to_127, two_to_102, two_to_minus_102, two_to_minus_126}
use Rattle.worksheet_spec.specs.declared.Step.TheVariants.{Add as add, Subtract as subtract, Multiply as multiply}
use Rattle.worksheet_spec.specs.declared.Branch.{Branch}
use Rattle.worksheet_spec.specs.declared.Branch.TheVariants.{NotANumber as when_nan, Infinite as when_infinite, Zero as when_zero}
use Rattle.worksheet_spec.specs.declared.Branch.TheVariants.{Tiny as when_tiny, Middle as when_middle, Other as otherwise}
use Rattle.worksheet_spec.specs.Lines.{Line, line, fused_line, Sheet, before, ends}
use Rattle.pattern_spec.specs.Classes.{copy_sign}
use Rattle.worksheet_spec.specs.Lines.{value, minus, equal, is_zero_pattern}

-- recomposition (R5.5): three lines
unfoldable pub recomposition : ℕ → ℕ → Sheet
recomposition a b =
    let z = mul_step psi a in
    let d = sub_step z a in
    let e = mul_step two b in
    before (line multiply psi a z ∷ line subtract z a d ∷ line multiply two b e ∷ [])
    (ends (cond (equal e d) z a) (cond (equal e d) (minus b) b))

-- zero finish (R5.6): a zero second is replaced by one line's result, (+0)·first
unfoldable pub zero_finish : ℕ → ℕ → Sheet
zero_finish first second =
    let nought = mul_step plus_zero first in
    cond (is_zero_pattern second) (before (line multiply plus_zero first nought ∷ []) (ends first nought)) (ends first second)

-- recomposition and zero finish, as they follow each other in R5.10 and R5.19
unfoldable pub recomposed_finished : ℕ → ℕ → Sheet
recomposed_finished a b = let r = recomposition a b in before r.lines (zero_finish r.first r.second)

-- the edge (R5.7): a' is 2^127 of either sign, and b' is 2^102 of the opposite one (R5.20)
unfoldable pub at_edge : ℕ → ℕ → Bool
at_edge a' b' = equal a' (copy_sign two_to_127 a') && equal b' (minus (copy_sign two_to_102 a'))

-- there two lines, elsewhere none (R5.7)
unfoldable pub edge_finish : ℕ → ℕ → ℕ → Sheet
edge_finish a a' b' =
    let first = mul_step kappa a' in
    let second = mul_step minus_two b' in
    cond (at_edge a' b')
    (before (line multiply kappa a' first ∷ line multiply minus_two b' second ∷ []) (ends first second))
    (ends a a)

-- ---- sums
-- with half the operands (R5.11), and the edge
unfoldable pub halved_sum : ℕ → ℕ → ℕ → Sheet
halved_sum x y a =
    let x' = mul_step half x in
    let y' = mul_step half y in
    let a' = add_step x' y' in
    let v' = sub_step a' x' in
    let b' = sub_step y' v' in
    before (line multiply half x x' ∷ line multiply half y y' ∷ line add x' y' a' ∷ line subtract a' x' v' ∷ line subtract y' v' b' ∷ [])
    (edge_finish a a' b')

-- where it is made (R5.11): a is infinite and second not zero; a NaN second is not zero, so that an infinite operand leads here too
unfoldable pub overflows : ℕ → ℕ → Bool
overflows second a = not (is_zero_pattern second) && is_infinite (value a)

-- behind the line of a its error, recomposition and zero finish (R5.10), and what may follow (R5.11)
unfoldable pub sum_from : ℕ → ℕ → ℕ → Sheet
sum_from x y a =
    let v = sub_step a x in
    let b = sub_step y v in
    let r = recomposed_finished a b in
    before (line subtract a x v ∷ line subtract y v b ∷ r.lines)
    (cond (overflows r.second a) (halved_sum x y a) (ends r.first r.second))

-- the line of a, and nothing else where it is NaN (R5.23)
unfoldable pub sum_in_order : ℕ → ℕ → Sheet
sum_in_order x y = let a = add_step x y in before (line add x y a ∷ []) (cond (is_nan (value a)) (ends a a) (sum_from x y a))

-- x and y change places where |y| > |x| (R5.9)
unfoldable pub swaps : ℕ → ℕ → Bool
swaps x y = less_magnitude (value x) (value y)

unfoldable pub sum_sheet : ℕ → ℕ → Sheet
sum_sheet x y = cond (swaps x y) (sum_in_order y x) (sum_in_order x y)

-- ---- products: one line, and by its value one of six branches (R5.12)
-- a is infinite (R5.13): with half of x, and the edge
unfoldable pub infinite_product : ℕ → ℕ → ℕ → Sheet
infinite_product x y a =
    let h = mul_step half x in
    let a' = mul_step h y in
    let b' = fma_step h y (minus a') in
    before (line multiply half x h ∷ line multiply h y a' ∷ fused_line h y (minus a') b' ∷ []) (edge_finish a a' b')

-- a less the u that has its sign (R5.8): the next smaller magnitude
unfoldable pub lowered : ℕ → ℕ
lowered a = sub_step a (copy_sign smallest a)

-- the line that it makes
unfoldable pub lowering : ℕ → Line
unfolding lowered
lowering a = line subtract a (copy_sign smallest a) (lowered a)

-- where a tiny product's first is lowered (R5.16)
unfoldable pub tiny_tie : ℕ → ℕ → ℕ → ℕ → Bool
tiny_tie a z w t2 = equal z (minus (copy_sign two_to_minus_102 a)) && equal w t2

-- a tiny product: eight lines (R5.15), and its end (R5.16)
unfoldable pub tiny_product : ℕ → ℕ → ℕ → Sheet
tiny_product x y a =
    let m = mul_step two_to_24 x in
    let n = mul_step two_to_24 y in
    let t1 = mul_step m n in
    let t2 = fma_step m n (minus t1) in
    let g = mul_step two_to_48 a in
    let t3 = sub_step t1 g in
    let z = add_step t2 t3 in
    let w = sub_step z t3 in
    let tie = tiny_tie a z w t2 in
    let first = cond tie (lowered a) a in
    let second = mul_step plus_zero first in
    before
    (line multiply two_to_24 x m ∷ line multiply two_to_24 y n ∷ line multiply m n t1 ∷ fused_line m n (minus t1) t2
    ∷ line multiply two_to_48 a g ∷ line subtract t1 g t3 ∷ line add t2 t3 z ∷ line subtract z t3 w ∷ [])
    (before (cond tie (lowering a ∷ []) []) (before (line multiply plus_zero first second ∷ []) (ends first second)))

-- where a middle product's second is lowered (R5.18)
unfoldable pub rest_tie : ℕ → ℕ → Bool
rest_tie β r = not (is_zero_pattern β) && equal r (copy_sign two_to_minus_126 β)

-- its last lines (R5.17) and its end (R5.18)
unfoldable pub scaled_down : ℕ → ℕ → Sheet
scaled_down A B =
    let first = mul_step two_to_minus_24 A in
    let β = mul_step two_to_minus_24 B in
    let g = mul_step two_to_24 β in
    let r = sub_step g B in
    let tie = rest_tie β r in
    before
    (line multiply two_to_minus_24 A first ∷ line multiply two_to_minus_24 B β ∷ line multiply two_to_24 β g ∷ line subtract g B r ∷ [])
    (before (cond tie (lowering β ∷ []) []) (zero_finish first (cond tie (lowered β) β)))

-- a middle product (R5.17): the pair of 2^24 times as much, scaled down
unfoldable pub middle_product : ℕ → ℕ → Sheet
middle_product x y =
    let m = mul_step two_to_24 x in
    let a' = mul_step m y in
    let b' = fma_step m y (minus a') in
    let r = recomposition a' b' in
    before (line multiply two_to_24 x m ∷ line multiply m y a' ∷ fused_line m y (minus a') b' ∷ r.lines)
    (scaled_down r.first r.second)

-- any other number (R5.19)
unfoldable pub other_product : ℕ → ℕ → ℕ → Sheet
other_product x y a =
    let b = fma_step x y (minus a) in
    before (fused_line x y (minus a) b ∷ []) (recomposed_finished a b)

-- which of the six branches, by the value (R5.12). Magnitudes count u: 2^-125 is 2 ^ 24 of them, and 2^-102 is 2 ^ 47.
unfoldable pub branch_of : Value → Branch
branch_of nan = when_nan
branch_of (infinite s) = when_infinite
branch_of (finite s a) = cond (eqb a 0) when_zero (cond (ltb a (2 ^ 24)) when_tiny (cond (leb a (2 ^ 47)) when_middle otherwise))

unfoldable pub product_by : Branch → ℕ → ℕ → ℕ → Sheet
-- both halves are a, without a line (R5.23)
product_by when_nan x y a = ends a a
product_by when_infinite x y a = infinite_product x y a
-- both halves are a, without a line (R5.14)
product_by when_zero x y a = ends a a
product_by when_tiny x y a = tiny_product x y a
product_by when_middle x y a = middle_product x y
product_by otherwise x y a = other_product x y a

unfoldable pub product_sheet : ℕ → ℕ → Sheet
product_sheet x y = let a = mul_step x y in before (line multiply x y a ∷ []) (product_by (branch_of (value a)) x y a)

-- ---- of a question: a difference is the sum of x and the flipped y (R5.9)
unfoldable pub sheet_of : Operation → ℕ → ℕ → Sheet
sheet_of sum x y = sum_sheet x y
sheet_of difference x y = sum_sheet x (minus y)
sheet_of product x y = product_sheet x y
