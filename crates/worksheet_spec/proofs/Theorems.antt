-- The theorems of `specs/Theorems.antt`.
use mathlib.Core.Path.{◌≡◌, refl, ap, subst, ◌∙◌}
use mathlib.Core.Logic.{◌⊎◌, inl, inr}
use mathlib.Core.Bool.{Bool, true, false, not, cond}
use mathlib.Core.List.{List, [], ◌∷◌, ◌++◌}
use Prim.Native.Nat.{ℕ, suc, ◌-◌, ◌*◌, ◌^◌, ◌≤◌}
use native.Mathlib.Nat.{eq-zero-or-pos}
use native.Mathlib.Decide.{dec_le}
use native.Mathlib.Omega.{arith}
use lib.Dec.{T}
use lib.ListN.{length, take}
use Rattle.rounding_spec.specs.Value.{Value, nan, infinite, finite, is_nan, is_finite, decode}
use Rattle.binary32_spec.specs.Steps.{add_step, mul_step}
use Rattle.pattern_spec.specs.Answer.{refused}
use Rattle.augmented_spec.specs.declared.Operation.TheVariants.{Sum as sum, Difference as difference, Product as product}
use Rattle.worksheet_spec.specs.declared.FilledNumbers.{FilledNumbers}
use Rattle.worksheet_spec.specs.Constants.{psi, two, half, kappa, two_to_24, two_to_48, two_to_minus_24, plus_zero, smallest, two_to_127, two_to_102, two_to_minus_102, two_to_minus_126}
use Rattle.worksheet_spec.specs.declared.Step.{Step}
use Rattle.worksheet_spec.specs.declared.Step.TheVariants.{Add as add, Subtract as subtract, Multiply as multiply, Fused as fused}
use Rattle.worksheet_spec.specs.Lines.{most_lines, Line, line, value, minus, equal, is_zero_pattern}
use Rattle.worksheet_spec.specs.Sheets.{sum_in_order, swaps, sum_sheet, product_sheet, sheet_of}
use Rattle.worksheet_spec.specs.Filling.{filling, filled_numbers}
use Rattle.worksheet_spec.specs.Theorems.{positive_pattern, ConstantPatterns, StepNumbers, EachLine, Derived, FirstLine, steps_of, recomposition_steps, finish_step, edge_steps, opening_steps}
use Rattle.worksheet_spec.specs.Theorems.{halved_steps, sum_steps, tiny_steps, middle_steps, ProductSteps, InOrder, EndsAtNaN, SmallestTimesInfinity, LineCount}
use Rattle.worksheet_spec.specs.Theorems.{GivesMeans, InfiniteLines, FootIsPair, PrintedSheet, SheetSizes, FillingRefused, SheetFilled, FillsMeans, NoSheetFilled, FillNumbers, FilledPair, All}
use Rattle.worksheet_spec.proofs.Patterns.{Pattern, pattern-of}
use Rattle.worksheet_spec.proofs.Computed as computed
use Rattle.worksheet_spec.proofs.EachLine as lines
use Rattle.worksheet_spec.proofs.Derived as derivation
use Rattle.worksheet_spec.proofs.NaNLines as not-a-number
use Rattle.worksheet_spec.proofs.InfiniteLines as infinite
use Rattle.worksheet_spec.proofs.FootIsPair as feet
use Rattle.worksheet_spec.proofs.Filling as answers
use Rattle.worksheet_spec.proofs.SumSteps.{sum-steps}
use Rattle.worksheet_spec.proofs.ProductSteps.{product-steps}

-- ---- the constants
constant : (x m : ℕ) → Pattern x → value x ≡ finite false m → x ≡ positive_pattern m
constant x m w e = pattern-of x (finite false m) w e (λ (z : finite false m ≡ nan). subst (λ (v : Value). T (not (is_nan v))) z tt)

pub constant-patterns : ConstantPatterns
unfolding decode
constant-patterns = (
  constant psi (2 ^ 149 - 2 ^ 125) (omega arith) refl,
  constant two (2 ^ 150) (omega arith) refl,
  refl,
  constant half (2 ^ 148) (omega arith) refl,
  constant kappa (2 ^ 150 - 2 ^ 126) (omega arith) refl,
  constant two_to_24 (2 ^ 24 * 2 ^ 149) (omega arith) refl,
  constant two_to_48 (2 ^ 48 * 2 ^ 149) (omega arith) refl,
  constant two_to_minus_24 (2 ^ 125) (omega arith) refl,
  constant plus_zero 0 (omega arith) refl,
  constant smallest 1 (omega arith) refl,
  refl,
  constant two_to_127 (2 ^ 127 * 2 ^ 149) (omega arith) refl,
  constant two_to_102 (2 ^ 102 * 2 ^ 149) (omega arith) refl,
  constant two_to_minus_102 (2 ^ 47) (omega arith) refl,
  constant two_to_minus_126 (2 ^ 23) (omega arith) refl,
)

pub step-numbers : StepNumbers
step-numbers = (refl, refl, refl, refl)

-- ---- the lines
pub gives-means : GivesMeans
gives-means x y z r m = (λ g. g, λ g. g, λ g. g, λ g. g)

pub each_line : EachLine
each_line = lines.each_line

pub derived : Derived
derived = derivation.derived

starts : (x y : ℕ) → take 1 (sum_in_order x y).lines ≡ line add x y (add_step x y) ∷ []
unfolding sum_in_order
starts x y = refl

pub first-line : FirstLine
unfolding sheet_of sum_sheet swaps product_sheet
first-line =
    (λ x y h. rw h (starts y x), λ x y h. rw h (starts x y), λ x y. refl, λ x y. refl)

pub in-order : InOrder
unfolding sheet_of
in-order = (sum-steps, product-steps)

pub ends-at-nan : EndsAtNaN
ends-at-nan = not-a-number.ends-at-nan

pub infinite-lines : InfiniteLines
infinite-lines = infinite.infinite-lines

pub smallest-times-infinity : SmallestTimesInfinity
smallest-times-infinity = not-a-number.smallest-times-infinity

-- ---- how many there are
counted : (ls : List Line) → length ls ≡ length (steps_of ls)
counted [] = refl
counted (l ∷ ls) = ap suc (counted ls)

abbrev Range : ℕ → Type 0
Range n = (1 ≤ n) × (n ≤ most_lines)

ranged : (steps told : List Step) → steps ≡ told → Range (length told) → Range (length steps)
ranged steps told e h = rw e h

sum-range : (v : Value) (first second : ℕ) (steps : List Step) → steps ≡ sum_steps v first second → Range (length steps)
sum-range nan first second steps h = ranged steps _ h (omega arith)
sum-range (finite s m) first second steps h = by (is_zero_pattern second) h
  where
    by : (c : Bool) → steps ≡ opening_steps ++ cond c finish_step [] → Range (length steps)
    by true e = ranged steps _ e (omega arith)
    by false e = ranged steps _ e (omega arith)
sum-range (infinite s) first second steps h = by (is_finite (value first)) h
  where
    by : (c : Bool) → steps ≡ opening_steps ++ halved_steps ++ cond c edge_steps [] → Range (length steps)
    by true e = ranged steps _ e (omega arith)
    by false e = ranged steps _ e (omega arith)

product-range : (a : ℕ) (v : Value) (first second : ℕ) (steps : List Step) → ProductSteps a v first second steps → Range (length steps)
product-range a nan first second steps h = ranged steps _ h (omega arith)
product-range a (infinite s) first second steps h = by (is_finite (value first)) h
  where
    by : (c : Bool) → steps ≡ multiply ∷ multiply ∷ multiply ∷ fused ∷ cond c edge_steps [] → Range (length steps)
    by true e = ranged steps _ e (omega arith)
    by false e = ranged steps _ e (omega arith)
product-range a (finite s m) first second steps h =
    elim (eq-zero-or-pos m) [
      | inl z ↦ ranged steps _ (h.0 z) (omega arith)
      | inr pos ↦ elim (dec_le (2 ^ 24) m) [
        | no lo ↦ tiny (equal first a) (h.1 pos (omega arith))
        | yes lo ↦ elim (dec_le m (2 ^ 47)) [ yes hi ↦ middle (is_zero_pattern second) refl (h.2 lo hi) | no hi ↦ other (is_zero_pattern second) (h.3 (omega arith)) ]
      ]
    ]
  where
    tiny : (c : Bool) → steps ≡ multiply ∷ tiny_steps ++ cond c finish_step (subtract ∷ finish_step) → Range (length steps)
    tiny true e = ranged steps _ e (omega arith)
    tiny false e = ranged steps _ e (omega arith)

    middle : (c : Bool) → is_zero_pattern second ≡ c → (is_zero_pattern second ≡ true → steps ≡ multiply ∷ middle_steps ++ finish_step)
        × (is_zero_pattern second ≡ false → (steps ≡ multiply ∷ middle_steps) ⊎ (steps ≡ multiply ∷ middle_steps ++ (subtract ∷ []))) → Range (length steps)
    middle true e k = ranged steps _ (k.0 e) (omega arith)
    middle false e k = elim (k.1 e) [ inl o ↦ ranged steps _ o (omega arith) | inr o ↦ ranged steps _ o (omega arith) ]

    other : (c : Bool) → steps ≡ multiply ∷ fused ∷ recomposition_steps ++ cond c finish_step [] → Range (length steps)
    other true e = ranged steps _ e (omega arith)
    other false e = ranged steps _ e (omega arith)

sum-at-most : (x y : ℕ) → Range (length (sum_sheet x y).lines)
sum-at-most x y = rw (counted (sum_sheet x y).lines) (sum-range (value (add_step x y)) (sum_sheet x y).first (sum_sheet x y).second (steps_of (sum_sheet x y).lines) (sum-steps x y))

pub line-count : LineCount
unfolding sheet_of
line-count sum x y = sum-at-most x y
line-count difference x y = sum-at-most x (minus y)
line-count product x y =
    rw (counted (product_sheet x y).lines) (product-range (mul_step x y) (value (mul_step x y)) (product_sheet x y).first (product_sheet x y).second (steps_of (product_sheet x y).lines)
    (product-steps x y))

-- ---- the foot
pub foot-is-pair : FootIsPair
foot-is-pair = feet.foot-is-pair

pub printed-sheet : PrintedSheet
printed-sheet = computed.printed-sheet

-- ---- filling
pub sheet-sizes : SheetSizes
sheet-sizes = (refl, refl, refl)

pub filling-refused : FillingRefused
filling-refused = answers.filling-refused

pub sheet-filled : SheetFilled
sheet-filled o x y words h = answers.sheet-filled o x y words h (line-count o x y).1

pub fills-means : FillsMeans
fills-means n x y words after answer h = (
  λ outside. let c = (filling-refused n x y words).0 outside in (h.0 ∙ c.0, h.1 ∙ c.1),
  λ low high short. let c = (filling-refused n x y words).1 low high short in (h.0 ∙ c.0, h.1 ∙ c.1),
  λ o k room. let c = sheet-filled o x y words room in rw (h.1, k) (h.0 ∙ ap (λ (i : ℕ). filling i x y words) k ∙ c.0, c.1),
)

pub filled-pair : FilledPair
filled-pair = answers.filled-pair

-- ---- filling, by numbers
no-sheet-filled : (n : ℕ) (r : FilledNumbers) → r ≡ filled_numbers (refused n) → NoSheetFilled n r
no-sheet-filled n r e = rw e (refl, refl, refl, refl, refl, refl, refl, refl)

pub fill-numbers : FillNumbers
fill-numbers n x y words after r h =
    let a = filling n x y words in
    let c = fills-means n x y words after a (refl, h.1, filled-pair n x y words) in (
      λ outside. let d = c.0 outside in (no-sheet-filled 10 r (h.0 ∙ ap filled_numbers d.0), d.1),
      λ low high short. let d = c.1 low high short in (no-sheet-filled 9 r (h.0 ∙ ap filled_numbers d.0), d.1),
      λ o k room. let d = c.2 o k room in let e = h.0 ∙ ap filled_numbers d.0 in (
        ap (λ (s : FilledNumbers). s.refusal) e,
        ap (λ (s : FilledNumbers). s.lines) e,
        ap (λ (s : FilledNumbers). s.first) e,
        ap (λ (s : FilledNumbers). s.second) e,
        ap (λ (s : FilledNumbers). s.flags.invalid) e,
        ap (λ (s : FilledNumbers). s.flags.overflow) e,
        ap (λ (s : FilledNumbers). s.flags.underflow) e,
        ap (λ (s : FilledNumbers). s.flags.inexact) e,
        d.1,
      ),
    )

pub all : All
all = (
  constant-patterns,
  step-numbers,
  gives-means,
  each_line,
  derived,
  first-line,
  in-order,
  ends-at-nan,
  infinite-lines,
  smallest-times-infinity,
  line-count,
  foot-is-pair,
  printed-sheet,
  sheet-sizes,
  filling-refused,
  sheet-filled,
  fills-means,
  fill-numbers,
  filled-pair,
)
