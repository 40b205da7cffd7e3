-- Straight-line programs of steps, the tests that choose among them, and what a program writes on a sheet (R5).
-- Of `worksheet_spec`, the other account of R5, only what a line and a sheet are is used: no rule, constant or choice of it.
use Rattle.std.specs.Prelude.{ℕ, zero, suc, ◌+◌ as plus, Bool, true, false, not, cond, ◌&&◌, ◌||◌, List, [], ◌∷◌, ◌++◌, leb, eqb, length}
use Rattle.rounding_spec.specs.Format.{binary32}
use Rattle.rounding_spec.specs.Value as values
use Rattle.rounding_spec.specs.Value.{Value, nan, infinite, finite, decode}
use Rattle.pattern_spec.specs.Classes.{flip, copy_sign}
use Rattle.binary32_spec.specs.Steps.{add_step, sub_step, mul_step, fma_step}
use Rattle.pattern_spec.specs.Comparisons.{same, less_magnitude}
use Rattle.worksheet_spec.specs.declared.Step.TheVariants.{Add as add, Subtract as subtract, Multiply as multiply}
use Rattle.worksheet_spec.specs.Lines.{Line, line as line_of_two, fused_line, Sheet, ends}

-- ---- what stands on a line
-- the constants (R5.1), and the powers of two that results are compared with (R5.7, R5.15 to R5.18): `constant_pattern` has their patterns
pub data Constant : Type 0 where
  ψ : Constant
  +2 : Constant
  -2 : Constant
  ½ : Constant
  κ : Constant
  2^24 : Constant
  2^48 : Constant
  2^-24 : Constant
  +0 : Constant
  u : Constant
  2^127 : Constant
  2^102 : Constant
  2^-102 : Constant
  2^-125 : Constant
  2^-126 : Constant

-- X and Y are the question's patterns, after flip and exchange (R5.9); `line k` is the result of line k, counted from 1; `minus` flips the
-- sign, and `c with_sign_of o` is the constant c with o's sign (R5.3)
infix 90 ◌with_sign_of◌
pub data Operand : Type 0 where
  X : Operand
  Y : Operand
  line : ℕ → Operand
  minus : Operand → Operand
  ◌with_sign_of◌ : Constant → Operand → Operand

-- sum, difference, product; product by a constant, which is the first operand (R5.2); product plus a third operand, rounded once
infix 80 ◌⊕◌
infix 80 ◌⊖◌
infix 80 ◌·◌
infix 80 ◌⊗◌
pub data Instruction : Type 0 where
  ◌⊕◌ : Operand → Operand → Instruction
  ◌⊖◌ : Operand → Operand → Instruction
  ◌·◌ : Operand → Operand → Instruction
  ◌⊗◌ : Constant → Operand → Instruction
  fuse : Operand → Operand → Operand → Instruction

-- ---- what is asked of results: `equals` compares values, `below` (<) and `up_to` (≤) magnitudes
infix 75 ◌equals◌
infix 75 ◌below◌
infix 75 ◌up_to◌
infixr 70 ◌and◌
pub data Test : Type 0 where
  ◌equals◌ : Operand → Operand → Test
  ◌below◌ : Operand → Constant → Test
  ◌up_to◌ : Operand → Constant → Test
  is_zero : Operand → Test
  is_infinite : Operand → Test
  is_nan : Operand → Test
  is_not : Test → Test
  ◌and◌ : Test → Test → Test

-- ---- one way through the rules: the tests by which it is taken, the lines that it writes, and the two halves of the foot
pub data Way : Type 0 where
  way : List Test → List Instruction → Operand → Operand → Way

-- ---- what a program writes
-- R5.1; 2^127, 2^102, 2^-102, 2^-125 and 2^-126 have the exponent fields 254, 229, 25, 2 and 1
unfoldable pub constant_pattern : Constant → ℕ
constant_pattern ψ = 0x3f7f_ffff
constant_pattern +2 = 0x4000_0000
constant_pattern -2 = 0xc000_0000
constant_pattern ½ = 0x3f00_0000
constant_pattern κ = 0x3fff_ffff
constant_pattern 2^24 = 0x4b80_0000
constant_pattern 2^48 = 0x5780_0000
constant_pattern 2^-24 = 0x3380_0000
constant_pattern +0 = 0x0000_0000
constant_pattern u = 0x0000_0001
constant_pattern 2^127 = 0x7f00_0000
constant_pattern 2^102 = 0x7280_0000
constant_pattern 2^-102 = 0x0c80_0000
constant_pattern 2^-125 = 0x0100_0000
constant_pattern 2^-126 = 0x0080_0000

-- the result of line k, given the results of all lines so far; 0 where there is none, and `WellMade` says that no such line is mentioned
unfoldable pub result_of : ℕ → List ℕ → ℕ
result_of k [] = 0
result_of zero (r ∷ rs) = 0
result_of (suc zero) (r ∷ rs) = r
result_of (suc (suc k)) (r ∷ rs) = result_of (suc k) rs

-- the pattern of an operand, in the program of x and y, after lines with the results rs
unfoldable pub operand_pattern : ℕ → ℕ → List ℕ → Operand → ℕ
unfolding result_of constant_pattern
operand_pattern x y rs X = x
operand_pattern x y rs Y = y
operand_pattern x y rs (line k) = result_of k rs
operand_pattern x y rs (minus o) = flip binary32 (operand_pattern x y rs o)
operand_pattern x y rs (c with_sign_of o) = copy_sign (constant_pattern c) (operand_pattern x y rs o)

-- the line of an instruction: each result is the step's on the line's own operands (R7.3, R5.22)
unfoldable pub line_by : (Operand → ℕ) → Instruction → Line
unfolding constant_pattern
line_by pattern (o ⊕ p) = line_of_two add (pattern o) (pattern p) (add_step (pattern o) (pattern p))
line_by pattern (o ⊖ p) = line_of_two subtract (pattern o) (pattern p) (sub_step (pattern o) (pattern p))
line_by pattern (o · p) = line_of_two multiply (pattern o) (pattern p) (mul_step (pattern o) (pattern p))
line_by pattern (c ⊗ p) = line_of_two multiply (constant_pattern c) (pattern p) (mul_step (constant_pattern c) (pattern p))
line_by pattern (fuse o p q) = fused_line (pattern o) (pattern p) (pattern q) (fma_step (pattern o) (pattern p) (pattern q))

-- the lines of instructions below lines with the results rs
unfoldable pub lines_below : ℕ → ℕ → List ℕ → List Instruction → List Line
unfolding line_by operand_pattern
lines_below x y rs [] = []
lines_below x y rs (i ∷ is) = let l = line_by (operand_pattern x y rs) i in l ∷ lines_below x y (rs ++ l.result ∷ []) is

unfoldable pub results_on : List Line → List ℕ
results_on [] = []
results_on (l ∷ ls) = l.result ∷ results_on ls

unfoldable pub sheet_along : Way → ℕ → ℕ → Sheet
unfolding lines_below results_on operand_pattern
sheet_along (way tests is first second) x y =
    let ls = lines_below x y [] is in
    let pattern = operand_pattern x y (results_on ls) in
    record { lines = ls; first = pattern first; second = pattern second }

-- ---- which way is taken
-- |x| ≤ |y|, false where NaN takes part (R5.4)
unfoldable pub not_above : Value → Value → Bool
not_above nan w = false
not_above (infinite s) nan = false
not_above (infinite s) (infinite t) = true
not_above (infinite s) (finite t b) = false
not_above (finite s a) nan = false
not_above (finite s a) (infinite t) = true
not_above (finite s a) (finite t b) = leb a b

unfoldable pub passes : (Operand → ℕ) → Test → Bool
unfolding not_above constant_pattern
passes pattern (o equals p) = same (decode binary32 (pattern o)) (decode binary32 (pattern p))
passes pattern (o below c) = less_magnitude (decode binary32 (pattern o)) (decode binary32 (constant_pattern c))
passes pattern (o up_to c) = not_above (decode binary32 (pattern o)) (decode binary32 (constant_pattern c))
passes pattern (is_zero o) = values.is_zero (decode binary32 (pattern o))
passes pattern (is_infinite o) = values.is_infinite (decode binary32 (pattern o))
passes pattern (is_nan o) = values.is_nan (decode binary32 (pattern o))
passes pattern (is_not t) = not (passes pattern t)
passes pattern (s and t) = passes pattern s && passes pattern t

unfoldable pub all_pass : (Operand → ℕ) → List Test → Bool
unfolding passes
all_pass pattern [] = true
all_pass pattern (t ∷ ts) = passes pattern t && all_pass pattern ts

-- a way's tests are asked of x, y and the results on its own lines, so that no choice rests on a value that stands nowhere
unfoldable pub taken : Way → ℕ → ℕ → Bool
unfolding all_pass lines_below results_on operand_pattern
taken (way tests is first second) x y = all_pass (operand_pattern x y (results_on (lines_below x y [] is))) tests

unfoldable pub how_many_taken : List Way → ℕ → ℕ → ℕ
unfolding taken
how_many_taken [] x y = 0
how_many_taken (w ∷ ws) x y = plus (cond (taken w x y) 1 0) (how_many_taken ws x y)

-- the sheet of the way that is taken; `OneWay` of Theorems says that there is one
unfoldable pub sheet_by : List Way → ℕ → ℕ → Sheet
unfolding taken sheet_along
sheet_by [] x y = ends 0 0
sheet_by (w ∷ ws) x y = cond (taken w x y) (sheet_along w x y) (sheet_by ws x y)

-- ---- what can be seen of a way without running it: which lines it mentions
unfoldable pub lines_in : Operand → List ℕ
lines_in X = []
lines_in Y = []
lines_in (line k) = k ∷ []
lines_in (minus o) = lines_in o
lines_in (c with_sign_of o) = lines_in o

unfoldable pub lines_used : Instruction → List ℕ
unfolding lines_in
lines_used (o ⊕ p) = lines_in o ++ lines_in p
lines_used (o ⊖ p) = lines_in o ++ lines_in p
lines_used (o · p) = lines_in o ++ lines_in p
lines_used (c ⊗ p) = lines_in p
lines_used (fuse o p q) = lines_in o ++ lines_in p ++ lines_in q

unfoldable pub lines_asked : Test → List ℕ
unfolding lines_in
lines_asked (o equals p) = lines_in o ++ lines_in p
lines_asked (o below c) = lines_in o
lines_asked (o up_to c) = lines_in o
lines_asked (is_zero o) = lines_in o
lines_asked (is_infinite o) = lines_in o
lines_asked (is_nan o) = lines_in o
lines_asked (is_not t) = lines_asked t
lines_asked (s and t) = lines_asked s ++ lines_asked t

unfoldable pub all_used : List Instruction → List ℕ
unfolding lines_used
all_used [] = []
all_used (i ∷ is) = lines_used i ++ all_used is

unfoldable pub all_tested : List Test → List ℕ
unfolding lines_asked
all_tested [] = []
all_tested (t ∷ ts) = lines_asked t ++ all_tested ts

unfoldable pub member : ℕ → List ℕ → Bool
member k [] = false
member k (j ∷ js) = eqb k j || member k js

-- each of ks is one of the lines 1 to n
unfoldable pub within : ℕ → List ℕ → Bool
within n [] = true
within n (k ∷ ks) = leb 1 k && leb k n && within n ks

-- each of the lines 1 to n is among ks
unfoldable pub each_in : ℕ → List ℕ → Bool
unfolding member
each_in zero ks = true
each_in (suc n) ks = member (suc n) ks && each_in n ks

-- instructions below n lines use only lines above them
unfoldable pub backward : ℕ → List Instruction → Bool
unfolding lines_used within
backward n [] = true
backward n (i ∷ is) = within n (lines_used i) && backward (suc n) is

-- An instruction uses only lines above it; tests and foot mention only lines that stand; and no line is idle: an instruction, a test or the
-- foot mentions it.
unfoldable pub well_made : Way → Bool
unfolding backward all_used all_tested within each_in lines_in
well_made (way tests is first second) =
    let mentioned = all_used is ++ all_tested tests ++ lines_in first ++ lines_in second in
    backward 0 is && within (length is) mentioned && each_in (length is) mentioned

unfoldable pub all_well_made : List Way → Bool
unfolding well_made
all_well_made [] = true
all_well_made (w ∷ ws) = well_made w && all_well_made ws
