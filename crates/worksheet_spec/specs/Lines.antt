-- The lines of a sheet, the sheet, and what makes no line (R5.3, R5.4, R5.21, R5.22).
use Rattle.std.specs.Prelude.{ℕ, ◌*◌, ◌≡◌, Bool, List, [], ◌∷◌, ◌++◌}
use Rattle.rounding_spec.specs.Format.{binary32}
use Rattle.rounding_spec.specs.Value.{Value, decode, is_zero}
use Rattle.pattern_spec.specs.Classes.{flip}
use Rattle.binary32_spec.specs.Steps.{add_step, sub_step, mul_step, fma_step}
use Rattle.binary32_spec.specs.Marks.{add_mark, sub_mark, mul_mark, fma_mark}
use Rattle.pattern_spec.specs.Comparisons.{same}
use Rattle.worksheet_spec.specs.declared.Step.{Step}
use Rattle.worksheet_spec.specs.declared.Step.TheVariants.{Add as add, Subtract as subtract, Multiply as multiply, Fused as fused}

-- ---- sizes: words of a line (R5.22), most lines (R5.21), and words of a sheet (R8.5)
abbrev pub line_size : ℕ
line_size = 6

abbrev pub most_lines : ℕ
most_lines = 13

abbrev pub sheet_size : ℕ
sheet_size = most_lines * line_size

-- ---- a line
-- the mark of a step (R2.8)
abbrev pub mark_of : Step → ℕ → ℕ → ℕ → ℕ
mark_of add x y z = add_mark x y
mark_of subtract x y z = sub_mark x y
mark_of multiply x y z = mul_mark x y
mark_of fused x y z = fma_mark x y z

-- a step, its three operands (an unused third is 0), its result and its mark (R5.22)
pub record Line : Type 0 where
  pub step : Step
  pub x : ℕ
  pub y : ℕ
  pub z : ℕ
  pub result : ℕ
  pub mark : ℕ

-- lines of two operands, and of three: the result is given with them, and the mark is their step's, whatever the result
abbrev pub line : Step → ℕ → ℕ → ℕ → Line
line o x y r = record { step = o; x = x; y = y; z = 0; result = r; mark = mark_of o x y 0 }

abbrev pub fused_line : ℕ → ℕ → ℕ → ℕ → Line
fused_line x y z r = record { step = fused; x = x; y = y; z = z; result = r; mark = fma_mark x y z }

-- result and mark are the step's on the line's operands, and an unused third is 0 (R7.3, R5.22)
abbrev pub Gives : Step → ℕ → ℕ → ℕ → ℕ → ℕ → Type 0
Gives add x y z r m = (r ≡ add_step x y) × (m ≡ add_mark x y) × (z ≡ 0)
Gives subtract x y z r m = (r ≡ sub_step x y) × (m ≡ sub_mark x y) × (z ≡ 0)
Gives multiply x y z r m = (r ≡ mul_step x y) × (m ≡ mul_mark x y) × (z ≡ 0)
Gives fused x y z r m = (r ≡ fma_step x y z) × (m ≡ fma_mark x y z)

-- the marks of lines, in order
abbrev pub marks : List Line → List ℕ
marks [] = []
marks (l ∷ ls) = l.mark ∷ marks ls

-- ---- a sheet: its lines, and its foot, the pair that they reach
pub record Sheet : Type 0 where
  pub lines : List Line
  pub first : ℕ
  pub second : ℕ

-- lines, and then those of a sheet, with its foot
abbrev pub before : List Line → Sheet → Sheet
before ls s = record { lines = ls ++ s.lines; first = s.first; second = s.second }

-- a foot to which no more lines lead
abbrev pub ends : ℕ → ℕ → Sheet
ends x y = record { lines = []; first = x; second = y }

-- ---- flips, comparisons and choices, which make no line (R5.3): a comparison with NaN is false, and the two zeros are equal (R5.4)
abbrev pub value : ℕ → Value
value x = decode binary32 x

-- -x: the sign bit flipped, a NaN's too
abbrev pub minus : ℕ → ℕ
minus x = flip binary32 x

-- x = y
abbrev pub equal : ℕ → ℕ → Bool
equal x y = same (value x) (value y)

-- +0 or -0
abbrev pub is_zero_pattern : ℕ → Bool
is_zero_pattern x = is_zero (value x)
