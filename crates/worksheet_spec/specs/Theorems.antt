-- What is proved of step sheets. `All`, at the end, lists the statements, and `proofs/Theorems.antt` proves them.
use Rattle.std.specs.Prelude.{◌≡◌, ◌⊎◌, Bool, true, false, cond, List, [], ◌∷◌, ◌++◌, ℕ, ◌-◌}
use Rattle.std.specs.Prelude.{◌*◌, ◌^◌, ◌≤◌, ◌<◌, length, take, drop, replicate}
use Rattle.pattern_spec.specs.Answer.{Answer, refused}
use Rattle.rounding_spec.specs.Format.{binary32}
use Rattle.rounding_spec.specs.Value.{Value, nan, infinite, finite, is_finite, encode}
use Rattle.binary32_spec.specs.Steps.{add_step, sub_step, mul_step, fma_step}
use Rattle.binary32_spec.specs.Marks.{add_mark, sub_mark, mul_mark, fma_mark}
use Rattle.augmented_spec.specs.declared.Operation.{Operation}
use Rattle.augmented_spec.specs.declared.Operation.TheVariants.{Sum as sum, Difference as difference, Product as product}
use Rattle.augmented_spec.specs.Operations.{operation_number}
use Rattle.augmented_spec.specs.Direct.{direct_pair}
use Rattle.pattern_spec.specs.Comparisons.{less_magnitude}
use Rattle.worksheet_spec.specs.declared.FilledNumbers.{FilledNumbers}
use Rattle.worksheet_spec.specs.Constants.{psi, two, minus_two, half, kappa, two_to_24, two_to_48, two_to_minus_24, plus_zero, smallest}
use Rattle.worksheet_spec.specs.Constants.{factors, two_to_127, two_to_102, two_to_minus_102, two_to_minus_126}
use Rattle.worksheet_spec.specs.declared.Step.{Step}
use Rattle.worksheet_spec.specs.declared.Step.TheVariants.{Add as add, Subtract as subtract, Multiply as multiply, Fused as fused}
use Rattle.worksheet_spec.specs.Steps.{step_number}
use Rattle.worksheet_spec.specs.Lines.{line_size, most_lines, sheet_size}
use Rattle.worksheet_spec.specs.Lines.{Line, line, fused_line, Gives, before, ends, value, minus, equal, is_zero_pattern}
use Rattle.worksheet_spec.specs.Sheets.{sheet_of}
use Rattle.worksheet_spec.specs.Filling.{FilledSheet, filled, filling, after_filling, HasDirectPair, Fills, FillsNumbered}

-- ---- the constants (R5.1): each is the pattern of its number. Magnitudes count u = 2^-149, so 1 is 2 ^ 149 of them.
abbrev pub positive_pattern : ℕ → ℕ
positive_pattern m = encode binary32 (finite false m)

abbrev pub ConstantPatterns : Type 0
ConstantPatterns =
    (psi ≡ positive_pattern (2 ^ 149 - 2 ^ 125)) × (two ≡ positive_pattern (2 ^ 150)) × (minus_two ≡ minus two)
    × (half ≡ positive_pattern (2 ^ 148)) × (kappa ≡ positive_pattern (2 ^ 150 - 2 ^ 126))
    × (two_to_24 ≡ positive_pattern (2 ^ 24 * 2 ^ 149)) × (two_to_48 ≡ positive_pattern (2 ^ 48 * 2 ^ 149))
    × (two_to_minus_24 ≡ positive_pattern (2 ^ 125)) × (plus_zero ≡ positive_pattern 0)
    × (smallest ≡ positive_pattern 1) × (minus smallest ≡ 0x8000_0001)
    × (two_to_127 ≡ positive_pattern (2 ^ 127 * 2 ^ 149)) × (two_to_102 ≡ positive_pattern (2 ^ 102 * 2 ^ 149))
    × (two_to_minus_102 ≡ positive_pattern (2 ^ 47)) × (two_to_minus_126 ≡ positive_pattern (2 ^ 23))

-- ---- how many words a line has, how many lines and words a sheet (R5.21, R5.22, R8.5)
abbrev pub SheetSizes : Type 0
SheetSizes = (line_size ≡ 6) × (most_lines ≡ 13) × (sheet_size ≡ 78)

-- ---- the numbers of steps (R5.22)
abbrev pub StepNumbers : Type 0
StepNumbers = (step_number add ≡ 1) × (step_number subtract ≡ 2) × (step_number multiply ≡ 3) × (step_number fused ≡ 4)

-- ---- each line by itself: its result and its mark are the step's on its operands (R7.3)
-- what it is to be given by a step, NaN too; an unused third operand is 0 (R5.22)
abbrev pub GivesMeans : Type 0
GivesMeans =
    (x y z r m : ℕ)
    → (Gives add x y z r m → (r ≡ add_step x y) × (m ≡ add_mark x y) × (z ≡ 0))
    × (Gives subtract x y z r m → (r ≡ sub_step x y) × (m ≡ sub_mark x y) × (z ≡ 0))
    × (Gives multiply x y z r m → (r ≡ mul_step x y) × (m ≡ mul_mark x y) × (z ≡ 0))
    × (Gives fused x y z r m → (r ≡ fma_step x y z) × (m ≡ fma_mark x y z))

unfoldable pub Each : List Line → Type 0
Each [] = Unit {0}
Each (l ∷ ls) = Gives l.step l.x l.y l.z l.result l.mark × Each ls

abbrev pub EachLine : Type 0
EachLine = (o : Operation) (x y : ℕ) → Each (sheet_of o x y).lines

-- ---- where the lines come from and lead to
-- p is one of ks, or one of them with its sign flipped
unfoldable pub Among : ℕ → List ℕ → Type 0
Among p [] = ⊥
Among p (k ∷ ks) = (p ≡ k) ⊎ (p ≡ minus k) ⊎ Among p ks

unfoldable pub Member : ℕ → List ℕ → Type 0
Member p [] = ⊥
Member p (k ∷ ks) = (p ≡ k) ⊎ Member p ks

-- Operands are among what is known, ks, but for the constants: factors stand first (R5.2), and u, with a sign, is taken away (R5.8).
abbrev pub Drawn : List ℕ → Step → ℕ → ℕ → ℕ → Type 0
Drawn ks add x y z = Among x ks × Among y ks
Drawn ks subtract x y z = Among x ks × (Among y ks ⊎ Among y (smallest ∷ []))
Drawn ks multiply x y z = (Among x ks ⊎ Member x factors) × Among y ks
Drawn ks fused x y z = Among x ks × Among y ks × Among z ks

-- a line's result is known after it
unfoldable pub Known : List ℕ → List Line → Type 0
Known ks [] = Unit {0}
Known ks (l ∷ ls) = Drawn ks l.step l.x l.y l.z × Known (l.result ∷ ks) ls

abbrev pub results : List Line → List ℕ
results [] = []
results (l ∷ ls) = l.result ∷ results ls

-- known at first are the question's two patterns; both halves of the foot are among the results
abbrev pub Derived : Type 0
Derived =
    (o : Operation) (x y : ℕ) → let s = sheet_of o x y in
    Known (x ∷ y ∷ []) s.lines × Among s.first (results s.lines) × Among s.second (results s.lines)

-- the first line: a = x + y in the order of magnitudes, after y's flip where it is a difference (R5.9, R5.10), or a = x·y (R5.12)
abbrev pub FirstLine : Type 0
FirstLine =
    ((x y : ℕ) → less_magnitude (value x) (value y) ≡ true → take 1 (sheet_of sum x y).lines ≡ line add y x (add_step y x) ∷ [])
    × ((x y : ℕ) → less_magnitude (value x) (value y) ≡ false → take 1 (sheet_of sum x y).lines ≡ line add x y (add_step x y) ∷ [])
    × ((x y : ℕ) → sheet_of difference x y ≡ sheet_of sum x (minus y))
    × ((x y : ℕ) → take 1 (sheet_of product x y).lines ≡ line multiply x y (mul_step x y) ∷ [])

-- ---- the steps of all lines, in order: which lines there are, and how many (R5.21, R7.3)
abbrev pub steps_of : List Line → List Step
steps_of [] = []
steps_of (l ∷ ls) = l.step ∷ steps_of ls

-- of recomposition (R5.5), of zero finish (R5.6) and of the edge (R5.7)
abbrev pub recomposition_steps : List Step
recomposition_steps = multiply ∷ subtract ∷ multiply ∷ []

abbrev pub finish_step : List Step
finish_step = multiply ∷ []

abbrev pub edge_steps : List Step
edge_steps = multiply ∷ multiply ∷ []

-- of a sum that is no NaN (R5.10), and of half the operands (R5.11)
abbrev pub opening_steps : List Step
opening_steps = add ∷ subtract ∷ subtract ∷ recomposition_steps

abbrev pub halved_steps : List Step
halved_steps = multiply ∷ multiply ∷ add ∷ subtract ∷ subtract ∷ []

-- of a sum, by the value of a and the foot's halves: one line where a is NaN, 6 or 7 where it is finite, 11 or 13 where it is infinite
abbrev pub sum_steps : Value → ℕ → ℕ → List Step
sum_steps nan first second = add ∷ []
sum_steps (finite s m) first second = opening_steps ++ cond (is_zero_pattern second) finish_step []
sum_steps (infinite s) first second = opening_steps ++ halved_steps ++ cond (is_finite (value first)) edge_steps []

-- of a tiny product (R5.15) and of a middle one (R5.17), behind the line of a
abbrev pub tiny_steps : List Step
tiny_steps = multiply ∷ multiply ∷ multiply ∷ fused ∷ multiply ∷ subtract ∷ add ∷ subtract ∷ []

abbrev pub middle_steps : List Step
middle_steps = multiply ∷ multiply ∷ fused ∷ recomposition_steps ++ (multiply ∷ multiply ∷ multiply ∷ subtract ∷ [])

-- Of a product: one line where a is NaN, 4 or 6 where it is infinite; else by its magnitude, which counts u, 1, 10 or 11, 11 or 12, 5 or 6.
-- 2^-125 is 2 ^ 24 u, and 2^-102 is 2 ^ 47 u. From the one to the other a zero second has the line of zero finish, and any other may have
-- that of a correction.
abbrev pub ProductSteps : ℕ → Value → ℕ → ℕ → List Step → Type 0
ProductSteps a nan first second steps = steps ≡ multiply ∷ []
ProductSteps a (infinite s) first second steps =
    steps ≡ multiply ∷ multiply ∷ multiply ∷ fused ∷ cond (is_finite (value first)) edge_steps []
ProductSteps a (finite s m) first second steps =
    (m ≡ 0 → steps ≡ multiply ∷ [])
    × (0 < m → m < 2 ^ 24 → steps ≡ multiply ∷ tiny_steps ++ cond (equal first a) finish_step (subtract ∷ finish_step))
    × (2 ^ 24 ≤ m → m ≤ 2 ^ 47
    → (is_zero_pattern second ≡ true → steps ≡ multiply ∷ middle_steps ++ finish_step)
    × (is_zero_pattern second ≡ false → (steps ≡ multiply ∷ middle_steps) ⊎ (steps ≡ multiply ∷ middle_steps ++ (subtract ∷ []))))
    × (2 ^ 47 < m → steps ≡ multiply ∷ fused ∷ recomposition_steps ++ cond (is_zero_pattern second) finish_step [])

abbrev pub InOrder : Type 0
InOrder =
    ((x y : ℕ) → let s = sheet_of sum x y in steps_of s.lines ≡ sum_steps (value (add_step x y)) s.first s.second)
    × ((x y : ℕ) → let s = sheet_of product x y in
    ProductSteps (mul_step x y) (value (mul_step x y)) s.first s.second (steps_of s.lines))

-- ---- NaN
-- R5.23: a NaN line 1 is the only line, with the operands in the question's order, and its result is the foot, twice
abbrev pub EndsAtNaN : Type 0
EndsAtNaN =
    ((x y : ℕ) → let a = add_step x y in value a ≡ nan → sheet_of sum x y ≡ before (line add x y a ∷ []) (ends a a))
    × ((x y : ℕ) → let a = add_step x (minus y) in value a ≡ nan
    → sheet_of difference x y ≡ before (line add x (minus y) a ∷ []) (ends a a))
    × ((x y : ℕ) → let a = mul_step x y in value a ≡ nan → sheet_of product x y ≡ before (line multiply x y a ∷ []) (ends a a))

-- After an infinite line 1 NaN may stand on later ones. All of them, but for the edge's two (R5.7): of a sum whose x is not the smaller one
-- these eleven (R5.10, R5.11), of a product these four (R5.13).
abbrev pub infinite_sum_lines : ℕ → ℕ → List Line
infinite_sum_lines x y =
    let a = add_step x y in
    let v = sub_step a x in
    let b = sub_step y v in
    let z = mul_step psi a in
    let x' = mul_step half x in
    let y' = mul_step half y in
    let a' = add_step x' y' in
    let v' = sub_step a' x' in
    line add x y a ∷ line subtract a x v ∷ line subtract y v b
    ∷ line multiply psi a z ∷ line subtract z a (sub_step z a) ∷ line multiply two b (mul_step two b)
    ∷ line multiply half x x' ∷ line multiply half y y'
    ∷ line add x' y' a' ∷ line subtract a' x' v' ∷ line subtract y' v' (sub_step y' v') ∷ []

abbrev pub infinite_product_lines : ℕ → ℕ → List Line
infinite_product_lines x y =
    let h = mul_step half x in
    let a' = mul_step h y in
    line multiply x y (mul_step x y) ∷ line multiply half x h ∷ line multiply h y a'
    ∷ fused_line h y (minus a') (fma_step h y (minus a')) ∷ []

abbrev pub InfiniteLines : Type 0
InfiniteLines =
    ((x y : ℕ) (s : Bool) → value (add_step x y) ≡ infinite s
    → (less_magnitude (value x) (value y) ≡ false → take 11 (sheet_of sum x y).lines ≡ infinite_sum_lines x y)
    × (less_magnitude (value y) (value x) ≡ true → take 11 (sheet_of sum y x).lines ≡ infinite_sum_lines x y))
    × ((x y : ℕ) (s : Bool) → value (mul_step x y) ≡ infinite s → take 4 (sheet_of product x y).lines ≡ infinite_product_lines x y)

-- the only later line of a product with a NaN operand: line 4 of u or -u times an infinity, where line 3's NaN stands with its sign
-- flipped (R5.3) and is the result
abbrev pub SmallestTimesInfinity : Type 0
SmallestTimesInfinity =
    (x y : ℕ) (t : Bool) → (x ≡ smallest) ⊎ (x ≡ minus smallest) → value y ≡ infinite t
    → let a = mul_step x y in
    let h = mul_step half x in
    sheet_of product x y
    ≡ before
    (line multiply x y a ∷ line multiply half x h ∷ line multiply h y 0x7fc0_0000 ∷ fused_line h y 0xffc0_0000 0xffc0_0000 ∷ [])
    (ends a a)

-- ---- at most `most_lines` (R5.21), and at least one
abbrev pub LineCount : Type 0
LineCount = (o : Operation) (x y : ℕ) → (1 ≤ length (sheet_of o x y).lines) × (length (sheet_of o x y).lines ≤ most_lines)

-- ---- the foot is the direct pair, bit for bit (R7.4). (The flags that come back are the direct pair's: said where a sheet is filled.)
abbrev pub FootIsPair : Type 0
FootIsPair =
    (o : Operation) (x y : ℕ) → let s = sheet_of o x y in let p = direct_pair o binary32 x y in
    (s.first ≡ p.first) × (s.second ≡ p.second)

-- ---- one sheet in full, the one of R9.11: its six lines, whose marks `WorkedMarks` of worksheet_marks has, and its foot
abbrev pub PrintedSheet : Type 0
PrintedSheet =
    sheet_of sum 0x3f80_0001 0x3380_0000
    ≡ before
    (line add 0x3f80_0001 0x3380_0000 0x3f80_0002
    ∷ line subtract 0x3f80_0002 0x3f80_0001 0x3400_0000
    ∷ line subtract 0x3380_0000 0x3400_0000 0xb380_0000
    ∷ line multiply 0x3f7f_ffff 0x3f80_0002 0x3f80_0001
    ∷ line subtract 0x3f80_0001 0x3f80_0002 0xb400_0000
    ∷ line multiply 0x4000_0000 0xb380_0000 0xb400_0000
    ∷ [])
    (ends 0x3f80_0001 0x3380_0000)

-- ---- filling
-- its refusals, in their order (R8.2, R8.5); they leave the words as they were (R8.1)
abbrev pub FillingRefused : Type 0
FillingRefused =
    (o x y : ℕ) (words : List ℕ)
    → ((o ≡ 0) ⊎ (3 < o) → (filling o x y words ≡ refused 10) × (after_filling o x y words ≡ words))
    × (1 ≤ o → o ≤ 3 → length words < sheet_size → (filling o x y words ≡ refused 9) × (after_filling o x y words ≡ words))

-- the words where it is carried out (R8.6): each of the lines stands in its own words, unused ones are 0, those after them stay
abbrev pub SheetWritten : List Line → List ℕ → List ℕ → Type 0
SheetWritten ls words after =
    let unused = sheet_size - line_size * length ls in
    (length after ≡ length words)
    × ((k : ℕ) (earlier later : List Line) (l : Line) → ls ≡ earlier ++ (l ∷ later) → k ≡ length earlier
    → take line_size (drop (line_size * k) after) ≡ step_number l.step ∷ l.x ∷ l.y ∷ l.z ∷ l.result ∷ l.mark ∷ [])
    × (take unused (drop (line_size * length ls) after) ≡ replicate unused 0)
    × (drop sheet_size after ≡ drop sheet_size words)

-- and the answer then
abbrev pub SheetFilled : Type 0
SheetFilled =
    (o : Operation) (x y : ℕ) (words : List ℕ) → sheet_size ≤ length words
    → let n = operation_number o in let ls = (sheet_of o x y).lines in
    (filling n x y words ≡ filled (length ls) (direct_pair o binary32 x y)) × SheetWritten ls words (after_filling n x y words)

-- what the contract's relation says of answer and words: the refusals, in their order, or the sheet
abbrev pub FillsMeans : Type 0
FillsMeans =
    (n x y : ℕ) (words after : List ℕ) (answer : Answer FilledSheet) → Fills n x y words answer after
    → ((n ≡ 0) ⊎ (3 < n) → (answer ≡ refused 10) × (after ≡ words))
    × (1 ≤ n → n ≤ 3 → length words < sheet_size → (answer ≡ refused 9) × (after ≡ words))
    × ((o : Operation) → n ≡ operation_number o → sheet_size ≤ length words
    → let ls = (sheet_of o x y).lines in
    (answer ≡ filled (length ls) (direct_pair o binary32 x y)) × SheetWritten ls words after)

-- By numbers: 10, then 9, beside zeros and no flag; else 0, the line count and the direct pair with its flags (R7.4, R8.6).
abbrev pub NoSheetFilled : ℕ → FilledNumbers → Type 0
NoSheetFilled n r =
    (r.refusal ≡ n) × (r.lines ≡ 0) × (r.first ≡ 0) × (r.second ≡ 0)
    × (r.flags.invalid ≡ false) × (r.flags.overflow ≡ false) × (r.flags.underflow ≡ false) × (r.flags.inexact ≡ false)

abbrev pub FillNumbers : Type 0
FillNumbers =
    (n x y : ℕ) (words after : List ℕ) (r : FilledNumbers) → FillsNumbered n x y words r after
    → ((n ≡ 0) ⊎ (3 < n) → NoSheetFilled 10 r × (after ≡ words))
    × (1 ≤ n → n ≤ 3 → length words < sheet_size → NoSheetFilled 9 r × (after ≡ words))
    × ((o : Operation) → n ≡ operation_number o → sheet_size ≤ length words
    → let ls = (sheet_of o x y).lines in let p = direct_pair o binary32 x y in
    (r.refusal ≡ 0) × (r.lines ≡ length ls) × (r.first ≡ p.first) × (r.second ≡ p.second)
    × (r.flags.invalid ≡ p.flags.invalid) × (r.flags.overflow ≡ p.flags.overflow)
    × (r.flags.underflow ≡ p.flags.underflow) × (r.flags.inexact ≡ p.flags.inexact)
    × SheetWritten ls words after)

-- the pair that comes back is the direct pair, with its flags (R7.4): of every answer
abbrev pub FilledPair : Type 0
FilledPair = (o x y : ℕ) (words : List ℕ) → HasDirectPair o x y (filling o x y words)

-- ---- all of them
abbrev pub All : Type 0
All =
    ConstantPatterns × StepNumbers × GivesMeans × EachLine × Derived × FirstLine × InOrder × EndsAtNaN × InfiniteLines
    × SmallestTimesInfinity × LineCount × FootIsPair × PrintedSheet × SheetSizes × FillingRefused × SheetFilled × FillsMeans
    × FillNumbers × FilledPair
