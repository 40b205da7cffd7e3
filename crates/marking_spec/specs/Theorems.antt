-- What is proved of marking. A name of type `Type 0` is a statement; `proofs/Theorems.antt` has its proof.
use Rattle.std.specs.Prelude.{◌≡◌, ◌⊎◌, ◌↔◌, Bool, true, false, List, [], ◌∷◌, ◌++◌, ℕ, suc, ◌*◌, ◌%◌, ◌≤◌, ◌<◌, length, take}
use Rattle.rounding_spec.specs.Format.{binary32}
use Rattle.binary32_spec.specs.Steps.{add_step, sub_step, mul_step, fma_step}
use Rattle.binary32_spec.specs.Marks.{add_mark, sub_mark, mul_mark, fma_mark}
use Rattle.augmented_spec.specs.declared.Pair.{Pair}
use Rattle.augmented_spec.specs.declared.Operation.{Operation}
use Rattle.augmented_spec.specs.Operations.{operation_number}
use Rattle.augmented_spec.specs.Direct.{direct_pair}
use Rattle.worksheet_spec.specs.declared.Step.{Step}
use Rattle.worksheet_spec.specs.declared.Step.TheVariants.{Add as add, Subtract as subtract, Multiply as multiply, Fused as fused}
use Rattle.worksheet_spec.specs.Steps.{step_number}
use Rattle.worksheet_spec.specs.Lines.{line_size, Line, line, minus}
use Rattle.worksheet_spec.specs.Sheets.{sheet_of}
use Rattle.worksheet_spec.specs.Filling.{lines_words, filled, filling, after_filling}
use Rattle.worksheet_spec.specs.Theorems.{Among}
use Rattle.marking_spec.specs.declared.Claim.{Claim}
use Rattle.marking_spec.specs.declared.MarkedNumbers.{MarkedNumbers}
use Rattle.marking_spec.specs.Marking.{claims, constants, minus_zero, among, known, allowed, is_true}
use Rattle.marking_spec.specs.Marking.{fewest_marked, most_marked, Marked, refused_at, judged, marking, marked_numbers}

-- ---- how many lines are marked, and the constants that may stand on them (R5.1, R8.18, R13.2)
abbrev pub MarkingSizes : Type 0
MarkingSizes = (fewest_marked ≡ 2) × (most_marked ≡ 100)

abbrev pub MarkingConstants : Type 0
MarkingConstants =
    (constants
    ≡ 0x3f7f_ffff ∷ 0x4000_0000 ∷ 0xc000_0000 ∷ 0x3f00_0000 ∷ 0x3fff_ffff ∷ 0x4b80_0000 ∷ 0x5780_0000 ∷ 0x3380_0000
    ∷ 0x0000_0000 ∷ 0x0000_0001 ∷ 0x8000_0001 ∷ [])
    × (minus_zero ≡ 0x8000_0000)

-- ---- a candidate's lines are words: whole lines, from 2 to 100 of them (R8.18)
abbrev pub Markable : ℕ → Type 0
Markable words = (words % 6 ≡ 0) × (12 ≤ words) × (words ≤ 600)

abbrev pub claims_words : List Claim → List ℕ
claims_words [] = []
claims_words (l ∷ ls) = l.step ∷ l.x ∷ l.y ∷ l.z ∷ l.result ∷ l.mark ∷ claims_words ls

-- no word of whole lines is passed over or counted twice
abbrev pub ClaimsMeans : Type 0
ClaimsMeans = (words : List ℕ) → length words % 6 ≡ 0 → (claims_words (claims words) ≡ words) × (6 * length (claims words) ≡ length words)

-- ---- operands (R13.2)
-- p is the result of one of these lines, with its sign or the other
abbrev pub IsResult : List Claim → ℕ → Type 0
IsResult ls p =
    (before : List Claim) × (l : Claim) × (after : List Claim) × (ls ≡ before ++ (l ∷ after)) × ((p ≡ l.result) ⊎ (p ≡ minus l.result))

-- x or y, 80000000 or a constant, or the result of an earlier line; each with its sign or the other
abbrev pub MayStand : ℕ → ℕ → List Claim → ℕ → Type 0
MayStand x y earlier p = Among p (x ∷ y ∷ []) ⊎ (Among p (0x8000_0000 ∷ constants) ⊎ IsResult earlier p)

abbrev pub KnownMeans : Type 0
KnownMeans = (x y p : ℕ) (earlier : List Claim) → (among p (known x y earlier) ≡ true) ↔ MayStand x y earlier p

-- an unused third is 0
abbrev pub Third : ℕ → ℕ → List Claim → Step → ℕ → Type 0
Third x y earlier add z = z ≡ 0
Third x y earlier subtract z = z ≡ 0
Third x y earlier multiply z = z ≡ 0
Third x y earlier fused z = MayStand x y earlier z

-- a step that there is, and operands that may stand there
abbrev pub AllowedMeans : Type 0
AllowedMeans =
    (x y : ℕ) (earlier : List Claim) (l : Claim)
    → (allowed (known x y earlier) l ≡ true)
    ↔ ((o : Step) × (l.step ≡ step_number o) × MayStand x y earlier l.x × MayStand x y earlier l.y × Third x y earlier o l.z)

-- ---- true lines (R13.3), by the step's number
abbrev pub TrueMeans : Type 0
TrueMeans =
    (l : Claim)
    → (l.step ≡ 1 → (is_true l ≡ true) ↔ ((l.result ≡ add_step l.x l.y) × (l.mark ≡ add_mark l.x l.y)))
    × (l.step ≡ 2 → (is_true l ≡ true) ↔ ((l.result ≡ sub_step l.x l.y) × (l.mark ≡ sub_mark l.x l.y)))
    × (l.step ≡ 3 → (is_true l ≡ true) ↔ ((l.result ≡ mul_step l.x l.y) × (l.mark ≡ mul_mark l.x l.y)))
    × (l.step ≡ 4 → (is_true l ≡ true) ↔ ((l.result ≡ fma_step l.x l.y l.z) × (l.mark ≡ fma_mark l.x l.y l.z)))

-- ---- what the answer says (R8.18, R13.5)
-- lines behind earlier ones, none of which meets a refusal
unfoldable pub Fit : ℕ → ℕ → List Claim → List Claim → Type 0
Fit x y earlier [] = Unit {0}
Fit x y earlier (l ∷ later) = (allowed (known x y earlier) l ≡ true) × (is_true l ≡ true) × Fit x y (earlier ++ (l ∷ [])) later

-- line n, counted from 1, is the first at fault, and its fault is P
abbrev pub FirstFault : ℕ → ℕ → List Claim → ℕ → (List Claim → Claim → Type 0) → Type 0
FirstFault x y ls n P =
    (earlier : List Claim) × (l : Claim) × (later : List Claim)
    × (ls ≡ earlier ++ (l ∷ later)) × (n ≡ suc (length earlier)) × Fit x y [] earlier × P earlier l

-- the last two results are the direct pair
abbrev pub ClaimsPair : Operation → ℕ → ℕ → List Claim → Type 0
ClaimsPair o x y ls =
    let p = direct_pair o binary32 x y in
    (earlier : List Claim) × (k : Claim) × (l : Claim)
    × (ls ≡ earlier ++ (k ∷ l ∷ [])) × (k.result ≡ p.first) × (l.result ≡ p.second)

-- what each answer says of operation, patterns and words
abbrev pub Says : ℕ → ℕ → ℕ → List ℕ → Marked → Type 0
Says n x y words (refused_at refusal at) =
    ((refusal ≡ 10) × (at ≡ 0) × ((n ≡ 0) ⊎ (3 < n)))
    ⊎ (((refusal ≡ 13) × (at ≡ 0) × (1 ≤ n) × (n ≤ 3) × (¬ Markable (length words)))
    ⊎ (((refusal ≡ 14) × (1 ≤ n) × (n ≤ 3) × Markable (length words)
    × FirstFault x y (claims words) at (λ earlier l. allowed (known x y earlier) l ≡ false))
    ⊎ ((refusal ≡ 15) × (1 ≤ n) × (n ≤ 3) × Markable (length words)
    × FirstFault x y (claims words) at (λ earlier l. (allowed (known x y earlier) l ≡ true) × (is_true l ≡ false)))))
Says n x y words (judged right) =
    (o : Operation) × (n ≡ operation_number o) × Markable (length words) × Fit x y [] (claims words)
    × ((right ≡ true) ↔ ClaimsPair o x y (claims words))

-- each answer is given exactly where what it says holds
abbrev pub MarkingMeans : Type 0
MarkingMeans = (n x y : ℕ) (words : List ℕ) (answer : Marked) → (marking n x y words ≡ answer) ↔ Says n x y words answer

-- what its numbers are then: the refusal's, its line or 0, and not right; or 0 twice, and whether the lines are right
abbrev pub NumbersMean : Type 0
NumbersMean =
    (n x y : ℕ) (words : List ℕ) (r : MarkedNumbers) → r ≡ marked_numbers (marking n x y words)
    → ((refusal at : ℕ) → Says n x y words (refused_at refusal at) → (r.refusal ≡ refusal) × (r.line ≡ at) × (r.right ≡ false))
    × ((right : Bool) → Says n x y words (judged right) → (r.refusal ≡ 0) × (r.line ≡ 0) × (r.right ≡ right))

-- in particular, where no line is refused, right says that the last two results are the direct pair, and not right that they are not
abbrev pub RightExactly : Type 0
RightExactly =
    (o : Operation) (x y : ℕ) (words : List ℕ) → Markable (length words) → Fit x y [] (claims words)
    → (ClaimsPair o x y (claims words) → marking (operation_number o) x y words ≡ judged true)
    × (¬ ClaimsPair o x y (claims words) → marking (operation_number o) x y words ≡ judged false)

-- ---- a model sheet becomes right lines by two more, first + 80000000 and second + 80000000 (R13.6)
-- p + (-0), in this order or in the other, is p
abbrev pub added_minus_zero : Bool → ℕ → Line
added_minus_zero true p = line add p 0x8000_0000 p
added_minus_zero false p = line add 0x8000_0000 p p

abbrev pub ModelSheetRight : Type 0
ModelSheetRight =
    (o : Operation) (x y : ℕ) (i j : Bool) → let s = sheet_of o x y in
    marking (operation_number o) x y (lines_words (s.lines ++ (added_minus_zero i s.first ∷ added_minus_zero j s.second ∷ [])))
    ≡ judged true

-- as filling gives it: so many words as its line count says, and the pair that it hands back
abbrev pub FilledSheetRight : Type 0
FilledSheetRight =
    (o : Operation) (x y : ℕ) (words : List ℕ) (i j : Bool) (line_count : ℕ) (p : Pair) → let n = operation_number o in
    filling n x y words ≡ filled line_count p
    → marking n x y
    (take (line_size * line_count) (after_filling n x y words)
    ++ lines_words (added_minus_zero i p.first ∷ added_minus_zero j p.second ∷ []))
    ≡ judged true

-- ---- examples
-- a line with p + (-0), and more words
abbrev pub plus_minus_zero : ℕ → ℕ → List ℕ → List ℕ
plus_minus_zero p mark words = 1 ∷ p ∷ 0x8000_0000 ∷ 0 ∷ p ∷ mark ∷ words

-- 1 and 2^-24 are their own sum's pair: two lines that show them are right, and not in each other's place. 1 less 1 is +0 twice, and -0
-- twice is not right.
abbrev pub MarkedExamples : Type 0
MarkedExamples =
    (marking 1 0x3f80_0000 0x3380_0000 (plus_minus_zero 0x3f80_0000 0 (plus_minus_zero 0x3380_0000 0 [])) ≡ judged true)
    × (marking 1 0x3f80_0000 0x3380_0000 (plus_minus_zero 0x3380_0000 0 (plus_minus_zero 0x3f80_0000 0 [])) ≡ judged false)
    × (marking 2 0x3f80_0000 0x3f80_0000 (plus_minus_zero 0x0000_0000 0 (plus_minus_zero 0x0000_0000 0 [])) ≡ judged true)
    × (marking 2 0x3f80_0000 0x3f80_0000 (plus_minus_zero 0x8000_0000 0 (plus_minus_zero 0x8000_0000 0 [])) ≡ judged false)
    -- operations 0 and 4, before anything else; two lines and a word; one line
    × (marking 0 0 0 [] ≡ refused_at 10 0) × (marking 4 0 0 (plus_minus_zero 0 0 (plus_minus_zero 0 0 [])) ≡ refused_at 10 0)
    × (marking 1 0 0 (plus_minus_zero 0 0 (plus_minus_zero 0 0 (1 ∷ []))) ≡ refused_at 13 0)
    × (marking 1 0 0 (plus_minus_zero 0 0 []) ≡ refused_at 13 0)
    -- step 5; an unused third that is not 0, on a line that is false too; 40000001, which is no constant; a line's own result
    × (marking 1 0 0 (plus_minus_zero 0 0 (5 ∷ 0 ∷ 0 ∷ 0 ∷ 0 ∷ 0 ∷ [])) ≡ refused_at 14 2)
    × (marking 1 0 0 (1 ∷ 0 ∷ 0 ∷ 1 ∷ 1 ∷ 1 ∷ plus_minus_zero 0 0 []) ≡ refused_at 14 1)
    × (marking 1 0 0 (plus_minus_zero 0 0 (plus_minus_zero 0x4000_0001 0 [])) ≡ refused_at 14 2)
    × (marking 1 0 0 (plus_minus_zero 0x3f80_0000 0 (plus_minus_zero 0 0 [])) ≡ refused_at 14 1)
    -- a false result, before an unknown step on the next line; a false mark; the mark 2 of an earlier line, which is no operand
    × (marking 1 0 0 (1 ∷ 0 ∷ 0 ∷ 0 ∷ 1 ∷ 0 ∷ 5 ∷ 0 ∷ 0 ∷ 0 ∷ 0 ∷ 0 ∷ []) ≡ refused_at 15 1)
    × (marking 1 0 0 (plus_minus_zero 0 0 (plus_minus_zero 0 1 [])) ≡ refused_at 15 2)
    × (marking 1 0x7f80_0000 0 (plus_minus_zero 0x7f80_0000 2 (plus_minus_zero 0x0000_0002 0 [])) ≡ refused_at 14 2)
    -- line 1 is 2x; its result with the sign flipped is the third operand of a fused step, x/2 - 2x, which is rounded
    × (marking 3 0x3f80_0001 0x3f80_0000
    (3 ∷ 0x4000_0000 ∷ 0x3f80_0001 ∷ 0 ∷ 0x4000_0001 ∷ 0 ∷ 4 ∷ 0x3f00_0000 ∷ 0x3f80_0001 ∷ 0xc000_0001 ∷ 0xbfc0_0002 ∷ 1
    ∷ plus_minus_zero 0x3f80_0001 0 (plus_minus_zero 0x0000_0000 0 []))
    ≡ judged true)

-- ---- all of them: `proofs/Theorems.antt` proves this
abbrev pub All : Type 0
All =
    MarkingSizes × MarkingConstants × ClaimsMeans × KnownMeans × AllowedMeans × TrueMeans × MarkingMeans × NumbersMean × RightExactly
    × ModelSheetRight × FilledSheetRight × MarkedExamples
