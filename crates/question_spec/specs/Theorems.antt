-- What holds of question lines. Each name is a statement; proofs/Theorems.antt has its proof.
use Rattle.std.specs.Prelude.{ℕ, ◌-◌, ◌/◌, ◌%◌, ◌^◌, ◌≤◌, ◌<◌, ◌≡◌, ◌≢◌, ◌⊎◌, true, List, [], ◌∷◌, ◌++◌, length, get_or, take}
use Rattle.pattern_spec.specs.Answer.{refused, is_done}
use Rattle.augmented_spec.specs.Operations.{is_operation}
use Rattle.question_spec.specs.Ascii.{ascii}
use Rattle.question_spec.specs.Questions.{
  question_size,
  letters_operation,
  asked,
  read_question,
  pattern_text,
  question_text,
}

-- ---- what R8.3 asks of a line, told from its bytes
-- the first three are `sum`, `dif` or `mul`
abbrev pub HasLetters : List ℕ → Type 0
HasLetters line = (take 3 line ≡ ascii "sum") ⊎ ((take 3 line ≡ ascii "dif") ⊎ (take 3 line ≡ ascii "mul"))

-- bytes 3 and 12 are tabs
abbrev pub HasTabs : List ℕ → Type 0
HasTabs line = (get_or line 3 0 ≡ 9) × (get_or line 12 0 ≡ 9)

-- places of the two patterns' bytes
abbrev pub InPattern : ℕ → Type 0
InPattern i = ((4 ≤ i) × (i ≤ 11)) ⊎ ((13 ≤ i) × (i ≤ 20))

-- 0-9 or A-F
abbrev pub Hexadecimal : ℕ → Type 0
Hexadecimal c = ((48 ≤ c) × (c ≤ 57)) ⊎ ((65 ≤ c) × (c ≤ 70))

-- R8.4: each refusal, where the conditions before it do not hold; and where none does, the line is not refused
abbrev pub RefusedInOrder : Type 0
RefusedInOrder =
    (line : List ℕ)
    → (length line ≢ 21 → read_question line ≡ refused 1)
    × (length line ≡ 21 → (HasLetters line → ⊥) → read_question line ≡ refused 2)
    × (length line ≡ 21 → HasLetters line → (HasTabs line → ⊥) → read_question line ≡ refused 3)
    × (length line ≡ 21 → HasLetters line → HasTabs line → (i : ℕ) → InPattern i → (Hexadecimal (get_or line i 0) → ⊥)
    → read_question line ≡ refused 4)
    × (length line ≡ 21 → HasLetters line → HasTabs line → ((i : ℕ) → InPattern i → Hexadecimal (get_or line i 0))
    → is_done (read_question line) ≡ true)

-- a question line has 21 bytes (R8.3)
abbrev pub QuestionBytes : Type 0
QuestionBytes = question_size ≡ 21

-- what characters stand for: tab, newline, minus, digits and letters of each kind
abbrev pub AsciiBytes : Type 0
AsciiBytes =
    (ascii "\t\n-" ≡ 9 ∷ 10 ∷ 45 ∷ []) × (ascii "09AFX" ≡ 48 ∷ 57 ∷ 65 ∷ 70 ∷ 88 ∷ [])
    × (ascii "adfilmsu" ≡ 97 ∷ 100 ∷ 102 ∷ 105 ∷ 108 ∷ 109 ∷ 115 ∷ 117 ∷ [])

-- letters give the number of their operation: 1 sum, 2 difference, 3 product (R8.3, R8.5)
abbrev pub LettersKnown : Type 0
LettersKnown =
    (line : List ℕ)
    → (take 3 line ≡ ascii "sum" → letters_operation line ≡ 1)
    × (take 3 line ≡ ascii "dif" → letters_operation line ≡ 2)
    × (take 3 line ≡ ascii "mul" → letters_operation line ≡ 3)

-- ---- texts
-- a pattern's text is eight hexadecimal digits, each of four bits, the highest first (R0.7)
abbrev pub PatternTexts : Type 0
PatternTexts =
    (x : ℕ)
    → (length (pattern_text x) ≡ 8)
    × ((i : ℕ) → i < 8 → get_or (pattern_text x) i 0 ≡ get_or (ascii "0123456789ABCDEF") (x / 16 ^ (7 - i) % 16) 0)

-- a question's text (R8.3), by the number of its operation
abbrev pub QuestionTexts : Type 0
QuestionTexts =
    (x y : ℕ)
    → (question_text 1 x y ≡ ascii "sum\t" ++ (pattern_text x ++ (ascii "\t" ++ pattern_text y)))
    × (question_text 2 x y ≡ ascii "dif\t" ++ (pattern_text x ++ (ascii "\t" ++ pattern_text y)))
    × (question_text 3 x y ≡ ascii "mul\t" ++ (pattern_text x ++ (ascii "\t" ++ pattern_text y)))

-- the text of every question is read back,
abbrev pub ReadBack : Type 0
ReadBack = (o x y : ℕ) → is_operation o ≡ true → x < 2 ^ 32 → y < 2 ^ 32 → read_question (question_text o x y) ≡ asked o x y

-- and no other line is read as that question
abbrev pub OnlyText : Type 0
OnlyText =
    (line : List ℕ) (o x y : ℕ) → read_question line ≡ asked o x y
    → (line ≡ question_text o x y) × (is_operation o ≡ true) × (x < 2 ^ 32) × (y < 2 ^ 32)

abbrev pub All : Type 0
All = QuestionBytes × AsciiBytes × RefusedInOrder × LettersKnown × PatternTexts × QuestionTexts × ReadBack × OnlyText
