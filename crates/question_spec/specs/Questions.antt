-- Question lines: how one is read, and the text of a question. A line is its bytes, without the newline (R8.3, R8.4).
use Rattle.std.specs.Prelude.{ℕ, ◌+◌, ◌*◌, ◌-◌, ◌/◌, ◌%◌, ◌^◌, Bool, true, cond, not, ◌&&◌, ◌||◌, List}
use Rattle.std.specs.Prelude.{[], ◌∷◌, ◌++◌, eqb, leb, ltb, length, get_or, take, drop}
use Prim.Native.Char.{code}
use Rattle.pattern_spec.specs.Answer.{Answer, refused, done}
use Rattle.augmented_spec.specs.declared.Operation.{Operation}
use Rattle.augmented_spec.specs.declared.Operation.TheVariants.{Sum as sum, Difference as difference, Product as product}
use Rattle.augmented_spec.specs.Operations.{operation_number, operation_of}
use Rattle.question_spec.specs.Ascii.{ascii, tab}

-- bytes of a question line: three letters, a tab, a pattern, a tab, a pattern (R8.3)
abbrev pub question_size : ℕ
question_size = 21

-- ---- letters (R8.3)
abbrev pub operation_letters : Operation → List ℕ
operation_letters sum = ascii "sum"
operation_letters difference = ascii "dif"
operation_letters product = ascii "mul"

-- by the operation's number; a number that no question has is written as `mul`
unfoldable pub operation_letters_by_number : ℕ → List ℕ
operation_letters_by_number operation = operation_letters (operation_of operation)

-- whether the line's first three bytes are these
abbrev pub starts : List ℕ → List ℕ → Bool
starts line three =
    eqb (get_or line 0 0) (get_or three 0 0) && (eqb (get_or line 1 0) (get_or three 1 0) && eqb (get_or line 2 0) (get_or three 2 0))

-- the number of the operation whose letters the line starts with, or 0 where it starts with no operation's
unfoldable pub letters_operation : List ℕ → ℕ
letters_operation line =
    cond (starts line (operation_letters sum)) (operation_number sum)
    (cond (starts line (operation_letters difference)) (operation_number difference)
    (cond (starts line (operation_letters product)) (operation_number product) 0))

-- ---- patterns: eight hexadecimal digits, A to F in upper case (R0.7, R8.4)
abbrev pub is_digit : ℕ → Bool
is_digit c = (leb (code "0") c && leb c (code "9")) || (leb (code "A") c && leb c (code "F"))

abbrev pub digit_value : ℕ → ℕ
digit_value c = cond (leb c (code "9")) (c - code "0") (c - (code "A" - 10))

unfoldable pub all_digits : List ℕ → Bool
all_digits [] = true
all_digits (c ∷ cs) = is_digit c && all_digits cs

-- the number that digits make, the most significant first, after those that made n
unfoldable pub pattern_from : ℕ → List ℕ → ℕ
pattern_from n [] = n
pattern_from n (c ∷ cs) = pattern_from (n * 16 + digit_value c) cs

abbrev pub first_pattern : List ℕ → List ℕ
first_pattern line = take 8 (drop 4 line)

abbrev pub second_pattern : List ℕ → List ℕ
second_pattern line = take 8 (drop 13 line)

-- ---- reading a line
-- what is answered where it is not refused: the operation's number and the two patterns
pub record Asked : Type 0 where
  pub operation : ℕ
  pub x : ℕ
  pub y : ℕ

abbrev pub asked : ℕ → ℕ → ℕ → Answer Asked
asked operation x y = done (record { operation = operation; x = x; y = y })

-- R8.4, in this order (R8.2): 1 another length, 2 other letters, 3 no tab at byte 3 or 12, 4 a byte in a pattern that is no digit
unfoldable pub read_question : List ℕ → Answer Asked
read_question line =
    cond (not (eqb (length line) question_size)) (refused 1)
    (cond (eqb (letters_operation line) 0) (refused 2)
    (cond (not (eqb (get_or line 3 0) tab) || not (eqb (get_or line 12 0) tab)) (refused 3)
    (cond (not (all_digits (first_pattern line) && all_digits (second_pattern line))) (refused 4)
    (asked (letters_operation line) (pattern_from 0 (first_pattern line)) (pattern_from 0 (second_pattern line))))))

-- ---- the text of a question
abbrev pub digit : ℕ → ℕ
digit d = cond (ltb d 10) (code "0" + d) (code "A" - 10 + d)

-- the eight digits of a pattern
abbrev pub pattern_text : ℕ → List ℕ
pattern_text x =
    digit (x / 16 ^ 7 % 16) ∷ digit (x / 16 ^ 6 % 16) ∷ digit (x / 16 ^ 5 % 16) ∷ digit (x / 16 ^ 4 % 16)
    ∷ digit (x / 16 ^ 3 % 16) ∷ digit (x / 16 ^ 2 % 16) ∷ digit (x / 16 % 16) ∷ digit (x % 16) ∷ []

unfoldable pub question_text : ℕ → ℕ → ℕ → List ℕ
question_text operation x y = operation_letters_by_number operation ++ (tab ∷ pattern_text x ++ (tab ∷ pattern_text y))
