-- What is printed, as lists of bytes: fields, lines, and an answered question (R9).
use Rattle.std.specs.Prelude.{ℕ, zero, suc, ◌+◌, ◌/◌, ◌%◌, min, Bool, true, false, cond, List}
use Rattle.std.specs.Prelude.{[], ◌∷◌, ◌++◌, eqb, ltb, length, get_or, drop}
use Prim.Native.Char.{code}
use Rattle.augmented_spec.specs.declared.Flags.{Flags}
use Rattle.augmented_spec.specs.declared.Pair.{Pair}
use Rattle.worksheet_spec.specs.declared.Step.{Step}
use Rattle.worksheet_spec.specs.declared.Step.TheVariants.{Add as add, Subtract as subtract, Multiply as multiply, Fused as fused}
use Rattle.worksheet_spec.specs.Steps.{step_number}
use Rattle.worksheet_spec.specs.Lines.{line_size, most_lines}
use Rattle.question_spec.specs.Ascii.{ascii, tab, newline}
use Rattle.question_spec.specs.Questions.{pattern_text, question_text}

-- ---- fields
-- a decimal, without zeros in front (R0.7): up to `most` digits
unfoldable pub decimal_up_to : ℕ → ℕ → List ℕ
decimal_up_to zero n = []
decimal_up_to (suc most) n = cond (ltb n 10) ((code "0" + n) ∷ []) (decimal_up_to most (n / 10) ++ ((code "0" + n % 10) ∷ []))

-- ten digits are enough for 32 bits
abbrev pub decimal : ℕ → List ℕ
decimal n = decimal_up_to 10 n

-- the step of a number; one that stands on no sheet is taken for a fused step
abbrev pub step_of : ℕ → Step
step_of n =
    cond (eqb n (step_number add)) add
    (cond (eqb n (step_number subtract)) subtract
    (cond (eqb n (step_number multiply)) multiply
    fused))

-- a step's letters (R9.5), and by its number
abbrev pub step_letters : Step → List ℕ
step_letters add = ascii "add"
step_letters subtract = ascii "sub"
step_letters multiply = ascii "mul"
step_letters fused = ascii "fma"

unfoldable pub step_letters_by_number : ℕ → List ℕ
step_letters_by_number operation = step_letters (step_of operation)

-- whether a step leaves the third operand unused: the operation tells, not the word (R9.5)
abbrev pub takes_two : Step → Bool
takes_two add = true
takes_two subtract = true
takes_two multiply = true
takes_two fused = false

unfoldable pub third_text : ℕ → ℕ → List ℕ
third_text operation z = cond (takes_two (step_of operation)) (ascii "-") (pattern_text z)

-- a mark (R2.8) by its digit; what is above 2 is no mark, and is shown as 2
abbrev pub mark_digit : ℕ → ℕ
mark_digit m = code "0" + min m 2

abbrev pub mark_text : ℕ → List ℕ
mark_text m = mark_digit m ∷ []

-- the letters of the flags that are raised, I O U X in this order (R4.1),
abbrev pub flag_letter : Bool → ℕ → List ℕ
flag_letter raised letter = cond raised (letter ∷ []) []

abbrev pub flag_letters : Flags → List ℕ
flag_letters f =
    flag_letter f.invalid (code "I")
    ++ (flag_letter f.overflow (code "O") ++ (flag_letter f.underflow (code "U") ++ flag_letter f.inexact (code "X")))

-- or a dash where none is
unfoldable pub flags_text : Flags → List ℕ
flags_text f = cond (eqb (length (flag_letters f)) 0) (ascii "-") (flag_letters f)

-- ---- lines: fields with tabs between them, and a newline at the end (R9.2)
abbrev pub line_of : List (List ℕ) → List ℕ
line_of [] = newline ∷ []
line_of (field ∷ []) = field ++ (newline ∷ [])
line_of (field ∷ next ∷ fields) = field ++ (tab ∷ line_of (next ∷ fields))

-- R9.4: the line's number and its question
unfoldable pub ask_text : ℕ → ℕ → ℕ → ℕ → List ℕ
ask_text number operation x y = line_of (ascii "ask" ∷ decimal number ∷ question_text operation x y ∷ [])

-- R9.5: the step's number, and its words: operation, three operands, result, mark
unfoldable pub step_text : ℕ → List ℕ → List ℕ
step_text number words =
    line_of (
    ascii "step"
    ∷ decimal number
    ∷ step_letters_by_number (get_or words 0 0)
    ∷ pattern_text (get_or words 1 0)
    ∷ pattern_text (get_or words 2 0)
    ∷ third_text (get_or words 0 0) (get_or words 3 0)
    ∷ pattern_text (get_or words 4 0)
    ∷ mark_text (get_or words 5 0)
    ∷ []
    )

-- R9.6: first, second, flags
unfoldable pub pair_text : Pair → List ℕ
pair_text p = line_of (ascii "pair" ∷ pattern_text p.first ∷ pattern_text p.second ∷ flags_text p.flags ∷ [])

-- R9.7: the line's number and its refusal
unfoldable pub bad_text : ℕ → ℕ → List ℕ
bad_text number refusal = line_of (ascii "bad" ∷ decimal number ∷ decimal refusal ∷ [])

-- R9.8: what the total reads
unfoldable pub total_text : ℕ → ℕ → List ℕ
total_text first second = line_of (ascii "total" ∷ pattern_text first ∷ pattern_text second ∷ [])

-- R9.9: how many lines were good, and how many bad
unfoldable pub end_text : ℕ → ℕ → List ℕ
end_text good bad = line_of (ascii "end" ∷ decimal good ∷ decimal bad ∷ [])

-- R8.11
abbrev pub stop_text : List ℕ
stop_text = line_of (ascii "stop" ∷ ascii "11" ∷ [])

-- ---- an answered question (R9.3): its `ask`, a `step` for each line of the sheet, its `pair`
-- the steps from this number on, from the words of their lines (R5.22)
unfoldable pub steps_text : ℕ → ℕ → List ℕ → List ℕ
steps_text zero number words = []
steps_text (suc lines) number words = step_text number words ++ steps_text lines (suc number) (drop line_size words)

abbrev pub shown_text : ℕ → ℕ → ℕ → ℕ → List ℕ → ℕ → Pair → List ℕ
shown_text number operation x y words lines pair = ask_text number operation x y ++ (steps_text lines 1 words ++ pair_text pair)

-- no more lines are printed than a sheet has (R5.21)
unfoldable pub answered_text : ℕ → ℕ → ℕ → ℕ → List ℕ → ℕ → Pair → List ℕ
answered_text number operation x y words lines pair = shown_text number operation x y words (min lines most_lines) pair

-- bytes that are room for the text of any question (`AtMost` of Theorems)
abbrev pub line_room : ℕ
line_room = 706
