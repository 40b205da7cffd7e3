-- What the program carries from byte to byte (R8.15), and what each byte prints (R9).
use Rattle.std.specs.Prelude.{ℕ, suc, ◌+◌, Bool, true, false, cond, List, [], ◌∷◌, ◌++◌, eqb, leb, length, take}
use Rattle.question_spec.specs.Ascii.{newline}
use Rattle.question_spec.specs.Questions.{question_size, read_question}
use Rattle.transcript_spec.specs.Texts.{stop_text}
use Rattle.sheet_spec.specs.Printed.{Progress, start, line_text, after_line, closing_text, most_input_lines}

-- a line's first bytes that are kept: one more than a question has is enough, since every longer line is refused for its length (R8.4)
abbrev pub kept_bytes : ℕ
kept_bytes = question_size + 1

-- the lines that have ended, the first bytes of the open line, and whether `stop` was printed
pub record State : Type 0 where
  pub progress : Progress
  pub begun : List ℕ
  pub stopped : Bool

abbrev pub begin : State
begin = record { progress = start; begun = []; stopped = false }

-- a line's first bytes with one more
abbrev pub longer : List ℕ → ℕ → List ℕ
longer begun b = take kept_bytes (begun ++ (b ∷ []))

abbrev pub stop : State → State
stop s = record { progress = s.progress; begun = []; stopped = true }

abbrev pub end_line : State → State
end_line s = record { progress = after_line s.progress s.begun; begun = []; stopped = false }

abbrev pub extend : State → ℕ → State
extend s b = record { progress = s.progress; begun = longer s.begun b; stopped = false }

-- any byte after the last line that is taken begins one line too many (R8.11)
abbrev pub full : State → Bool
full s = leb most_input_lines s.progress.lines

unfoldable pub take_byte : State → ℕ → State
take_byte s b = cond s.stopped s (cond (full s) (stop s) (cond (eqb b newline) (end_line s) (extend s b)))

unfoldable pub byte_text : State → ℕ → List ℕ
byte_text s b =
    cond s.stopped []
    (cond (full s) stop_text
    (cond (eqb b newline) (line_text (suc s.progress.lines) (read_question s.begun)) []))

-- many bytes
unfoldable pub take_bytes : State → List ℕ → State
take_bytes s [] = s
take_bytes s (b ∷ bs) = take_bytes (take_byte s b) bs

unfoldable pub bytes_text : State → List ℕ → List ℕ
bytes_text s [] = []
bytes_text s (b ∷ bs) = byte_text s b ++ bytes_text (take_byte s b) bs

-- the end of the input: the open line, if it has a byte (R9.1), and the last two lines
abbrev pub last_line : State → Progress
last_line s = cond (eqb (length s.begun) 0) s.progress (after_line s.progress s.begun)

abbrev pub last_text : State → List ℕ
last_text s = cond (eqb (length s.begun) 0) [] (line_text (suc s.progress.lines) (read_question s.begun))

unfoldable pub close_text : State → List ℕ
close_text s = cond s.stopped [] (last_text s ++ closing_text (last_line s))
