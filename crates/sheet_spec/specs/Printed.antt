-- What the program `sheet` prints: from all input bytes to all output bytes (R9).
use Rattle.std.specs.Prelude.{ℕ, suc, ◌+◌, ◌-◌, cond, List, [], ◌∷◌, ◌++◌, eqb, leb, length, take, replicate}
use Rattle.pattern_spec.specs.Answer.{Answer, refused, done, is_done}
use Rattle.pattern_spec.specs.Classes.{both_finite}
use Rattle.worksheet_spec.specs.Lines.{sheet_size}
use Rattle.worksheet_spec.specs.Filling.{FilledSheet, filling, after_filling}
use Rattle.accumulator_spec.specs.Totals.{zeros, TwoPatterns, Term, of_pattern, reading}
use Rattle.accumulator_spec.specs.Columns.{column}
use Rattle.question_spec.specs.Ascii.{newline}
use Rattle.question_spec.specs.Questions.{Asked, read_question}
use Rattle.transcript_spec.specs.Texts.{answered_text, bad_text, total_text, end_text, stop_text}

-- ---- the lines of the input, after the bytes of an open line. Only a newline ends one; bytes after the last newline are one too (R9.1).
unfoldable pub lines_from : List ℕ → List ℕ → List (List ℕ)
lines_from begun [] = cond (eqb (length begun) 0) [] (begun ∷ [])
lines_from begun (b ∷ bs) = cond (eqb b newline) (begun ∷ lines_from [] bs) (lines_from (begun ++ (b ∷ [])) bs)

abbrev pub lines_of : List ℕ → List (List ℕ)
lines_of input = lines_from [] input

-- ---- one line
-- the words that are lent for each question: as many as a sheet needs
abbrev pub blank : List ℕ
blank = replicate sheet_size 0

-- the text of a question whose sheet is filled (R9.3); no question that is read is refused (`NeverRefused` of Theorems)
unfoldable pub filled_text : ℕ → ℕ → ℕ → ℕ → Answer FilledSheet → List ℕ → List ℕ
filled_text number operation x y (done s) words = answered_text number operation x y words s.line_count s.pair
filled_text number operation x y (refused n) words = []

-- of a question, its sheet; of a line that is refused, the refusal (R9.7)
unfoldable pub line_text : ℕ → Answer Asked → List ℕ
line_text number (done q) =
    filled_text number q.operation q.x q.y (filling q.operation q.x q.y blank)
    (after_filling q.operation q.x q.y blank)
line_text number (refused n) = bad_text number n

-- R9.8: what a pair adds to the total: both halves where both are finite, those of inexact products too
abbrev pub half_terms : ℕ → ℕ → List Term
half_terms first second = cond (both_finite first second) (of_pattern first ∷ of_pattern second ∷ []) []

abbrev pub pair_terms : Answer FilledSheet → List Term
pair_terms (done s) = half_terms s.pair.first s.pair.second
pair_terms (refused n) = []

abbrev pub line_terms : Answer Asked → List Term
line_terms (done q) = pair_terms (filling q.operation q.x q.y blank)
line_terms (refused n) = []

-- ---- the lines so far: how many, how many of them good, and the total
pub record Progress : Type 0 where
  pub lines : ℕ
  pub good : ℕ
  pub total : List ℕ

abbrev pub start : Progress
start = record { lines = 0; good = 0; total = zeros }

abbrev pub after_answer : Progress → Answer Asked → Progress
after_answer p a = record { lines = suc p.lines; good = cond (is_done a) 1 0 + p.good; total = column p.total (line_terms a) }

unfoldable pub after_line : Progress → List ℕ → Progress
after_line p line = after_answer p (read_question line)

unfoldable pub after_lines : Progress → List (List ℕ) → Progress
after_lines p [] = p
after_lines p (l ∷ ls) = after_lines (after_line p l) ls

-- the texts of the lines, numbered from 1
unfoldable pub lines_text : Progress → List (List ℕ) → List ℕ
lines_text p [] = []
lines_text p (l ∷ ls) = line_text (suc p.lines) (read_question l) ++ lines_text (after_line p l) ls

-- ---- the last two lines (R9.8, R9.9). A total of the program's own is never refused (`TotalTakesAll` of Theorems).
abbrev pub read_text : Answer TwoPatterns → List ℕ
read_text (done r) = total_text r.first r.second
read_text (refused n) = []

unfoldable pub closing_text : Progress → List ℕ
closing_text p = read_text (reading p.total) ++ end_text p.good (p.lines - p.good)

-- ---- all of it; one line more than the most stops the program, instead of `total` and `end` (R8.11)
abbrev pub most_input_lines : ℕ
most_input_lines = 32768

unfoldable pub output : List ℕ → List ℕ
output input =
    let lines = lines_of input in
    cond (leb (length lines) most_input_lines)
    (lines_text start lines ++ closing_text (after_lines start lines))
    (lines_text start (take most_input_lines lines) ++ stop_text)
