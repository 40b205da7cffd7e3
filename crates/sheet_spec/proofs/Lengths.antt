-- How long the texts can be.
use mathlib.Core.Bool.{Bool, true, false, cond}
use mathlib.Core.List.{List, []}
use Prim.Native.Nat.{ℕ, suc, ◌-◌, ◌≤◌}
use native.Mathlib.Omega.{arith}
use lib.Dec.{eqb, leb}
use lib.ListN.{length, length-append}
use Rattle.pattern_spec.specs.Answer.{Answer, refused, done}
use Rattle.worksheet_spec.specs.Filling.{FilledSheet, filling, after_filling}
use Rattle.accumulator_spec.specs.Totals.{TwoPatterns, reading}
use Rattle.question_spec.specs.Ascii.{newline}
use Rattle.question_spec.specs.Questions.{Asked, read_question}
use Rattle.transcript_spec.specs.Texts.{bad_text, total_text, end_text, stop_text, line_room}
use Rattle.transcript_spec.proofs.DecimalLaws.{decimal-most}
use Rattle.transcript_spec.proofs.TextLengths.{counts-length}
use Rattle.transcript_spec.proofs.Theorems.{at_most}
use Rattle.sheet_spec.specs.Printed.{blank, filled_text, line_text, Progress, read_text, closing_text, most_input_lines}
use Rattle.sheet_spec.specs.States.{State, byte_text, last_text}

-- ---- the text of any line has room
bad-most : (number k : ℕ) → length (bad_text number k) ≤ 26
unfolding bad_text
bad-most number k = omega (arith, counts-length number k, decimal-most number, decimal-most k)

filled-most : (number o x y : ℕ) (a : Answer FilledSheet) (words : List ℕ) → length (filled_text number o x y a words) ≤ line_room
unfolding filled_text
filled-most number o x y (done s) words = at_most number o x y words s.line_count s.pair
filled-most number o x y (refused k) words = omega arith

pub line-most : (number : ℕ) (a : Answer Asked) → length (line_text number a) ≤ line_room
unfolding line_text
line-most number (done q) =
    filled-most number q.operation q.x q.y (filling q.operation q.x q.y blank) (after_filling q.operation q.x q.y blank)
line-most number (refused k) = omega (arith, bad-most number k)

pub byte-most : (s : State) (b : ℕ) → length (byte_text s b) ≤ line_room
unfolding byte_text
byte-most s b = go s.stopped (leb most_input_lines s.progress.lines) (eqb b newline)
  where
    go : (stopped full newline : Bool) → length (cond stopped [] (cond full stop_text (cond newline (line_text (suc s.progress.lines) (read_question s.begun)) []))) ≤ line_room
    go true full newline = omega arith
    go false true newline = omega arith
    go false false true = line-most (suc s.progress.lines) (read_question s.begun)
    go false false false = omega arith

pub last-most : (s : State) → length (last_text s) ≤ line_room
last-most s = go (eqb (length s.begun) 0)
  where
    go : (b : Bool) → length (cond b [] (line_text (suc s.progress.lines) (read_question s.begun))) ≤ line_room
    go true = omega arith
    go false = line-most (suc s.progress.lines) (read_question s.begun)

-- ---- the last two lines at most 50
pub end-most : (good bad : ℕ) → length (end_text good bad) ≤ 26
unfolding end_text
end-most good bad = omega (arith, counts-length good bad, decimal-most good, decimal-most bad)

pub read-most : (a : Answer TwoPatterns) → length (read_text a) ≤ 24
unfolding total_text
read-most (done r) = omega arith
read-most (refused k) = omega arith

pub closing-most : (p : Progress) → length (closing_text p) ≤ 50
unfolding closing_text
closing-most p =
    omega (arith, length-append (read_text (reading p.total)) (end_text p.good (p.lines - p.good)), read-most (reading p.total), end-most p.good (p.lines - p.good))
