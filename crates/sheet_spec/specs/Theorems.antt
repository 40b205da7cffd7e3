-- What holds of what is printed. Each name is a statement; proofs/Theorems.antt has its proof.
use Rattle.std.specs.Prelude.{ℕ, suc, ◌+◌, ◌≤◌, ◌<◌, ◌≡◌, ◌⊎◌, ◌≢◌, true, false, cond, List, [], ◌∷◌, ◌++◌, eqb, length, take, drop}
use Rattle.pattern_spec.specs.Answer.{refused, is_done}
use Rattle.pattern_spec.specs.Classes.{both_finite}
use Rattle.rounding_spec.specs.Format.{binary32}
use Rattle.rounding_spec.specs.Value.{encode}
use Rattle.augmented_spec.specs.Pairs.{pair_of}
use Rattle.augmented_spec.specs.Operations.{operation_of}
use Rattle.augmented_spec.specs.Direct.{direct_pair}
use Rattle.worksheet_spec.specs.Lines.{Line}
use Rattle.worksheet_spec.specs.Sheets.{sheet_of}
use Rattle.worksheet_spec.specs.Filling.{line_words, filling}
use Rattle.question_spec.specs.Ascii.{ascii}
use Rattle.question_spec.specs.Questions.{asked, read_question}
use Rattle.transcript_spec.specs.Texts.{line_room, decimal, line_of, step_text, pair_text, total_text, end_text}
use Rattle.accumulator_spec.specs.Totals.{zeros, number, sign_word, Term, of_pattern, FitTotal, exact_total}
use Rattle.accumulator_spec.specs.Columns.{column, Accepted, column_sum, column_sign}
use Rattle.sheet_spec.specs.Printed.{blank, lines_of, line_text, line_terms, start, after_lines, most_input_lines, output}
use Rattle.sheet_spec.specs.Calls.{last_room, Feeds, Ends}
use Rattle.sheet_spec.specs.declared.Progressed.{Progressed}
use Rattle.sheet_spec.specs.States.{kept_bytes, State, begin, take_bytes, bytes_text, close_text}

-- carried from byte to byte, the program prints the definition's text
abbrev pub ByteByByte : Type 0
ByteByByte = (input : List ℕ) → bytes_text begin input ++ close_text (take_bytes begin input) ≡ output input

-- ---- any way of cutting the input into reads gives the same text
unfoldable pub joined : List (List ℕ) → List ℕ
joined [] = []
joined (r ∷ rs) = r ++ joined rs

unfoldable pub reads_text : State → List (List ℕ) → List ℕ
reads_text s [] = close_text s
reads_text s (r ∷ rs) = bytes_text s r ++ reads_text (take_bytes s r) rs

abbrev pub AnyReads : Type 0
AnyReads = (reads : List (List ℕ)) → reads_text begin reads ≡ output (joined reads)

-- ---- what the calls of a run write
-- A call that feeds takes bytes from the first on, writes their text at the buffer's start, leaves the rest of the buffer, and takes a byte
-- at least where there is one, room for a line's text, and no `stop`.
abbrev pub FeedsOn : Type 0
FeedsOn =
    (bytes out out' : List ℕ) (s after : State) (r : Progressed) → Feeds bytes s out r after out'
    → (after ≡ take_bytes s (take r.taken bytes))
    × (take r.written out' ≡ bytes_text s (take r.taken bytes))
    × (drop r.written out' ≡ drop r.written out)
    × (0 < length bytes → s.stopped ≡ false → line_room ≤ length out → 0 < r.taken)

-- a call that feeds: the bytes and the buffer that it was lent, what it answered, and the state and the buffer that it left
pub record Call : Type 0 where
  pub bytes : List ℕ
  pub out : List ℕ
  pub result : Progressed
  pub after : State
  pub left : List ℕ

-- Each is lent some of the input that is left, from its first byte on, and the next goes on behind what it took, until all is taken or the
-- run has stopped.
unfoldable pub Chain : State → List ℕ → List Call → Type 0
Chain s input [] = (input ≡ []) ⊎ (s.stopped ≡ true)
Chain s input (c ∷ cs) =
    (more : List ℕ) × (input ≡ c.bytes ++ more) × Feeds c.bytes s c.out c.result c.after c.left
    × Chain c.after (drop c.result.taken c.bytes ++ more) cs

unfoldable pub chain_text : List Call → List ℕ
chain_text [] = []
chain_text (c ∷ cs) = take c.result.written c.left ++ chain_text cs

unfoldable pub chain_state : State → List Call → State
chain_state s [] = s
chain_state s (c ∷ cs) = chain_state c.after cs

-- whatever is lent to each call, what they write, with what the last one writes at the input's end, is the definition's text
abbrev pub WholeRun : Type 0
WholeRun =
    (cs : List Call) (input : List ℕ) → Chain begin input cs → (n : ℕ) (out total' out' : List ℕ)
    → Ends (chain_state begin cs) out n total' out' → last_room ≤ length out
    → chain_text cs ++ take n out' ≡ output input

-- ---- after `stop` nothing is printed, whatever follows (R8.11). That none is asked for then, sheet_stream says.
abbrev pub NothingAfterStop : Type 0
NothingAfterStop =
    (s : State) (bytes : List ℕ) → s.stopped ≡ true → (take_bytes s bytes ≡ s) × (bytes_text s bytes ≡ []) × (close_text s ≡ [])

-- ---- no question that is read is refused when its sheet is filled
abbrev pub NeverRefused : Type 0
NeverRefused = (line : List ℕ) (o x y : ℕ) → read_question line ≡ asked o x y → is_done (filling o x y blank) ≡ true

-- ---- what a line prints
-- a `step` for each line of a sheet, in order, from this number on (R9.5)
unfoldable pub sheet_text : ℕ → List Line → List ℕ
sheet_text number [] = []
sheet_text number (l ∷ ls) = step_text number (line_words l) ++ sheet_text (suc number) ls

-- of a question, its own bytes behind `ask` and the line's number (R9.4), all lines of its sheet, and its direct pair with its flags
-- (R9.6); of any other line, the refusal (R9.7)
abbrev pub LineTexts : Type 0
LineTexts =
    ((number : ℕ) (line : List ℕ) (o x y : ℕ) → read_question line ≡ asked o x y
    → line_text number (read_question line)
    ≡ line_of (ascii "ask" ∷ decimal number ∷ line ∷ [])
    ++ (sheet_text 1 (sheet_of (operation_of o) x y).lines ++ pair_text (direct_pair (operation_of o) binary32 x y)))
    × ((number : ℕ) (line : List ℕ) (n : ℕ) → read_question line ≡ refused n
    → line_text number (read_question line) ≡ line_of (ascii "bad" ∷ decimal number ∷ decimal n ∷ []))

-- the texts of lines, from this number on
unfoldable pub texts_from : ℕ → List (List ℕ) → List ℕ
texts_from number [] = []
texts_from number (l ∷ ls) = line_text number (read_question l) ++ texts_from (suc number) ls

-- ---- the total (R9.8)
-- the terms of all lines, in order
unfoldable pub terms_of : List (List ℕ) → List Term
terms_of [] = []
terms_of (l ∷ ls) = line_terms (read_question l) ++ terms_of ls

-- a line's terms are both halves of its question's pair, where both are finite, with X or without; a bad line has none
abbrev pub LineTerms : Type 0
LineTerms =
    ((line : List ℕ) (o x y : ℕ) → read_question line ≡ asked o x y → let p = direct_pair (operation_of o) binary32 x y in
    (both_finite p.first p.second ≡ true → line_terms (read_question line) ≡ of_pattern p.first ∷ of_pattern p.second ∷ [])
    × (both_finite p.first p.second ≡ false → line_terms (read_question line) ≡ []))
    × ((line : List ℕ) (n : ℕ) → read_question line ≡ refused n → line_terms (read_question line) ≡ [])

-- every one of them is accepted, and the total is theirs
abbrev pub TotalTakesAll : Type 0
TotalTakesAll =
    (lines : List (List ℕ)) → length lines ≤ most_input_lines → let total = (after_lines start lines).total in
    Accepted zeros (terms_of lines) × (total ≡ column zeros (terms_of lines)) × (number total ≡ column_sum (terms_of lines))
    × (sign_word total ≡ column_sign (terms_of lines)) × FitTotal total

-- ---- lines, told from the input's bytes (R9.1): each newline ends one, and so does the input's last byte
unfoldable pub newlines : List ℕ → ℕ
newlines [] = 0
newlines (b ∷ bs) = cond (eqb b 10) 1 0 + newlines bs

-- lines, each with a newline behind it, make these bytes
unfoldable pub with_newlines : List (List ℕ) → List ℕ
with_newlines [] = []
with_newlines (l ∷ ls) = l ++ (10 ∷ with_newlines ls)

-- no line has a newline within
unfoldable pub NoNewline : List (List ℕ) → Type 0
NoNewline [] = Unit {0}
NoNewline (l ∷ ls) = (newlines l ≡ 0) × NoNewline ls

-- an input that ends in a newline is its lines, none of which has one within; a newline that is missing there makes no difference
abbrev pub LinesAre : Type 0
LinesAre =
    (front : List ℕ)
    → (with_newlines (lines_of (front ++ (10 ∷ []))) ≡ front ++ (10 ∷ []))
    × NoNewline (lines_of (front ++ (10 ∷ [])))
    × ((b : ℕ) → b ≢ 10 → lines_of (front ++ (b ∷ [])) ≡ lines_of (front ++ (b ∷ 10 ∷ [])))

-- ---- how many lines are good, and how many are not (R9.9)
unfoldable pub good_lines : List (List ℕ) → ℕ
good_lines [] = 0
good_lines (l ∷ ls) = cond (is_done (read_question l)) 1 0 + good_lines ls

unfoldable pub bad_lines : List (List ℕ) → ℕ
bad_lines [] = 0
bad_lines (l ∷ ls) = cond (is_done (read_question l)) 0 1 + bad_lines ls

-- ---- the limit, from both sides (R8.11). An input of up to 32,768 lines: fewer newlines than that stand before its last byte, whatever
-- this is. It prints the texts of its lines, numbered from 1, the exact sum of their terms as a total reads (R6.5 to R6.8), and both
-- counts.
abbrev pub WithinLimit : Type 0
WithinLimit =
    (front : List ℕ) (b : ℕ) → newlines front < 32768 → let lines = lines_of (front ++ (b ∷ [])) in
    let terms = terms_of lines in
    let total = pair_of binary32 (exact_total (column_sum terms) (length terms) (column_sign terms)) in
    (output (front ++ (b ∷ []))
    ≡ texts_from 1 lines
    ++ (total_text (encode binary32 total.first) (encode binary32 total.second) ++ end_text (good_lines lines) (bad_lines lines)))
    × (good_lines lines + bad_lines lines ≡ newlines front + 1)

-- A byte after the 32,768th newline, any one: the texts of the lines before it, and `stop`, whatever follows.
abbrev pub PastLimit : Type 0
PastLimit =
    (front : List ℕ) (b : ℕ) (after : List ℕ) → newlines front ≡ 32767
    → output (front ++ (10 ∷ b ∷ after)) ≡ texts_from 1 (lines_of (front ++ (10 ∷ []))) ++ ascii "stop\t11\n"

-- ---- how many lines are taken (R8.11), bytes of a line are kept, and bytes are room for a line's text and the last two lines
abbrev pub SheetLimits : Type 0
SheetLimits = (most_input_lines ≡ 32768) × (kept_bytes ≡ 22) × (line_room ≡ 706) × (last_room ≡ 766)

-- ---- empty input (R9.10)
abbrev pub EmptyInput : Type 0
EmptyInput = output [] ≡ ascii "total\t00000000\t00000000\n" ++ ascii "end\t0\t0\n"

-- ---- two bad lines, the last without newline: both are counted and numbered from 1 (R9.1, R9.7, R9.9)
abbrev pub TwoBadLines : Type 0
TwoBadLines =
    output (ascii "x\nx")
    ≡ ascii "bad\t1\t1\n" ++ (ascii "bad\t2\t1\n" ++ (ascii "total\t00000000\t00000000\n" ++ ascii "end\t0\t2\n"))

-- ---- R9.11: a question's input, whose one line may end without a newline (R9.1), and all that it prints
abbrev pub example_question : List ℕ
example_question = ascii "sum\t3F800001\t33800000"

abbrev pub example_text : List ℕ
example_text =
    ascii "ask\t1\tsum\t3F800001\t33800000\n"
    ++ (ascii "step\t1\tadd\t3F800001\t33800000\t-\t3F800002\t1\n"
    ++ (ascii "step\t2\tsub\t3F800002\t3F800001\t-\t34000000\t0\n"
    ++ (ascii "step\t3\tsub\t33800000\t34000000\t-\tB3800000\t0\n"
    ++ (ascii "step\t4\tmul\t3F7FFFFF\t3F800002\t-\t3F800001\t1\n"
    ++ (ascii "step\t5\tsub\t3F800001\t3F800002\t-\tB4000000\t0\n"
    ++ (ascii "step\t6\tmul\t40000000\tB3800000\t-\tB4000000\t0\n"
    ++ (ascii "pair\t3F800001\t33800000\t-\n"
    ++ (ascii "total\t3F800001\t33800000\n"
    ++ ascii "end\t1\t0\n"))))))))

abbrev pub PrintedExample : Type 0
PrintedExample = (output (example_question ++ ascii "\n") ≡ example_text) × (output example_question ≡ example_text)

-- ---- R6.8, R9.8: -0 and -0 alone
abbrev pub minus_zero_text : List ℕ
minus_zero_text =
    ascii "ask\t1\tsum\t80000000\t80000000\n"
    ++ (ascii "step\t1\tadd\t80000000\t80000000\t-\t80000000\t0\n"
    ++ (ascii "step\t2\tsub\t80000000\t80000000\t-\t00000000\t0\n"
    ++ (ascii "step\t3\tsub\t80000000\t00000000\t-\t80000000\t0\n"
    ++ (ascii "step\t4\tmul\t3F7FFFFF\t80000000\t-\t80000000\t0\n"
    ++ (ascii "step\t5\tsub\t80000000\t80000000\t-\t00000000\t0\n"
    ++ (ascii "step\t6\tmul\t40000000\t80000000\t-\t80000000\t0\n"
    ++ (ascii "step\t7\tmul\t00000000\t80000000\t-\t80000000\t0\n"
    ++ (ascii "pair\t80000000\t80000000\t-\n"
    ++ (ascii "total\t80000000\t80000000\n"
    ++ ascii "end\t1\t0\n")))))))))

abbrev pub PrintedMinusZero : Type 0
PrintedMinusZero = output (ascii "sum\t80000000\t80000000\n") ≡ minus_zero_text

abbrev pub All : Type 0
All =
    ByteByByte × AnyReads × FeedsOn × WholeRun × NothingAfterStop × NeverRefused × LineTexts × LineTerms × TotalTakesAll × LinesAre
    × WithinLimit × PastLimit × SheetLimits × EmptyInput × TwoBadLines × PrintedExample × PrintedMinusZero
