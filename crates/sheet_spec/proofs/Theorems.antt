-- Proofs of the statements about what is printed (specs/Theorems.antt).
use mathlib.Core.Path.{refl}
use Rattle.sheet_spec.specs.Theorems.{ByteByByte, AnyReads, FeedsOn, WholeRun, NothingAfterStop, NeverRefused, LineTexts, LineTerms, TotalTakesAll}
use Rattle.sheet_spec.specs.Theorems.{LinesAre, WithinLimit, PastLimit, SheetLimits, EmptyInput, TwoBadLines, PrintedExample, PrintedMinusZero, All}
use Rattle.sheet_spec.proofs.Bytes as bytes
use Rattle.sheet_spec.proofs.Runs as runs
use Rattle.sheet_spec.proofs.Totals as totals
use Rattle.sheet_spec.proofs.LineTexts as texts
use Rattle.sheet_spec.proofs.Limit as limit
use Rattle.sheet_spec.proofs.Examples as examples

pub byte-by-byte : ByteByByte
byte-by-byte = bytes.byte-by-byte

pub any-reads : AnyReads
any-reads = bytes.any-reads

pub feeds-on : FeedsOn
feeds-on = runs.feeds-on

pub whole_run : WholeRun
whole_run = runs.whole_run

pub nothing-after-stop : NothingAfterStop
nothing-after-stop = bytes.nothing-after-stop

pub never-refused : NeverRefused
never-refused = totals.never-refused

pub line-texts : LineTexts
line-texts = texts.line-texts

pub line-terms : LineTerms
line-terms = totals.line-terms

pub total-takes-all : TotalTakesAll
total-takes-all = totals.total-takes-all

pub lines_are : LinesAre
lines_are = limit.lines_are

pub within-limit : WithinLimit
within-limit = limit.within-limit

pub past-limit : PastLimit
past-limit = limit.past-limit

pub sheet-limits : SheetLimits
sheet-limits = (refl, refl, refl, refl)

-- ---- by computation
pub empty-input : EmptyInput
empty-input = examples.empty-input

pub two-bad-lines : TwoBadLines
two-bad-lines = examples.two-bad-lines

pub printed-example : PrintedExample
printed-example = examples.printed-example

pub printed-minus-zero : PrintedMinusZero
printed-minus-zero = examples.printed-minus-zero

pub all : All
all = (
  byte-by-byte,
  any-reads,
  feeds-on,
  whole_run,
  nothing-after-stop,
  never-refused,
  line-texts,
  line-terms,
  total-takes-all,
  lines_are,
  within-limit,
  past-limit,
  sheet-limits,
  empty-input,
  two-bad-lines,
  printed-example,
  printed-minus-zero,
)
