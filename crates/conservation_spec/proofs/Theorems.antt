-- The theorems of `specs/Theorems.antt`.
use mathlib.Core.Path.{refl}
use Rattle.conservation_spec.specs.Theorems.{QuestionLimit, Conserved, BookNext, BookSignNext, MinusZerosAre, QuestionTerms, EntersFinite, QuestionSign}
use Rattle.conservation_spec.specs.Theorems.{BookOfMinusZeros, MinusZeroList}
use Rattle.conservation_spec.specs.Theorems.{MetEach, ReadEach, EntersExactly, AllowedNext, AmongOthers, FullWhen, EightLast}
use Rattle.conservation_spec.specs.Theorems.{OnesEnter, EightReached, ReplayConserves, ReplayRefused, ReplayUnchanged, ReplayQuestions, ReplayWords}
use Rattle.conservation_spec.specs.Theorems.{ReplaysMeans, ReplayNumbers, PartsJoined, All}
use Rattle.conservation_spec.proofs.Book as books
use Rattle.conservation_spec.proofs.Entering as entering
use Rattle.conservation_spec.proofs.Allowed as allowed
use Rattle.conservation_spec.proofs.Claim as claim
use Rattle.conservation_spec.proofs.MinusZeros as minus-zeros
use Rattle.conservation_spec.proofs.Calls as calls
use Rattle.conservation_spec.proofs.Others as others
use Rattle.conservation_spec.proofs.Full as full
use Rattle.conservation_spec.proofs.Outcome as outcome
use Rattle.conservation_spec.proofs.Questions as questions
use Rattle.conservation_spec.proofs.Refusals as refusals
use Rattle.conservation_spec.proofs.Contract as contract
use Rattle.conservation_spec.proofs.Parts as parts

pub conserved : Conserved
conserved = claim.conserved

pub book-next : BookNext
book-next = books.book-next

pub book-sign-next : BookSignNext
book-sign-next = books.book-sign-next

pub minus-zeros-are : MinusZerosAre
minus-zeros-are = minus-zeros.minus-zeros-are

pub question-terms : QuestionTerms
question-terms = minus-zeros.question-terms

pub enters-finite : EntersFinite
enters-finite = entering.enters-finite

pub book-of-minus-zeros : BookOfMinusZeros
book-of-minus-zeros = books.book-of-minus-zeros

pub question-sign : QuestionSign
question-sign = books.question-sign

pub minus-zero-list : MinusZeroList
minus-zero-list = minus-zeros.minus-zero-list

pub enters-exactly : EntersExactly
enters-exactly = claim.enters-exactly

pub met-each : MetEach
met-each = calls.met-each

pub read-each : ReadEach
read-each = calls.read-each

pub allowed-next : AllowedNext
allowed-next = allowed.allowed-next

pub among-others : AmongOthers
among-others = others.among-others

pub full-when : FullWhen
full-when = full.full-when

pub eight-last : EightLast
eight-last = full.eight-last

pub ones-enter : OnesEnter
ones-enter = full.ones-enter

pub eight-reached : EightReached
eight-reached = full.eight-reached

pub replay-conserves : ReplayConserves
replay-conserves = outcome.replay-conserves

pub replay-refused : ReplayRefused
replay-refused = refusals.replay-refused

pub replay-unchanged : ReplayUnchanged
replay-unchanged = refusals.replay-unchanged

pub replay-questions : ReplayQuestions
replay-questions = questions.replay-questions

pub replay-words : ReplayWords
replay-words = questions.replay-words

pub replays-means : ReplaysMeans
replays-means = contract.replays-means

pub replay-numbers : ReplayNumbers
replay-numbers = contract.replay-numbers

pub parts-joined : PartsJoined
parts-joined = parts.parts-joined

pub question-limit : QuestionLimit
question-limit = refl

pub all : All
all = (
  question-limit,
  conserved,
  book-next,
  book-sign-next,
  minus-zeros-are,
  question-terms,
  enters-finite,
  question-sign,
  book-of-minus-zeros,
  minus-zero-list,
  met-each,
  read-each,
  enters-exactly,
  allowed-next,
  among-others,
  full-when,
  eight-last,
  ones-enter,
  eight-reached,
  replay-conserves,
  replay-refused,
  replay-unchanged,
  replay-questions,
  replay-words,
  replays-means,
  replay-numbers,
  parts-joined,
)
