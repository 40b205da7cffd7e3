-- What is proved of lists. `All`, at the end, lists the statements, and `proofs/Theorems.antt` proves them.
-- What is said of one sheet, its lines, line count, foot and flags, stands in worksheet_spec's Theorems (`EachLine` to `FilledPair`) and
-- in worksheet_table's (`Agree`).
use Rattle.std.specs.Prelude.{ℕ, ◌+◌, ◌^◌, ◌≤◌, ◌<◌, ◌≡◌, ◌⊎◌, ◌↔◌, ◌≢◌, Bool, true, false, List, [], ◌∷◌}
use Rattle.std.specs.Prelude.{◌++◌, map, pos, ◌+ℤ◌, length, take, drop, get_or, replicate}
use Rattle.pattern_spec.specs.Answer.{Answer, refused, done}
use Rattle.rounding_spec.specs.Format.{binary32}
use Rattle.rounding_spec.specs.Value.{finite, decode, is_finite}
use Rattle.pattern_spec.specs.Exact.{int}
use Rattle.pattern_spec.specs.Classes.{both_finite, flip}
use Rattle.augmented_spec.specs.Pairs.{pair_of}
use Rattle.augmented_spec.specs.declared.Operation.TheVariants.{Sum as sum, Difference as difference, Product as product}
use Rattle.augmented_spec.specs.Operations.{operation_of}
use Rattle.augmented_spec.specs.Direct.{exact_result}
use Rattle.worksheet_spec.specs.Lines.{sheet_size}
use Rattle.worksheet_spec.specs.Filling.{FilledSheet, after_filling}
use Rattle.accumulator_spec.specs.Words.{Words}
use Rattle.accumulator_spec.specs.Totals.{total_size, most_terms, zeros, count, after_clearing}
use Rattle.accumulator_spec.specs.Totals.{Term, of_pattern, of_product, finite_operands, adding, pair_read, pair_answer, reading}
use Rattle.accumulator_spec.specs.Columns.{AllMinusZero}
use Rattle.accumulator_spec.specs.Joins.{joining, after_joining}
use Rattle.conservation_spec.specs.Lists.{most_questions, Posed, sheet_for, operation_for, direct_for, enters, foot_terms, set_terms}
use Rattle.conservation_spec.specs.Lists.{Totals, Side, on_first, on_other, total_on}
use Rattle.conservation_spec.specs.Lists.{Event, asks, reads, adds, after_event, after_events, questions}
use Rattle.conservation_spec.specs.Lists.{book, minus_zeros, sign_of_patterns, book_sign, entering_sums, entering_products, book_value}
use Rattle.conservation_spec.specs.Claim.{BothHold, MetNow, Met}
use Rattle.conservation_spec.specs.Replay.{Asking, Lent, entries_of, events_of, replaying, after_replaying, Replays, ReplaysNumbered}

-- ---- every list
-- which lists: questions on patterns, readings, and adding calls with an operand that is not finite or on a total that is full (R7.7);
-- `AllowedNext` says the same by one call more
abbrev pub AllowedNow : Totals → Event → Type 0
AllowedNow t (asks q) = (q.x < 2 ^ 32) × (q.y < 2 ^ 32)
AllowedNow t (reads side) = Unit {0}
AllowedNow t (adds side x) = (finite_operands x ≡ false) ⊎ (count (total_on side t) ≡ most_terms)

unfoldable pub Allowed : Totals → List Event → Type 0
Allowed t [] = Unit {0}
Allowed t (e ∷ es) = AllowedNow t e × Allowed (after_event t e) es

-- two totals that are cleared first, from any words (R7.5)
abbrev pub cleared : List ℕ → List ℕ → Totals
cleared a b = record { first = after_clearing a; other = after_clearing b }

-- the claim, as one statement about every whole list (R7.13, R7.14)
abbrev pub Conserved : Type 0
Conserved =
    (a b : List ℕ) (es : List Event) → length a ≡ total_size → length b ≡ total_size → questions es ≤ most_questions
    → Allowed (cleared a b) es → BothHold (after_events (cleared a b) es) es × Met (cleared a b) es

-- S (R7.12) is 0 at first; an entering question of finite operands changes it by its exact result, and no other call does. s and a are an
-- operand's sign and magnitude.
abbrev pub BookNext : Type 0
BookNext =
    (book [] ≡ pos 0)
    × ((es : List Event) (q : Posed) (s t : Bool) (a b : ℕ) → enters q ≡ true
    → decode binary32 q.x ≡ finite s a → decode binary32 q.y ≡ finite t b
    → book (es ++ (asks q ∷ [])) ≡ book es +ℤ exact_result (operation_of q.operation) binary32 (int s a) (int t b))
    × ((es : List Event) (q : Posed) → enters q ≡ false → book (es ++ (asks q ∷ [])) ≡ book es)
    × ((es : List Event) (side : Side) → book (es ++ (reads side ∷ [])) ≡ book es)
    × ((es : List Event) (side : Side) (x : Term) → book (es ++ (adds side x ∷ [])) ≡ book es)

-- S's sign word (R7.16) is 0 at first, and 0 or 1. After an entering question of finite operands it is 0 exactly where it was and all terms
-- of the question are -0; no other call changes it.
abbrev pub BookSignNext : Type 0
BookSignNext =
    (book_sign [] ≡ 0) × ((es : List Event) → book_sign es ≤ 1)
    × ((es : List Event) (q : Posed) (s t : Bool) (a b : ℕ) → enters q ≡ true
    → decode binary32 q.x ≡ finite s a → decode binary32 q.y ≡ finite t b
    → book_sign (es ++ (asks q ∷ [])) ≡ 0 ↔ ((book_sign es ≡ 0) × (minus_zeros (operation_of q.operation) s a t b ≡ true)))
    × ((es : List Event) (q : Posed) → enters q ≡ false → book_sign (es ++ (asks q ∷ [])) ≡ book_sign es)
    × ((es : List Event) (side : Side) → book_sign (es ++ (reads side ∷ [])) ≡ book_sign es)
    × ((es : List Event) (side : Side) (x : Term) → book_sign (es ++ (adds side x ∷ [])) ≡ book_sign es)

-- R7.16: when all terms of a question are -0, by sign and magnitude of either operand
abbrev pub MinusZerosAre : Type 0
MinusZerosAre =
    (s t : Bool) (a b : ℕ)
    → (minus_zeros sum s a t b ≡ true ↔ ((s ≡ true) × (a ≡ 0) × (t ≡ true) × (b ≡ 0)))
    × (minus_zeros difference s a t b ≡ true ↔ ((s ≡ true) × (a ≡ 0) × (t ≡ false) × (b ≡ 0)))
    × (minus_zeros product s a t b ≡ true ↔ ((s ≢ t) × ((a ≡ 0) ⊎ (b ≡ 0))))

-- R7.9, R7.10: the terms of a question, for the other total and for the first
abbrev pub QuestionTerms : Type 0
QuestionTerms =
    (x y : ℕ) (s : FilledSheet)
    → (set_terms sum x y ≡ of_pattern x ∷ of_pattern y ∷ [])
    × (set_terms difference x y ≡ of_pattern x ∷ of_pattern (flip binary32 y) ∷ [])
    × (set_terms product x y ≡ of_product x y ∷ [])
    × (foot_terms (done s) ≡ of_pattern s.pair.first ∷ of_pattern s.pair.second ∷ [])

-- an entering question has finite operands (R7.8)
abbrev pub EntersFinite : Type 0
EntersFinite = (q : Posed) → q.y < 2 ^ 32 → enters q ≡ true → both_finite q.x q.y ≡ true

-- R7.16: the sign word of an entering question is 0 exactly where all terms that it gives the other total are -0, and exactly where those
-- of its foot are
abbrev pub QuestionSign : Type 0
QuestionSign =
    (q : Posed) → q.y < 2 ^ 32 → enters q ≡ true → let w = sign_of_patterns (operation_for q) q.x q.y in
    (w ≡ 0 ↔ AllMinusZero (set_terms (operation_for q) q.x q.y)) × (w ≡ 0 ↔ AllMinusZero (foot_terms (sheet_for q)))

-- R7.16: with the sign word 0, S is 0
abbrev pub BookOfMinusZeros : Type 0
BookOfMinusZeros = (es : List Event) → book_sign es ≡ 0 → book es ≡ pos 0

-- -0 + -0, -0 - +0 and -0 * 1
abbrev pub minus_zero_questions : List ℕ → List Event
minus_zero_questions words =
    asks (record { operation = 1; x = 0x8000_0000; y = 0x8000_0000; words = words })
    ∷ asks (record { operation = 2; x = 0x8000_0000; y = 0; words = words })
    ∷ asks (record { operation = 3; x = 0x8000_0000; y = 0x3f80_0000; words = words }) ∷ []

-- R7.16: all three enter, S and its sign word are 0 after them, and both totals read -0 twice
abbrev pub MinusZeroList : Type 0
MinusZeroList =
    (a b words : List ℕ) → length a ≡ total_size → length b ≡ total_size → sheet_size ≤ length words
    → let es = minus_zero_questions words in let t = after_events (cleared a b) es in
    (entering_sums es ≡ 2) × (entering_products es ≡ 1) × (book es ≡ pos 0) × (book_sign es ≡ 0)
    × (reading t.first ≡ pair_read 0x8000_0000 0x8000_0000) × (reading t.other ≡ pair_read 0x8000_0000 0x8000_0000)

-- each call was met by the totals that the calls before it left (R7.5)
abbrev pub MetEach : Type 0
MetEach = (t : Totals) (before after : List Event) (e : Event) → Met t (before ++ (e ∷ after)) → MetNow (after_events t before) e

-- each reading, on either total, answers what R6.5 to R6.8 give for S with its sign word as the calls before it left it (R7.7, R7.16)
abbrev pub ReadEach : Type 0
ReadEach =
    (a b : List ℕ) (before after : List Event) (side : Side) → length a ≡ total_size → length b ≡ total_size
    → let es = before ++ (reads side ∷ after) in
    questions es ≤ most_questions → Allowed (cleared a b) es
    → reading (total_on side (after_events (cleared a b) before)) ≡ pair_answer (pair_of binary32 (book_value before))

-- a question enters exactly under the three conditions of R7.8
abbrev pub EntersExactly : Type 0
EntersExactly =
    (q : Posed) → let p = direct_for q in
    (enters q ≡ true)
    ↔ ((1 ≤ q.operation) × (q.operation ≤ 3) × (sheet_size ≤ length q.words)
    × (is_finite (decode binary32 p.first) ≡ true) × (is_finite (decode binary32 p.second) ≡ true)
    × (p.flags.inexact ≡ false))

-- ---- which lists those are (R7.7)
-- The empty one; and after any of them one call more: a question on patterns, a reading, an addition with an operand that is infinite or
-- NaN, an addition to a total whose count, its word 20, is 65,536 at that moment; and no other.
abbrev pub AllowedNext : Type 0
AllowedNext =
    (t : Totals) (es : List Event) → let Then : Event → Type 0 = λ e. Allowed t (es ++ (e ∷ [])) in
    let Full : Side → Type 0 = λ side. get_or (total_on side (after_events t es)) 20 0 ≡ 65536 in
    let Special : ℕ → Type 0 = λ x. is_finite (decode binary32 x) ≡ false in
    Allowed t []
    × ((q : Posed) → Then (asks q) ↔ (Allowed t es × (q.x < 2 ^ 32) × (q.y < 2 ^ 32)))
    × ((side : Side) → Then (reads side) ↔ Allowed t es)
    × ((side : Side) (x : ℕ) → Then (adds side (of_pattern x)) ↔ (Allowed t es × (Special x ⊎ Full side)))
    × ((side : Side) (x y : ℕ) → Then (adds side (of_product x y)) ↔ (Allowed t es × (Special x ⊎ Special y ⊎ Full side)))

-- readings, and additions of an infinity and of a product with a NaN, on both totals (R7.7)
abbrev pub other_calls : List Event
other_calls =
    reads on_first ∷ reads on_other
    ∷ adds on_first (of_pattern 0x7f80_0000) ∷ adds on_other (of_pattern 0xff80_0000)
    ∷ adds on_first (of_product 0x7fc0_0000 0x3f80_0000) ∷ adds on_other (of_product 0x3f80_0000 0x7f80_0001) ∷ []

-- all of these before, between and after the questions
unfoldable pub with_other_calls : List Posed → List Event
with_other_calls [] = other_calls
with_other_calls (q ∷ qs) = other_calls ++ (asks q ∷ with_other_calls qs)

-- their operands are patterns (R7.1)
unfoldable pub OnPatterns : List Posed → Type 0
OnPatterns [] = Unit {0}
OnPatterns (q ∷ qs) = (q.x < 2 ^ 32) × (q.y < 2 ^ 32) × OnPatterns qs

-- Whatever the questions, those calls may stand there: the claim holds of such a list, both totals end as by the questions alone, and each
-- of the additions answers 7 and changes nothing (R7.7, R8.7).
abbrev pub AmongOthers : Type 0
AmongOthers =
    (a b : List ℕ) (qs : List Posed) → length a ≡ total_size → length b ≡ total_size → length qs ≤ most_questions → OnPatterns qs
    → let t = cleared a b in let es = with_other_calls qs in
    Allowed t es × (questions es ≡ length qs) × BothHold (after_events t es) es × Met t es
    × (after_events t es ≡ after_events t (map asks qs))
    × ((before after : List Event) (side : Side) (x : Term) → before ++ (adds side x ∷ after) ≡ es → let now = after_events t before in
    (adding (total_on side now) x ≡ refused 7) × (after_event now (adds side x) ≡ now))

-- ---- additions to a full total (R7.7, R8.7)
-- the first total is full exactly where 32,768 questions entered, the other exactly where so many sums and differences did (R7.13)
abbrev pub FullWhen : Type 0
FullWhen =
    (a b : List ℕ) (es : List Event) → length a ≡ total_size → length b ≡ total_size → questions es ≤ most_questions
    → Allowed (cleared a b) es → let t = after_events (cleared a b) es in
    (count t.first ≡ most_terms ↔ (entering_sums es + entering_products es ≡ most_questions))
    × (count t.other ≡ most_terms ↔ (entering_sums es ≡ most_questions))

-- An addition of a finite term in a list answers 8. It stands after 32,768 questions that all entered, on the other total only where no
-- product was among them; no question follows.
abbrev pub EightLast : Type 0
EightLast =
    (a b : List ℕ) (before after : List Event) (side : Side) (x : Term) → length a ≡ total_size → length b ≡ total_size
    → let es = before ++ (adds side x ∷ after) in
    questions es ≤ most_questions → Allowed (cleared a b) es → finite_operands x ≡ true
    → (adding (total_on side (after_events (cleared a b) before)) x ≡ refused 8)
    × (questions before ≡ most_questions) × (entering_sums before + entering_products before ≡ most_questions)
    × (side ≡ on_other → entering_products before ≡ 0) × (questions after ≡ 0)

-- 1 and 1 in the operation of this number
abbrev pub question_of_ones : ℕ → List ℕ → Posed
question_of_ones n words = record { operation = n; x = 0x3f80_0000; y = 0x3f80_0000; words = words }

-- 1 + 1, 1 - 1 and 1 * 1 enter (R7.8), and so they do in one list, with other calls before, between and after them
abbrev pub OnesEnter : Type 0
OnesEnter =
    (words : List ℕ) → sheet_size ≤ length words
    → (enters (question_of_ones 1 words) ≡ true) × (enters (question_of_ones 2 words) ≡ true) × (enters (question_of_ones 3 words) ≡ true)
    × (let es = with_other_calls (question_of_ones 1 words ∷ question_of_ones 2 words ∷ question_of_ones 3 words ∷ []) in
    (entering_sums es ≡ 2) × (entering_products es ≡ 1))

-- 32,768 times 1 + 1 bring both counts to 65,536: an addition of any finite term may then stand, on either, and answers 8; the claim holds
-- of the whole list (R7.7, R8.7).
abbrev pub EightReached : Type 0
EightReached =
    (a b words : List ℕ) (x : Term) → length a ≡ total_size → length b ≡ total_size → sheet_size ≤ length words → finite_operands x ≡ true
    → let t = cleared a b in let sums = replicate most_questions (asks (question_of_ones 1 words)) in
    let es = sums ++ (adds on_first x ∷ adds on_other x ∷ []) in
    Allowed t es × (questions es ≡ most_questions) × (entering_sums sums ≡ most_questions)
    × ((side : Side) → adding (total_on side (after_events t sums)) x ≡ refused 8)
    × BothHold (after_events t es) es × Met t es

-- ---- lists in one call
-- Where `replay` is carried out, the claim holds of its questions, and these are as many as the arrays have. xs and ys hold 32-bit words.
abbrev pub ReplayConserves : Type 0
ReplayConserves =
    (q : Asking) (l : Lent) → Words q.xs → Words q.ys → replaying q l ≡ done tt
    → let es = events_of (entries_of q) l.words in
    BothHold (after_replaying q l).totals es × Met l.totals es × (questions es ≡ length q.operations)

-- By R8.12's conditions, in their order: what `refusal` says of each number where it is the first that applies, and `carried_out` where
-- none does.
abbrev pub ReplayBy : Asking → Lent → (ℕ → Type 0) → Type 0 → Type 0
ReplayBy q l refusal carried_out =
    let n = length q.operations in
    ((length q.xs ≢ n) ⊎ (length q.ys ≢ n) ⊎ (length q.counts ≢ n) → refusal 101)
    × (length q.xs ≡ n → length q.ys ≡ n → length q.counts ≡ n
    → (most_questions < n → refusal 102)
    × (n ≤ most_questions → (l.totals.first ≢ zeros) ⊎ (l.totals.other ≢ zeros) → refusal 103)
    × (n ≤ most_questions → l.totals.first ≡ zeros → l.totals.other ≡ zeros
    → ((i : ℕ) → length l.words < get_or q.counts i 0 → refusal 104)
    × (((i : ℕ) → get_or q.counts i 0 ≤ length l.words) → carried_out)))

-- its refusals, in their order, and no other (R8.12)
abbrev pub ReplayRefused : Type 0
ReplayRefused = (q : Asking) (l : Lent) → ReplayBy q l (λ m. replaying q l ≡ refused m) (replaying q l ≡ done tt)

-- a refusal leaves the totals and the words as they were (R8.1)
abbrev pub ReplayUnchanged : Type 0
ReplayUnchanged = (q : Asking) (l : Lent) (m : ℕ) → replaying q l ≡ refused m → after_replaying q l ≡ l

-- ---- the questions of `replay` and its lent words, one by one (R8.13)
-- the first i of its questions
abbrev pub first_questions : ℕ → Asking → Asking
first_questions i q =
    record { operations = take i q.operations; xs = take i q.xs; ys = take i q.ys; counts = take i q.counts }

-- the words as a call with these alone leaves them
abbrev pub words_left : ℕ → Asking → Lent → List ℕ
words_left i q l = (after_replaying (first_questions i q) l).words

-- Question i, counted from 0, has the ith of each array. It is lent as many of the first words as its count says, as the questions before
-- it left them.
abbrev pub question_at : ℕ → Asking → Lent → Posed
question_at i q l =
    record {
      operation = get_or q.operations i 0;
      x = get_or q.xs i 0;
      y = get_or q.ys i 0;
      words = take (get_or q.counts i 0) (words_left i q l);
    }

-- Where `replay` is carried out, its list is these questions in their order, as many as the arrays have, and no other call (R8.12, R8.13).
abbrev pub ReplayQuestions : Type 0
ReplayQuestions =
    (q : Asking) (l : Lent) → replaying q l ≡ done tt
    → let es = events_of (entries_of q) l.words in
    (length es ≡ length q.operations)
    × ((i : ℕ) → i < length q.operations → get_or es i (reads on_first) ≡ asks (question_at i q l))

-- A call with the first i questions alone is carried out too, and leaves as many words as were lent. Without a question they stay as they
-- were. Each question leaves the words that it is lent as filling leaves them, and those behind them as they were. After the last they are
-- as the whole call leaves them (R8.13).
abbrev pub ReplayWords : Type 0
ReplayWords =
    (q : Asking) (l : Lent) → replaying q l ≡ done tt
    → let n = length q.operations in
    ((i : ℕ) → (replaying (first_questions i q) l ≡ done tt) × (length (words_left i q l) ≡ length l.words))
    × (words_left 0 q l ≡ l.words)
    × ((i : ℕ) → i < n → let many = get_or q.counts i 0 in let p = question_at i q l in
    (take many (words_left (i + 1) q l) ≡ after_filling p.operation p.x p.y p.words)
    × (drop many (words_left (i + 1) q l) ≡ drop many (words_left i q l)))
    × ((after_replaying q l).words ≡ words_left n q l)

-- what a call leaves that is carried out: the words that its questions leave, one after the other, the totals that its list of questions
-- leaves, and the claim about that list (R8.13, R7.13)
abbrev pub AllAsked : Asking → Lent → Lent → Type 0
AllAsked q before after =
    let es = events_of (entries_of q) before.words in
    (after.words ≡ words_left (length q.operations) q before) × (after.totals ≡ after_events before.totals es)
    × BothHold after.totals es × Met before.totals es

-- what the contract's relation says of the answer and of all that is lent
abbrev pub ReplaysMeans : Type 0
ReplaysMeans =
    (q : Asking) (before after : Lent) (answer : Answer (Unit {0})) → Replays q before answer after
    → ReplayBy q before (λ m. (answer ≡ refused m) × (after ≡ before)) ((answer ≡ done tt) × AllAsked q before after)

-- by numbers: 101 to 104, or 0 where it is carried out (R8.2)
abbrev pub ReplayNumbers : Type 0
ReplayNumbers =
    (q : Asking) (before after : Lent) (r : ℕ) → ReplaysNumbered q before r after
    → ReplayBy q before (λ m. (r ≡ m) × (after ≡ before)) ((r ≡ 0) × AllAsked q before after)

-- ---- a list in parts (R6.9, R7.13)
-- each total of one part joined by that of another
abbrev pub after_joining_both : Totals → Totals → Totals
after_joining_both t u = record { first = after_joining t.first u.first; other = after_joining t.other u.other }

-- Two lists that the claim is about, each over two totals of its own, of at most 32,768 questions together: both joins are accepted, and
-- leave what the one list after the other leaves on two totals. The claim is about that list too, so that a part may be of parts.
abbrev pub PartsJoined : Type 0
PartsJoined =
    (a b c d : List ℕ) (es fs : List Event)
    → length a ≡ total_size → length b ≡ total_size → length c ≡ total_size → length d ≡ total_size
    → questions es + questions fs ≤ most_questions → Allowed (cleared a b) es → Allowed (cleared c d) fs
    → let t = after_events (cleared a b) es in let u = after_events (cleared c d) fs in
    (joining t.first u.first ≡ done tt)
    × (joining t.other u.other ≡ done tt)
    × (after_joining_both t u ≡ after_events (cleared a b) (es ++ fs))
    × Allowed (cleared a b) (es ++ fs)
    × BothHold (after_joining_both t u) (es ++ fs)

-- ---- how many questions a list has at most (R7.6)
abbrev pub QuestionLimit : Type 0
QuestionLimit = most_questions ≡ 32768

-- ---- all of them
abbrev pub All : Type 0
All =
    QuestionLimit × Conserved × BookNext × BookSignNext × MinusZerosAre × QuestionTerms × EntersFinite × QuestionSign × BookOfMinusZeros
    × MinusZeroList × MetEach × ReadEach × EntersExactly × AllowedNext × AmongOthers × FullWhen × EightLast × OnesEnter × EightReached
    × ReplayConserves × ReplayRefused × ReplayUnchanged × ReplayQuestions × ReplayWords × ReplaysMeans × ReplayNumbers × PartsJoined
