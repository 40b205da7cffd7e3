-- `replay`, a call of our own: a list of questions from lent arrays, over two cleared totals (R8.12, R8.13).
use Rattle.std.specs.Prelude.{ℕ, ◌≡◌, Bool, true, not, cond, ◌&&◌, List, [], ◌∷◌, ◌++◌, eqb, leb, ltb, length, take, drop}
use Rattle.pattern_spec.specs.Answer.{Answer, refused, done, is_done, refusal_of}
use Rattle.worksheet_spec.specs.Filling.{after_filling}
use Rattle.accumulator_spec.specs.Totals.{is_cleared}
use Rattle.conservation_spec.specs.Lists.{most_questions, Posed, Totals, Event, asks, after_events}
use Rattle.conservation_spec.specs.Claim.{Conserves}

-- ---- what is lent
-- the arrays that say what is asked: operation numbers, patterns, and how many words each question is lent
pub record Asking : Type 0 where
  pub operations : List ℕ
  pub xs : List ℕ
  pub ys : List ℕ
  pub counts : List ℕ

-- the arrays that are written: the words that the questions share, and both totals
pub record Lent : Type 0 where
  pub words : List ℕ
  pub totals : Totals

-- ---- the questions, in order: the ith has the ith of each array
pub record Entry : Type 0 where
  pub operation : ℕ
  pub x : ℕ
  pub y : ℕ
  pub count : ℕ

unfoldable pub entries : List ℕ → List ℕ → List ℕ → List ℕ → List Entry
entries [] xs ys counts = []
entries (o ∷ os) [] ys counts = []
entries (o ∷ os) (x ∷ xs) [] counts = []
entries (o ∷ os) (x ∷ xs) (y ∷ ys) [] = []
entries (o ∷ os) (x ∷ xs) (y ∷ ys) (n ∷ counts) = record { operation = o; x = x; y = y; count = n } ∷ entries os xs ys counts

abbrev pub entries_of : Asking → List Entry
entries_of q = entries q.operations q.xs q.ys q.counts

-- Each is lent as many of the first words as its count says, as the question before it left them: a sheet is written over the one before.
abbrev pub posed_on : List ℕ → Entry → Posed
posed_on words e = record { operation = e.operation; x = e.x; y = e.y; words = take e.count words }

abbrev pub words_after : List ℕ → Entry → List ℕ
words_after words e = after_filling e.operation e.x e.y (take e.count words) ++ drop e.count words

unfoldable pub events_of : List Entry → List ℕ → List Event
events_of [] words = []
events_of (e ∷ es) words = asks (posed_on words e) ∷ events_of es (words_after words e)

unfoldable pub words_after_all : List Entry → List ℕ → List ℕ
words_after_all [] words = words
words_after_all (e ∷ es) words = words_after_all es (words_after words e)

-- what they leave
abbrev pub after_asking : Asking → Lent → Lent
after_asking q l =
    record {
      words = words_after_all (entries_of q) l.words;
      totals = after_events l.totals (events_of (entries_of q) l.words);
    }

-- ---- misfits
-- arrays of one length
abbrev pub all_equal : Asking → Bool
all_equal q =
    let n = length q.operations in eqb (length q.xs) n && (eqb (length q.ys) n && eqb (length q.counts) n)

-- no count is past the lent words
unfoldable pub all_within : List ℕ → ℕ → Bool
all_within [] most = true
all_within (n ∷ ns) most = leb n most && all_within ns most

-- ---- the call
-- refused, by these numbers in this order, or carried out (R8.12)
unfoldable pub replaying : Asking → Lent → Answer (Unit {0})
replaying q l =
    cond (not (all_equal q)) (refused 101)
    (cond (ltb most_questions (length q.operations)) (refused 102)
    (cond (not (is_cleared l.totals.first && is_cleared l.totals.other)) (refused 103)
    (cond (not (all_within q.counts (length l.words))) (refused 104)
    (done tt))))

-- what it leaves: nothing is changed where it is refused
unfoldable pub after_replaying : Asking → Lent → Lent
after_replaying q l = cond (is_done (replaying q l)) (after_asking q l) l

-- a call of `replay`: its answer, what was lent before and after it, and the claim about its questions (R7.13)
pub record Replays (q : Asking) (before : Lent) (answer : Answer (Unit {0})) (after : Lent) : Type 0 where
  pub answered : answer ≡ replaying q before
  pub left : after ≡ after_replaying q before
  pub conserves : Conserves answer (events_of (entries_of q) before.words) before.totals after.totals

-- the same, with the answer as a number: the refusal's, or 0
abbrev pub replay_answer : ℕ → Answer (Unit {0})
replay_answer r = cond (eqb r 0) (done tt) (refused r)

pub record ReplaysNumbered (q : Asking) (lent : Lent) (r : ℕ) (after : Lent) : Type 0 where
  pub answered : r ≡ refusal_of (replaying q lent)
  pub left : after ≡ after_replaying q lent
  pub conserves : Conserves (replay_answer r) (events_of (entries_of q) lent.words) lent.totals after.totals
