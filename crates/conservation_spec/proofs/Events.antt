-- The questions of the lent arrays, and what they leave, question by question.
use mathlib.Core.Path.{◌≡◌, refl, sym, ap, ap₂, ◌∙◌}
use mathlib.Core.List.{List, [], ◌∷◌, ◌++◌}
use Prim.Native.Nat.{ℕ, suc, ◌+◌, ◌≤◌, ◌<◌}
use native.Mathlib.Numerals.{add-one}
use native.Mathlib.Omega.{arith}
use lib.ListN.{length, drop, get_or, drop_of_length-le}
use lib.Seq.{drop-cons}
use Rattle.accumulator_spec.specs.Words.{Words}
use Rattle.conservation_spec.specs.Lists.{Totals, after_question, after_events, questions}
use Rattle.conservation_spec.specs.Replay.{Asking, Lent, entries, posed_on, words_after, events_of, words_after_all, after_asking}
use Rattle.conservation_spec.specs.Inner.{Settles}
use Rattle.conservation_spec.specs.Theorems.{Allowed}
use Rattle.conservation_spec.proofs.Allowed.{asks-allowed}
use Rattle.conservation_spec.proofs.Questions.{entry_at}

-- ---- as many questions as operation numbers
pub questions-of : (os xs ys counts words : List ℕ) → length xs ≡ length os → length ys ≡ length os → length counts ≡ length os
    → questions (events_of (entries os xs ys counts) words) ≡ length os
unfolding questions entries events_of
questions-of [] xs ys counts words a b c = refl
questions-of (o ∷ os) [] ys counts words a b c = absurd (omega arith)
questions-of (o ∷ os) (x ∷ xs) [] counts words a b c = absurd (omega arith)
questions-of (o ∷ os) (x ∷ xs) (y ∷ ys) [] words a b c = absurd (omega arith)
questions-of (o ∷ os) (x ∷ xs) (y ∷ ys) (n ∷ counts) words a b c = ap suc (questions-of os xs ys counts _ (omega arith) (omega arith) (omega arith))

-- ---- 32-bit words are patterns
rest-words : (x : ℕ) (xs : List ℕ) → Words (x ∷ xs) → Words xs
rest-words x xs w i = w (suc i)

pub allowed_of : (os xs ys counts words : List ℕ) (t : Totals) → Words xs → Words ys → Allowed t (events_of (entries os xs ys counts) words)
unfolding Allowed entries events_of
allowed_of [] xs ys counts words t v w = tt
allowed_of (o ∷ os) [] ys counts words t v w = tt
allowed_of (o ∷ os) (x ∷ xs) [] counts words t v w = tt
allowed_of (o ∷ os) (x ∷ xs) (y ∷ ys) [] words t v w = tt
allowed_of (o ∷ os) (x ∷ xs) (y ∷ ys) (n ∷ counts) words t v w =
    (asks-allowed t (posed_on words (record { operation = o; x = x; y = y; count = n })) (v 0, w 0), allowed_of os xs ys counts _ _ (rest-words x xs v) (rest-words y ys w))

-- ---- what is left to ask from the ith question on
module _ (q : Asking) (i : ℕ) where
  abbrev pub rest : Asking
  rest = record { operations = drop i q.operations; xs = drop i q.xs; ys = drop i q.ys; counts = drop i q.counts }

  -- what it leaves
  abbrev pub left_from : Lent → Lent
  left_from l = after_asking rest l

  pub nothing_left : (l : Lent) → length q.operations ≤ i → left_from l ≡ l
  unfolding entries events_of words_after_all after_events
  nothing_left l h = rw (drop_of_length-le q.operations h)

module _ (q : Asking) (i : ℕ) (inside : i < length q.operations) (a : length q.xs ≡ length q.operations) (b : length q.ys ≡ length q.operations)
    (c : length q.counts ≡ length q.operations) where
  asked-next : (l : Lent) → left_from q i l ≡ left_from q (i + 1) (record { words = words_after l.words (entry_at q i); totals = after_question (posed_on l.words (entry_at q i)) l.totals })
  unfolding entries events_of words_after_all after_events
  asked-next l =
      let d = drop-cons q.operations i 0 inside in
      let e = drop-cons q.xs i 0 (omega arith) in
      let f = drop-cons q.ys i 0 (omega arith) in
      let g = drop-cons q.counts i 0 (omega arith) in
      rw (add-one, d, e, f, g)

  -- one question more: the part of the words that it was lent comes back before the rest
  pub next-question : (words part : List ℕ) (before after : Totals) → Settles (posed_on words (entry_at q i)) before part after
      → left_from q (i + 1) (record { words = part ++ drop (get_or q.counts i 0) words; totals = after }) ≡ left_from q i (record { words = words; totals = before })
  next-question words part before after s =
      ap₂ (λ (p : List ℕ) (t : Totals). left_from q (i + 1) (record { words = p ++ drop (get_or q.counts i 0) words; totals = t })) s.0 s.1
      ∙ sym (asked-next (record { words = words; totals = before }))
