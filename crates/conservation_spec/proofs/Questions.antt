-- Which questions `replay` poses, and what each leaves of the lent words: by position.
use mathlib.Core.Path.{◌≡◌, refl, sym, ap, ap₂, ◌∙◌, subst}
use mathlib.Core.Logic.{inl, inr}
use mathlib.Core.Bool.{Bool, true, false, not}
use mathlib.Core.List.{List, [], ◌∷◌, ◌++◌}
use Prim.Native.Nat.{ℕ, zero, suc, ◌+◌, ◌≤◌, ◌<◌}
use native.Mathlib.Nat.{le_of_eq}
use native.Mathlib.Numerals.{add-one}
use native.Mathlib.Omega.{arith}
use lib.Dec.{T, leb, ltb, ltb→lt, nltb→le}
use lib.ListN.{length, take, drop, get_or, length-take}
use lib.Seq.{take_all, take_at, drop_at, length_front, length-take-le}
use Rattle.pattern_spec.proofs.Truth.{both_of}
use Rattle.pattern_spec.specs.Answer.{done}
use Rattle.augmented_spec.specs.declared.Operation.{Operation}
use Rattle.augmented_spec.specs.declared.Operation.TheVariants.{Sum as sum, Difference as difference, Product as product}
use Rattle.augmented_spec.specs.Operations.{operation_number}
use Rattle.worksheet_spec.specs.Lines.{sheet_size}
use Rattle.worksheet_spec.specs.Filling.{after_filling}
use Rattle.worksheet_spec.proofs.Theorems.{filling-refused, sheet-filled}
use Rattle.conservation_spec.specs.Lists.{most_questions, asks, reads, on_first}
use Rattle.conservation_spec.specs.Replay.{Asking, Lent, Entry, entries, entries_of, posed_on, words_after, events_of, words_after_all, all_within, replaying, after_replaying}
use Rattle.conservation_spec.specs.Theorems.{first_questions, words_left, question_at, ReplayQuestions, ReplayWords}
use Rattle.conservation_spec.proofs.Misfits.{fits, within-at, nothing-wrong}
use Rattle.conservation_spec.proofs.Refusals.{equal-lengths}

-- ---- filling leaves as many words as it is lent
module _ (x y : ℕ) (words : List ℕ) where
  known-length : (o : Operation) (n : ℕ) → 1 ≤ n → n ≤ 3 → operation_number o ≡ n → length (after_filling n x y words) ≡ length words
  known-length o n h k e = go (ltb (length words) sheet_size) (ltb→lt (length words) sheet_size) (nltb→le (length words) sheet_size)
    where
      go : (short : Bool) → (T short → length words < sheet_size) → (T (not short) → sheet_size ≤ length words) → length (after_filling n x y words) ≡ length words
      go true s r = ap length ((filling-refused n x y words).1 h k (s tt)).1
      go false s r = subst (λ (m : ℕ). length (after_filling m x y words) ≡ length words) e (sheet-filled o x y words (r tt)).1.0

  filling-length : (o : ℕ) → length (after_filling o x y words) ≡ length words
  filling-length zero = ap length ((filling-refused 0 x y words).0 (inl refl)).1
  filling-length (suc zero) = known-length sum 1 (omega arith) (omega arith) refl
  filling-length (suc (suc zero)) = known-length difference 2 (omega arith) (omega arith) refl
  filling-length (suc (suc (suc zero))) = known-length product 3 (omega arith) (omega arith) refl
  filling-length (suc (suc (suc (suc o)))) = ap length ((filling-refused (suc (suc (suc (suc o)))) x y words).0 (inr (omega arith))).1

-- ---- entries: the ith of each array, as many as operation numbers, and those of the first i
abbrev pub entry_at : Asking → ℕ → Entry
entry_at q i = record { operation = get_or q.operations i 0; x = get_or q.xs i 0; y = get_or q.ys i 0; count = get_or q.counts i 0 }

entries_at : (os xs ys counts : List ℕ) (i : ℕ) (e : Entry) → length xs ≡ length os → length ys ≡ length os → length counts ≡ length os → i < length os
    → get_or (entries os xs ys counts) i e ≡ record { operation = get_or os i 0; x = get_or xs i 0; y = get_or ys i 0; count = get_or counts i 0 }
unfolding entries
entries_at [] xs ys counts i e a b c h = absurd (omega arith)
entries_at (o ∷ os) [] ys counts i e a b c h = absurd (omega arith)
entries_at (o ∷ os) (x ∷ xs) [] counts i e a b c h = absurd (omega arith)
entries_at (o ∷ os) (x ∷ xs) (y ∷ ys) [] i e a b c h = absurd (omega arith)
entries_at (o ∷ os) (x ∷ xs) (y ∷ ys) (n ∷ counts) zero e a b c h = refl
entries_at (o ∷ os) (x ∷ xs) (y ∷ ys) (n ∷ counts) (suc i) e a b c h = entries_at os xs ys counts i e (omega arith) (omega arith) (omega arith) (omega arith)

entries-length : (os xs ys counts : List ℕ) → length xs ≡ length os → length ys ≡ length os → length counts ≡ length os
    → length (entries os xs ys counts) ≡ length os
unfolding entries
entries-length [] xs ys counts a b c = refl
entries-length (o ∷ os) [] ys counts a b c = absurd (omega arith)
entries-length (o ∷ os) (x ∷ xs) [] counts a b c = absurd (omega arith)
entries-length (o ∷ os) (x ∷ xs) (y ∷ ys) [] a b c = absurd (omega arith)
entries-length (o ∷ os) (x ∷ xs) (y ∷ ys) (n ∷ counts) a b c = ap suc (entries-length os xs ys counts (omega arith) (omega arith) (omega arith))

entries-first : (os xs ys counts : List ℕ) (i : ℕ) → entries (take i os) (take i xs) (take i ys) (take i counts) ≡ take i (entries os xs ys counts)
unfolding entries
entries-first os xs ys counts zero = refl
entries-first [] xs ys counts (suc i) = refl
entries-first (o ∷ os) [] ys counts (suc i) = refl
entries-first (o ∷ os) (x ∷ xs) [] counts (suc i) = refl
entries-first (o ∷ os) (x ∷ xs) (y ∷ ys) [] (suc i) = refl
entries-first (o ∷ os) (x ∷ xs) (y ∷ ys) (n ∷ counts) (suc i) =
    ap (λ (es : List Entry). record { operation = o; x = x; y = y; count = n } ∷ es) (entries-first os xs ys counts i)

-- ---- the questions of entries, and the words that the first i leave
events-at : (es : List Entry) (words : List ℕ) (i : ℕ) (d : Entry) → i < length es
    → get_or (events_of es words) i (reads on_first) ≡ asks (posed_on (words_after_all (take i es) words) (get_or es i d))
unfolding events_of words_after_all
events-at [] words i d h = absurd (omega arith)
events-at (e ∷ es) words zero d h = refl
events-at (e ∷ es) words (suc i) d h = events-at es (words_after words e) i d (omega arith)

words-next : (es : List Entry) (words : List ℕ) (i : ℕ) (d : Entry) → i < length es
    → let before = words_after_all (take i es) words in let e = get_or es i d in
    words_after_all (take (suc i) es) words ≡ after_filling e.operation e.x e.y (take e.count before) ++ drop e.count before
unfolding words_after_all
words-next [] words i d h = absurd (omega arith)
words-next (e ∷ es) words zero d h = refl
words-next (e ∷ es) words (suc i) d h = words-next es (words_after words e) i d (omega arith)

events-length : (es : List Entry) (words : List ℕ) → length (events_of es words) ≡ length es
unfolding events_of
events-length [] words = refl
events-length (e ∷ es) words = ap suc (events-length es (words_after words e))

after-length : (words : List ℕ) (e : Entry) → length (words_after words e) ≡ length words
after-length words e =
    let part = take e.count words in
    length_front words (after_filling e.operation e.x e.y part) e.count (filling-length e.x e.y part e.operation)

after-all-length : (es : List Entry) (words : List ℕ) → length (words_after_all es words) ≡ length words
unfolding words_after_all
after-all-length [] words = refl
after-all-length (e ∷ es) words = after-all-length es (words_after words e) ∙ after-length words e

-- ---- a call that is carried out, and one with its first i questions
within_first : (ns : List ℕ) (most i : ℕ) → all_within ns most ≡ true → all_within (take i ns) most ≡ true
unfolding all_within
within_first ns most zero h = refl
within_first [] most (suc i) h = refl
within_first (n ∷ ns) most (suc i) h = let b = both_of (leb n most) (all_within ns most) h in rw b.0 (within_first ns most i b.1)

first-length : (i : ℕ) (a b : List ℕ) → length a ≡ length b → length (take i a) ≡ length (take i b)
first-length i a b e = omega (arith, length-take i a, length-take i b, e)

words_of : (q : Asking) (l : Lent) → replaying q l ≡ done tt → (after_replaying q l).words ≡ words_after_all (entries_of q) l.words
unfolding after_replaying
words_of q l e = rw e

module _ (q : Asking) (l : Lent) (carried : replaying q l ≡ done tt) where
  abbrev n : ℕ
  n = length q.operations

  abbrev es : List Entry
  es = entries_of q

  ith : (i : ℕ) → i < n → get_or es i (entry_at q i) ≡ entry_at q i
  ith i inside = let f = fits q l carried in entries_at q.operations q.xs q.ys q.counts i (entry_at q i) f.same_xs f.same_ys f.same_counts inside

  as_many : length es ≡ n
  as_many = let f = fits q l carried in entries-length q.operations q.xs q.ys q.counts f.same_xs f.same_ys f.same_counts

  first-carried : (i : ℕ) → replaying (first_questions i q) l ≡ done tt
  first-carried i =
      let f = fits q l carried in
      let os = q.operations in
      let same = equal-lengths (first_questions i q) l (first-length i q.xs os f.same_xs) (first-length i q.ys os f.same_ys) (first-length i q.counts os f.same_counts) in
      let few : length (take i os) ≤ most_questions = omega (arith, length-take i os, f.few) in
      sym (nothing-wrong (first_questions i q) l same few f.first_cleared f.other_cleared (within_first q.counts (length l.words) i f.within))

  left_is : (i : ℕ) → words_left i q l ≡ words_after_all (take i es) l.words
  left_is i =
      words_of (first_questions i q) l (first-carried i)
      ∙ ap (λ (fs : List Entry). words_after_all fs l.words) (entries-first q.operations q.xs q.ys q.counts i)

  left-length : (i : ℕ) → length (words_left i q l) ≡ length l.words
  left-length i = ap length (left_is i) ∙ after-all-length (take i es) l.words

  module _ (i : ℕ) (inside : i < n) where
    abbrev many : ℕ
    many = get_or q.counts i 0

    abbrev part : List ℕ
    part = take many (words_left i q l)

    abbrev filled : List ℕ
    filled = after_filling (get_or q.operations i 0) (get_or q.xs i 0) (get_or q.ys i 0) part

    asked : get_or (events_of es l.words) i (reads on_first) ≡ asks (question_at i q l)
    asked =
        events-at es l.words i (entry_at q i) (omega (arith, as_many))
        ∙ ap₂ (λ (ws : List ℕ) (e : Entry). asks (posed_on ws e)) (sym (left_is i)) (ith i inside)

    left-next : words_left (i + 1) q l ≡ words_after (words_left i q l) (entry_at q i)
    left-next =
        left_is (i + 1) ∙ ap (λ (k : ℕ). words_after_all (take k es) l.words) (add-one i)
        ∙ words-next es l.words i (entry_at q i) (omega (arith, as_many))
        ∙ ap₂ words_after (sym (left_is i)) (ith i inside)

    filled-length : length filled ≡ many
    filled-length =
        let f = fits q l carried in
        let w = within-at q.counts (length l.words) i f.within (omega (arith, f.same_counts)) in
        filling-length (get_or q.xs i 0) (get_or q.ys i 0) part (get_or q.operations i 0)
        ∙ length-take-le many (words_left i q l) (omega (arith, left-length i))

    front : take many (words_left (i + 1) q l) ≡ filled
    front = ap (take many) left-next ∙ take_at filled (drop many (words_left i q l)) many filled-length

    behind : drop many (words_left (i + 1) q l) ≡ drop many (words_left i q l)
    behind = ap (drop many) left-next ∙ drop_at filled (drop many (words_left i q l)) many filled-length

pub replay-questions : ReplayQuestions
replay-questions q l e = (events-length (entries_of q) l.words ∙ as_many q l e, asked q l e)

pub replay-words : ReplayWords
unfolding words_after_all
replay-words q l e = (
  λ i. (first-carried q l e i, left-length q l e i),
  left_is q l e 0,
  λ i h. (front q l e i h, behind q l e i h),
  words_of q l e
      ∙ ap (λ (es : List Entry). words_after_all es l.words) (sym (take_all (length q.operations) (entries_of q) (le_of_eq (as_many q l e))))
      ∙ sym (left_is q l e (length q.operations)),
)
