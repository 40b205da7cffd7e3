-- One line answered: what is added to the total, its text, and the position after it.
use mathlib.Core.Path.{◌≡◌, refl, sym, ap, ◌∙◌, subst}
use mathlib.Core.Bool.{Bool, true, false, cond}
use mathlib.Core.List.{List, []}
use Prim.Native.Nat.{ℕ, suc, ◌+◌, ◌≤◌}
use native.Mathlib.Nat.{le_trans}
use native.Mathlib.Numerals.{add-one}
use native.Mathlib.Omega.{arith}
use borrow.Author.Tests.{le-leb}
use lib.ListN.{length, take}
use lib.Seq.{length-take-le}
use Rattle.pattern_spec.specs.Answer.{Answer, refused, is_done}
use Rattle.pattern_spec.specs.Classes.{both_finite}
use Rattle.augmented_spec.specs.declared.Pair.{Pair}
use Rattle.augmented_spec.specs.Operations.{operation_number}
use Rattle.worksheet_spec.specs.Filling.{FilledSheet, filled, filling, after_filling}
use Rattle.accumulator_spec.specs.Totals.{of_pattern, after_adding}
use Rattle.accumulator_spec.specs.Columns.{column}
use Rattle.question_spec.specs.Questions.{Asked, read_question}
use Rattle.question_spec.specs.Answers.{asked_by, refusal_number}
use Rattle.question_spec.specs.declared.Question.{Question}
use Rattle.question_spec.specs.declared.NotAsked.{NotAsked}
use Rattle.transcript_spec.specs.Texts.{answered_text, bad_text, line_room}
use Rattle.transcript_spec.specs.Buffers.{written, after_writing, Writes}
use Rattle.transcript_spec.proofs.Parts.{wrote}
use Rattle.sheet_spec.specs.Printed.{blank, filled_text, line_text, half_terms, pair_terms, line_terms, Progress, after_line}
use Rattle.sheet_spec.specs.States.{kept_bytes}
use Rattle.sheet_spec.specs.declared.Position.{Position}
use Rattle.sheet_spec.proofs.Lengths.{line-most}
use Rattle.sheet_line.specs.Inner.{line_ended, LineEnds}

-- ---- the total
module _ (total : List ℕ) (first second : ℕ) (finite : Bool) (are : finite ≡ both_finite first second) where
  pub both-added : (t₁ t₂ : List ℕ) → finite ≡ true → t₁ ≡ after_adding total (of_pattern first) → t₂ ≡ after_adding t₁ (of_pattern second) → t₂ ≡ column total (half_terms first second)
  unfolding column
  both-added t₁ t₂ f a b = rw (sym are ∙ f) (b ∙ ap (λ (t : List ℕ). after_adding t (of_pattern second)) a)

  pub none-added : finite ≡ false → total ≡ column total (half_terms first second)
  unfolding column
  none-added f = rw (sym are ∙ f)

-- ---- a question's text
nothing : (out : List ℕ) → Writes out [] 0 out
unfolding written after_writing
nothing out = rw (le-leb 0 (length out) (omega arith)) (refl, refl)

module _ (number : ℕ) (q : Question) (total out : List ℕ) where
  abbrev Asks : ℕ → Answer FilledSheet → List ℕ → ℕ → List ℕ → List ℕ → Type 0
  Asks o a words n total' out' = Writes out (filled_text number o q.x q.y a words) n out' × (total' ≡ column total (pair_terms a))

  -- what answering the question promises
  abbrev Answers : ℕ → List ℕ → List ℕ → Type 0
  Answers n total' out' = Writes out (line_text number (asked_by q)) n out' × (total' ≡ column total (line_terms (asked_by q)))

  module _ (o : ℕ) (is : o ≡ operation_number q.operation) where
    as-asked : (n : ℕ) (total' out' : List ℕ) → Asks o (filling o q.x q.y blank) (after_filling o q.x q.y blank) n total' out' → Answers n total' out'
    unfolding filled_text line_text
    as-asked n total' out' h = subst (λ (k : ℕ). Asks k (filling k q.x q.y blank) (after_filling k q.x q.y blank) n total' out') is h

    pub sheet-answered : (lines : ℕ) (p : Pair) (words : List ℕ) (n : ℕ) (total' out' : List ℕ) → filled lines p ≡ filling o q.x q.y blank → words ≡ after_filling o q.x q.y blank
        → total' ≡ column total (half_terms p.first p.second) → Writes out (answered_text number o q.x q.y words lines p) n out' → Answers n total' out'
    unfolding filled_text
    sheet-answered lines p words n total' out' e f t w =
        as-asked n total' out'
        (subst (λ (ws : List ℕ). Asks o (filling o q.x q.y blank) ws n total' out') f (subst (λ (b : Answer FilledSheet). Asks o b words n total' out') e (w, t)))

    pub no-sheet : (k : ℕ) → refused k ≡ filling o q.x q.y blank → Answers 0 total out
    unfolding filled_text column
    no-sheet k e =
        as-asked 0 total out (subst (λ (b : Answer FilledSheet). Asks o b (after_filling o q.x q.y blank) 0 total out) e (nothing out, refl))

-- ---- the position after the line
pub as_many : (line : List ℕ) (n : ℕ) → n ≤ kept_bytes → length line ≡ kept_bytes → n ≡ length (take n line)
as_many line n h e = sym (length-take-le n line (omega arith))

progress-is : (m n g h : ℕ) (t u : List ℕ) → m ≡ n → g ≡ h → t ≡ u → ◌≡◌ {A = Progress} (record { lines = m; good = g; total = t }) (record { lines = n; good = h; total = u })
progress-is m n g h t u e f k = cc

module _ (p : Position) (kept total out : List ℕ) (whole : length (take p.length kept) ≡ p.length) (room : line_room ≤ length out) where
  ends : (a : Answer Asked) → a ≡ read_question (take p.length kept) → (n : ℕ) (total' out' : List ℕ) → total' ≡ column total (line_terms a) → Writes out (line_text (p.lines + 1) a) n out'
      → LineEnds p kept total out (line_ended p (cond (is_done a) 1 0) n) total' out'
  unfolding after_line
  ends a is n total' out' t w = record {
    whole = whole;
    progress =
        progress-is (p.lines + 1) (suc p.lines) (p.good + cond (is_done a) 1 0) _ total' _ (add-one p.lines) (counted is p.good)
        (t ∙ ap (λ (b : Answer Asked). column total (line_terms b)) is);
    emptied = refl;
    going = refl;
    taken = refl;
    text = rw (← is, ← add-one p.lines) (wrote (le_trans (line-most (p.lines + 1) a) room) w);
  }
    where
      commuted : (g m : ℕ) → g + m ≡ m + g
      commuted g m = omega arith

      counted : {b c : Answer Asked} → b ≡ c → (g : ℕ) → g + cond (is_done b) 1 0 ≡ cond (is_done c) 1 0 + g
      counted {b} {c} e g = commuted g (cond (is_done b) 1 0) ∙ ap (λ (d : Answer Asked). cond (is_done d) 1 0 + g) e

  pub good-ends : (q : Question) → asked_by q ≡ read_question (take p.length kept) → (n : ℕ) (total' out' : List ℕ)
      → Writes out (line_text (p.lines + 1) (asked_by q)) n out' → total' ≡ column total (line_terms (asked_by q)) → LineEnds p kept total out (line_ended p 1 n) total' out'
  good-ends q e n total' out' w t = ends (asked_by q) e n total' out' t w

  pub bad-ends : (why : NotAsked) → refused (refusal_number why) ≡ read_question (take p.length kept) → (k : ℕ) → k ≡ refusal_number why
      → (n : ℕ) (out' : List ℕ) → Writes out (bad_text (p.lines + 1) k) n out' → LineEnds p kept total out (line_ended p 0 n) total out'
  unfolding line_text column
  bad-ends why e k is n out' w = ends (refused k) (ap {B = Answer Asked} (λ (m : ℕ). refused m) is ∙ e) n total out' refl w
