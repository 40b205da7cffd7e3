-- The sheet that filling gives, and two lines more: its words are those of the model sheet's lines.
use mathlib.Core.Path.{◌≡◌, sym, ap, ap₂, ◌∙◌}
use mathlib.Core.Bool.{Bool, true, true≢false}
use mathlib.Core.List.{List, [], ◌∷◌, ◌++◌}
use Prim.Native.Nat.{ℕ, ◌*◌, ◌-◌, ◌≤◌}
use native.Mathlib.Decide.{dec_le}
use native.Mathlib.Omega.{arith}
use lib.ListN.{length, take, drop, replicate}
use lib.Seq.{take_at}
use Rattle.rounding_spec.specs.Format.{binary32}
use Rattle.pattern_spec.specs.Answer.{Answer, refused, done, is_done}
use Rattle.augmented_spec.specs.declared.Pair.{Pair}
use Rattle.augmented_spec.specs.declared.Operation.{Operation}
use Rattle.augmented_spec.specs.Operations.{operation_number}
use Rattle.augmented_spec.specs.Direct.{direct_pair}
use Rattle.worksheet_spec.specs.Lines.{line_size, sheet_size, Line}
use Rattle.worksheet_spec.specs.Sheets.{sheet_of}
use Rattle.worksheet_spec.specs.Filling.{lines_words, sheet_words, FilledSheet, filled, filling, after_filling}
use Rattle.worksheet_spec.proofs.Filling.{filled-words, words-length, words_append, all_words}
use Rattle.worksheet_spec.proofs.Theorems.{line-count, foot-is-pair, filling-refused, sheet-filled}
use Rattle.marking_spec.specs.Marking.{judged, marking}
use Rattle.marking_spec.specs.Theorems.{added_minus_zero}
use Rattle.marking_spec.proofs.Said.{number-of}
use Rattle.marking_spec.proofs.ModelSheet.{model-sheet-right}

-- line count and pair of a sheet that is filled
count_in : Answer FilledSheet → ℕ
count_in (refused n) = 0
count_in (done s) = s.line_count

pair_in : Pair → Answer FilledSheet → Pair
pair_in p (refused n) = p
pair_in p (done s) = s.pair

module _ (o : Operation) (x y : ℕ) (words : List ℕ) (line_count : ℕ) (p : Pair) (h : filling (operation_number o) x y words ≡ filled line_count p) where
  abbrev n : ℕ
  n = operation_number o

  abbrev lines : List Line
  lines = (sheet_of o x y).lines

  room : sheet_size ≤ length words
  room = elim (dec_le sheet_size (length words)) [
    | yes r ↦ r
    | no r ↦
        let refusal = ((filling-refused n x y words).1 (number-of o).0 (number-of o).1 (omega arith)).0 in
        absurd (true≢false (sym (ap is_done h) ∙ ap is_done refusal))
  ]

  answer : filled line_count p ≡ filled (length lines) (direct_pair o binary32 x y)
  answer = sym h ∙ (sheet-filled o x y words room).0

  count-is : line_count ≡ length lines
  unfolding count_in
  count-is = ap count_in answer

  pair_is : p ≡ direct_pair o binary32 x y
  unfolding pair_in
  pair_is = ap (pair_in p) answer

  -- the words of the lines
  its-words : take (line_size * line_count) (after_filling n x y words) ≡ lines_words lines
  its-words =
      let rest = drop sheet_size words in
      let zeros : List ℕ = replicate (sheet_size - line_size * length lines) 0 in
      let after : after_filling n x y words ≡ sheet_words lines ++ rest =
      filled-words n x y words _ _ h ∙ ap (λ (a : Operation). sheet_words (sheet_of a x y).lines ++ rest) (number-of o).2 in
      ap₂ (λ (k : ℕ) (ws : List ℕ). take (line_size * k) ws) count-is (after ∙ all_words lines rest (line-count o x y).1)
      ∙ take_at (lines_words lines) (zeros ++ rest) (line_size * length lines) (words-length lines)

  module _ (i j : Bool) where
    first-is : p.first ≡ (sheet_of o x y).first
    first-is = ap (λ (q : Pair). q.first) pair_is ∙ sym (foot-is-pair o x y).0

    second_is : p.second ≡ (sheet_of o x y).second
    second_is = ap (λ (q : Pair). q.second) pair_is ∙ sym (foot-is-pair o x y).1

    more-is : lines_words (added_minus_zero i p.first ∷ added_minus_zero j p.second ∷ []) ≡ lines_words (added_minus_zero i (sheet_of o x y).first ∷ added_minus_zero j (sheet_of o x y).second ∷ [])
    more-is = ap₂ (λ (a b : ℕ). lines_words (added_minus_zero i a ∷ added_minus_zero j b ∷ [])) first-is second_is

    pub filled-sheet-right : marking n x y (take (line_size * line_count) (after_filling n x y words) ++ lines_words (added_minus_zero i p.first ∷ added_minus_zero j p.second ∷ [])) ≡ judged true
    filled-sheet-right =
        ap (marking n x y) (ap₂ ◌++◌ its-words more-is ∙ sym (words_append lines (added_minus_zero i (sheet_of o x y).first ∷ added_minus_zero j (sheet_of o x y).second ∷ [])))
        ∙ model-sheet-right o x y i j
