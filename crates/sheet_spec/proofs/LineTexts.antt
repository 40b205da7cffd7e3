-- The text of a line: of a question its bytes, every line of its sheet, and its direct pair.
use mathlib.Core.Path.{◌≡◌, refl, sym, ap, ap₂, ◌∙◌}
use mathlib.Core.Bool.{true}
use mathlib.Core.List.{List, [], ◌∷◌, ◌++◌, append_assoc}
use Prim.Native.Nat.{ℕ, suc, ◌*◌, ◌-◌, min}
use native.Mathlib.Nat.{le_refl}
use native.Mathlib.Omega.{arith}
use lib.ListN.{length, drop, replicate}
use Rattle.rounding_spec.specs.Format.{binary32}
use Rattle.augmented_spec.specs.declared.Pair.{Pair}
use Rattle.augmented_spec.specs.Operations.{is_operation, operation_of}
use Rattle.augmented_spec.specs.Direct.{direct_pair}
use Rattle.worksheet_spec.specs.Lines.{line_size, most_lines, sheet_size, Line}
use Rattle.worksheet_spec.specs.Sheets.{sheet_of}
use Rattle.worksheet_spec.specs.Filling.{line_words, lines_words, sheet_words, filled, filling, after_filling}
use Rattle.worksheet_spec.proofs.Filling.{fills, answer-is, filled-words}
use Rattle.worksheet_spec.proofs.Theorems.{line-count}
use Rattle.question_spec.specs.Ascii.{ascii}
use Rattle.question_spec.proofs.Theorems.{only-text}
use Rattle.transcript_spec.specs.Texts.{decimal, line_of, ask_text, step_text, steps_text, pair_text, answered_text, bad_text}
use Rattle.sheet_spec.specs.Printed.{blank, filled_text, line_text}
use Rattle.sheet_spec.specs.Theorems.{sheet_text, LineTexts}

-- ---- the steps are the sheet's lines, whatever words stand behind theirs
each_step : (ls : List Line) (number : ℕ) (rest : List ℕ) → steps_text (length ls) number (lines_words ls ++ rest) ≡ sheet_text number ls
unfolding steps_text sheet_text lines_words step_text
each_step [] number rest = refl
each_step (l ∷ ls) number rest = ap (λ (t : List ℕ). step_text number (line_words l) ++ t) (each_step ls (suc number) rest)

module _ (o x y : ℕ) (known : is_operation o ≡ true) where
  abbrev ls : List Line
  ls = (sheet_of (operation_of o) x y).lines

  abbrev direct : Pair
  direct = direct_pair (operation_of o) binary32 x y

  answered : filling o x y blank ≡ filled (length ls) direct
  answered = fills o x y blank known (le_refl sheet_size) ∙ answer-is (operation_of o) x y

  abbrev behind : List ℕ
  behind = replicate (sheet_size - line_size * length ls) 0 ++ drop sheet_size blank

  words : after_filling o x y blank ≡ lines_words ls ++ behind
  unfolding sheet_words
  words = filled-words o x y blank _ _ answered ∙ append_assoc (lines_words ls) (replicate (sheet_size - line_size * length ls) 0) (drop sheet_size blank)

  steps : steps_text (min (length ls) most_lines) 1 (after_filling o x y blank) ≡ sheet_text 1 ls
  steps =
      let all : min (length ls) most_lines ≡ length ls = omega (arith, (line-count (operation_of o) x y).1) in
      ap₂ (λ (n : ℕ) (ws : List ℕ). steps_text n 1 ws) all words ∙ each_step ls 1 behind

  question-text : (number : ℕ) → filled_text number o x y (filling o x y blank) (after_filling o x y blank) ≡ ask_text number o x y ++ (sheet_text 1 ls ++ pair_text direct)
  unfolding filled_text answered_text
  question-text number = rw answered (ap (λ (t : List ℕ). ask_text number o x y ++ (t ++ pair_text direct)) steps)

pub line-texts : LineTexts
unfolding line_text ask_text bad_text
line-texts = (
  λ number line o x y e. let t = only-text line o x y e in
      ap (line_text number) e ∙ question-text o x y t.1 number
      ∙ ap (λ (q : List ℕ). line_of (ascii "ask" ∷ decimal number ∷ q ∷ []) ++ (sheet_text 1 (sheet_of (operation_of o) x y).lines ++ pair_text (direct_pair (operation_of o) binary32 x y))) (sym t.0),
  λ number line n e. ap (line_text number) e,
)
