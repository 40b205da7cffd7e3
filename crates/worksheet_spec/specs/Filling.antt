-- Filling a sheet: what a call answers, and what becomes of the lent words (R7.2 to R7.4, R8.5, R8.6).
use Rattle.std.specs.Prelude.{ℕ, ◌*◌, ◌-◌, ◌≡◌, not, cond, List, [], ◌∷◌, ◌++◌, eqb, ltb, length, drop, replicate}
use Rattle.rounding_spec.specs.Format.{binary32}
use Rattle.pattern_spec.specs.Answer.{Answer, refused, done, is_done}
use Rattle.augmented_spec.specs.declared.Pair.{Pair}
use Rattle.augmented_spec.specs.declared.Operation.{Operation}
use Rattle.augmented_spec.specs.Operations.{is_operation, operation_of}
use Rattle.augmented_spec.specs.Direct.{direct_pair, none}
use Rattle.worksheet_spec.specs.declared.FilledNumbers.{FilledNumbers}
use Rattle.worksheet_spec.specs.Steps.{step_number}
use Rattle.worksheet_spec.specs.Lines.{line_size, sheet_size, Line}
use Rattle.worksheet_spec.specs.Sheets.{sheet_of}

-- ---- words: of a line (R5.22), of lines one after the other, and of a sheet, whose unused words are 0 (R8.6)
abbrev pub line_words : Line → List ℕ
line_words l = step_number l.step ∷ l.x ∷ l.y ∷ l.z ∷ l.result ∷ l.mark ∷ []

unfoldable pub lines_words : List Line → List ℕ
lines_words [] = []
lines_words (l ∷ ls) = line_words l ++ lines_words ls

unfoldable pub sheet_words : List Line → List ℕ
unfolding lines_words
sheet_words ls = lines_words ls ++ replicate (sheet_size - line_size * length ls) 0

-- ---- what filling answers where it is not refused (R8.6): the line count and the pair at the sheet's foot, with its flags
pub record FilledSheet : Type 0 where
  pub line_count : ℕ
  pub pair : Pair

abbrev pub filled : ℕ → Pair → Answer FilledSheet
filled line_count pair = done (record { line_count = line_count; pair = pair })

-- the sheet's own count and foot, and the direct pair's flags (R7.4)
unfoldable pub sheet_answer : Operation → ℕ → ℕ → Answer FilledSheet
sheet_answer o x y =
    let s = sheet_of o x y in
    filled (length s.lines) (record { first = s.first; second = s.second; flags = (direct_pair o binary32 x y).flags })

-- refused by 10, an unknown operation number, or 9, too few lent words, in this order (R8.5), or carried out
unfoldable pub filling : ℕ → ℕ → ℕ → List ℕ → Answer FilledSheet
filling operation x y words =
    cond (not (is_operation operation)) (refused 10)
    (cond (ltb (length words) sheet_size) (refused 9)
    (sheet_answer (operation_of operation) x y))

-- The words as they end: the sheet's, and those after them as they were (R8.6). A refused call changes none (R8.1).
unfoldable pub after_filling : ℕ → ℕ → ℕ → List ℕ → List ℕ
after_filling operation x y words =
    cond (is_done (filling operation x y words)) (sheet_words (sheet_of (operation_of operation) x y).lines ++ drop sheet_size words) words

-- the pair that comes back is the direct pair, with its flags (R7.4)
abbrev pub HasDirectPair : ℕ → ℕ → ℕ → Answer FilledSheet → Type 0
HasDirectPair operation x y (refused n) = Unit {0}
HasDirectPair operation x y (done s) = s.pair ≡ direct_pair (operation_of operation) binary32 x y

-- ---- a call of filling: its answer, and the lent words before and after it
abbrev pub Fills : ℕ → ℕ → ℕ → List ℕ → Answer FilledSheet → List ℕ → Type 0
Fills operation x y words answer after =
    (answer ≡ filling operation x y words) × (after ≡ after_filling operation x y words) × HasDirectPair operation x y answer

-- ---- the same, with the answer as numbers
-- zeros and no flag where no sheet is filled
abbrev pub no_sheet : ℕ → FilledNumbers
no_sheet n = record { refusal = n; lines = 0; first = 0; second = 0; flags = none }

abbrev pub filled_numbers : Answer FilledSheet → FilledNumbers
filled_numbers (refused n) = no_sheet n
filled_numbers (done s) =
    record { refusal = 0; lines = s.line_count; first = s.pair.first; second = s.pair.second; flags = s.pair.flags }

-- the answer that the numbers stand for
abbrev pub filled_answer : FilledNumbers → Answer FilledSheet
filled_answer r =
    cond (eqb r.refusal 0) (filled r.lines (record { first = r.first; second = r.second; flags = r.flags }))
    (refused r.refusal)

abbrev pub FillsNumbered : ℕ → ℕ → ℕ → List ℕ → FilledNumbers → List ℕ → Type 0
FillsNumbered operation x y words r after =
    (r ≡ filled_numbers (filling operation x y words))
    × (after ≡ after_filling operation x y words)
    × HasDirectPair operation x y (filled_answer r)
