-- Totals as they were, of 21 words without a sign word, and carrying one over into 22 words (R6.13, R6.14, R8.17).
use Rattle.std.specs.Prelude.{ℕ, ◌≡◌, true, not, cond, List, [], ◌∷◌, ◌++◌, eqb, length, ℤ}
use Rattle.rounding_spec.specs.Format.{binary32}
use Rattle.pattern_spec.specs.Answer.{Answer, refused, done, is_done, refusal_of}
use Rattle.augmented_spec.specs.Pairs.{pair_of}
use Rattle.accumulator_spec.specs.Words.{Words, words_of_integer}
use Rattle.accumulator_spec.specs.Totals.{number_size, total_size, number, count, within_limits, Term, of_pattern}
use Rattle.accumulator_spec.specs.Totals.{TwoPatterns, exact_number, pair_answer}
use Rattle.accumulator_spec.specs.Columns.{column_sum, column_sign}

-- ---- R6.13: totals as they were
-- their words: those of the number and the count
abbrev pub old_size : ℕ
old_size = 21

-- the words of such a total with this number and this count
abbrev pub old_total_of : ℤ → ℕ → List ℕ
old_total_of z n = words_of_integer number_size z ++ (n ∷ [])

-- and of one that took these terms: their exact sum, and how many they are
abbrev pub old_column : List Term → List ℕ
old_column xs = old_total_of (column_sum xs) (length xs)

-- a fit one: 21 words, each below 2 ^ 32, count and number within their limits
pub record FitOld (t : List ℕ) : Type 0 where
  pub full : length t ≡ old_size
  pub words : Words t
  pub within : within_limits t ≡ true

-- what it read: the pair of its number, of which zero had the sign +
unfoldable pub old_reading : List ℕ → Answer TwoPatterns
old_reading t =
    cond (not (eqb (length t) old_size)) (refused 5)
    (cond (not (within_limits t)) (refused 6)
    (pair_answer (pair_of binary32 (exact_number (number t)))))

-- ---- R8.17: carrying over
-- the answer: 5, the old one has not its 21 words or the new one not a total's; 6, the old one is unfit. What the new one held is not
-- asked.
unfoldable pub carrying : List ℕ → List ℕ → Answer (Unit {0})
carrying old new =
    cond (not (eqb (length old) old_size)) (refused 5)
    (cond (not (eqb (length new) total_size)) (refused 5)
    (cond (not (within_limits old)) (refused 6)
    (done tt)))

-- R6.14: its words, and the sign word: 0 for a total without terms, 1 for any other, since of its terms the signs are not known
abbrev pub carried_total : List ℕ → List ℕ
carried_total old = old ++ (cond (eqb (count old) 0) 0 1 ∷ [])

-- the new one's words as they end; unchanged where it is refused (R8.1). The old one is lent to be looked at only.
unfoldable pub after_carrying : List ℕ → List ℕ → List ℕ
after_carrying old new = cond (is_done (carrying old new)) (carried_total old) new

-- what a call that carries these words over answers, and the words that it leaves in the new one
abbrev pub Carries : List ℕ → List ℕ → Answer (Unit {0}) → List ℕ → Type 0
Carries old new answer after = (answer ≡ carrying old new) × (after ≡ after_carrying old new)

-- the same, with the answer as a number: the refusal's, or 0
abbrev pub CarriesNumbered : List ℕ → List ℕ → ℕ → List ℕ → Type 0
CarriesNumbered old new n after = (n ≡ refusal_of (carrying old new)) × (after ≡ after_carrying old new)

-- ---- R6.14: the terms that a carried total stands for
-- +0 in the place of the first
abbrev pub plus_zero_first : List Term → List Term
plus_zero_first [] = []
plus_zero_first (x ∷ xs) = of_pattern 0 ∷ xs

-- its own; but where all are -0, as if one of them had been +0
abbrev pub carried_terms : List Term → List Term
carried_terms xs = cond (eqb (column_sign xs) 0) (plus_zero_first xs) xs
