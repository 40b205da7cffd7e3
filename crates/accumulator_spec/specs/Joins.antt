-- Joining two totals (R6.9, R6.11, R8.16), and totals that were built by adding, joining and carrying over (R6.10, R6.14).
use Rattle.std.specs.Prelude.{ℕ, ◌+◌, ◌≡◌, Bool, not, cond, List, [], ◌∷◌, ◌++◌, eqb, leb, length, ◌+ℤ◌}
use Rattle.pattern_spec.specs.Answer.{Answer, refused, done, is_done, refusal_of}
use Rattle.accumulator_spec.specs.Totals.{zeros, total_size, most_terms, number, count, sign_word, total_of, fit, sign_of_both}
use Rattle.accumulator_spec.specs.Totals.{Term, adding, after_adding}
use Rattle.accumulator_spec.specs.Columns.{AllFinite}
use Rattle.accumulator_spec.specs.Carrying.{old_column, carried_terms, carrying, after_carrying}

-- ---- R8.16: joining
-- the terms of both can be counted in one total
abbrev pub room_for_both : List ℕ → List ℕ → Bool
room_for_both first second = leb (count first + count second) most_terms

-- the answer: of the first 5, other than a total's words, and 6, unfit; then the same of the second; 12, no room for the terms of both
unfoldable pub joining : List ℕ → List ℕ → Answer (Unit {0})
joining first second =
    cond (not (eqb (length first) total_size)) (refused 5)
    (cond (not (fit first)) (refused 6)
    (cond (not (eqb (length second) total_size)) (refused 5)
    (cond (not (fit second)) (refused 6)
    (cond (not (room_for_both first second)) (refused 12)
    (done tt)))))

-- R6.9, R6.11: the words of a total with the numbers of both added up, and the counts; the sign word is 0 exactly where both have 0
abbrev pub joined_total : List ℕ → List ℕ → List ℕ
joined_total first second =
    total_of (number first +ℤ number second) (count first + count second) (sign_of_both (sign_word first) (sign_word second))

-- the first's words as they end; unchanged where it is refused (R8.1). The second is lent to be looked at only.
unfoldable pub after_joining : List ℕ → List ℕ → List ℕ
after_joining first second = cond (is_done (joining first second)) (joined_total first second) first

-- what a call that joins these words answers, and the words that it leaves in the first
abbrev pub Joins : List ℕ → List ℕ → Answer (Unit {0}) → List ℕ → Type 0
Joins first second answer after = (answer ≡ joining first second) × (after ≡ after_joining first second)

-- the same, with the answer as a number: the refusal's, or 0
abbrev pub JoinsNumbered : List ℕ → List ℕ → ℕ → List ℕ → Type 0
JoinsNumbered first second n after = (n ≡ refusal_of (joining first second)) × (after ≡ after_joining first second)

-- ---- R6.10, R6.14: totals built from cleared ones by adding and joining, old ones that are carried over among them
-- The words, and the terms that they stand for. A refused step changes no word, so that it is none.
pub data Built : List ℕ → List Term → Type 0 where
  from_cleared : Built zeros []
  by_adding : {t : List ℕ} {xs : List Term} (x : Term) → Built t xs → adding t x ≡ done tt → Built (after_adding t x) (xs ++ (x ∷ []))
  by_joining : {t u : List ℕ} {xs ys : List Term} → Built t xs → Built u ys → joining t u ≡ done tt → Built (after_joining t u) (xs ++ ys)
  by_carrying : (new : List ℕ) (xs : List Term) → AllFinite xs → carrying (old_column xs) new ≡ done tt
      → Built (after_carrying (old_column xs) new) (carried_terms xs)
