-- Columns: terms added to a total one after the other (R6.2, R6.11, R7.5, R7.13).
use Rattle.std.specs.Prelude.{ℕ, ◌≡◌, true, List, [], ◌∷◌, ℤ, pos, ◌+ℤ◌}
use Rattle.pattern_spec.specs.Answer.{done}
use Rattle.pattern_spec.specs.Exact.{whole}
use Rattle.accumulator_spec.specs.Totals.{Term, finite_operands, exact_term, is_minus_zero, term_sign, sign_of_both, adding, after_adding}

-- R7.5, R7.13: the words after all the terms, in this order; a refused one changes nothing
unfoldable pub column : List ℕ → List Term → List ℕ
column t [] = t
column t (x ∷ xs) = column (after_adding t x) xs

-- R7.5, R7.13: every term is accepted, by the words that the one before it left
unfoldable pub Accepted : List ℕ → List Term → Type 0
Accepted t [] = Unit {0}
Accepted t (x ∷ xs) = (adding t x ≡ done tt) × Accepted (after_adding t x) xs

-- R8.7: no operand is infinite or NaN
unfoldable pub AllFinite : List Term → Type 0
AllFinite [] = Unit {0}
AllFinite (x ∷ xs) = (finite_operands x ≡ true) × AllFinite xs

-- R6.2: the exact sum, in units of 2 ^ -298
unfoldable pub column_sum : List Term → ℤ
column_sum [] = pos 0
column_sum (x ∷ xs) = whole (exact_term x) +ℤ column_sum xs

-- R6.11: every term is -0
unfoldable pub AllMinusZero : List Term → Type 0
AllMinusZero [] = Unit {0}
AllMinusZero (x ∷ xs) = (is_minus_zero (exact_term x) ≡ true) × AllMinusZero xs

-- R6.11: the sign word of all of them, 0 where there is none
unfoldable pub column_sign : List Term → ℕ
column_sign [] = 0
column_sign (x ∷ xs) = sign_of_both (term_sign x) (column_sign xs)
