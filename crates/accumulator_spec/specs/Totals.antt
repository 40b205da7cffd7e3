-- Exact totals: what their words are, the terms that go into them, and what the calls on them answer and leave (R6, R8.7 to R8.9).
-- A total's number counts 2 ^ -298, which is u * u.
use Rattle.std.specs.Prelude.{ℕ, suc, ◌+◌, ◌*◌, ◌^◌, ◌≡◌, Bool, true, false, not, cond, ◌&&◌, List, [], ◌∷◌, ◌++◌}
use Rattle.std.specs.Prelude.{eqb, leb, length, take, get_or, replicate, ℤ, pos, negsuc, nat_abs, ◌+ℤ◌}
use Rattle.rounding_spec.specs.Format.{binary32}
use Rattle.rounding_spec.specs.Value.{Value, nan, infinite, finite, decode, encode, is_finite}
use Rattle.pattern_spec.specs.Answer.{Answer, refused, done, is_done, refusal_of}
use Rattle.pattern_spec.specs.Exact.{whole, times, finer}
use Rattle.pattern_spec.specs.Classes.{both_finite}
use Rattle.augmented_spec.specs.Pairs.{Halves, pair_of}
use Rattle.accumulator_spec.specs.declared.ReadingNumbers.{ReadingNumbers}
use Rattle.accumulator_spec.specs.Words.{Words, all_zero, integer, words_of_integer}

-- ---- what a total is
-- R6.1: the words of its number
abbrev pub number_size : ℕ
number_size = 20

-- R6.1: all its words: those of the number, the count, and the sign word
abbrev pub total_size : ℕ
total_size = 22

-- R6.3: the most terms that it takes
abbrev pub most_terms : ℕ
most_terms = 65536

-- R6.1: its number, in two's complement, lowest word first
abbrev pub number : List ℕ → ℤ
number t = integer (take number_size t)

-- R6.1: its terms so far, counted in the word after the number
abbrev pub count : List ℕ → ℕ
count t = get_or t number_size 0

-- R6.1, R6.11: what the sign of a zero total goes by, in the last word: 0 as long as no term but -0 was added, else 1
abbrev pub sign_word : List ℕ → ℕ
sign_word t = get_or t (number_size + 1) 0

-- R6.1: the words of a total with this number, this count and this sign word
abbrev pub total_of : ℤ → ℕ → ℕ → List ℕ
total_of z n w = words_of_integer number_size z ++ (n ∷ w ∷ [])

-- R6.3: the count is within the most terms, and the number's magnitude within what so many terms can reach
abbrev pub within_limits : List ℕ → Bool
within_limits t = leb (count t) most_terms && leb (nat_abs (number t)) (count t * 2 ^ 554)

-- R6.12: the last word is 0 or 1; with 0 the number is 0, and with 1 there are terms
abbrev pub sign_fits : List ℕ → Bool
sign_fits t = leb (sign_word t) 1 && cond (eqb (sign_word t) 0) (eqb (nat_abs (number t)) 0) (not (eqb (count t) 0))

-- R6.3, R6.12
unfoldable pub fit : List ℕ → Bool
fit t = within_limits t && sign_fits t

-- a fit total: as many words as a total has, each below 2 ^ 32
pub record FitTotal (t : List ℕ) : Type 0 where
  pub full : length t ≡ total_size
  pub words : Words t
  pub fits : fit t ≡ true

-- R8.9: the words of a cleared total
abbrev pub zeros : List ℕ
zeros = replicate total_size 0

-- R8.12: whether these are such words
abbrev pub is_cleared : List ℕ → Bool
is_cleared t = eqb (length t) total_size && all_zero t

-- ---- R6.2: terms
pub data Term : Type 0 where
  of_pattern : ℕ → Term
  of_product : ℕ → ℕ → Term

-- R8.7: no operand is infinite or NaN
abbrev pub finite_operands : Term → Bool
finite_operands (of_pattern x) = is_finite (decode binary32 x)
finite_operands (of_product x y) = both_finite x y

-- R6.2: the exact value, in units of 2 ^ -298
abbrev pub exact_term : Term → Value
exact_term (of_pattern x) = finer binary32 (decode binary32 x)
exact_term (of_product x y) = times (decode binary32 x) (decode binary32 y)

-- R6.11: -0 and no other value
abbrev pub is_minus_zero : Value → Bool
is_minus_zero nan = false
is_minus_zero (infinite s) = false
is_minus_zero (finite s a) = s && eqb a 0

-- R6.11: the sign word of a term alone; a product is minus where its factors' signs differ
abbrev pub term_sign : Term → ℕ
term_sign x = cond (is_minus_zero (exact_term x)) 0 1

-- R6.11: the sign word of two together: 0 exactly where both are 0
abbrev pub sign_of_both : ℕ → ℕ → ℕ
sign_of_both v w = cond (eqb v 0 && eqb w 0) 0 1

-- ---- R8.7: adding a term
-- the answer: 5, other than a total's words; 6, an unfit total; 7, an operand that is not finite; 8, no room for one term more
unfoldable pub adding : List ℕ → Term → Answer (Unit {0})
adding t x =
    cond (not (eqb (length t) total_size)) (refused 5)
    (cond (not (fit t)) (refused 6)
    (cond (not (finite_operands x)) (refused 7)
    (cond (eqb (count t) most_terms) (refused 8)
    (done tt))))

-- R6.4, R6.11: the words of a total with a term more: the exact sum, one more in the count, and the sign word of all terms
abbrev pub total_with : List ℕ → Term → List ℕ
total_with t x = total_of (number t +ℤ whole (exact_term x)) (suc (count t)) (sign_of_both (sign_word t) (term_sign x))

-- the words as they end; unchanged where the term is refused (R8.1)
unfoldable pub after_adding : List ℕ → Term → List ℕ
after_adding t x = cond (is_done (adding t x)) (total_with t x) t

-- what a call that adds x to these words answers, and the words that it leaves
abbrev pub Adds : List ℕ → Term → Answer (Unit {0}) → List ℕ → Type 0
Adds before x answer after = (answer ≡ adding before x) × (after ≡ after_adding before x)

-- the same, with the answer as a number: the refusal's, or 0
abbrev pub AddsNumbered : List ℕ → Term → ℕ → List ℕ → Type 0
AddsNumbered before x n after = (n ≡ refusal_of (adding before x)) × (after ≡ after_adding before x)

-- ---- R8.9: clearing a total
-- the answer: 5, other than a total's words; an unfit total is cleared too
unfoldable pub clearing : List ℕ → Answer (Unit {0})
clearing t = cond (not (eqb (length t) total_size)) (refused 5) (done tt)

-- the words as they end: all zero; unchanged where it is refused
unfoldable pub after_clearing : List ℕ → List ℕ
after_clearing t = cond (is_done (clearing t)) zeros t

-- what a call that clears these words answers, and the words that it leaves
abbrev pub Clears : List ℕ → Answer (Unit {0}) → List ℕ → Type 0
Clears before answer after = (answer ≡ clearing before) × (after ≡ after_clearing before)

-- the same, with the answer as a number: the refusal's, or 0
abbrev pub ClearsNumbered : List ℕ → ℕ → List ℕ → Type 0
ClearsNumbered before n after = (n ≡ refusal_of (clearing before)) × (after ≡ after_clearing before)

-- ---- R8.8: reading a total
-- two patterns, which are read where it is not refused
pub record TwoPatterns : Type 0 where
  pub first : ℕ
  pub second : ℕ

abbrev pub pair_read : ℕ → ℕ → Answer TwoPatterns
pair_read first second = done (record { first = first; second = second })

-- R6.5 to R6.8: a number as an exact value, to be rounded; zero has the sign +
abbrev pub exact_number : ℤ → Value
exact_number (pos n) = finite false n
exact_number (negsuc n) = finite true (suc n)

-- R6.5 to R6.8: what is rounded for a total with this number, count and sign word: -0 where there are terms and all have been -0 (the
-- number is 0 then), and else its number
abbrev pub exact_total : ℤ → ℕ → ℕ → Value
exact_total z n w = cond (eqb w 0 && not (eqb n 0)) (finite true 0) (exact_number z)

-- the patterns of two halves
abbrev pub pair_answer : Halves → Answer TwoPatterns
pair_answer p = pair_read (encode binary32 p.first) (encode binary32 p.second)

-- the answer: 5, other than a total's words; 6, an unfit total; else the pair of its exact value. No word is changed: they are lent to
-- be looked at only.
unfoldable pub reading : List ℕ → Answer TwoPatterns
reading t =
    cond (not (eqb (length t) total_size)) (refused 5)
    (cond (not (fit t)) (refused 6)
    (pair_answer (pair_of binary32 (exact_total (number t) (count t) (sign_word t)))))

-- the answer as numbers: two zeros where no pair is read, told from a pair of zeros by the refusal's number
abbrev pub no_reading : ℕ → ReadingNumbers
no_reading n = record { refusal = n; first = 0; second = 0 }

abbrev pub reading_numbers : Answer TwoPatterns → ReadingNumbers
reading_numbers (refused n) = no_reading n
reading_numbers (done p) = record { refusal = 0; first = p.first; second = p.second }
