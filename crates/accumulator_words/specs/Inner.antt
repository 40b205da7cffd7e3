-- What is said of lent words that a term goes into, below the calls of `accumulator`.
use Rattle.std.specs.Prelude.{◌≡◌, ℕ, ◌+◌, ◌*◌, ◌^◌, ◌≤◌, Bool, List, ◌++◌, length, take, drop, ℤ, ◌+ℤ◌}
use Rattle.pattern_spec.specs.Exact.{int}
use Rattle.accumulator_spec.specs.Words.{integer, words_of_integer}
use Rattle.accumulator_spec.specs.Inner.{after_walk}
use Rattle.accumulator_words.specs.declared.Placed.{Placed}

-- R6.2, R6.4: what a placed term counts, from the lowest word of the number on
abbrev pub placed_integer : Placed → ℤ
placed_integer term = int term.minus (term.sig * 2 ^ (32 * term.word + term.shift))

-- R6.4: the words of a number after a placed term went into them; what goes beyond the last word is lost
abbrev pub after_placed : List ℕ → Placed → List ℕ
after_placed ws term = words_of_integer (length ws) (integer ws +ℤ placed_integer term)

-- The lowest two words have taken ±low: whatever else is to be added two words higher goes on with the carry. Free is how much of the
-- carry has gone on already.
abbrev pub TwoWordsAdded : List ℕ → Bool → ℕ → ℕ → List ℕ → Type 0
TwoWordsAdded before minus low carry after =
    (length after ≡ length before) × (carry ≤ 1)
    × ((high : ℕ) → take 2 after ++ after_walk (drop 2 after) minus (high + carry) ≡ after_walk before minus (low + 2 ^ 64 * high))
