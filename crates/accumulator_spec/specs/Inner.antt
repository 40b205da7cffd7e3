-- What functions below the calls of `accumulator` promise each other of words and digits.
use Rattle.std.specs.Prelude.{ℕ, ◌*◌, ◌^◌, ◌≤◌, ◌≡◌, Bool, List, ◌⊎◌, pos, ◌+ℤ◌, length}
use Rattle.pattern_spec.specs.Exact.{int}
use Rattle.pattern_spec.specs.Inner.{Odd}
use Rattle.accumulator_spec.specs.Words.{natural, integer, words_of_integer}

-- R6.4: the words after ±sig * 2 ^ exp went into them; what goes beyond the last word is lost
abbrev pub after_term : List ℕ → Bool → ℕ → ℕ → List ℕ
after_term ws minus sig exp = words_of_integer (length ws) (integer ws +ℤ int minus (sig * 2 ^ exp))

-- R6.4: the words after a walk that adds ±n to the natural number that they hold; what goes beyond the last word is lost
abbrev pub after_walk : List ℕ → Bool → ℕ → List ℕ
after_walk ws minus n = words_of_integer (length ws) (pos (natural ws) +ℤ int minus n)

-- The digits sig * 2 ^ exp stand for N: they are N itself, or 33 or more leading digits of it, the last one set to 1 since others follow.
abbrev pub Leading : ℕ → ℕ → ℕ → Type 0
Leading N sig exp = (sig * 2 ^ exp ≡ N) ⊎ ((2 ^ 32 ≤ sig) × Odd N exp sig)
