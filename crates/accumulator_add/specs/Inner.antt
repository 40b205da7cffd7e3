-- What noting a term's sign promises.
use Rattle.std.specs.Prelude.{ℕ, ◌+◌, List, set}
use Rattle.accumulator_spec.specs.Totals.{number_size, sign_word, sign_of_both}

-- R6.11: the words with the sign word that a term of the sign word w leaves
abbrev pub noted : List ℕ → ℕ → List ℕ
noted t w = set t (number_size + 1) (sign_of_both (sign_word t) w)
