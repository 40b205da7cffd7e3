-- What joining promises of two fit totals, and the pass over their words.
use Rattle.std.specs.Prelude.{ℕ, ◌+◌, ◌≡◌, cond, List, length}
use Rattle.pattern_spec.specs.Answer.{Answer, refused, done}
use Rattle.accumulator_spec.specs.Words.{natural, words_of_natural}
use Rattle.accumulator_spec.specs.Joins.{room_for_both, joined_total}

-- two fit totals: the answer, and the first's words as they end
abbrev pub JoinsFit : List ℕ → List ℕ → Answer (Unit {0}) → List ℕ → Type 0
JoinsFit first second answer after =
    (answer ≡ cond (room_for_both first second) (done tt) (refused 12))
    × (after ≡ cond (room_for_both first second) (joined_total first second) first)

-- the words of the sum of two natural numbers, as many as hold the first; what goes beyond the last is lost
abbrev pub word_sum : List ℕ → List ℕ → List ℕ
word_sum ws vs = words_of_natural (length ws) (natural ws + natural vs)
