-- What the answers of the calls say, each by its number: so that a case and the code that gives it are not changed together unseen.
use Rattle.std.specs.Prelude.{ℕ, ◌≡◌, Ok, Err}
use Rattle.pattern_spec.specs.Answer.{refused, done}
use Rattle.accumulator_spec.specs.declared.NotDone.TheVariants.{Length, Unfit, NotFinite, Full, TooMany}
use Rattle.accumulator_spec.specs.Totals.{pair_read}
use Rattle.accumulator_spec.specs.Answers.{answer_of, answer_read}

-- R8.7 to R8.9: clearing, adding, and reading
abbrev pub AnswersOfOne : Type 0
AnswersOfOne =
    (answer_of (Ok tt) ≡ done tt) × (answer_of (Err Length) ≡ refused 5) × (answer_of (Err Unfit) ≡ refused 6)
    × (answer_of (Err NotFinite) ≡ refused 7) × (answer_of (Err Full) ≡ refused 8)
    × ((first second : ℕ) → answer_read (Ok (record { first = first; second = second })) ≡ pair_read first second)
    × (answer_read (Err Length) ≡ refused 5) × (answer_read (Err Unfit) ≡ refused 6)

-- R8.16, R8.17: joining, and carrying over
abbrev pub AnswersOfTwo : Type 0
AnswersOfTwo =
    (answer_of (Ok tt) ≡ done tt) × (answer_of (Err Length) ≡ refused 5) × (answer_of (Err Unfit) ≡ refused 6)
    × (answer_of (Err TooMany) ≡ refused 12)
