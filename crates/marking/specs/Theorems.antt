-- What the cases of the call's answer say, each by its number: so that a case and the code that gives it are not changed together unseen.
use Rattle.std.specs.Prelude.{◌≡◌, true, false, ℕ, Ok, Err}
use Rattle.marking_spec.specs.declared.NotMarked.TheVariants as not_marked
use Rattle.marking_spec.specs.Marking.{refused_at, judged}
use Rattle.marking.specs.Answers.{answer_marked}

-- R8.18, R13.5
abbrev pub AnswersOfMarking : Type 0
AnswersOfMarking =
    (answer_marked (Ok true) ≡ judged true) × (answer_marked (Ok false) ≡ judged false)
    × (answer_marked (Err not_marked.Operation) ≡ refused_at 10 0) × (answer_marked (Err not_marked.Words) ≡ refused_at 13 0)
    × ((line : ℕ) → answer_marked (Err (not_marked.NotAllowed line)) ≡ refused_at 14 line)
    × ((line : ℕ) → answer_marked (Err (not_marked.NotTrue line)) ≡ refused_at 15 line)

abbrev pub All : Type 0
All = AnswersOfMarking
