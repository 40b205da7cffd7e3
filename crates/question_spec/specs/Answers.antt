-- What reading a line hands back stands for: a question's operation number and patterns, or the number of its refusal (R8.4).
use Rattle.std.specs.Prelude.{ℕ, Ok, Err, Result}
use Rattle.pattern_spec.specs.Answer.{Answer, refused}
use Rattle.augmented_spec.specs.Operations.{operation_number}
use Rattle.question_spec.specs.Questions.{Asked, asked}
use Rattle.question_spec.specs.declared.Question.{Question}
use Rattle.question_spec.specs.declared.NotAsked.{NotAsked}
use Rattle.question_spec.specs.declared.NotAsked.TheVariants as not-asked

abbrev pub refusal_number : NotAsked → ℕ
refusal_number not-asked.Length = 1
refusal_number not-asked.Letters = 2
refusal_number not-asked.Tab = 3
refusal_number not-asked.Digit = 4

abbrev pub asked_by : Question → Answer Asked
asked_by question = asked (operation_number question.operation) question.x question.y

abbrev pub answer_question : Result Question NotAsked → Answer Asked
answer_question (Ok question) = asked_by question
answer_question (Err why) = refused (refusal_number why)
