-- The answers of `mark`: number and values of each case (R8.18, R11.4, R13.5).
use Rattle.std.specs.Prelude.{Bool, Result, Ok, Err}
use Rattle.marking_spec.specs.declared.NotMarked.{NotMarked}
use Rattle.marking_spec.specs.Marking.{Marked, judged, refusal_marked}

abbrev pub answer_marked : Result Bool NotMarked → Marked
answer_marked (Ok right) = judged right
answer_marked (Err why) = refusal_marked why
