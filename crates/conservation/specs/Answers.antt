-- The answers of `replay`: done, or the refusal's number (R8.12, R11.4).
use Rattle.std.specs.Prelude.{Result, Ok, Err}
use Rattle.pattern_spec.specs.Answer.{Answer, refused, done}
use Rattle.conservation_spec.specs.declared.NotReplayed.{NotReplayed}
use Rattle.conservation_spec.specs.Refusals.{refusal_number}

abbrev pub answer_replayed : Result (Unit {0}) NotReplayed → Answer (Unit {0})
answer_replayed (Ok u) = done tt
answer_replayed (Err why) = refused (refusal_number why)
