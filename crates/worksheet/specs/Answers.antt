-- The answers of `fill`: what a filled sheet hands back, or the refusal's number (R8.5, R8.6, R11.4).
use Rattle.std.specs.Prelude.{Result, Ok, Err}
use Rattle.pattern_spec.specs.Answer.{Answer, refused}
use Rattle.worksheet_spec.specs.declared.Filled.{Filled}
use Rattle.worksheet_spec.specs.declared.NotFilled.{NotFilled}
use Rattle.worksheet_spec.specs.Refusals.{refusal_number}
use Rattle.worksheet_spec.specs.Filling.{FilledSheet, filled}

abbrev pub answer_filled : Result Filled NotFilled → Answer FilledSheet
answer_filled (Ok f) = filled f.lines f.pair
answer_filled (Err e) = refused (refusal_number e)
