-- What each answer of a call on totals stands for: the refusal's number, or what the call answers (R8.7 to R8.9, R8.16, R8.17).
use Rattle.std.specs.Prelude.{ℕ, Result, Ok, Err}
use Rattle.pattern_spec.specs.Answer.{Answer, refused, done}
use Rattle.accumulator_spec.specs.declared.NotDone.{NotDone}
use Rattle.accumulator_spec.specs.declared.NotDone.TheVariants.{Length, Unfit, NotFinite, Full, TooMany}
use Rattle.augmented_spec.specs.declared.Halves.{Halves}
use Rattle.accumulator_spec.specs.Totals.{TwoPatterns, pair_read}

-- 5 and 6 are of either total or array, the first's before the second's
abbrev pub refusal_number : NotDone → ℕ
refusal_number Length = 5
refusal_number Unfit = 6
refusal_number NotFinite = 7
refusal_number Full = 8
refusal_number TooMany = 12

-- clearing, adding, joining, and carrying over
abbrev pub answer_of : Result (Unit {0}) NotDone → Answer (Unit {0})
answer_of (Ok x) = done tt
answer_of (Err e) = refused (refusal_number e)

-- R8.8
abbrev pub answer_read : Result Halves NotDone → Answer TwoPatterns
answer_read (Ok p) = pair_read p.first p.second
answer_read (Err e) = refused (refusal_number e)
