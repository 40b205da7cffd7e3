-- What the halves of a pair stand for below the calls of `accumulator`.
use Rattle.pattern_spec.specs.Answer.{Answer}
use Rattle.augmented_spec.specs.declared.Halves.{Halves}
use Rattle.accumulator_spec.specs.Totals.{TwoPatterns, pair_read}

-- what is answered where a total is not refused (R8.8)
abbrev pub pair_of_halves : Halves → Answer TwoPatterns
pair_of_halves p = pair_read p.first p.second
