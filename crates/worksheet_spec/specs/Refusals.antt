-- What filling refuses, and its numbers (R8.5): 10 an unknown operation number, 9 too few words.
use Rattle.std.specs.Prelude.{ℕ}
use Rattle.worksheet_spec.specs.declared.NotFilled.{NotFilled}
use Rattle.worksheet_spec.specs.declared.NotFilled.TheVariants as the-refused

abbrev pub refusal_number : NotFilled → ℕ
refusal_number the-refused.Operation = 10
refusal_number the-refused.Words = 9
