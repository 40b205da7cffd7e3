-- The number of each refusal of `replay` (R8.12).
use Rattle.std.specs.Prelude.{ℕ}
use Rattle.conservation_spec.specs.declared.NotReplayed.{NotReplayed}
use Rattle.conservation_spec.specs.declared.NotReplayed.TheVariants.{Unequal, TooMany, NotCleared, PastWords}

abbrev pub refusal_number : NotReplayed → ℕ
refusal_number Unequal = 101
refusal_number TooMany = 102
refusal_number NotCleared = 103
refusal_number PastWords = 104
