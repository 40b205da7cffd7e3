-- What the writers of fields and lines promise each other, beside the texts themselves.
use Rattle.std.specs.Prelude.{ℕ, ◌+◌, ◌/◌, ◌%◌, List, [], ◌∷◌, length}
use Rattle.augmented_spec.specs.declared.Flags.{Flags}
use Rattle.question_spec.specs.Questions.{digit}
use Rattle.transcript_spec.specs.Texts.{decimal, flags_text, steps_text}

-- the last four digits of a pattern
abbrev pub half_text : ℕ → List ℕ
half_text x = digit (x / 4096 % 16) ∷ digit (x / 256 % 16) ∷ digit (x / 16 % 16) ∷ digit (x % 16) ∷ []

-- how long an answered question is, of these lines of its sheet: 27 bytes and the number of its `ask`, the steps, 24 bytes and the flags of
-- its `pair`
abbrev pub answered_length : ℕ → List ℕ → ℕ → Flags → ℕ
answered_length number words lines flags = 51 + length (decimal number) + length (steps_text lines 1 words) + length (flags_text flags)
