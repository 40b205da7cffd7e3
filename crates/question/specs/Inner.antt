-- What the functions below `read` promise it.
use Rattle.std.specs.Prelude.{ℕ, cond, List, Option, Some, None}
use Rattle.augmented_spec.specs.declared.Operation.{Operation}
use Rattle.augmented_spec.specs.Operations.{operation_number}
use Rattle.question_spec.specs.Questions.{is_digit, digit_value, all_digits, pattern_from}

-- a digit's value, if the byte is one
abbrev pub digit_read : ℕ → Option ℕ
digit_read c = cond (is_digit c) (Some (digit_value c)) None

-- the number of a pattern's digits, if all bytes are digits
abbrev pub digits_read : List ℕ → Option ℕ
digits_read s = cond (all_digits s) (Some (pattern_from 0 s)) None

-- an operation's number, and 0 for none
abbrev pub number_or_0 : Option Operation → ℕ
number_or_0 (Some operation) = operation_number operation
number_or_0 None = 0
