-- What the crate's functions ask of the number that they are given. No contract of `augmented` cites it.
use Rattle.std.specs.Prelude.{◌^◌, ◌<◌}
use Rattle.rounding_spec.specs.declared.Number.{Number}

-- a significand of 48 digits at most, as a product of two patterns has (`Product`)
abbrev pub ProductDigits : Number → Type 0
ProductDigits number = number.sig < 2 ^ 48

-- whose rest can have digits below u, and which is too small to overflow
abbrev pub SmallProduct : Number → Type 0
SmallProduct number = ProductDigits number × (number.exp < 149)
