-- Numbers as the code holds them.
use Rattle.std.specs.Prelude.{ℕ, ◌*◌, ◌^◌, Bool}
use Rattle.rounding_spec.specs.declared.Number.{Number}
use Rattle.rounding_spec.specs.Value.{Value, finite}

-- a number by its parts
abbrev pub number : Bool → ℕ → ℕ → Number
number s m e = record { sign = s; sig = m; exp = e }

-- the value that a number stands for, in the unit that it counts
abbrev pub number_value : Number → Value
number_value n = finite n.sign (n.sig * 2 ^ n.exp)
