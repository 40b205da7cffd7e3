-- The direct pair of any operation, its exact result, and the flag sets that occur, for statements about all of them.
use Rattle.std.specs.Prelude.{ℕ, ◌^◌, true, false, ℤ, pos, ◌+ℤ◌, ◌-ℤ◌, ◌*ℤ◌}
use Rattle.rounding_spec.specs.Format.{Format, low}
use Rattle.augmented_spec.specs.declared.Flags.{Flags}
use Rattle.augmented_spec.specs.declared.Pair.{Pair}
use Rattle.augmented_spec.specs.declared.Operation.{Operation}
use Rattle.augmented_spec.specs.declared.Operation.TheVariants.{Sum as sum, Difference as difference, Product as product}
use Rattle.augmented_spec.specs.Pairs.{sum_pair, difference_pair, product_pair}

-- R3.1, R3.5, R3.2
unfoldable pub direct_pair : Operation → Format → ℕ → ℕ → Pair
unfolding sum_pair difference_pair product_pair
direct_pair sum = sum_pair
direct_pair difference = difference_pair
direct_pair product = product_pair

-- the exact result of two finite operands, which count u, in u * u
abbrev pub exact_result : Operation → Format → ℤ → ℤ → ℤ
exact_result sum F X Y = (X +ℤ Y) *ℤ pos (2 ^ low F)
exact_result difference F X Y = (X -ℤ Y) *ℤ pos (2 ^ low F)
exact_result product F X Y = X *ℤ Y

-- R4.5: -, I, OX and UX
abbrev pub none : Flags
none = record { invalid = false; overflow = false; underflow = false; inexact = false }

abbrev pub I : Flags
I = record { invalid = true; overflow = false; underflow = false; inexact = false }

abbrev pub OX : Flags
OX = record { invalid = false; overflow = true; underflow = false; inexact = true }

abbrev pub UX : Flags
UX = record { invalid = false; overflow = false; underflow = true; inexact = true }
