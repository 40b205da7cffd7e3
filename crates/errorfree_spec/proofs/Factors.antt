-- The other factors of the step sheet, in any format.
use Prim.Native.Nat.{suc, ◌+◌, ◌-◌, ◌*◌, ◌^◌}
use mathlib.Core.Bool.{true, false}
use Rattle.rounding_spec.specs.Format.{Format, low}
use Rattle.rounding_spec.specs.Value.{Value, finite}

abbrev pub minus_two : Format → Value
minus_two F = finite true (2 ^ suc (low F))

abbrev pub half : Format → Value
half F = finite false (2 ^ (low F - 1))

-- 2 - 2 ^ -23 in binary32
abbrev pub kappa : Format → Value
kappa F = finite false ((2 ^ suc F.fraction - 1) * 2 ^ (low F - F.fraction))

-- 2 ^ 24, 2 ^ 48 and 2 ^ -24 in binary32
abbrev pub scale : Format → Value
scale F = finite false (2 ^ (low F + suc F.fraction))

abbrev pub scale_twice : Format → Value
scale_twice F = finite false (2 ^ (low F + (suc F.fraction + suc F.fraction)))

abbrev pub unscale : Format → Value
unscale F = finite false (2 ^ (low F - suc F.fraction))

-- +0
abbrev pub zero : Value
zero = finite false 0
