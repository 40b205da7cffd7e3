-- Two of the factors that a step sheet multiplies by (R5.1), in any format, and what is asked of a format.
-- 1 is 2 ^ low F units of u, and `suc F.fraction` is the precision: 149 and 24 in binary32.
use Rattle.std.specs.Prelude.{suc, ◌-◌, ◌*◌, ◌^◌, ◌≤◌, false}
use Rattle.rounding_spec.specs.Format.{Format, low}
use Rattle.rounding_spec.specs.Value.{Value, finite}

-- Three times the precision is not above the greatest exponent: 72 and 127 in binary32. Enough room for all that is scaled; no claim is
-- made of formats without it, as binary16.
abbrev pub Roomy : Format → Type 0
Roomy F = 3 * suc F.fraction ≤ F.emax

-- ψ, 1 - 2 ^ -precision: 1 - 2 ^ -24 in binary32
abbrev pub psi_value : Format → Value
psi_value F = finite false ((2 ^ suc F.fraction - 1) * 2 ^ (low F - suc F.fraction))

abbrev pub two_value : Format → Value
two_value F = finite false (2 ^ suc (low F))
