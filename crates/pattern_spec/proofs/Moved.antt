-- A significand moved up by places that it has room for.
use mathlib.Core.Path.{◌≡◌}
use Prim.Native.Nat.{ℕ, ◌+◌, ◌*◌, ◌%◌, ◌^◌, ◌≤◌, ◌<◌}
use native.Mathlib.Nat.{lt_of_lt_of_le, mod-eq_of_lt}
use native.Mathlib.Omega.{arith}
use lib.Pow.{pow_mono, shl_lt}

-- a significand of w digits moved up by g places stays below 2 ^ 63
pub moved : (m w g : ℕ) → m < 2 ^ w → w + g ≤ 63 → (m * 2 ^ g % 2 ^ 64 ≡ m * 2 ^ g) × (m * 2 ^ g < 2 ^ 63)
moved m w g h l =
    let b : m * 2 ^ g < 2 ^ 63 = lt_of_lt_of_le (shl_lt w g h) (pow_mono {j = 63} l) in
    (mod-eq_of_lt (omega arith), b)
