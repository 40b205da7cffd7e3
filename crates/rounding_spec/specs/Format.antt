-- Binary formats: the numbers that fix one, and its patterns' landmarks.
-- u is a format's smallest positive value: 2 ^ -149 in binary32 (R1.4).
use Rattle.std.specs.Prelude.{ℕ, suc, ◌+◌, ◌-◌, ◌*◌, ◌^◌, ◌<◌}

-- `fraction` bits are stored, so the precision is `suc fraction`. Exponents go from 1 - emax to emax.
pub record Format : Type 0 where
  pub fraction : ℕ
  pub emax : ℕ

-- at least one fraction bit, and emax at least 1
abbrev pub Proper : Format → Type 0
Proper F = (0 < F.fraction) × (0 < F.emax)

-- R1.1: 23 fraction bits, and an exponent field of 8, which goes up to 2 * 127 + 1
abbrev pub binary32 : Format
binary32 = record { fraction = 23; emax = 127 }

-- 1 is 2 ^ low units of u: 149 in binary32
abbrev pub low : Format → ℕ
low F = F.emax + F.fraction - 1

-- 2 ^ (emax + 1) in units of u: a rounded magnitude from there on is infinite
unfoldable pub limit : Format → ℕ
limit F = 2 ^ (suc F.emax + low F)

-- The edge of overflow, 2 ^ (emax + 1) - 2 ^ (emax - precision), in units of u * u: 2 ^ 128 - 2 ^ 103 in
-- binary32 (R1.6, R1.7).
unfoldable pub edge : Format → ℕ
edge F = 2 ^ (suc F.emax + 2 * low F) - 2 ^ (F.emax + 2 * low F - suc F.fraction)

-- the exponent field of infinities and NaN: 255 in binary32
abbrev pub ones : Format → ℕ
ones F = 2 * F.emax + 1

-- the pattern of +infinity, 7F800000 in binary32, and the weight of the sign bit, 80000000
abbrev pub infinity : Format → ℕ
infinity F = ones F * 2 ^ F.fraction

abbrev pub sign_bit : Format → ℕ
sign_bit F = suc (ones F) * 2 ^ F.fraction
