-- Add, subtract and multiply agree with lib.Ieee, the toolchain's own account of IEEE 754, which has no fused step and one NaN. A name of
-- type `Type 0` is a statement; `proofs/Theorems.antt` has its proof.
use Rattle.std.specs.Prelude.{◌≡◌, ◌≢◌, ◌↔◌, ℕ, Float}
use Rattle.std.specs.Float.{binary32 as standard}
use Rattle.std.specs.Float.Ieee.{of_bits, to_bits, add, sub, mul}
use Rattle.rounding_spec.specs.Format.{binary32}
use Rattle.rounding_spec.specs.Value.{nan, decode}
use Rattle.binary32_spec.specs.Steps.{add_step, sub_step, mul_step}

-- Of the operands x and y, r is our result and q theirs. They are the same pattern wherever r is no NaN; both are NaN or neither is, and a
-- NaN of theirs is 7FC00000; they are the same pattern, NaN too, where no operand is NaN. (Theirs has lost a NaN operand's payload.)
pub record Agreed (x y r q : ℕ) : Type 0 where
  pub number : decode binary32 r ≢ nan → r ≡ q
  pub together : (decode binary32 r ≡ nan) ↔ (decode binary32 q ≡ nan)
  pub fixed : decode binary32 q ≡ nan → q ≡ 0x7fc0_0000
  pub plain : decode binary32 x ≢ nan → decode binary32 y ≢ nan → r ≡ q

abbrev pub theirs : (Float → Float → Float) → ℕ → ℕ → ℕ
theirs f x y = to_bits standard (f (of_bits standard x) (of_bits standard y))

abbrev pub AddAgrees : Type 0
AddAgrees = (x y : ℕ) → Agreed x y (add_step x y) (theirs (add standard) x y)

abbrev pub SubAgrees : Type 0
SubAgrees = (x y : ℕ) → Agreed x y (sub_step x y) (theirs (sub standard) x y)

abbrev pub MulAgrees : Type 0
MulAgrees = (x y : ℕ) → Agreed x y (mul_step x y) (theirs (mul standard) x y)
