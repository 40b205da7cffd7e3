-- What a step's mark means (R2.8), in whole numbers. A name of type `Type 0` is a statement; `proofs/MarkTheorems.antt` has its proof.
use Rattle.std.specs.Prelude.{◌≡◌, ◌⊎◌, ◌≢◌, ◌↔◌, true, false, ℕ, ◌^◌, ◌≤◌, ℤ, pos, ◌+ℤ◌, ◌-ℤ◌, ◌*ℤ◌}
use Rattle.rounding_spec.specs.Format.{binary32}
use Rattle.rounding_spec.specs.Value.{decode, is_finite, is_infinite, is_zero}
use Rattle.pattern_spec.specs.Exact.{whole}
use Rattle.binary32_spec.specs.Steps.{add_step, sub_step, mul_step, fma_step}
use Rattle.binary32_spec.specs.Marks.{add_mark, sub_mark, mul_mark, fma_mark}

-- ---- operands and exact numbers
-- infinite or NaN
abbrev pub Special : ℕ → Type 0
Special x = is_finite (decode binary32 x) ≡ false

-- how many u a pattern stands for; 0 for what is no number
abbrev pub number_of : ℕ → ℤ
number_of x = whole (decode binary32 x)

-- the exact results x + y, x - y, xy and xy + z, as whole numbers of u * u
abbrev pub whole_sum : ℕ → ℕ → ℤ
whole_sum x y = (number_of x +ℤ number_of y) *ℤ pos (2 ^ 149)

abbrev pub whole_difference : ℕ → ℕ → ℤ
whole_difference x y = (number_of x -ℤ number_of y) *ℤ pos (2 ^ 149)

abbrev pub whole_product : ℕ → ℕ → ℤ
whole_product x y = number_of x *ℤ number_of y

abbrev pub whole_fused : ℕ → ℕ → ℕ → ℤ
whole_fused x y z = number_of x *ℤ number_of y +ℤ number_of z *ℤ pos (2 ^ 149)

-- a finite result r whose number is the exact one, E
abbrev pub IsExact : ℤ → ℕ → Type 0
IsExact E r = (is_finite (decode binary32 r) ≡ true) × (number_of r *ℤ pos (2 ^ 149) ≡ E)

-- ---- the three marks. S says that an operand is infinite or NaN; E is the exact number, r the result, m the mark.
pub record MarkMeans (S : Type 0) (E : ℤ) (r m : ℕ) : Type 0 where
  pub zero : (m ≡ 0) ↔ ((¬ S) × IsExact E r)
  pub one : (m ≡ 1) ↔ ((¬ S) × (¬ IsExact E r))
  pub two : (m ≡ 2) ↔ S
  pub most : m ≤ 2

abbrev pub AddMarkMeans : Type 0
AddMarkMeans = (x y : ℕ) → MarkMeans (Special x ⊎ Special y) (whole_sum x y) (add_step x y) (add_mark x y)

abbrev pub SubMarkMeans : Type 0
SubMarkMeans = (x y : ℕ) → MarkMeans (Special x ⊎ Special y) (whole_difference x y) (sub_step x y) (sub_mark x y)

abbrev pub MulMarkMeans : Type 0
MulMarkMeans = (x y : ℕ) → MarkMeans (Special x ⊎ Special y) (whole_product x y) (mul_step x y) (mul_mark x y)

abbrev pub FmaMarkMeans : Type 0
FmaMarkMeans =
    (x y z : ℕ) → MarkMeans (Special x ⊎ (Special y ⊎ Special z)) (whole_fused x y z) (fma_step x y z) (fma_mark x y z)

-- ---- zeros and overflow, where no operand is infinite or NaN: an exact zero has 0; what is not zero and was rounded to zero has 1; what
-- overflowed has 1
abbrev pub ZeroOverflowMarks : Type 0 → ℤ → ℕ → ℕ → Type 0
ZeroOverflowMarks S E r m =
    (¬ S → E ≡ pos 0 → m ≡ 0) × (¬ S → E ≢ pos 0 → is_zero (decode binary32 r) ≡ true → m ≡ 1)
    × (¬ S → is_infinite (decode binary32 r) ≡ true → m ≡ 1)

abbrev pub ZeroAndOverflow : Type 0
ZeroAndOverflow =
    ((x y : ℕ) → ZeroOverflowMarks (Special x ⊎ Special y) (whole_sum x y) (add_step x y) (add_mark x y))
    × ((x y : ℕ) → ZeroOverflowMarks (Special x ⊎ Special y) (whole_difference x y) (sub_step x y) (sub_mark x y))
    × ((x y : ℕ) → ZeroOverflowMarks (Special x ⊎ Special y) (whole_product x y) (mul_step x y) (mul_mark x y))
    × ((x y z : ℕ) → ZeroOverflowMarks (Special x ⊎ (Special y ⊎ Special z)) (whole_fused x y z) (fma_step x y z) (fma_mark x y z))

-- ---- landmarks: 1 + 2^-23 and 2^-24 added; 1 + 2^-23 less 2^-23; 1 - 1; +0 and -0; 2^127 + 2^127, whose only fault is that it
-- overflows; half of u, which is rounded to zero, and half of 3u, which is not
abbrev pub MarkLandmarks : Type 0
MarkLandmarks =
    (add_mark 0x3f80_0001 0x3380_0000 ≡ 1) × (sub_mark 0x3f80_0001 0x3400_0000 ≡ 0) × (sub_mark 0x3f80_0000 0x3f80_0000 ≡ 0)
    × (add_mark 0x0000_0000 0x8000_0000 ≡ 0) × (add_mark 0x7f00_0000 0x7f00_0000 ≡ 1) × (mul_mark 0x3f00_0000 0x0000_0001 ≡ 1)
    × (mul_mark 0x0000_0003 0x3f00_0000 ≡ 1)
    -- infinity and 0; a NaN and 0; 0 times -infinity, which is NaN
    × (add_mark 0x7f80_0000 0x0000_0000 ≡ 2) × (add_mark 0x7fc0_0001 0x0000_0000 ≡ 2) × (mul_mark 0x0000_0000 0xff80_0000 ≡ 2)
    -- fused: the square of 1 + 2^-23, less all of it but the last digit; 2^128 - 2^127, whose product alone would overflow; infinity as the
    -- third operand alone; a NaN as the third, where the product of the others is NaN
    × (fma_mark 0x3f80_0001 0x3f80_0001 0xbf80_0002 ≡ 0) × (fma_mark 0x7f00_0000 0x4000_0000 0xff00_0000 ≡ 0)
    × (fma_mark 0x3f80_0000 0x3f80_0000 0x7f80_0000 ≡ 2) × (fma_mark 0x0000_0000 0x7f80_0000 0x7fc0_0007 ≡ 2)
