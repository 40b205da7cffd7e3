-- What is proved of the steps, beside the contracts. A name of type `Type 0` is a statement; `proofs/Theorems.antt` has its proof.
use Rattle.std.specs.Prelude.{◌≡◌, ◌⊎◌, ◌≢◌, Bool, false, not, ◌&&◌, ℕ, ◌^◌, ◌<◌, ℤ, pos, ◌+ℤ◌, ◌-ℤ◌, ◌*ℤ◌}
use Rattle.std.specs.Float.Ieee.{unlike}
use Rattle.rounding_spec.specs.declared.Ties.TheVariants.{ToEven}
use Rattle.rounding_spec.specs.Format.{binary32, infinity}
use Rattle.rounding_spec.specs.Value.{nan, infinite, finite, decode, signalling, signed, quieted, round_finite}
use Rattle.pattern_spec.specs.Exact.{int}
use Rattle.binary32_spec.specs.Agreement.{AddAgrees, SubAgrees, MulAgrees}
use Rattle.binary32_spec.specs.MarkTheorems.{AddMarkMeans, SubMarkMeans, MulMarkMeans, FmaMarkMeans, ZeroAndOverflow, MarkLandmarks}
use Rattle.binary32_spec.specs.Steps.{add_value, sub_value, mul_value, fma_value, add_step, sub_step, mul_step, fma_step}

-- ---- a step on finite operands is the exact result, rounded once with ties to even
-- q is the pattern of the whole number E of 2 ^ -298, rounded; an exact zero has the sign z
abbrev pub RoundedOnce : ℤ → Bool → ℕ → Type 0
RoundedOnce E z q = (r : Bool) × (N : ℕ) × (int r N ≡ E) × (N ≡ 0 → r ≡ z) × (decode binary32 q ≡ round_finite ToEven binary32 r N)

abbrev pub AddFinite : Type 0
AddFinite =
    (x y : ℕ) (s t : Bool) (a b : ℕ) → decode binary32 x ≡ finite s a → decode binary32 y ≡ finite t b
    → RoundedOnce ((int s a +ℤ int t b) *ℤ pos (2 ^ 149)) (s && t) (add_step x y)

abbrev pub SubFinite : Type 0
SubFinite =
    (x y : ℕ) (s t : Bool) (a b : ℕ) → decode binary32 x ≡ finite s a → decode binary32 y ≡ finite t b
    → RoundedOnce ((int s a -ℤ int t b) *ℤ pos (2 ^ 149)) (s && not t) (sub_step x y)

abbrev pub MulFinite : Type 0
MulFinite =
    (x y : ℕ) (s t : Bool) (a b : ℕ) → decode binary32 x ≡ finite s a → decode binary32 y ≡ finite t b
    → RoundedOnce (int s a *ℤ int t b) (unlike s t) (mul_step x y)

abbrev pub FmaFinite : Type 0
FmaFinite =
    (x y z : ℕ) (s t u : Bool) (a b c : ℕ) → decode binary32 x ≡ finite s a → decode binary32 y ≡ finite t b
    → decode binary32 z ≡ finite u c
    → RoundedOnce (int s a *ℤ int t b +ℤ int u c *ℤ pos (2 ^ 149)) (unlike s t && u) (fma_step x y z)

-- ---- R2.4: NaN results
-- a NaN operand gives the first NaN, with its highest fraction bit set
abbrev pub StepNaN : Type 0
StepNaN =
    ((x y : ℕ) → decode binary32 x ≡ nan
    → (add_step x y ≡ quieted binary32 x) × (sub_step x y ≡ quieted binary32 x) × (mul_step x y ≡ quieted binary32 x))
    × ((x y : ℕ) → decode binary32 x ≢ nan → decode binary32 y ≡ nan
    → (add_step x y ≡ quieted binary32 y) × (sub_step x y ≡ quieted binary32 y) × (mul_step x y ≡ quieted binary32 y))
    × ((x y z : ℕ) → decode binary32 x ≡ nan → fma_step x y z ≡ quieted binary32 x)
    × ((x y z : ℕ) → decode binary32 x ≢ nan → decode binary32 y ≡ nan → fma_step x y z ≡ quieted binary32 y)
    × ((x y z : ℕ) → decode binary32 x ≢ nan → decode binary32 y ≢ nan → decode binary32 z ≡ nan → fma_step x y z ≡ quieted binary32 z)

-- a NaN result of operands that are not NaN is 7FC00000
abbrev pub NaNResults : Type 0
NaNResults =
    ((x y : ℕ) → decode binary32 x ≢ nan → decode binary32 y ≢ nan
    → (decode binary32 (add_step x y) ≡ nan → add_step x y ≡ 0x7fc0_0000)
    × (decode binary32 (sub_step x y) ≡ nan → sub_step x y ≡ 0x7fc0_0000)
    × (decode binary32 (mul_step x y) ≡ nan → mul_step x y ≡ 0x7fc0_0000))
    × ((x y z : ℕ) → decode binary32 x ≢ nan → decode binary32 y ≢ nan → decode binary32 z ≢ nan
    → decode binary32 (fma_step x y z) ≡ nan → fma_step x y z ≡ 0x7fc0_0000)

-- no result is signalling
abbrev pub StepQuiet : Type 0
StepQuiet =
    ((x y : ℕ) → (signalling binary32 (add_step x y) ≡ false) × (signalling binary32 (sub_step x y) ≡ false)
    × (signalling binary32 (mul_step x y) ≡ false))
    × ((x y z : ℕ) → signalling binary32 (fma_step x y z) ≡ false)

-- landmarks: a quiet NaN stays, with its sign, also on the right of a subtraction; a signalling one gets bit 22; of two the first, of
-- either kind; of three the first; and the third where the product of the others is NaN
abbrev pub StepNaNLandmarks : Type 0
StepNaNLandmarks =
    (add_step 0x7fc0_0001 0x0000_0000 ≡ 0x7fc0_0001) × (sub_step 0x3f80_0000 0xffc1_2345 ≡ 0xffc1_2345)
    × (sub_step 0x3f80_0000 0x7f81_2345 ≡ 0x7fc1_2345) × (mul_step 0xff80_0001 0x7f80_0000 ≡ 0xffc0_0001)
    × (add_step 0xff9f_ffff 0x7fc0_0007 ≡ 0xffdf_ffff) × (mul_step 0x7fff_ffff 0xff80_0007 ≡ 0x7fff_ffff)
    × (fma_step 0xffc0_0001 0x7f80_0002 0x7fc0_0003 ≡ 0xffc0_0001) × (fma_step 0x3f80_0000 0x7fc0_0002 0x7fc0_0003 ≡ 0x7fc0_0002)
    × (fma_step 0x0000_0000 0x7f80_0000 0xff80_0007 ≡ 0xffc0_0007)

-- ---- R2.3: infinities
-- x has the sign s and y the sign t: two infinities, or an infinity and a finite number other than 0
abbrev pub InfiniteFactors : ℕ → Bool → ℕ → Bool → Type 0
InfiniteFactors x s y t =
    ((decode binary32 x ≡ infinite s) × (decode binary32 y ≡ infinite t))
    ⊎ (((b : ℕ) × (0 < b) × (decode binary32 x ≡ infinite s) × (decode binary32 y ≡ finite t b))
    ⊎ ((a : ℕ) × (0 < a) × (decode binary32 x ≡ finite s a) × (decode binary32 y ≡ infinite t)))

-- invalid operations (R2.3, R2.4): opposite infinities; zero times infinity, unless the third operand of a fused step is NaN
abbrev pub StepInvalid : Type 0
StepInvalid =
    ((x y : ℕ) (s : Bool) → decode binary32 x ≡ infinite s → decode binary32 y ≡ infinite (not s) → add_step x y ≡ 0x7fc0_0000)
    × ((x y : ℕ) (s : Bool) → decode binary32 x ≡ infinite s → decode binary32 y ≡ infinite s → sub_step x y ≡ 0x7fc0_0000)
    × ((x y : ℕ) (s t : Bool) → decode binary32 x ≡ finite s 0 → decode binary32 y ≡ infinite t
    → (mul_step x y ≡ 0x7fc0_0000) × (mul_step y x ≡ 0x7fc0_0000))
    × ((x y z : ℕ) (s t : Bool) → decode binary32 x ≡ finite s 0 → decode binary32 y ≡ infinite t → decode binary32 z ≢ nan
    → (fma_step x y z ≡ 0x7fc0_0000) × (fma_step y x z ≡ 0x7fc0_0000))
    × ((x y z : ℕ) (s t : Bool) → InfiniteFactors x s y t → decode binary32 z ≡ infinite (not (unlike s t)) → fma_step x y z ≡ 0x7fc0_0000)

-- every other infinite operand, where none is NaN, gives an infinity: an infinity and a finite number, in sums and differences; two
-- infinities of like effect; products; a fused sum whose product is infinite, then one whose third operand alone is
abbrev pub StepInfinite : Type 0
StepInfinite =
    ((x y : ℕ) (s t : Bool) (b : ℕ) → decode binary32 x ≡ infinite s → decode binary32 y ≡ finite t b
    → (add_step x y ≡ signed binary32 s (infinity binary32)) × (add_step y x ≡ signed binary32 s (infinity binary32))
    × (sub_step x y ≡ signed binary32 s (infinity binary32)) × (sub_step y x ≡ signed binary32 (not s) (infinity binary32)))
    × ((x y : ℕ) (s : Bool) → decode binary32 x ≡ infinite s → decode binary32 y ≡ infinite s
    → add_step x y ≡ signed binary32 s (infinity binary32))
    × ((x y : ℕ) (s : Bool) → decode binary32 x ≡ infinite s → decode binary32 y ≡ infinite (not s)
    → sub_step x y ≡ signed binary32 s (infinity binary32))
    × ((x y : ℕ) (s t : Bool) → InfiniteFactors x s y t → mul_step x y ≡ signed binary32 (unlike s t) (infinity binary32))
    × ((x y z : ℕ) (s t u : Bool) (c : ℕ) → InfiniteFactors x s y t → decode binary32 z ≡ finite u c
    → fma_step x y z ≡ signed binary32 (unlike s t) (infinity binary32))
    × ((x y z : ℕ) (s t : Bool) → InfiniteFactors x s y t → decode binary32 z ≡ infinite (unlike s t)
    → fma_step x y z ≡ signed binary32 (unlike s t) (infinity binary32))
    × ((x y z : ℕ) (s t u : Bool) (a b : ℕ) → decode binary32 x ≡ finite s a → decode binary32 y ≡ finite t b
    → decode binary32 z ≡ infinite u → fma_step x y z ≡ signed binary32 u (infinity binary32))

-- ---- what callers go by: a step's pattern stands for the step on values, which is rounded to a value of the format
abbrev pub AddDecodes : Type 0
AddDecodes = (x y : ℕ) → decode binary32 (add_step x y) ≡ add_value binary32 (decode binary32 x) (decode binary32 y)

abbrev pub SubDecodes : Type 0
SubDecodes = (x y : ℕ) → decode binary32 (sub_step x y) ≡ sub_value binary32 (decode binary32 x) (decode binary32 y)

abbrev pub MulDecodes : Type 0
MulDecodes = (x y : ℕ) → decode binary32 (mul_step x y) ≡ mul_value binary32 (decode binary32 x) (decode binary32 y)

abbrev pub FmaDecodes : Type 0
FmaDecodes = (x y z : ℕ) → decode binary32 (fma_step x y z) ≡ fma_value binary32 (decode binary32 x) (decode binary32 y) (decode binary32 z)

-- ---- all of them, and those of Agreement and MarkTheorems: `proofs/Theorems.antt` proves this
abbrev pub All : Type 0
All =
    AddFinite × SubFinite × MulFinite × FmaFinite × StepNaN × NaNResults × StepQuiet × StepNaNLandmarks × StepInvalid × StepInfinite
    × AddDecodes × SubDecodes × MulDecodes × FmaDecodes × AddAgrees × SubAgrees × MulAgrees
    × AddMarkMeans × SubMarkMeans × MulMarkMeans × FmaMarkMeans × ZeroAndOverflow × MarkLandmarks
