-- What is proved of patterns and rounding. Each name is a statement; `proofs/Theorems.antt` has its proof.
use Rattle.std.specs.Prelude.{◌≡◌, ◌⊎◌, ◌≢◌, ◌↔◌, Bool, true, false, cond, ◌&&◌, List, [], ◌∷◌}
use Rattle.std.specs.Prelude.{◌++◌, ℕ, suc, ◌+◌, ◌-◌, ◌*◌, ◌%◌, ◌^◌, ◌≤◌, ◌<◌, ltb}
use Rattle.rounding_spec.specs.declared.Ties.{Ties}
use Rattle.rounding_spec.specs.declared.Ties.TheVariants.{ToEven, ToZero}
use Rattle.rounding_spec.specs.Format.{Format, binary32, Proper, low, limit, edge, infinity, sign_bit}
use Rattle.rounding_spec.specs.Round.{last_place, rounded, left_over, rounded_up}
use Rattle.rounding_spec.specs.Nearest.{dist, Rep, Near, Near0}
use Rattle.rounding_spec.specs.Value.{Value, nan, infinite, finite, Fits, magnitude, decode, signalling}
use Rattle.rounding_spec.specs.Value.{bits, default_nan, encode, quieted, nan_of, round_finite, round}

-- ---- the numbers of binary32 (R1): u = 2 ^ -149, +infinity, the sign bit, the NaN of operands that are not NaN (R2.4), 2 ^ 128, and the
-- edge 2 ^ 128 - 2 ^ 103; and what is asked of a format
abbrev pub Binary32Numbers : Type 0
Binary32Numbers =
    (low binary32 ≡ 149) × (infinity binary32 ≡ 0x7f80_0000) × (sign_bit binary32 ≡ 0x8000_0000)
    × (default_nan binary32 ≡ 0x7fc0_0000)
    × (limit binary32 ≡ 2 ^ 128 * 2 ^ 149) × (edge binary32 ≡ (2 ^ 128 - 2 ^ 103) * 2 ^ 298) × Proper binary32

-- of every format: the exponent bits of an infinity are all 1, the sign bit stands above them, and a fraction bit and an exponent are all
-- that is asked of a proper one
abbrev pub FormatNumbers : Type 0
FormatNumbers =
    (F : Format)
    → (infinity F ≡ (2 * F.emax + 1) * 2 ^ F.fraction) × (sign_bit F ≡ infinity F + 2 ^ F.fraction)
    × (0 < F.fraction → 0 < F.emax → Proper F)

-- ---- nearest, for every precision and every lowest exponent
-- the rounded number is representable, and no representable number is nearer
abbrev pub Nearest : Type 0
Nearest = (t : Ties) (f L N : ℕ) → Near (suc f) L N (rounded t f L N * 2 ^ L)

-- RN0: of two that are equally near, the smaller magnitude
abbrev pub TieToZero : Type 0
TieToZero = (f L N : ℕ) → Near0 (suc f) L N (rounded ToZero f L N * 2 ^ L)

-- RNe: where another representable number is equally near, the last bit of the result's pattern is 0
abbrev pub TieToEven : Type 0
TieToEven =
    (f L N m : ℕ) → 0 < f → Rep (suc f) L m → m ≢ rounded ToEven f L N * 2 ^ L → dist m N ≡ dist (rounded ToEven f L N * 2 ^ L) N
    → bits f (rounded ToEven f L N) % 2 ≡ 0

-- and that other number's last bit is 1, so that RNe is fixed by the two
abbrev pub TieNeighbour : Type 0
TieNeighbour =
    (f L N m : ℕ) → 0 < f → Rep (suc f) L (m * 2 ^ L) → m ≢ rounded ToEven f L N
    → dist (m * 2 ^ L) N ≡ dist (rounded ToEven f L N * 2 ^ L) N → bits f m % 2 ≡ 1

-- RN0 is fixed by being nearest with ties to the smaller magnitude
abbrev pub TieToZeroUnique : Type 0
TieToZeroUnique = (p l n a b : ℕ) → Near0 p l n a → Near0 p l n b → a ≡ b

-- at most half a unit in the last place away
abbrev pub HalfUnit : Type 0
HalfUnit = (t : Ties) (f L N : ℕ) → 2 * dist (rounded t f L N * 2 ^ L) N ≤ 2 ^ last_place f L N

-- the two rules differ only at a tie, which lies halfway between their results, and there RNe went up
abbrev pub RulesDiffer : Type 0
RulesDiffer =
    (f L N : ℕ) → (rounded ToEven f L N ≡ rounded ToZero f L N)
    ⊎ ((N < rounded ToEven f L N * 2 ^ L) × (rounded ToZero f L N * 2 ^ L + rounded ToEven f L N * 2 ^ L ≡ 2 * N))

-- what is left over goes from the rounded number to N, downward and not 0 where N was rounded up, else upward
abbrev pub LeftOverIs : Type 0
LeftOverIs =
    (t : Ties) (f L N : ℕ) → (rounded_up t f L N ≡ true → (rounded t f L N * 2 ^ L ≡ N + left_over t f L N) × (0 < left_over t f L N))
    × (rounded_up t f L N ≡ false → rounded t f L N * 2 ^ L + left_over t f L N ≡ N)

-- ---- exact, monotone, scaled, and after rounding to odd
abbrev pub Exact : Type 0
Exact = (t : Ties) (f L N : ℕ) → Rep (suc f) L N → rounded t f L N * 2 ^ L ≡ N

abbrev pub Monotone : Type 0
Monotone = (t : Ties) (f L N M : ℕ) → N ≤ M → rounded t f L N ≤ rounded t f L M

abbrev pub Scaling : Type 0
Scaling = (t : Ties) (f L s N : ℕ) → rounded t f (L + s) (N * 2 ^ s) ≡ rounded t f L N

-- a number that lies inside the unit 2 ^ suc h above A units rounds as the odd number of half units in its middle
abbrev pub RoundToOdd : Type 0
RoundToOdd =
    (t : Ties) (f L h A N : ℕ) → 2 ^ suc f ≤ A → A * 2 ^ suc h < N → N < A * 2 ^ suc h + 2 ^ suc h
    → rounded t f L N ≡ rounded t f L ((2 * A + 1) * 2 ^ h)

-- ---- overflow: from the edge on for RNe, strictly above it for RN0
abbrev pub OverflowRNe : Type 0
OverflowRNe =
    (F : Format) → Proper F → (s : Bool) (N : ℕ)
    → (edge F ≤ N → round_finite ToEven F s N ≡ infinite s)
    × (N < edge F → round_finite ToEven F s N ≡ finite s (rounded ToEven F.fraction (low F) N))

abbrev pub OverflowRN0 : Type 0
OverflowRN0 =
    (F : Format) → Proper F → (s : Bool) (N : ℕ)
    → (edge F < N → round_finite ToZero F s N ≡ infinite s)
    × (N ≤ edge F → round_finite ToZero F s N ≡ finite s (rounded ToZero F.fraction (low F) N))

-- ---- the same over all patterns: no finite pattern is nearer; of two that are equally near RNe gives the one whose last bit is 0, RN0
-- the smaller
abbrev pub NearestPattern : Type 0
NearestPattern =
    (t : Ties) (F : Format) → Proper F → (s : Bool) (N a : ℕ) → round_finite t F s N ≡ finite s a
    → (x : ℕ) (r : Bool) (b : ℕ) → decode F x ≡ finite r b
    → dist (a * 2 ^ low F) N ≤ dist (b * 2 ^ low F) N

abbrev pub TieToEvenPattern : Type 0
TieToEvenPattern =
    (F : Format) → Proper F → (s : Bool) (N a : ℕ) → round_finite ToEven F s N ≡ finite s a
    → (x : ℕ) (r : Bool) (b : ℕ) → decode F x ≡ finite r b → b ≢ a
    → dist (b * 2 ^ low F) N ≡ dist (a * 2 ^ low F) N → encode F (finite s a) % 2 ≡ 0

abbrev pub TieToZeroPattern : Type 0
TieToZeroPattern =
    (F : Format) → Proper F → (s : Bool) (N a : ℕ) → round_finite ToZero F s N ≡ finite s a
    → (x : ℕ) (r : Bool) (b : ℕ) → decode F x ≡ finite r b
    → dist (b * 2 ^ low F) N ≡ dist (a * 2 ^ low F) N → a ≤ b

-- ---- patterns and values
-- landmarks: the smallest and largest subnormal, the smallest normal, 1, -0, Ω, infinities, NaN of both kinds
abbrev pub DecodeLandmarks : Type 0
DecodeLandmarks =
    (decode binary32 0x0000_0001 ≡ finite false 1) × (decode binary32 0x007f_ffff ≡ finite false (2 ^ 23 - 1))
    × (decode binary32 0x0080_0000 ≡ finite false (2 ^ 23)) × (decode binary32 0x3f80_0000 ≡ finite false (2 ^ 149))
    × (decode binary32 0x8000_0000 ≡ finite true 0) × (decode binary32 0x7f7f_ffff ≡ finite false ((2 ^ 128 - 2 ^ 104) * 2 ^ 149))
    × (decode binary32 0x7f80_0000 ≡ infinite false) × (decode binary32 0xff80_0000 ≡ infinite true)
    × (decode binary32 0x7f80_0001 ≡ nan) × (decode binary32 0x7fc0_0000 ≡ nan)

-- NaN are the patterns of either sign above the infinity's (R1.2), in every format
abbrev pub NaNRange : Type 0
NaNRange = (F : Format) (x : ℕ) → (decode F x ≡ nan) ↔ (infinity F < x % sign_bit F)

-- the first and the last signalling pattern of either sign, and two between them; quiet ones beside them, and what is no NaN
abbrev pub SignallingLandmarks : Type 0
SignallingLandmarks =
    (signalling binary32 0x7f80_0001 ≡ true) × (signalling binary32 0x7fbf_ffff ≡ true)
    × (signalling binary32 0xff80_0001 ≡ true) × (signalling binary32 0xffbf_ffff ≡ true)
    × (signalling binary32 0x7f80_0002 ≡ true) × (signalling binary32 0x7fa0_0000 ≡ true)
    × (signalling binary32 0x7fc0_0001 ≡ false) × (signalling binary32 0xffc0_0000 ≡ false)
    × (signalling binary32 0x7fc0_0000 ≡ false) × (signalling binary32 0xffff_ffff ≡ false)
    × (signalling binary32 0x7f80_0000 ≡ false) × (signalling binary32 0x3f80_0000 ≡ false)

-- the signalling patterns (R1.3) are those of either sign above the infinity's and below its sum with that bit
abbrev pub SignallingRange : Type 0
SignallingRange =
    (F : Format) → Proper F → (x : ℕ)
    → signalling F x ≡ ltb (infinity F) (x % sign_bit F) && ltb (x % sign_bit F) (infinity F + 2 ^ (F.fraction - 1))

-- ---- the pattern of a NaN result (R2.4)
-- quieting sets the highest fraction bit of a signalling pattern, and leaves a quiet one as it is
abbrev pub QuietedIs : Type 0
QuietedIs =
    (F : Format) → Proper F → (x : ℕ) → x < 2 * sign_bit F → decode F x ≡ nan
    → quieted F x ≡ cond (signalling F x) (x + 2 ^ (F.fraction - 1)) x

-- the first NaN among the operands is quieted, whatever stands behind it; where there is none, only the exponent bits and the highest
-- fraction bit are 1: 7FC00000 in binary32
abbrev pub NoneNaN : Format → List ℕ → Type 0
NoneNaN F [] = Unit {0}
NoneNaN F (x ∷ xs) = (decode F x ≢ nan) × NoneNaN F xs

abbrev pub FirstNaN : Type 0
FirstNaN =
    ((F : Format) (earlier later : List ℕ) (x : ℕ) → NoneNaN F earlier → decode F x ≡ nan → nan_of F (earlier ++ (x ∷ later)) ≡ quieted F x)
    × ((F : Format) (operands : List ℕ) → NoneNaN F operands → nan_of F operands ≡ infinity F + 2 ^ (F.fraction - 1))

-- it is a quiet NaN and a pattern of the format, whatever the operands
abbrev pub NaNOfQuiet : Type 0
NaNOfQuiet =
    (F : Format) → Proper F → (operands : List ℕ) → let n = nan_of F operands in
    (decode F n ≡ nan) × (signalling F n ≡ false) × (n < 2 * sign_bit F)

-- no finite magnitude is above that of Ω (R1.8)
abbrev pub LargestFinite : Type 0
LargestFinite = (x : ℕ) (s : Bool) (a : ℕ) → decode binary32 x ≡ finite s a → a ≤ (2 ^ 128 - 2 ^ 104) * 2 ^ 149

-- the order of the bits below the sign is the order of magnitudes
abbrev pub BitsOrder : Type 0
BitsOrder = (f c d : ℕ) → c < d → magnitude f c < magnitude f d

-- a value of the format is read back from its pattern
abbrev pub DecodeEncode : Type 0
DecodeEncode = (F : Format) → Proper F → (v : Value) → Fits F v → decode F (encode F v) ≡ v

-- a pattern is read back from its value, if it is no NaN's
abbrev pub EncodeDecode : Type 0
EncodeDecode = (F : Format) (x : ℕ) → x < 2 * sign_bit F → decode F x ≢ nan → encode F (decode F x) ≡ x

-- what a pattern stands for, and what is rounded, is a value of the format
abbrev pub DecodeFits : Type 0
DecodeFits = (F : Format) → Proper F → (x : ℕ) → Fits F (decode F x)

abbrev pub RoundFits : Type 0
RoundFits = (t : Ties) (F : Format) (v : Value) → Fits F (round t F v)

-- ---- all of them: `proofs/Theorems.antt` proves this
abbrev pub All : Type 0
All =
    Binary32Numbers × FormatNumbers × Nearest × TieToZero × TieToEven × TieNeighbour × TieToZeroUnique × HalfUnit × RulesDiffer × LeftOverIs
    × Exact × Monotone × Scaling × RoundToOdd × OverflowRNe × OverflowRN0 × NearestPattern × TieToEvenPattern × TieToZeroPattern
    × DecodeLandmarks × NaNRange × SignallingLandmarks × SignallingRange × QuietedIs × FirstNaN × NaNOfQuiet × LargestFinite × BitsOrder
    × DecodeEncode × EncodeDecode × DecodeFits × RoundFits
