-- What is proved of pairs and flags, beside the contracts. A name of type `Type 0` is a statement; `proofs/Theorems.antt` has its proof.
-- E counts u * u, so that sums, differences and products read alike; the magnitudes of halves and operands count u. `finer_int` takes the
-- second unit to the first.
use Rattle.std.specs.Prelude.{◌≡◌, ◌⊎◌, ◌≢◌, ◌↔◌, Bool, true, false, not, cond, ◌&&◌, ◌||◌, [], ◌∷◌, ℕ}
use Rattle.std.specs.Prelude.{◌*◌, ◌^◌, ◌≤◌, ◌<◌, eqb, ℤ, pos, nat_abs, ◌+ℤ◌, ◌-ℤ◌, ◌*ℤ◌}
use Rattle.std.specs.Float.Ieee.{unlike}
use Rattle.rounding_spec.specs.declared.Ties.TheVariants.{ToZero}
use Rattle.rounding_spec.specs.Format.{Format, binary32, Proper, low, edge, infinity, sign_bit}
use Rattle.rounding_spec.specs.Round.{last_place}
use Rattle.rounding_spec.specs.Value.{nan, infinite, finite, decode, signalling, signed, default_nan, quieted, nan_of, round_finite}
use Rattle.pattern_spec.specs.Exact.{int}
use Rattle.pattern_spec.specs.Classes.{flip}
use Rattle.augmented_spec.specs.declared.Flags.{Flags}
use Rattle.augmented_spec.specs.declared.Pair.{Pair}
use Rattle.augmented_spec.specs.Pairs.{sum_pair, difference_pair, product_pair}
use Rattle.augmented_spec.specs.Cases.{Table}
use Rattle.augmented_spec.specs.declared.Operation.{Operation}
use Rattle.augmented_spec.specs.declared.Operation.TheVariants.{Sum as sum, Difference as difference, Product as product}
use Rattle.augmented_spec.specs.Operations.{operation_number, operation_of}
use Rattle.augmented_spec.specs.Direct.{direct_pair, exact_result, none, I, OX, UX}

-- ---- what the statements are about
-- the sign that an exact zero takes (R3.4)
abbrev pub zero_sign : Operation → Bool → Bool → Bool
zero_sign sum s t = s && t
zero_sign difference s t = s && not t
zero_sign product s t = unlike s t

-- a whole number of u, counted in u * u (`finer` of Exact, on whole numbers)
abbrev pub finer_int : Format → Bool → ℕ → ℤ
finer_int F s a = int s a *ℤ pos (2 ^ low F)

-- what every question on finite operands is about: the operation's exact number E, its zero's sign z, and the pair p
pub record FiniteOperands (o : Operation) (F : Format) (E : ℤ) (z : Bool) (p : Pair) : Type 0 where
  pub proper : Proper F
  pub x : ℕ
  pub y : ℕ
  -- y is a pattern of the format: only the flip in a difference needs it
  pub width : y < 2 * sign_bit F
  pub s : Bool
  pub a : ℕ
  pub t : Bool
  pub b : ℕ
  pub left : decode F x ≡ finite s a
  pub right : decode F y ≡ finite t b
  pub exact : E ≡ exact_result o F (int s a) (int t b)
  pub zero : z ≡ zero_sign o s t
  pub pair : p ≡ direct_pair o F x y

-- every two finite patterns of binary32 are such operands, in each operation: what follows is said of all of them
abbrev pub EveryFinite : Type 0
EveryFinite =
    (o : Operation) (x y : ℕ) (s : Bool) (a : ℕ) (t : Bool) (b : ℕ) → y < 2 ^ 32 → decode binary32 x ≡ finite s a
    → decode binary32 y ≡ finite t b
    → FiniteOperands o binary32 (exact_result o binary32 (int s a) (int t b)) (zero_sign o s t) (direct_pair o binary32 x y)

-- and their pairs are those of the contracts
abbrev pub DirectPairs : Type 0
DirectPairs = (direct_pair sum ≡ sum_pair) × (direct_pair difference ≡ difference_pair) × (direct_pair product ≡ product_pair)

-- a difference is the sum of x and the flipped y, NaN and flags included, in every format (R3.5)
abbrev pub DifferenceIsSum : Type 0
DifferenceIsSum = (F : Format) (x y : ℕ) → difference_pair F x y ≡ sum_pair F x (flip F y)

-- the numbers of operations (R8.5)
abbrev pub OperationNumbers : Type 0
OperationNumbers =
    (operation_of 1 ≡ sum) × (operation_of 2 ≡ difference) × (operation_of 3 ≡ product)
    × (operation_number sum ≡ 1) × (operation_number difference ≡ 2) × (operation_number product ≡ 3)

-- ---- first
-- the exact number, rounded once (R3.1, R3.2); a zero has the sign of R3.4
abbrev pub FirstRounded : Type 0
FirstRounded =
    (o : Operation) (F : Format) (E : ℤ) (z : Bool) (p : Pair) → FiniteOperands o F E z p
    → (r : Bool) × (N : ℕ) × (int r N ≡ E) × (N ≡ 0 → r ≡ z) × (decode F p.first ≡ round_finite ToZero F r N)

-- no finite pattern is nearer; of those that are equally near, the smaller magnitude
abbrev pub FirstNearest : Type 0
FirstNearest =
    (o : Operation) (F : Format) (E : ℤ) (z : Bool) (p : Pair) → FiniteOperands o F E z p → (q : Bool) (c : ℕ)
    → decode F p.first ≡ finite q c
    → (w : ℕ) (r : Bool) (b : ℕ) → decode F w ≡ finite r b
    → (nat_abs (finer_int F q c -ℤ E) ≤ nat_abs (finer_int F r b -ℤ E))
    × (nat_abs (finer_int F r b -ℤ E) ≡ nat_abs (finer_int F q c -ℤ E) → c ≤ b)

-- infinite, with E's sign, exactly where |E| is strictly above the edge (in u * u), 2 ^ 128 - 2 ^ 103 in binary32; at the edge itself it
-- is finite
abbrev pub Overflow : Type 0
Overflow =
    (o : Operation) (F : Format) (E : ℤ) (z : Bool) (p : Pair) → FiniteOperands o F E z p
    → (edge F < nat_abs E → (r : Bool) × (decode F p.first ≡ infinite r) × (int r (nat_abs E) ≡ E))
    × (nat_abs E ≤ edge F → (r : Bool) × (c : ℕ) × (decode F p.first ≡ finite r c))

-- ---- second
-- the exact rest, rounded once (R3.2); a zero has first's sign (R3.3)
abbrev pub SecondRounded : Type 0
SecondRounded =
    (o : Operation) (F : Format) (E : ℤ) (z : Bool) (p : Pair) → FiniteOperands o F E z p → (q : Bool) (c : ℕ)
    → decode F p.first ≡ finite q c
    → (r : Bool) × (N : ℕ) × (d : ℕ) × (int r N ≡ E -ℤ finer_int F q c) × (round_finite ToZero F r N ≡ finite r d)
    × (decode F p.second ≡ finite (cond (eqb d 0) q r) d)

-- no finite pattern is nearer to the exact rest, E less first; of those that are equally near, the smaller magnitude
abbrev pub SecondNearest : Type 0
SecondNearest =
    (o : Operation) (F : Format) (E : ℤ) (z : Bool) (p : Pair) → FiniteOperands o F E z p → (q : Bool) (c : ℕ)
    → decode F p.first ≡ finite q c
    → (t : Bool) (d : ℕ) → decode F p.second ≡ finite t d → (w : ℕ) (r : Bool) (b : ℕ) → decode F w ≡ finite r b
    → let rest = E -ℤ finer_int F q c in
    (nat_abs (finer_int F t d -ℤ rest) ≤ nat_abs (finer_int F r b -ℤ rest))
    × (nat_abs (finer_int F r b -ℤ rest) ≡ nat_abs (finer_int F t d -ℤ rest) → d ≤ b)

-- second is at most half a unit in first's last place (both in u; so a zero first has a zero second)
abbrev pub HalfUnit : Type 0
HalfUnit =
    (o : Operation) (F : Format) (E : ℤ) (z : Bool) (p : Pair) → FiniteOperands o F E z p → (q : Bool) (c : ℕ)
    → decode F p.first ≡ finite q c
    → (r : Bool) × (d : ℕ) × (decode F p.second ≡ finite r d) × (2 * d ≤ 2 ^ last_place F.fraction 0 c)

-- ---- what a finite pair adds up to
-- a finite sum or difference pair adds up, always (R3.1)
abbrev pub SumAddsUp : Type 0
SumAddsUp =
    (o : Operation) (F : Format) (E : ℤ) (z : Bool) (p : Pair) → o ≢ product → FiniteOperands o F E z p → (q : Bool) (c : ℕ)
    → decode F p.first ≡ finite q c
    → (r : Bool) × (d : ℕ) × (decode F p.second ≡ finite r d) × (finer_int F q c +ℤ finer_int F r d ≡ E)

-- a finite product pair without X adds up, and U and X are raised exactly when it does not
abbrev pub ProductAddsUp : Type 0
ProductAddsUp =
    (F : Format) (E : ℤ) (z : Bool) (p : Pair) → FiniteOperands product F E z p → (q : Bool) (c : ℕ) → decode F p.first ≡ finite q c
    → (r : Bool) × (d : ℕ) × (decode F p.second ≡ finite r d) × (p.flags.underflow ≡ p.flags.inexact)
    × (p.flags.inexact ≡ false → finer_int F q c +ℤ finer_int F r d ≡ E) × (p.flags.inexact ≡ true → finer_int F q c +ℤ finer_int F r d ≢ E)

-- ---- flags of finite operands
-- R4.3 to R4.5: OX where first overflows; otherwise none, but UX of a product that the pair does not add up to.
-- Which of the two a finite product pair has, `ProductAddsUp` says.
abbrev pub FlagsOfFinite : Type 0
FlagsOfFinite =
    (o : Operation) (F : Format) (E : ℤ) (z : Bool) (p : Pair) → FiniteOperands o F E z p
    → (edge F < nat_abs E → p.flags ≡ OX) × (nat_abs E ≤ edge F → o ≢ product → p.flags ≡ none)
    × (nat_abs E ≤ edge F → (p.flags ≡ none) ⊎ (p.flags ≡ UX))

-- ---- special operands: only the flip in a difference needs that a pattern is below 2 * sign_bit F
-- both halves are the pattern a
abbrev pub Twice : Pair → ℕ → Flags → Type 0
Twice p a f = p ≡ record { first = a; second = a; flags = f }

-- y as the operation takes it: with its sign flipped in a difference (R3.5)
abbrev pub second_operand : Operation → Format → ℕ → ℕ
second_operand sum F y = y
second_operand difference F y = flip F y
second_operand product F y = y

-- R3.7, R4.2: a NaN operand gives the first NaN twice, with its highest fraction bit set, and I where an operand is signalling
abbrev pub NaNOperand : Type 0
NaNOperand =
    (o : Operation) (F : Format) → Proper F → (x y : ℕ) → y < 2 * sign_bit F
    → let flags = cond (signalling F x || signalling F y) I none in
    (decode F x ≡ nan → Twice (direct_pair o F x y) (quieted F x) flags)
    × (decode F x ≢ nan → decode F y ≡ nan → Twice (direct_pair o F x y) (quieted F (second_operand o F y)) flags)

-- opposite infinities, and zero times infinity, in both orders: NaN twice (7FC00000 in binary32), and I
abbrev pub OppositeInfinities : Type 0
OppositeInfinities =
    (F : Format) (x y : ℕ) → y < 2 * sign_bit F → (s : Bool) → decode F x ≡ infinite s
    → (decode F y ≡ infinite (not s) → Twice (direct_pair sum F x y) (default_nan F) I)
    × (decode F y ≡ infinite s → Twice (direct_pair difference F x y) (default_nan F) I)

abbrev pub ZeroTimesInfinity : Type 0
ZeroTimesInfinity =
    (F : Format) (x y : ℕ) (s t : Bool) → decode F x ≡ finite s 0 → decode F y ≡ infinite t
    → Twice (direct_pair product F x y) (default_nan F) I × Twice (direct_pair product F y x) (default_nan F) I

-- landmarks: a quiet NaN and zero; a signalling operand; two NaN, the second of them signalling; flipped ones of both kinds; one that is
-- first of two; a product
abbrev pub NaNLandmarks : Type 0
NaNLandmarks =
    Twice (sum_pair binary32 0x7fc0_0001 0x0000_0000) 0x7fc0_0001 none
    × Twice (sum_pair binary32 0x3f80_0000 0xff80_0001) 0xffc0_0001 I
    × Twice (sum_pair binary32 0xffc0_0002 0x7f80_0001) 0xffc0_0002 I
    × Twice (difference_pair binary32 0x3f80_0000 0x7fc0_0001) 0xffc0_0001 none
    × Twice (difference_pair binary32 0x3f80_0000 0x7f80_0001) 0xffc0_0001 I
    × Twice (difference_pair binary32 0x7fc0_0003 0x7fc0_0001) 0x7fc0_0003 none
    × Twice (product_pair binary32 0x0000_0000 0x7f81_2345) 0x7fc1_2345 I

-- R3.6, R3.8, R4.3: every other infinite operand x, on either side. An infinite addend gives its sign, flipped on the right
-- of a difference; an infinite factor, times an infinity or a number that is not zero, the product of signs.
abbrev pub InfiniteOperand : Type 0
InfiniteOperand =
    (F : Format) (x y : ℕ) → x < 2 * sign_bit F → y < 2 * sign_bit F → (s : Bool) → decode F x ≡ infinite s → decode F y ≢ nan
    → let infinity_of : Bool → ℕ = λ r. signed F r (infinity F) in
    (decode F y ≢ infinite (not s) → Twice (direct_pair sum F x y) (infinity_of s) none
    × Twice (direct_pair sum F y x) (infinity_of s) none)
    × (decode F y ≢ infinite s → Twice (direct_pair difference F x y) (infinity_of s) none
    × Twice (direct_pair difference F y x) (infinity_of (not s)) none)
    × ((t : Bool) (b : ℕ) → (decode F y ≡ infinite t) ⊎ ((decode F y ≡ finite t b) × (b ≢ 0))
    → Twice (direct_pair product F x y) (infinity_of (unlike s t)) none × Twice (direct_pair product F y x) (infinity_of (unlike s t)) none)

-- ---- all patterns
-- only the flag sets -, I, OX and UX
abbrev pub FlagSets : Type 0
FlagSets =
    (o : Operation) (F : Format) (x y : ℕ)
    → let f = (direct_pair o F x y).flags in (f ≡ none) ⊎ ((f ≡ I) ⊎ ((f ≡ OX) ⊎ (f ≡ UX)))

-- these sets by their fields, in the order I, O, U, X (R4.1)
abbrev pub Fields : Flags → Bool → Bool → Bool → Bool → Type 0
Fields f i o u x = (f.invalid ≡ i) × (f.overflow ≡ o) × (f.underflow ≡ u) × (f.inexact ≡ x)

abbrev pub FlagSetFields : Type 0
FlagSetFields =
    Fields none false false false false × Fields I true false false false
    × Fields OX false true false true × Fields UX false false true true

-- I (R4.2): an operand is signalling, or first is NaN and no operand is
abbrev pub InvalidRaised : Type 0
InvalidRaised =
    (o : Operation) (F : Format) → Proper F → (x y : ℕ) → y < 2 * sign_bit F → let p = direct_pair o F x y in
    (p.flags.invalid ≡ true)
    ↔ ((signalling F x ≡ true) ⊎ ((signalling F y ≡ true) ⊎ ((decode F p.first ≡ nan) × (decode F x ≢ nan) × (decode F y ≢ nan))))

-- the pattern stands for a finite value
abbrev pub FinitePattern : Format → ℕ → Type 0
FinitePattern F x = (s : Bool) × (a : ℕ) × (decode F x ≡ finite s a)

-- O (R4.3): first is infinite, and both operands are finite
abbrev pub OverflowRaised : Type 0
OverflowRaised =
    (o : Operation) (F : Format) → Proper F → (x y : ℕ) → y < 2 * sign_bit F → let p = direct_pair o F x y in
    (p.flags.overflow ≡ true) ↔ (((r : Bool) × (decode F p.first ≡ infinite r)) × FinitePattern F x × FinitePattern F y)

-- U (R4.4): it is a product, both halves are finite, and their sum is not the exact product (of operands that are then finite too)
abbrev pub UnderflowRaised : Type 0
UnderflowRaised =
    (o : Operation) (F : Format) → Proper F → (x y : ℕ) → y < 2 * sign_bit F → let p = direct_pair o F x y in
    (p.flags.underflow ≡ true)
    ↔ ((o ≡ product) × (first : FinitePattern F p.first) × (second : FinitePattern F p.second)
    × (left : FinitePattern F x) × (right : FinitePattern F y)
    × (finer_int F first.0 first.1 +ℤ finer_int F second.0 second.1 ≢ int left.0 left.1 *ℤ int right.0 right.1))

-- X (R4.3, R4.4): with O and with U, and never else
abbrev pub InexactRaised : Type 0
InexactRaised =
    (o : Operation) (F : Format) (x y : ℕ) → let f = (direct_pair o F x y).flags in
    (f.inexact ≡ true) ↔ ((f.overflow ≡ true) ⊎ (f.underflow ≡ true))

-- R3.6
abbrev pub InfiniteTwice : Type 0
InfiniteTwice =
    (o : Operation) (F : Format) → Proper F → (x y : ℕ) (s : Bool) → decode F (direct_pair o F x y).first ≡ infinite s
    → (direct_pair o F x y).second ≡ (direct_pair o F x y).first

-- R3.7: a NaN first is the operands', and stands in second again
abbrev pub NaNTwice : Type 0
NaNTwice =
    (o : Operation) (F : Format) → Proper F → (x y : ℕ) → let p = direct_pair o F x y in
    decode F p.first ≡ nan → (p.first ≡ nan_of F (x ∷ second_operand o F y ∷ [])) × (p.second ≡ p.first)

-- both halves are patterns of the format: 32 bits wide in binary32
abbrev pub PatternWidth : Type 0
PatternWidth =
    (o : Operation) (F : Format) → Proper F → (x y : ℕ) → ((direct_pair o F x y).first < 2 * sign_bit F)
    × ((direct_pair o F x y).second < 2 * sign_bit F)

-- ---- all of them, and the table of cases: `proofs/Theorems.antt` proves this
abbrev pub All : Type 0
All =
    EveryFinite × DirectPairs × DifferenceIsSum × OperationNumbers × FirstRounded × FirstNearest × Overflow × SecondRounded × SecondNearest
    × HalfUnit × SumAddsUp × ProductAddsUp × FlagsOfFinite × NaNOperand × OppositeInfinities × ZeroTimesInfinity × NaNLandmarks
    × InfiniteOperand × FlagSets × FlagSetFields × InvalidRaised × OverflowRaised × UnderflowRaised × InexactRaised × InfiniteTwice
    × NaNTwice × PatternWidth × Table
