-- What is proved of classes, flipped signs, exact values and comparisons. Each name is a statement; `proofs/Theorems.antt` has its proof.
use Rattle.std.specs.Prelude.{◌≡◌, ◌⊎◌, Bool, true, false, not, ◌&&◌, ℕ, ◌*◌, ◌%◌, ◌^◌, ◌≤◌, ◌<◌, ltb, leb, ◌+ℤ◌, ◌*ℤ◌}
use Rattle.std.specs.Bool.{beq}
use Rattle.std.specs.Float.Ieee.{unlike}
use Rattle.rounding_spec.specs.Format.{Format, binary32, sign_bit}
use Rattle.rounding_spec.specs.Value.{Value, nan, infinite, finite, decode, is_finite}
use Rattle.pattern_spec.specs.Answer.{refused, done, is_done, refusal_of}
use Rattle.pattern_spec.specs.Comparisons.{same, less_magnitude}
use Rattle.pattern_spec.specs.Exact.{negate, plus_finite, int}
use Rattle.pattern_spec.specs.Classes.{class_of, value_of, flip}
use Rattle.pattern_spec.specs.Inner.{Operand, Bounded, larger, smaller}

-- the class of a pattern stands for the value that the pattern decodes to
abbrev pub ClassDecodes : Type 0
ClassDecodes = (x : ℕ) → value_of (class_of x) ≡ decode binary32 x

-- significand and exponent of a pattern's class are within an operand's bounds
abbrev pub ClassBounded : Type 0
ClassBounded = (x : ℕ) → Bounded Operand (class_of x)

-- both operands, the larger of the bits below the sign first, a NaN's among them; where both are equal, x
abbrev pub LargerFirst : Type 0
LargerFirst =
    (x y : ℕ) → (((larger x y ≡ x) × (smaller x y ≡ y)) ⊎ ((larger x y ≡ y) × (smaller x y ≡ x)))
    × (smaller x y % 2 ^ 31 ≤ larger x y % 2 ^ 31)
    × (x % 2 ^ 31 ≡ y % 2 ^ 31 → (larger x y ≡ x) × (smaller x y ≡ y))

-- a flip leaves the other bits as they are (R3.5)
abbrev pub FlipBits : Type 0
FlipBits =
    (F : Format) (x : ℕ) → x < 2 * sign_bit F
    → (flip F x % sign_bit F ≡ x % sign_bit F) × (leb (sign_bit F) (flip F x) ≡ not (leb (sign_bit F) x)) × (flip F x < 2 * sign_bit F)

-- a flipped sign bit negates the value
abbrev pub FlipNegates : Type 0
FlipNegates = (F : Format) (x : ℕ) → x < 2 * sign_bit F → decode F (flip F x) ≡ negate (decode F x)

-- ---- exact sums and products are those of whole numbers
-- an exact zero is minus only where both addends are (R2.5)
abbrev pub PlusExact : Type 0
PlusExact =
    (s : Bool) (a : ℕ) (t : Bool) (b : ℕ)
    → (r : Bool) × (c : ℕ) × (plus_finite s a t b ≡ finite r c) × (int r c ≡ int s a +ℤ int t b) × (c ≡ 0 → r ≡ s && t)

abbrev pub TimesExact : Type 0
TimesExact = (s : Bool) (a : ℕ) (t : Bool) (b : ℕ) → int (unlike s t) (a * b) ≡ int s a *ℤ int t b

-- ---- what comparisons mean
-- finite values are the same where their numbers are, whatever the sign of zero; NaN is the same as nothing, and an infinity as itself
abbrev pub SameMeans : Type 0
SameMeans =
    ((s : Bool) (a : ℕ) (t : Bool) (b : ℕ)
    → (same (finite s a) (finite t b) ≡ true → int s a ≡ int t b) × (int s a ≡ int t b → same (finite s a) (finite t b) ≡ true))
    × ((v : Value) → (same nan v ≡ false) × (same v nan ≡ false))
    × ((s t : Bool) → same (infinite s) (infinite t) ≡ beq s t)
    × ((s t : Bool) (b : ℕ) → (same (infinite s) (finite t b) ≡ false) × (same (finite t b) (infinite s) ≡ false))

-- by magnitude; NaN is neither below nor above anything
abbrev pub LessMeans : Type 0
LessMeans =
    ((s : Bool) (a : ℕ) (t : Bool) (b : ℕ) → less_magnitude (finite s a) (finite t b) ≡ ltb a b)
    × ((v : Value) → (less_magnitude nan v ≡ false) × (less_magnitude v nan ≡ false))
    × ((s : Bool) (v : Value) → (less_magnitude (infinite s) v ≡ false) × (less_magnitude v (infinite s) ≡ is_finite v))

-- ---- answers: a refusal's number is its own, and where a call is carried out it is 0 (R8.2), whatever values it hands back
abbrev pub AnswerNumbers : Type 1
AnswerNumbers =
    (A : Type 0)
    → ((n : ℕ) → (refusal_of {A = A} (refused n) ≡ n) × (is_done {A = A} (refused n) ≡ false))
    × ((a : A) → (refusal_of (done a) ≡ 0) × (is_done (done a) ≡ true))

-- ---- all of them: `proofs/Theorems.antt` proves this
abbrev pub All : Type 1
All =
    ClassDecodes × ClassBounded × LargerFirst × FlipBits × FlipNegates × PlusExact × TimesExact × SameMeans × LessMeans
    × AnswerNumbers
