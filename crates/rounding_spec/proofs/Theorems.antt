-- The theorems of `specs/Theorems.antt`.
use mathlib.Core.Path.{◌≡◌, refl, sym, ap, ◌∙◌}
use Prim.Native.Nat.{ℕ, suc, ◌-◌, ◌*◌, ◌%◌, ◌^◌}
use native.Mathlib.Nat.{le_trans, le_of_eq, mul_assoc, eq_of_mul-eq-mul_right, le_of_mul-le-mul_right, pow-suc}
use native.Mathlib.Omega.{arith}
use mathlib.Core.Bool.{Bool, true, false}
use lib.Pow.{pow_pos}
use Rattle.rounding_spec.specs.Format.{Format, binary32, Proper, low, limit, ones, edge, sign_bit}
use Rattle.rounding_spec.specs.Round.{rounded}
use Rattle.rounding_spec.specs.Nearest.{dist}
use Rattle.rounding_spec.specs.Value.{finite, Fits, fields, magnitude, decode, signalling, signed, bits, encode}
use Rattle.rounding_spec.specs.Theorems.{Binary32Numbers, Nearest, TieToZero, TieToEven, TieNeighbour, TieToZeroUnique, HalfUnit, RulesDiffer, LeftOverIs, Exact, Monotone, Scaling, RoundToOdd}
use Rattle.rounding_spec.specs.Theorems.{OverflowRNe, OverflowRN0, NearestPattern, TieToEvenPattern, TieToZeroPattern, DecodeLandmarks, SignallingLandmarks, SignallingRange, QuietedIs, FirstNaN}
use Rattle.rounding_spec.specs.Theorems.{FormatNumbers, NaNRange, NaNOfQuiet, LargestFinite}
use Rattle.rounding_spec.specs.Theorems.{BitsOrder, DecodeEncode, EncodeDecode, DecodeFits, RoundFits, All}
use Rattle.rounding_spec.specs.declared.Ties.TheVariants.{ToEven, ToZero}
use Rattle.rounding_spec.proofs.Rounded.{rounded-near, rounded-near0, rounded-half, rounded-differ, rounded-exact, rounded-mono, rounded-scale}
use Rattle.rounding_spec.proofs.Even.{rounded-even, neighbour-odd}
use Rattle.rounding_spec.proofs.Sticky.{odd}
use Rattle.rounding_spec.proofs.Codec as codec
use Rattle.rounding_spec.proofs.LeftOver as left_over
use Rattle.rounding_spec.proofs.Signalling as quiet-bit
use Rattle.rounding_spec.proofs.NaN as not-a-number
use Rattle.rounding_spec.proofs.Bits.{magnitude-lt, magnitude-mono, magnitude-bits}
use Rattle.rounding_spec.proofs.NearLaws.{near0-one}
use Rattle.rounding_spec.proofs.RoundValue as values

pub binary32-numbers : Binary32Numbers
unfolding limit edge
binary32-numbers = (refl, refl, refl, refl, refl, refl, omega arith)

pub format-numbers : FormatNumbers
format-numbers F = (refl, omega arith, λ p q. omega arith)

pub nearest : Nearest
nearest = rounded-near

pub tie-to-zero : TieToZero
tie-to-zero = rounded-near0

pub tie-to-even : TieToEven
tie-to-even = rounded-even

pub tie-neighbour : TieNeighbour
tie-neighbour = neighbour-odd

pub tie-to-zero-unique : TieToZeroUnique
tie-to-zero-unique p l n a b = near0-one

pub half-unit : HalfUnit
half-unit = rounded-half

pub rules-differ : RulesDiffer
rules-differ = rounded-differ

pub left-over-is : LeftOverIs
left-over-is = left_over.left-over-is

pub exact : Exact
exact = rounded-exact

pub monotone : Monotone
monotone = rounded-mono

pub scaling : Scaling
scaling = rounded-scale

pub round-to-odd : RoundToOdd
round-to-odd = odd

pub overflow-rne : OverflowRNe
overflow-rne F ok s N = (λ h. values.round-above ToEven F s N (values.even-at-edge F ok N h), λ h. values.round-below ToEven F s N (values.under-edge F ok ToEven N h))

pub overflow-rn0 : OverflowRN0
overflow-rn0 F ok s N = (λ h. values.round-above ToZero F s N (values.over-edge F ok ToZero N h), λ h. values.round-below ToZero F s N (values.zero-at-edge F ok N h))

largest-magnitude : magnitude 23 0x7f7f_ffff ≡ (2 ^ 128 - 2 ^ 104) * 2 ^ 149
unfolding magnitude fields
largest-magnitude = refl

pub nearest-pattern : NearestPattern
nearest-pattern t F ok s N a e x r b d =
    rw (values.round-finite t F s N s a e) ((rounded-near t F.fraction (low F) N).best (b * 2 ^ low F) (codec.pattern-rep F ok.0 x r b d))

-- the sign bit leaves the last bit alone
signed-even : (F : Format) → Proper F → (s : Bool) (c : ℕ) → c % 2 ≡ 0 → signed F s c % 2 ≡ 0
signed-even F ok false c e = omega arith
signed-even F ok true c e =
    let p : 2 ^ F.fraction ≡ 2 ^ (F.fraction - 1) * 2 = ap (λ (x : ℕ). 2 ^ x) (let z : F.fraction ≡ suc (F.fraction - 1) = omega (arith, ok.0) in z) ∙ pow-suc 2 (F.fraction - 1) in
    let q : sign_bit F ≡ suc (ones F) * 2 ^ (F.fraction - 1) * 2 = ap (λ (x : ℕ). suc (ones F) * x) p ∙ sym (mul_assoc (suc (ones F)) (2 ^ (F.fraction - 1)) 2) in
    rw q (omega arith)

pub tie-to-even-pattern : TieToEvenPattern
unfolding encode
tie-to-even-pattern F ok s N a e x r b d ne eq =
    let is = values.round-finite ToEven F s N s a e in
    let far : b * 2 ^ low F ≡ rounded ToEven F.fraction (low F) N * 2 ^ low F
    → ⊥ = λ z. ne (eq_of_mul-eq-mul_right (2 ^ low F) (pow_pos (low F)) b (rounded ToEven F.fraction (low F) N) z ∙ sym is) in
    let even = rounded-even F.fraction (low F) N (b * 2 ^ low F) ok.0 (codec.pattern-rep F ok.0 x r b d) far (eq ∙ ap (λ (y : ℕ). dist (y * 2 ^ low F) N) is) in
    signed-even F ok s (bits F.fraction a) (ap (λ (y : ℕ). bits F.fraction y % 2) is ∙ even)

pub tie-to-zero-pattern : TieToZeroPattern
tie-to-zero-pattern F ok s N a e x r b d =
    rw (values.round-finite ToZero F s N s a e) (λ h. le_of_mul-le-mul_right ((rounded-near0 F.fraction (low F) N).tie (b * 2 ^ low F) (codec.pattern-rep F ok.0 x r b d) h) (pow_pos (low F)))

pub decode-landmarks : DecodeLandmarks
unfolding decode
decode-landmarks = (refl, refl, refl, refl, refl, refl, refl, refl, refl, refl)

pub nan-range : NaNRange
nan-range F x = (not-a-number.nan-above F x, not-a-number.above-nan F x)

pub signalling-landmarks : SignallingLandmarks
unfolding signalling
signalling-landmarks = (refl, refl, refl, refl, refl, refl, refl, refl, refl, refl, refl, refl)

pub signalling-range : SignallingRange
signalling-range = quiet-bit.signalling-range

pub quieted-is : QuietedIs
quieted-is = not-a-number.quieted-is

pub first-nan : FirstNaN
first-nan = not-a-number.first-nan

pub nan-of-quiet : NaNOfQuiet
nan-of-quiet = not-a-number.nan-of-quiet

pub largest-finite : LargestFinite
unfolding Fits
largest-finite x s a e =
    let fits : Fits binary32 (finite s a) = rw e at (codec.decode-fits binary32 (omega arith) x) in
    let below = codec.bits_below binary32 (omega arith) fits.0 fits.1 in
    let top : magnitude 23 0x7f7f_ffff ≡ (2 ^ 128 - 2 ^ 104) * 2 ^ 149 = largest-magnitude in
    le_trans (le_of_eq (sym (magnitude-bits 23 a fits.0))) (le_trans (magnitude-mono 23 (bits 23 a) 0x7f7f_ffff (omega arith)) (le_of_eq top))

pub bits-order : BitsOrder
bits-order = magnitude-lt

pub decode-encode : DecodeEncode
decode-encode F ok = codec.decode-encode F ok.0

pub encode-decode : EncodeDecode
encode-decode = codec.encode-decode

pub decode-fits : DecodeFits
decode-fits F ok = codec.decode-fits F ok.0

pub round-fits : RoundFits
round-fits = values.round-fits

-- ---- all of them
pub all : All
all = (
  binary32-numbers,
  format-numbers,
  nearest,
  tie-to-zero,
  tie-to-even,
  tie-neighbour,
  tie-to-zero-unique,
  half-unit,
  rules-differ,
  left-over-is,
  exact,
  monotone,
  scaling,
  round-to-odd,
  overflow-rne,
  overflow-rn0,
  nearest-pattern,
  tie-to-even-pattern,
  tie-to-zero-pattern,
  decode-landmarks,
  nan-range,
  signalling-landmarks,
  signalling-range,
  quieted-is,
  first-nan,
  nan-of-quiet,
  largest-finite,
  bits-order,
  decode-encode,
  encode-decode,
  decode-fits,
  round-fits,
)
