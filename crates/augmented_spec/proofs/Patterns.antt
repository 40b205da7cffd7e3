-- What the pattern of a half shows: infinite or finite, and zero, which takes another sign.
use mathlib.Core.Path.{◌≡◌, refl, sym, ap, ◌∙◌}
use mathlib.Core.Bool.{Bool, true, false, cond}
use Prim.Native.Nat.{ℕ, ◌<◌}
use native.Mathlib.Nat.{lt_irrefl}
use native.Mathlib.Omega.{arith}
use lib.Dec.{eqb}
use borrow.Author.Tests.{eqb-true}
use Rattle.rounding_spec.specs.Format.{binary32, limit}
use Rattle.rounding_spec.specs.Nearest.{Rep}
use Rattle.rounding_spec.specs.Value.{Value, infinite, finite, Fits, decode, signed, bits, encode, is_infinite, is_zero}
use Rattle.rounding_spec.proofs.Bits.{bits_at}
use Rattle.rounding_spec.proofs.Codec.{decode-encode}
use Rattle.pattern_spec.specs.Classes.{zero_pattern}
use Rattle.augmented_spec.specs.Pairs.{zero_takes}

-- ---- infinite or finite
pub infinite-shows : (s : Bool) → is_infinite (decode binary32 (encode binary32 (infinite s))) ≡ true
unfolding Fits
infinite-shows s = ap is_infinite (decode-encode binary32 (omega arith) (infinite s) tt)

finite-back : (s : Bool) (a : ℕ) → Rep 24 0 a → a < limit binary32 → decode binary32 (encode binary32 (finite s a)) ≡ finite s a
unfolding Fits
finite-back s a rep below = decode-encode binary32 (omega arith) (finite s a) (rep, below)

pub finite-shows : (s : Bool) (a : ℕ) → Rep 24 0 a → a < limit binary32 → is_infinite (decode binary32 (encode binary32 (finite s a))) ≡ false
finite-shows s a rep below = ap is_infinite (finite-back s a rep below)

-- ---- zero
bits_none : bits 23 0 ≡ 0
bits_none = bits_at 23 0 0 (omega arith) (λ (h : 0 < 0). absurd (lt_irrefl 0 h))

zero-encodes : (q : Bool) → encode binary32 (finite q 0) ≡ signed binary32 q 0
unfolding encode
zero-encodes q = ap (signed binary32 q) bits_none

-- a zero's pattern with the sign s is that of the zero with the sign s
pub zero_pattern_lem : (s r : Bool) (a : ℕ) → Rep 24 0 a → a < limit binary32 → zero_pattern s (encode binary32 (finite r a)) ≡ encode binary32 (zero_takes s (finite r a))
unfolding zero_takes
zero_pattern_lem s r a rep below =
    ap (λ (v : Value). cond (is_zero v) (signed binary32 s 0) (encode binary32 (finite r a))) (finite-back r a rep below)
    ∙ by (eqb a 0) refl
  where
    by : (b : Bool) → eqb a 0 ≡ b → cond b (signed binary32 s 0) (encode binary32 (finite r a)) ≡ encode binary32 (finite (cond b s r) a)
    by true e = sym (ap (λ (x : ℕ). encode binary32 (finite s x)) (eqb-true a 0 e) ∙ zero-encodes s)
    by false e = refl
