-- Patterns of a sheet and their values: steps, flips, constants with a sign; and from a value back to its pattern.
use mathlib.Core.Path.{◌≡◌, refl, sym, ap, ◌∙◌, subst}
use mathlib.Core.Logic.{◌≢◌, inl, inr}
use mathlib.Core.Bool.{Bool, true, false, not, cond}
use mathlib.Core.List.{[], ◌∷◌}
use Prim.Native.Nat.{ℕ, ◌*◌, ◌%◌, ◌<◌}
use native.Mathlib.Nat.{lt_of_le_of_lt, le_of_eq}
use native.Mathlib.Decide.{dec_le}
use native.Mathlib.Omega.{arith}
use borrow.Author.Tests.{le-leb, lt-leb}
use lib.Dec.{leb}
use Rattle.rounding_spec.specs.Format.{binary32, limit, infinity, sign_bit}
use Rattle.rounding_spec.specs.Nearest.{Rep}
use Rattle.rounding_spec.specs.Value.{Value, nan, finite, Fits, is_finite, unsigned, decode, encode}
use Rattle.rounding_spec.proofs.Codec.{decode-fits, unsigned-finite, unsigned-infinite, unsigned-nan, encode-decode}
use Rattle.rounding_spec.proofs.Compare.{tri}
use Rattle.pattern_spec.specs.Exact.{negate}
use Rattle.binary32_spec.specs.Steps.{add_step, sub_step, mul_step, fma_step}
use Rattle.pattern_spec.proofs.Classified.{decode-flip}
use Rattle.binary32_spec.proofs.Result.{result-width, add-fits, sub-fits, mul-fits, fma-fits, add_step_lem, sub-step, mul-step, fma-step}
use Rattle.pattern_spec.specs.Classes.{copy_sign}
use Rattle.errorfree_spec.proofs.NoNumber.{number-of}
use Rattle.worksheet_spec.specs.Lines.{value, minus}

-- ---- a pattern of 32 bits
abbrev pub Pattern : ℕ → Type 0
Pattern x = x < 2 * sign_bit binary32

pub add-width : (x y : ℕ) → Pattern (add_step x y)
add-width x y = lt_of_le_of_lt (le_of_eq (add_step_lem x y)) (result-width binary32 (x ∷ y ∷ []) (omega arith) _ (add-fits binary32 (value x) (value y)))

pub sub-width : (x y : ℕ) → Pattern (sub_step x y)
sub-width x y = lt_of_le_of_lt (le_of_eq (sub-step x y)) (result-width binary32 (x ∷ y ∷ []) (omega arith) _ (sub-fits binary32 (value x) (value y)))

pub mul-width : (x y : ℕ) → Pattern (mul_step x y)
mul-width x y = lt_of_le_of_lt (le_of_eq (mul-step x y)) (result-width binary32 (x ∷ y ∷ []) (omega arith) _ (mul-fits binary32 (value x) (value y)))

pub fma-width : (x y z : ℕ) → Pattern (fma_step x y z)
fma-width x y z =
    lt_of_le_of_lt (le_of_eq (fma-step x y z)) (result-width binary32 (x ∷ y ∷ z ∷ []) (omega arith) _ (fma-fits binary32 (value x) (value y) (value z)))

-- ---- its value with the other sign
pub minus-value : (x : ℕ) → Pattern x → value (minus x) ≡ negate (value x)
minus-value x h = decode-flip binary32 x h

pub negate-finite : (s : Bool) (a : ℕ) → negate (finite s a) ≡ finite (not s) a
unfolding negate
negate-finite s a = refl

pub minus-width : (x : ℕ) → Pattern x → Pattern (minus x)
minus-width x h = elim (dec_le (sign_bit binary32) x)
    [ yes g ↦ rw (le-leb (sign_bit binary32) x g) (omega arith) | no g ↦ let k : x < sign_bit binary32 = omega arith in rw (lt-leb (sign_bit binary32) x k) (omega arith) ]

-- ---- a pattern that is no NaN is read back from its value
pub pattern-of : (x : ℕ) (v : Value) → Pattern x → value x ≡ v → v ≢ nan → x ≡ encode binary32 v
pattern-of x v w e n = sym (encode-decode binary32 x w (λ z. n (sym e ∙ z))) ∙ ap (encode binary32) e

-- ---- the number of a finite pattern
pub number_at : (x : ℕ) → is_finite (value x) ≡ true → (s : Bool) × (a : ℕ) × (value x ≡ finite s a) × Rep 24 0 a × (a < limit binary32)
unfolding Fits
number_at x f =
    let p = number-of (value x) f in
    let k = subst (Fits binary32) p.2 (decode-fits binary32 (omega arith) x) in
    (p.0, p.1, p.2, k.0, k.1)

-- ---- a constant with a's sign
unsigned-sign : (b s : Bool) (c A : ℕ) → unsigned binary32 b c ≡ finite s A → b ≡ s
unsigned-sign b s c A e =
    elim (tri c (infinity binary32)) [
      | inl h ↦ let z = unsigned-finite binary32 b c h in cc
      | inr o ↦ elim o [ inl h ↦ let z = unsigned-infinite binary32 b c h in cc | inr h ↦ let z = unsigned-nan binary32 b c h in cc ]
    ]

pub sign-value : (a : ℕ) (s : Bool) (A : ℕ) → value a ≡ finite s A → (c m : ℕ) → Pattern c → value c ≡ finite false m → value (copy_sign c a) ≡ finite s m
sign-value a s A e c m w d = rw (sign e) (by s)
  where
    sign : value a ≡ finite s A → leb (sign_bit binary32) a ≡ s
    sign e = unsigned-sign (leb (sign_bit binary32) a) s (a % sign_bit binary32) A (unfold decode in e)

    by : (s : Bool) → value (cond s (minus c) c) ≡ finite s m
    by true = minus-value c w ∙ ap negate d ∙ negate-finite false m
    by false = d

pub sign-width : (a c : ℕ) → Pattern c → Pattern (copy_sign c a)
sign-width a c w = by (leb (sign_bit binary32) a)
  where
    by : (b : Bool) → Pattern (cond b (minus c) c)
    by true = minus-width c w
    by false = w
