-- Products with zero and with powers of two that are exact, and numbers less one u.
use mathlib.Core.Path.{◌≡◌, sym, ap, ap₂, ◌∙◌}
use mathlib.Core.Bool.{Bool, true, false}
use Prim.Native.Nat.{ℕ, ◌+◌, ◌*◌, ◌^◌, ◌<◌}
use native.Mathlib.Nat.{add_comm, mul_comm, mul_assoc, zero-mul}
use native.Mathlib.Omega.{arith}
use Rattle.rounding_spec.specs.Format.{binary32, limit}
use Rattle.rounding_spec.specs.Nearest.{Rep}
use Rattle.rounding_spec.specs.Value.{finite, is_finite}
use Rattle.rounding_spec.proofs.Multiple.{joined}
use Rattle.pattern_spec.specs.Classes.{copy_sign}
use Rattle.binary32_spec.specs.Steps.{mul_value, sub_value, mul_step}
use Rattle.binary32_spec.specs.Marks.{mul_mark}
use Rattle.binary32_spec.proofs.Theorems.{sub-decodes, mul-decodes}
use Rattle.errorfree_spec.proofs.Halved.{half_step}
use Rattle.errorfree_spec.proofs.NoNumber.{number-of}
use Rattle.errorfree_spec.proofs.Powers.{up_step}
use Rattle.errorfree_spec.proofs.Signed.{Is}
use Rattle.errorfree_spec.proofs.Steps.{zero-times}
use Rattle.worksheet_spec.specs.Constants.{half, plus_zero, smallest}
use Rattle.worksheet_spec.specs.Lines.{value}
use Rattle.worksheet_spec.specs.Sheets.{lowered, lowering}
use Rattle.worksheet_spec.proofs.Constants.{half-value, zero-value, smallest-value}
use Rattle.worksheet_spec.proofs.Patterns.{sign-value}
use Rattle.worksheet_marks.proofs.Exactness.{is-of, is-own, sub-exact, factor-exact}

-- (+0)·x
pub zero-exact : (x : ℕ) → is_finite (value x) ≡ true → mul_mark plus_zero x ≡ 0
zero-exact x f =
    let p = number-of (value x) f in
    factor-exact plus_zero x 0 p.0 p.1 0 zero-value p.2 (mul-decodes plus_zero x ∙ ap₂ (mul_value binary32) zero-value p.2 ∙ zero-times binary32 p.0 p.1)
    (zero-mul (2 ^ 149) ∙ sym (zero-mul p.1))

-- 2^k·x
pub up-exact : (c k x : ℕ) (s : Bool) (a : ℕ) → value c ≡ finite false (2 ^ (149 + k)) → value x ≡ finite s a → Rep 24 0 (a * 2 ^ k) → a * 2 ^ k < limit binary32
    → (value (mul_step c x) ≡ finite s (a * 2 ^ k)) × (mul_mark c x ≡ 0)
up-exact c k x s a ci xi rep fine =
    let v = mul-decodes c x ∙ ap₂ (mul_value binary32) ci xi ∙ up_step binary32 s a k rep fine in
    (v, factor-exact c x (2 ^ (149 + k)) s a (a * 2 ^ k) ci xi v (joined a k 149 (149 + k) (add_comm k 149) ∙ mul_comm a (2 ^ (149 + k))))

-- ½·x, of 2 * H units
pub half-exact : (x : ℕ) (s : Bool) (X H : ℕ) → value x ≡ finite s X → X ≡ 2 * H → Rep 24 0 H → H < limit binary32 → (value (mul_step half x) ≡ finite s H) × (mul_mark half x ≡ 0)
half-exact x s X H xi e rep fine =
    let i = xi ∙ ap (finite s) e in
    let v = mul-decodes half x ∙ ap₂ (mul_value binary32) half-value i ∙ half_step binary32 (omega arith) s H rep fine in
    (v, factor-exact half x (2 ^ 148) s (2 * H) H half-value i v (mul_comm H (2 ^ 149) ∙ mul_assoc (2 ^ 148) 2 H))

-- ---- x less the u that has its sign (R5.8)
module _ (x : ℕ) (s : Bool) (m : ℕ) (xi : value x ≡ finite s m) where
  one-is : value (copy_sign smallest x) ≡ finite s 1
  one-is = sign-value x s m xi smallest 1 (omega arith) smallest-value

  pub lowered_is : (p n : ℕ) → Is s (sub_value binary32 (finite s m) (finite s 1)) p n → Is s (value (lowered x)) p n
  unfolding lowered
  lowered_is p n h =
      is-of s (value (lowered x)) (sub_value binary32 (finite s m) (finite s 1)) p n (sub-decodes x (copy_sign smallest x) ∙ ap₂ (sub_value binary32) xi one-is) h

  pub lowered-exact : (p n : ℕ) → Is s (sub_value binary32 (finite s m) (finite s 1)) p n → p + 1 ≡ m + n → (lowering x).mark ≡ 0
  unfolding lowering lowered
  lowered-exact p n h e =
      sub-exact s x (copy_sign smallest x) m 0 1 0 p n (is-own s (value x) m xi) (is-own s (value (copy_sign smallest x)) 1 one-is) (lowered_is p n h) (omega arith)
