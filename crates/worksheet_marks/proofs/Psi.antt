-- ψ·a of a finite a is exact only where a is zero or a power of two that is not small.
use mathlib.Core.Path.{◌≡◌, refl, sym, ap, ap₂, ◌∙◌, subst}
use mathlib.Core.Logic.{◌⊎◌, inl, inr}
use mathlib.Core.Bool.{Bool, true, false, cond}
use Prim.Native.Nat.{ℕ, zero, suc, ◌+◌, ◌-◌, ◌*◌, ◌^◌, ◌<◌}
use native.Mathlib.Nat.{mul_assoc, mul-one, mul-zero, mul_left_comm, mul_right_comm, pow-succ', eq_of_mul-eq-mul_right}
use native.Mathlib.Decide.{dec_le}
use native.Mathlib.Omega.{arith}
use borrow.Author.Tests.{eqb-true, eq-eqb}
use lib.Dec.{eqb}
use lib.Pow.{pow-add, pow_pos}
use Rattle.rounding_spec.specs.declared.Ties.TheVariants.{ToEven}
use Rattle.rounding_spec.specs.Format.{binary32}
use Rattle.rounding_spec.specs.Nearest.{Rep}
use Rattle.rounding_spec.specs.Value.{finite, Fits, is_finite}
use Rattle.rounding_spec.proofs.Codec.{decode-fits}
use Rattle.rounding_spec.proofs.NearLaws.{near-exact}
use Rattle.rounding_spec.proofs.Representable.{rep_zero}
use Rattle.rounding_spec.proofs.RoundValue.{round-below}
use Rattle.rounding_spec.proofs.Scaled.{rounded-rep}
use Rattle.binary32_spec.specs.Steps.{mul_value, mul_step}
use Rattle.binary32_spec.specs.Marks.{mul_mark}
use Rattle.binary32_spec.proofs.Theorems.{mul-decodes}
use Rattle.errorfree_spec.proofs.Recomposed.{psi-finite}
use Rattle.errorfree_spec.proofs.Steps.{to_even, even-at, fine_of, mul-positive}
use Rattle.worksheet_spec.specs.Constants.{psi}
use Rattle.worksheet_spec.specs.Lines.{value}
use Rattle.worksheet_spec.proofs.Constants.{psi-value}
use Rattle.worksheet_marks.specs.Theorems.{PsiMark}
use Rattle.worksheet_marks.proofs.Exactness.{factor-where}

-- 2 ^ 24 - 1 times q is a number of the format only where q is a power of two: 2 ^ 24 - 1 is odd, and has all the digits
power : (f q M : ℕ) → 16777215 * q ≡ M * 2 ^ f → M < 16777216 → (q ≡ 0) ⊎ (q ≡ 2 ^ f)
power zero q M e h =
    let k : 16777215 * q ≡ M = e ∙ mul-one M in
    elim (dec_le 1 q) [ yes g ↦ inr (let z : q ≡ 1 = omega arith in z) | no g ↦ inl (let z : q ≡ 0 = omega arith in z) ]
power (suc f) q M e h =
    let k : 16777215 * q ≡ 2 * (M * 2 ^ f) = e ∙ ap (λ (i : ℕ). M * i) (pow-succ' 2 f) ∙ mul_left_comm M 2 (2 ^ f) in
    let half = halve q (M * 2 ^ f) k in
    elim (power f half.0 M half.2 h) [
      | inl z ↦ inl (half.1 ∙ ap (λ (i : ℕ). 2 * i) z)
      | inr z ↦ inr (half.1 ∙ ap (λ (i : ℕ). 2 * i) z ∙ sym (pow-succ' 2 f))
    ]
  where
    halve : (q X : ℕ) → 16777215 * q ≡ 2 * X → (h : ℕ) × (q ≡ 2 * h) × (16777215 * h ≡ X)
    halve q X e = let h = 8388608 * q - X in let k : q ≡ 2 * h = omega arith in (h, k, omega arith)

-- so of an exact product
from-product : (A Z : ℕ) → 16777215 * A ≡ Z * 16777216 → Rep 24 0 Z → (A ≡ 0) ⊎ ((k : ℕ) × (A ≡ 2 ^ (24 + k)))
from-product A Z e r =
    let q = A - Z in
    let a : A ≡ 16777216 * q = omega arith in
    let z : 16777215 * q ≡ Z = omega arith in
    elim (power r.e q r.m (z ∙ r.is) r.small) [
      | inl n ↦ inl (a ∙ ap (λ (i : ℕ). 16777216 * i) n)
      | inr n ↦ inr (r.e, a ∙ ap (λ (i : ℕ). 16777216 * i) n ∙ sym (pow-add 2 24 r.e))
    ]

-- ---- ψ is C units of u
abbrev C : ℕ
C = 16777215 * 2 ^ 125

exact-of : (A Z : ℕ) → C * A ≡ Z * 2 ^ 149 → 16777215 * A ≡ Z * 16777216
exact-of A Z e =
    eq_of_mul-eq-mul_right (2 ^ 125) (pow_pos 125) (16777215 * A) (Z * 16777216) (mul_right_comm 16777215 A (2 ^ 125) ∙ e ∙ sym (mul_assoc Z 16777216 (2 ^ 125)))

of-power : (k : ℕ) → C * 2 ^ (24 + k) ≡ 16777215 * 2 ^ k * 2 ^ 149
of-power k =
    ap (λ (i : ℕ). C * i) (pow-add 2 24 k) ∙ sym (mul_assoc C 16777216 (2 ^ k))
    ∙ ap (λ (i : ℕ). i * 2 ^ k) (mul_assoc 16777215 (2 ^ 125) 16777216) ∙ mul_right_comm 16777215 (2 ^ 149) (2 ^ k)

module _ (a : ℕ) (s : Bool) (A : ℕ) (ai : value a ≡ finite s A) where
  abbrev Z : ℕ
  Z = to_even binary32 (C * A)

  z-is : value (mul_step psi a) ≡ finite s Z
  z-is =
      let v = mul-decodes psi a ∙ ap₂ (mul_value binary32) psi-value ai in
      let step = v ∙ mul-positive binary32 C s A in
      let f = psi-finite binary32 (omega arith) s A (subst (Fits binary32) ai (decode-fits binary32 (omega arith) a)) in
      step ∙ round-below ToEven binary32 s (C * A) (fine_of binary32 s (C * A) (sym (ap is_finite step) ∙ ap is_finite v ∙ f))

  mark-is : mul_mark psi a ≡ cond (eqb (Z * 2 ^ 149) (C * A)) 0 1
  mark-is = factor-where psi a C s A Z psi-value ai z-is (eqb (Z * 2 ^ 149) (C * A)) (eqb-true (Z * 2 ^ 149) (C * A)) (eq-eqb (Z * 2 ^ 149) (C * A))

  forth : mul_mark psi a ≡ 0 → (A ≡ 0) ⊎ ((k : ℕ) × (A ≡ 2 ^ (24 + k)))
  forth h =
      from-product A Z (exact-of A Z (sym (eqb-true (Z * 2 ^ 149) (C * A) (where-true (eqb (Z * 2 ^ 149) (C * A)) (sym mark-is ∙ h))))) (rounded-rep ToEven 23 149 (C * A))
    where
      where-true : (d : Bool) → ◌≡◌ {A = ℕ} (cond d 0 1) 0 → d ≡ true
      where-true true e = refl
      where-true false e = absurd (omega arith)

  -- a product that is a number of the format is not rounded
  kept : (c : ℕ) → C * A ≡ c * 2 ^ 149 → Rep 24 0 c → mul_mark psi a ≡ 0
  kept c e r =
      let k : Z ≡ c = ap (to_even binary32) e ∙ near-exact (even-at binary32 c) r in
      mark-is ∙ ap (λ (d : Bool). cond d 0 1) (eq-eqb (Z * 2 ^ 149) (C * A) (ap (λ (i : ℕ). i * 2 ^ 149) k ∙ sym e))

  back : (A ≡ 0) ⊎ ((k : ℕ) × (A ≡ 2 ^ (24 + k))) → mul_mark psi a ≡ 0
  back h =
      elim h [
        | inl n ↦ kept 0 (ap (λ (i : ℕ). C * i) n ∙ mul-zero C) rep_zero
        | inr n ↦ kept (16777215 * 2 ^ n.0) (ap (λ (i : ℕ). C * i) n.1 ∙ of-power n.0) (record { e = n.0; m = 16777215; low = omega arith; small = omega arith; is = refl })
      ]

pub psi-mark : PsiMark
psi-mark a s A ai = (forth a s A ai, back a s A ai)
