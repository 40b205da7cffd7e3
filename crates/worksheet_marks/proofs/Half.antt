-- ½·a of a finite a is exact only where a is an even number of u.
use mathlib.Core.Path.{◌≡◌, sym, ap, ap₂, ◌∙◌, subst}
use mathlib.Core.Logic.{◌⊎◌, inl, inr}
use mathlib.Core.Bool.{Bool, false}
use Prim.Native.Nat.{ℕ, ◌*◌, ◌%◌, ◌/◌, ◌^◌, ◌≤◌, ◌<◌}
use native.Mathlib.Nat.{lt_of_le_of_lt, mul_assoc, mul_comm, mul-one, eq_of_mul-eq-mul_right}
use native.Mathlib.Decide.{dec_le, ℕ_discrete}
use native.Mathlib.Omega.{arith}
use lib.IntN.{ℤ, nat_abs, ◌*ℤ◌}
use lib.Ieee.{unlike}
use lib.Pow.{pow_pos}
use Rattle.rounding_spec.specs.Format.{binary32, limit}
use Rattle.rounding_spec.specs.Nearest.{Rep}
use Rattle.rounding_spec.specs.Value.{finite, Fits, is_finite}
use Rattle.rounding_spec.proofs.Codec.{decode-fits}
use Rattle.rounding_spec.proofs.Representable.{rep-half}
use Rattle.pattern_spec.specs.Exact.{int, whole}
use Rattle.pattern_spec.proofs.Integers.{int-size, times-exact}
use Rattle.augmented_spec.proofs.Distance.{scaled-size}
use Rattle.binary32_spec.specs.Steps.{mul_value, mul_step}
use Rattle.binary32_spec.specs.Marks.{mul_mark}
use Rattle.binary32_spec.specs.MarkTheorems.{Special, number_of, whole_product, IsExact}
use Rattle.binary32_spec.proofs.Theorems.{mul-decodes, mul-mark-means}
use Rattle.errorfree_spec.proofs.Halved.{half_step}
use Rattle.errorfree_spec.proofs.NoNumber.{not-both}
use Rattle.worksheet_spec.specs.Constants.{half}
use Rattle.worksheet_spec.specs.Lines.{value}
use Rattle.worksheet_spec.proofs.Constants.{half-value}
use Rattle.worksheet_marks.specs.Theorems.{HalfMark}
use Rattle.worksheet_marks.proofs.Exactness.{factor-exact}

-- an even number of the format is twice another
halves : (A : ℕ) → Rep 24 0 A → A % 2 ≡ 0 → (H : ℕ) × (A ≡ 2 * H) × Rep 24 0 H
halves A r e =
    elim (dec_le (2 ^ 24) A) [
      | yes h ↦ rep-half r h
      | no h ↦ (A / 2, let z : A ≡ 2 * (A / 2) = omega arith in z, record { e = 0; m = A / 2; low = omega arith; small = omega arith; is = sym (mul-one (A / 2)) })
    ]

module _ (a : ℕ) (s : Bool) (A : ℕ) (ai : value a ≡ finite s A) where
  abbrev r : ℕ
  r = mul_step half a

  fits : Fits binary32 (finite s A)
  fits = subst (Fits binary32) ai (decode-fits binary32 (omega arith) a)

  fits-rep : Rep 24 0 A × (A < limit binary32)
  unfolding Fits
  fits-rep = fits

  plain : ¬ (Special half ⊎ Special a)
  plain h = elim h [ inl k ↦ not-both (sym (ap is_finite half-value) ∙ k) | inr k ↦ not-both (sym (ap is_finite ai) ∙ k) ]

  -- the exact product
  product_is : whole_product half a ≡ int (unlike false s) (2 ^ 148 * A)
  product_is = ap₂ (λ (k l : ℤ). k *ℤ l) (ap whole half-value) (ap whole ai) ∙ sym (times-exact false (2 ^ 148) s A)

  even-mark : A % 2 ≡ 0 → mul_mark half a ≡ 0
  even-mark e =
      let h = halves A fits-rep.0 e in
      let H = h.0 in
      let is : value r ≡ finite s H = mul-decodes half a ∙ ap₂ (mul_value binary32) half-value (ai ∙ ap (finite s) h.1)
      ∙ half_step binary32 (omega arith) s H h.2 (below H h.1) in
      factor-exact half a (2 ^ 148) s A H half-value ai is (twice H ∙ ap (λ (k : ℕ). 2 ^ 148 * k) (sym h.1))
    where
      double-le : (H : ℕ) → A ≡ 2 * H → H ≤ A
      double-le H k = omega arith

      below : (H : ℕ) → A ≡ 2 * H → H < limit binary32
      below H k = lt_of_le_of_lt (double-le H k) fits-rep.1

      twice : (H : ℕ) → H * 2 ^ 149 ≡ 2 ^ 148 * (2 * H)
      twice H = mul_comm H (2 ^ 149) ∙ mul_assoc (2 ^ 148) 2 H

  odd-mark : A % 2 ≡ 1 → mul_mark half a ≡ 1
  odd-mark o = (mul-mark-means half a).one.1 (plain, λ l. lost (sizes l))
    where
      sizes : IsExact (whole_product half a) r → nat_abs (number_of r) * 2 ^ 149 ≡ 2 ^ 148 * A
      sizes l = sym (scaled-size (number_of r) (2 ^ 149)) ∙ ap nat_abs (l.1 ∙ product_is) ∙ int-size (unlike false s) (2 ^ 148 * A)

      contradiction : (n : ℕ) → n * 2 ≡ A → ⊥
      contradiction n k = omega arith

      lost : nat_abs (number_of r) * 2 ^ 149 ≡ 2 ^ 148 * A → ⊥
      lost e =
          let n = nat_abs (number_of r) in
          let k : n * 2 ≡ A = eq_of_mul-eq-mul_right (2 ^ 148) (pow_pos 148) (n * 2) A (mul_assoc n 2 (2 ^ 148) ∙ e ∙ mul_comm (2 ^ 148) A) in
          contradiction n k

pub half-mark : HalfMark
half-mark a s A ai =
    elim (ℕ_discrete (A % 2) 0) [
      | yes e ↦ even-mark a s A ai e ∙ sym e
      | no n ↦ let o : A % 2 ≡ 1 = omega arith in odd-mark a s A ai o ∙ sym o
    ]
