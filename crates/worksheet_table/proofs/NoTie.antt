-- A rest that is a power of two is never lowered in the middle branch.
use Prim.Native.Nat.{ℕ, ◌+◌, ◌-◌, ◌*◌, ◌^◌, ◌≤◌, ◌<◌}
use mathlib.Core.Path.{◌≡◌, refl, sym, ap, ap₂, ◌∙◌, subst}
use mathlib.Core.Bool.{Bool, true, false, not, ◌&&◌}
use native.Mathlib.Nat.{one-mul, le-mul_of_pos_right, lt_of_le_of_lt, le_of_eq}
use native.Mathlib.Decide.{dec_le}
use native.Mathlib.Omega.{arith}
use lib.Dec.{T}
use lib.Pow.{pow-add, pow_mono, pow_pos}
use Rattle.rounding_spec.specs.declared.Ties.TheVariants.{ToEven}
use Rattle.rounding_spec.specs.Format.{binary32, limit}
use Rattle.rounding_spec.specs.Nearest.{dist, Rep}
use Rattle.rounding_spec.specs.Value.{Value, finite, is_zero}
use Rattle.rounding_spec.proofs.Even.{half-to-even}
use Rattle.rounding_spec.proofs.Representable.{rep_zero}
use Rattle.rounding_spec.proofs.RoundValue.{round-below}
use Rattle.binary32_spec.specs.Steps.{sub_value, mul_value, sub_step, mul_step}
use Rattle.binary32_spec.proofs.Theorems.{sub-decodes, mul-decodes}
use Rattle.pattern_spec.specs.Comparisons.{same}
use Rattle.errorfree_spec.proofs.Factors as factors
use Rattle.errorfree_spec.proofs.Powers.{up_step, down_step, down-rounds}
use Rattle.errorfree_spec.proofs.Signed.{Is, rel-own, same-eq}
use Rattle.errorfree_spec.proofs.Steps.{to_even, is-sub, mul-positive}
use Rattle.pattern_spec.specs.Classes.{copy_sign}
use Rattle.worksheet_spec.specs.Constants.{two_to_24, two_to_minus_24, two_to_minus_126}
use Rattle.worksheet_spec.specs.Lines.{value, equal, is_zero_pattern}
use Rattle.worksheet_spec.specs.Sheets.{rest_tie}
use Rattle.worksheet_spec.proofs.Patterns.{sign-value}
use Rattle.worksheet_spec.proofs.Constants.{up-value, down-value, lowest-value}

pub rep-power : (j : ℕ) → Rep 24 0 (2 ^ j)
rep-power j = record { e = j; m = 1; low = omega arith; small = omega arith; is = sym (one-mul (2 ^ j)) }

-- ---- at most half of a scaled u goes to zero
small-zero : (d : ℕ) → d ≤ 2 ^ 23 → to_even binary32 (2 ^ 125 * d) ≡ 0
small-zero d h = by (to_even binary32 (2 ^ 125 * d)) refl ((down-rounds binary32 (omega arith) d).best 0 rep_zero)
  where
    by : (q : ℕ) → to_even binary32 (2 ^ 125 * d) ≡ q → dist (q * 2 ^ 24) d ≤ dist 0 d → to_even binary32 (2 ^ 125 * d) ≡ 0
    by q e b =
        elim (dec_le (2 ^ 23) d) [
          | yes g ↦ let f : d ≡ 2 ^ 23 = omega arith in half-to-even 23 149 (2 ^ 125 * d) (ap (λ (w : ℕ). 2 * (2 ^ 125 * w)) f)
          | no g ↦ let f : q ≡ 0 = omega arith in e ∙ f
        ]

-- ---- the lines of the middle branch
module _ (B : ℕ) (t : Bool) where
  abbrev β : ℕ
  β = mul_step two_to_minus_24 B

  abbrev r : ℕ
  r = sub_step (mul_step two_to_24 β) B

  β-is : (d : ℕ) → value B ≡ finite t d → value β ≡ mul_value binary32 (factors.unscale binary32) (finite t d)
  β-is d e = mul-decodes two_to_minus_24 B ∙ ap₂ (mul_value binary32) down-value e

  zero-limit : 0 < limit binary32
  unfolding limit
  zero-limit = pow_pos 277

  low-rest : (d : ℕ) → value B ≡ finite t d → d ≤ 2 ^ 23 → rest_tie β r ≡ false
  unfolding rest_tie
  low-rest d e h =
      let q = small-zero d h in
      let v : value β ≡ finite t 0 = β-is d e ∙ mul-positive binary32 (2 ^ 125) t d ∙ round-below ToEven binary32 t (2 ^ 125 * d) (lt_of_le_of_lt (le_of_eq q) zero-limit) ∙ ap (finite t) q in
      ap (λ (w : Value). not (is_zero w) && equal r (copy_sign two_to_minus_126 β)) v

  -- multiples of a scaled u are scaled exactly
  high-rest : (m : ℕ) → Rep 24 0 m → Rep 24 0 (m * 2 ^ 24) → m * 2 ^ 24 < limit binary32 → value B ≡ finite t (m * 2 ^ 24) → rest_tie β r ≡ false
  unfolding rest_tie
  high-rest m rep rep' b e = none (not (is_zero_pattern β)) (equal r (copy_sign two_to_minus_126 β)) (never (equal r (copy_sign two_to_minus_126 β)) refl)
    where
      v : value β ≡ finite t m
      v = β-is (m * 2 ^ 24) e ∙ down_step binary32 (omega arith) t m rep (lt_of_le_of_lt (le-mul_of_pos_right m (pow_pos 24)) b)

      w : value (mul_step two_to_24 β) ≡ finite t (m * 2 ^ 24)
      w = mul-decodes two_to_24 β ∙ ap₂ (mul_value binary32) up-value v ∙ up_step binary32 t m 24 rep' b

      d : ℕ
      d = m * 2 ^ 24

      difference : Value
      difference = sub_value binary32 (finite t d) (finite t d)

      r-is : value r ≡ difference
      r-is = sub-decodes (mul_step two_to_24 β) B ∙ ap₂ (sub_value binary32) w e

      nothing : Is t difference (d + 0) (0 + d)
      nothing =
          let z : dist (d + 0) (0 + d) ≡ 0 = omega arith in
          is-sub binary32 t (finite t d) (finite t d) d 0 d 0 (rel-own t d) (rel-own t d) (rw z rep_zero) (rw z (zero-limit))

      never : (c : Bool) → equal r (copy_sign two_to_minus_126 β) ≡ c → equal r (copy_sign two_to_minus_126 β) ≡ false
      never false k = k
      never true k = absurd (omega (
        arith,
        same-eq t difference (finite t (2 ^ 23)) (d + 0) (0 + d) (2 ^ 23) 0 nothing (rel-own t (2 ^ 23))
            (subst T (sym (sym (ap₂ same r-is (sign-value β t m v two_to_minus_126 (2 ^ 23) (omega arith) lowest-value)) ∙ k)) tt),
      ))

      none : (i j : Bool) → j ≡ false → i && j ≡ false
      none true j h = h
      none false j h = refl

  pub power-rest : (k : ℕ) → value B ≡ finite t (2 ^ k) → 2 ^ k < limit binary32 → rest_tie β r ≡ false
  power-rest k e b =
      elim (dec_le k 23) [
        | yes g ↦ low-rest (2 ^ k) e (pow_mono {j = 23} g)
        | no g ↦
            let f : 2 ^ k ≡ 2 ^ (k - 24) * 2 ^ 24 = ap (λ (w : ℕ). 2 ^ w) (let z : k ≡ k - 24 + 24 = omega arith in z) ∙ pow-add 2 (k - 24) 24 in
            high-rest (2 ^ (k - 24)) (rep-power (k - 24)) (rw (← f) (rep-power k)) (rw (← f) b) (e ∙ ap (finite t) f)
      ]
