-- A flipped sign bit leaves the class of a pattern as it was: NaN, signalling or not.
use mathlib.Core.Path.{◌≡◌, sym, ap, ap₂, ◌∙◌}
use mathlib.Core.Bool.{◌&&◌}
use Prim.Native.Nat.{ℕ, suc, ◌+◌, ◌-◌, ◌*◌, ◌/◌, ◌%◌, ◌^◌, ◌<◌}
use native.Mathlib.Nat.{add-mul-div_right, mul_assoc, mul_comm, pow-suc, sub-add_cancel}
use native.Mathlib.Decide.{dec_le}
use native.Mathlib.Omega.{arith}
use borrow.Author.Tests.{le-leb, lt-leb}
use lib.Dec.{eqb}
use lib.Pow.{pow_pos}
use Rattle.rounding_spec.specs.Format.{Format, ones, sign_bit}
use Rattle.rounding_spec.specs.Value.{decode, is_nan, signalling}
use Rattle.pattern_spec.specs.Classes.{flip}
use Rattle.pattern_spec.proofs.Classified.{decode-flip, nan-negated}

-- ---- the fraction's highest bit
module _ (F : Format) (pos : 0 < F.fraction) where
  abbrev weight : ℕ
  weight = 2 ^ (F.fraction - 1)

  -- the sign bit is an even number of its weights
  sign-weights : sign_bit F ≡ suc (ones F) * 2 * weight
  sign-weights =
      let e : F.fraction ≡ suc (F.fraction - 1) = omega arith in
      ap (λ (k : ℕ). suc (ones F) * 2 ^ k) e ∙ ap (λ (k : ℕ). suc (ones F) * k) (pow-suc 2 (F.fraction - 1) ∙ mul_comm weight 2) ∙ sym (mul_assoc (suc (ones F)) 2 weight)

  bit_added : (x : ℕ) → (x + sign_bit F) / weight % 2 ≡ x / weight % 2
  bit_added x =
      let d : (x + sign_bit F) / weight ≡ x / weight + suc (ones F) * 2 = ap (λ (k : ℕ). (x + k) / weight) sign-weights ∙ add-mul-div_right x (suc (ones F) * 2) (pow_pos (F.fraction - 1)) in
      ap (λ (k : ℕ). k % 2) d ∙ omega arith

  bit-flipped : (x : ℕ) → flip F x / weight % 2 ≡ x / weight % 2
  bit-flipped x =
      elim (dec_le (sign_bit F) x) [
        | yes g ↦ rw (le-leb (sign_bit F) x g) (sym (bit_added (x - sign_bit F)) ∙ ap (λ (k : ℕ). k / weight % 2) (sub-add_cancel g))
        | no g ↦ rw (lt-leb (sign_bit F) x (omega arith)) (bit_added x)
      ]

  pub signalling-flipped : (x : ℕ) → x < 2 * sign_bit F → signalling F (flip F x) ≡ signalling F x
  unfolding signalling
  signalling-flipped x h = ap₂ ◌&&◌ (ap is_nan (decode-flip F x h) ∙ nan-negated (decode F x)) (ap (λ (k : ℕ). eqb k 0) (bit-flipped x))
