-- The sum of two operands whose exponents are far apart is the larger one.
use mathlib.Core.Path.{◌≡◌, refl, sym, ap, ◌∙◌}
use mathlib.Core.Logic.{inl, inr}
use mathlib.Core.Bool.{Bool}
use Prim.Native.Nat.{ℕ, suc, ◌+◌, ◌-◌, ◌*◌, ◌^◌, ◌≤◌, ◌<◌}
use native.Mathlib.Nat.{le_trans, le_of_eq, lt_of_lt_of_le, add-mul, mul-le-mul_right, mul-lt-mul_of_pos_right, eq_of_mul-eq-mul_right}
use native.Mathlib.Omega.{arith}
use lib.Pow.{pow-add, pow_pos, pow_mono}
use Rattle.rounding_spec.specs.declared.Ties.{Ties}
use Rattle.rounding_spec.specs.Format.{binary32, limit}
use Rattle.rounding_spec.specs.Round.{rounded}
use Rattle.rounding_spec.specs.Nearest.{dist}
use Rattle.rounding_spec.specs.Value.{Value, finite, round_finite, round}
use Rattle.rounding_spec.proofs.Multiple.{joined, sub-mul}
use Rattle.rounding_spec.proofs.Rounded.{rounded-near}
use Rattle.rounding_spec.proofs.RoundValue.{round-below}
use Rattle.rounding_spec.proofs.Spacing.{near-spaced}
use Rattle.pattern_spec.specs.Exact.{plus, finer}
use Rattle.pattern_spec.specs.Inner.{Operand}
use Rattle.pattern_spec.proofs.Sums.{like?, sum_same, sum_left}

-- n * 2 ^ d is below a quarter of 2 ^ e
quarter : (n d e L : ℕ) → n < 2 ^ 24 → d + 26 ≤ e → 2 ≤ L → n * 2 ^ d * 2 ^ L < 2 ^ (e + (L - 2))
quarter n d e L h g l =
    lt_of_lt_of_le (le_trans (le_of_eq (ap suc (joined n d L (d + L) refl))) (mul-lt-mul_of_pos_right h (pow_pos (d + L))))
    (le_trans (le_of_eq (sym (pow-add 2 24 (d + L)))) (pow_mono (let z : 24 + (d + L) ≤ e + (L - 2) = omega arith in z)))

module _ (w : Ties) (m e : ℕ) (o : Operand m e) (pos : 0 < e) where
  below-limit : m * 2 ^ e < limit binary32
  unfolding limit
  below-limit =
      lt_of_lt_of_le (mul-lt-mul_of_pos_right o.sig (pow_pos e))
      (le_trans (le_of_eq (sym (pow-add 2 24 e))) (pow_mono {j = 277} (let b = o.exp in let z : 24 + e ≤ 277 = omega arith in z)))

  -- what is less than a quarter of the last place away rounds to the operand
  near-operand : (s : Bool) (N : ℕ) → dist (m * 2 ^ e * 2 ^ 149) N < 2 ^ (e + 147) → round_finite w binary32 s N ≡ finite s (m * 2 ^ e)
  near-operand s N h =
      let at : m * 2 ^ e * 2 ^ 149 ≡ m * 2 ^ suc (suc (e + 147)) = joined m e 149 (suc (suc (e + 147))) (omega arith) in
      let a = near-spaced m (e + 147) (rounded-near w 23 149 N) (o.leads pos) o.sig (omega arith) (le_trans (le_of_eq (ap (λ (x : ℕ). suc (dist x N)) (sym at))) h) in
      let r : rounded w 23 149 N ≡ m * 2 ^ e = eq_of_mul-eq-mul_right (2 ^ 149) (pow_pos 149) (rounded w 23 149 N) (m * 2 ^ e) (a ∙ sym at) in
      round-below w binary32 s N (le_trans (le_of_eq (ap suc r)) below-limit) ∙ ap (finite s) r

dist-plus : (A B : ℕ) → dist A (A + B) ≡ B
dist-plus A B = omega arith

dist-minus : (A B : ℕ) → B ≤ A → dist A (A - B) ≡ B
dist-minus A B h = omega arith

pub far-below : (m e n d : ℕ) → Operand m e → Operand n d → d + 26 ≤ e → n * 2 ^ d < m * 2 ^ e
far-below m e n d o p g =
    lt_of_lt_of_le (mul-lt-mul_of_pos_right p.sig (pow_pos d))
    (le_trans (le_of_eq (sym (pow-add 2 24 d)))
    (le_trans (pow_mono (let z : 24 + d ≤ 23 + e = omega arith in z)) (le_trans (le_of_eq (pow-add 2 23 e)) (mul-le-mul_right (2 ^ e) (o.leads (omega arith))))))

pub far-sum : (w : Ties) (s : Bool) (m e : ℕ) (t : Bool) (n d : ℕ) → Operand m e → Operand n d → d + 26 ≤ e
    → round w binary32 (finer binary32 (plus (finite s (m * 2 ^ e)) (finite t (n * 2 ^ d)))) ≡ finite s (m * 2 ^ e)
unfolding round plus finer
far-sum w s m e t n d o p g =
    let A = m * 2 ^ e in
    let B = n * 2 ^ d in
    let P = 2 ^ 149 in
    let small = quarter n d e 149 p.sig g (omega arith) in
    let below = far-below m e n d o p g in
    elim (like? s t) [
      | inl q ↦ ap (λ (v : Value). round w binary32 (finer binary32 v)) (sum_same s A t B q)
          ∙ near-operand w m e o (omega arith) s ((A + B) * P) (le_trans (le_of_eq (ap suc (ap (dist (A * P)) (add-mul A B P) ∙ dist-plus (A * P) (B * P)))) small)
      | inr q ↦ ap (λ (v : Value). round w binary32 (finer binary32 v)) (sum_left s A t B q below)
          ∙ near-operand w m e o (omega arith) s ((A - B) * P) (le_trans
          (le_of_eq (ap suc (ap (dist (A * P)) (sub-mul A B P) ∙ dist-minus (A * P) (B * P) (mul-le-mul_right P (let z : B ≤ A = omega arith in z))))) small)
    ]
