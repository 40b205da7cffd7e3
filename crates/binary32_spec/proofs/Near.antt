-- The sum of two operands whose exponents are near: both at the lower exponent, exactly; the pattern of an operand, and the mark of a sum
-- that is one.
use mathlib.Core.Path.{◌≡◌, refl, sym, ap, ap₂, ◌∙◌}
use mathlib.Core.Logic.{◌⊎◌, inl, inr}
use mathlib.Core.Bool.{Bool, true, false, cond}
use Prim.Native.Nat.{ℕ, ◌+◌, ◌-◌, ◌*◌, ◌%◌, ◌^◌, ◌≤◌, ◌<◌, min}
use native.Mathlib.Nat.{eq_of_mul-eq-mul_right}
use native.Mathlib.Decide.{ℕ_discrete}
use native.Mathlib.Omega.{arith}
use borrow.Author.Tests.{eq-eqb, ne_eqb}
use lib.Dec.{eqb}
use lib.Pow.{pow_pos}
use Rattle.rounding_spec.specs.declared.Ties.TheVariants.{ToEven}
use Rattle.rounding_spec.specs.Format.{binary32, infinity}
use Rattle.rounding_spec.specs.Value.{Value, finite, decode, signed, encode, bits, round_finite, round}
use Rattle.rounding_spec.specs.Inner.{packed}
use Rattle.rounding_spec.proofs.Multiple.{joined}
use Rattle.rounding_spec.proofs.Bits.{bits_at}
use Rattle.pattern_spec.specs.Exact.{plus_finite, plus, finer}
use Rattle.binary32_spec.specs.Inner.{outcome}
use Rattle.binary32_spec.proofs.Marks.{same_sign_lem, value-mark, same_outcome}
use Rattle.pattern_spec.specs.Inner.{Operand}
use Rattle.pattern_spec.specs.Comparisons.{same}
use Rattle.pattern_spec.proofs.Far.{far-below, far-sum}
use Rattle.pattern_spec.proofs.Sums.{like?, sum_same, sum_left, sum-scale, finer-sum}
use Rattle.pattern_spec.proofs.Exchanged.{plus_comm}
use Rattle.pattern_spec.proofs.Moved.{moved}
use Rattle.rounding_spec.proofs.Multiple.{digits-zero}

-- rounding of a sum of magnitudes at one exponent
pub round-sum-is : (s : Bool) (a : ℕ) (t : Bool) (b k : ℕ) (r : Bool) (c : ℕ) → plus_finite s a t b ≡ finite r c
    → outcome (finite r (c * 2 ^ k)) ≡ outcome (plus_finite s (a * 2 ^ k) t (b * 2 ^ k))
round-sum-is s a t b k r c e = ap outcome (sym (sum-scale s a t b (2 ^ k) (pow_pos k) r c e))

-- the addends exchanged
pub sum-chosen : (w : Bool) (x y : ℕ) → plus (decode binary32 (cond w y x)) (decode binary32 (cond w x y)) ≡ plus (decode binary32 x) (decode binary32 y)
sum-chosen true x y = plus_comm (decode binary32 x) (decode binary32 y)
sum-chosen false x y = refl

pub near-sum : (s : Bool) (m e : ℕ) (t : Bool) (n d : ℕ) → m < 2 ^ 24 → d ≤ e → e - d ≤ 39
    → outcome (plus_finite s (m * 2 ^ (e - d) % 2 ^ 64 * 2 ^ (d + 149)) t (n * 2 ^ (d + 149))) ≡ outcome (finer binary32 (plus (finite s (m * 2 ^ e)) (finite t (n * 2 ^ d))))
unfolding plus
near-sum s m e t n d h l g =
    let x : m * 2 ^ (e - d) % 2 ^ 64 * 2 ^ (d + 149) ≡ m * 2 ^ e * 2 ^ 149 =
    ap (λ (y : ℕ). y * 2 ^ (d + 149)) (moved m 24 (e - d) h (omega arith)).0 ∙ joined m (e - d) (d + 149) (e + 149) (omega arith) ∙ sym (joined m e 149 (e + 149) refl)
    in
    let y : n * 2 ^ (d + 149) ≡ n * 2 ^ d * 2 ^ 149 = sym (joined n d 149 (d + 149) refl) in
    ap outcome (ap₂ (λ (p q : ℕ). plus_finite s p t q) x y ∙ sym (finer-sum binary32 s (m * 2 ^ e) t (n * 2 ^ d)))

-- the pattern of an operand
operand-bits : (m e : ℕ) → Operand m e → bits 23 (m * 2 ^ e) ≡ e * 2 ^ 23 + m
operand-bits m e o = bits_at 23 e m (omega (arith, o.sig)) o.leads

pub operand-packed : (s : Bool) (m e : ℕ) → Operand m e → packed s e m ≡ encode binary32 (finite s (m * 2 ^ e))
unfolding encode
operand-packed s m e o =
    let below : min (infinity binary32) (e * 2 ^ 23 + m) ≡ e * 2 ^ 23 + m = omega (arith, o.sig, o.exp) in
    ap (signed binary32 s) (below ∙ sym (operand-bits m e o))

-- ---- exponents so far apart that the sum is the first operand: the second is lost unless it is zero
module _ (s : Bool) (m e : ℕ) (t : Bool) (n d : ℕ) (o : Operand m e) (p : Operand n d) (g : d + 26 ≤ e) where
  abbrev both : Value
  both = finer binary32 (plus (finite s (m * 2 ^ e)) (finite t (n * 2 ^ d)))

  rounds-to : round ToEven binary32 both ≡ finite s (m * 2 ^ e)
  rounds-to = far-sum ToEven s m e t n d o p g

  -- the first operand's magnitude and the sum's, in u * u, differ unless the second operand is zero
  differ : (A B P M : ℕ) → 0 < P → (M ≡ A + B) ⊎ (M + B ≡ A) → eqb B 0 ≡ eqb n 0 → eqb (A * P) (M * P) ≡ eqb n 0
  differ A B P M pos is z =
      elim (ℕ_discrete A M) [
        | yes h ↦ eq-eqb (A * P) (M * P) (ap (λ (k : ℕ). k * P) h) ∙ sym (eq-eqb B 0 (elim is [ inl i ↦ omega arith | inr i ↦ omega arith ])) ∙ z
        | no h ↦ ne_eqb (A * P) (M * P) (λ (k : A * P ≡ M * P). h (eq_of_mul-eq-mul_right P pos A M k))
            ∙ sym (ne_eqb B 0 (λ (k : B ≡ 0). h (elim is [ inl i ↦ omega arith | inr i ↦ omega arith ]))) ∙ z
      ]

  sum_is : (M : ℕ) × (both ≡ finite s (M * 2 ^ 149)) × ((M ≡ m * 2 ^ e + n * 2 ^ d) ⊎ (M + n * 2 ^ d ≡ m * 2 ^ e))
  unfolding plus finer
  sum_is =
      let A = m * 2 ^ e in
      let B = n * 2 ^ d in
      let below = far-below m e n d o p g in
      elim (like? s t) [
        | inl q ↦ (A + B, ap (finer binary32) (sum_same s A t B q), inl refl)
        | inr q ↦ (A - B, ap (finer binary32) (sum_left s A t B q below), inr (omega arith))
      ]

  result-is : (v : Value) → round ToEven binary32 v ≡ finite s (m * 2 ^ e) → (outcome v).result ≡ encode binary32 (finite s (m * 2 ^ e))
  unfolding outcome
  result-is v h = ap (encode binary32) h

  number_is : (N : ℕ) → both ≡ finite s N → round_finite ToEven binary32 s N ≡ finite s (m * 2 ^ e)
  unfolding round
  number_is N h = sym (ap (round ToEven binary32) h) ∙ rounds-to

  finer-same : (a N : ℕ) → same (finer binary32 (finite s a)) (finite s N) ≡ eqb (a * 2 ^ 149) N
  unfolding finer
  finer-same a N = same_sign_lem s (a * 2 ^ 149) N

  pub far-outcome : outcome both ≡ record { result = encode binary32 (finite s (m * 2 ^ e)); mark = cond (eqb n 0) 0 1 }
  far-outcome =
      let A = m * 2 ^ e in
      let sum = sum_is in
      same_outcome (outcome both) _ (result-is both rounds-to)
      (ap (λ (v : Value). (outcome v).mark) sum.1
      ∙ value-mark s (sum.0 * 2 ^ 149) (finite s A) (number_is (sum.0 * 2 ^ 149) sum.1)
      ∙ ap (λ (b : Bool). cond b 0 1) (finer-same A (sum.0 * 2 ^ 149) ∙ differ A (n * 2 ^ d) (2 ^ 149) sum.0 (pow_pos 149) sum.2 (digits-zero n d)))
