-- Exact sums of two operands for callers that round them: in order, at one exponent, or far apart.
use mathlib.Core.Path.{◌≡◌, refl, sym, ap, ap₂, ◌∙◌}
use mathlib.Core.Logic.{inl, inr}
use mathlib.Core.Bool.{Bool, true, false, cond}
use Prim.Native.Nat.{ℕ, suc, ◌+◌, ◌-◌, ◌*◌, ◌%◌, ◌^◌, ◌≤◌, ◌<◌}
use native.Mathlib.Nat.{le_trans, le_of_eq, le_of_lt, mul-lt-mul_of_pos_right}
use native.Mathlib.Omega.{arith}
use lib.Dec.{ltb}
use lib.Pow.{pow_pos}
use Rattle.rounding_spec.specs.declared.Ties.{Ties}
use Rattle.rounding_spec.specs.Format.{binary32}
use Rattle.rounding_spec.specs.Round.{left_over}
use Rattle.rounding_spec.specs.Nearest.{Rep}
use Rattle.rounding_spec.specs.Value.{Value, finite, decode}
use Rattle.rounding_spec.proofs.Compare.{tri}
use Rattle.rounding_spec.proofs.Multiple.{joined}
use Rattle.rounding_spec.proofs.LeftOver.{left-sum, left-difference}
use Rattle.pattern_spec.specs.Exact.{plus_finite, plus, finer}
use Rattle.pattern_spec.specs.Inner.{larger, smaller}
use Rattle.pattern_spec.proofs.Sums.{like?, sum_same, sum_left, sum-right, sum-none, sum-scale, finer-sum}
use Rattle.pattern_spec.proofs.Exchanged.{plus_comm}

-- the sum of the operands in either order
pub ordered-sum : (x y : ℕ) → plus (decode binary32 x) (decode binary32 y) ≡ plus (decode binary32 (larger x y)) (decode binary32 (smaller x y))
ordered-sum x y = go (ltb (x % 2 ^ 31) (y % 2 ^ 31))
  where
    go : (w : Bool) → plus (decode binary32 x) (decode binary32 y) ≡ plus (decode binary32 (cond w y x)) (decode binary32 (cond w x y))
    go true = plus_comm (decode binary32 y) (decode binary32 x)
    go false = refl

-- ---- what rounding leaves over of a sum is no more than the smaller operand
module _ (w : Ties) (f L : ℕ) (s : Bool) (X : ℕ) (t : Bool) (Y B : ℕ) (x : Rep (suc f) L X) (y : Rep (suc f) L Y) (below : Y < B) where
  pub left_lt : (r : Bool) (N : ℕ) → plus_finite s X t Y ≡ finite r N → left_over w f L N < B
  left_lt r N q =
      elim (like? s t) [
        | inl e ↦ let n : X + Y ≡ N = magnitude (sym (sum_same s X t Y e) ∙ q) in rw (← n) (omega (arith, left-sum w f L X Y x))
        | inr e ↦ elim (tri X Y) [
          | inl h ↦ let n : Y - X ≡ N = magnitude (sym (sum-right s X t Y e h) ∙ q) in rw (← n) (omega (arith, left-difference w f L Y X (le_of_lt h) y))
          | inr o ↦ elim o [
            | inl h ↦ let z : 0 ≡ N = magnitude (sym (sum-none s X t Y e h) ∙ q) in let n : X - Y ≡ N = omega arith in rw (← n) (omega (arith, left-difference w f L X Y (omega arith) x))
            | inr h ↦ let n : X - Y ≡ N = magnitude (sym (sum_left s X t Y e h) ∙ q) in rw (← n) (omega (arith, left-difference w f L X Y (le_of_lt h) x))
          ]
        ]
      ]
    where
      magnitude : {a b : Bool} {n m : ℕ} → finite a n ≡ finite b m → n ≡ m
      magnitude e = cc

-- ---- both at the lower exponent
near-value : (s : Bool) (m e : ℕ) (t : Bool) (n d : ℕ) → d ≤ e → (r : Bool) (c : ℕ) → plus_finite s (m * 2 ^ (e - d)) t n ≡ finite r c
    → finer binary32 (plus (finite s (m * 2 ^ e)) (finite t (n * 2 ^ d))) ≡ finite r (c * 2 ^ (d + 149))
unfolding plus
near-value s m e t n d l r c q =
    let x : m * 2 ^ e * 2 ^ 149 ≡ m * 2 ^ (e - d) * 2 ^ (d + 149) = joined m e 149 (e + 149) refl ∙ sym (joined m (e - d) (d + 149) (e + 149) (omega arith)) in
    let y : n * 2 ^ d * 2 ^ 149 ≡ n * 2 ^ (d + 149) = joined n d 149 (d + 149) refl in
    finer-sum binary32 s (m * 2 ^ e) t (n * 2 ^ d)
    ∙ ap₂ (λ (p q : ℕ). plus_finite s p t q) x y
    ∙ sum-scale s (m * 2 ^ (e - d)) t n (2 ^ (d + 149)) (pow_pos (d + 149)) r c q

operand-rep : (m e : ℕ) → m < 2 ^ 24 → Rep 24 149 (m * 2 ^ e * 2 ^ 149)
operand-rep m e h = record { e = e + 149; m = m; low = omega arith; small = h; is = joined m e 149 (e + 149) refl }

-- v is the sum c * 2 ^ k with the sign r; what rounding leaves over of it has no more digits than an operand
pub record Sum (v : Value) (r : Bool) (c k : ℕ) : Type 0 where
  pub is : v ≡ finite r (c * 2 ^ k)
  pub left : (w : Ties) → left_over w 23 149 (c * 2 ^ k) < 2 ^ 24 * 2 ^ k

pub near-exact : (s : Bool) (m e : ℕ) (t : Bool) (n d : ℕ) → m < 2 ^ 24 → n < 2 ^ 24 → d ≤ e → (r : Bool) (c : ℕ) → plus_finite s (m * 2 ^ (e - d)) t n ≡ finite r c
    → Sum (finer binary32 (plus (finite s (m * 2 ^ e)) (finite t (n * 2 ^ d)))) r c (d + 149)
unfolding plus
near-exact s m e t n d h k l r c q =
    let v = near-value s m e t n d l r c q in
    let small : n * 2 ^ d * 2 ^ 149 < 2 ^ 24 * 2 ^ (d + 149) = le_trans (le_of_eq (ap suc (joined n d 149 (d + 149) refl))) (mul-lt-mul_of_pos_right k (pow_pos (d + 149))) in
    record {
      is = v;
      left = λ w. left_lt w 23 149 s (m * 2 ^ e * 2 ^ 149) t (n * 2 ^ d * 2 ^ 149) (2 ^ 24 * 2 ^ (d + 149)) (operand-rep m e h) (operand-rep n d k) small r (c * 2 ^ (d + 149))
          (sym (finer-sum binary32 s (m * 2 ^ e) t (n * 2 ^ d)) ∙ v);
    }
