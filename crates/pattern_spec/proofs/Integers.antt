-- Exact sums and products of magnitudes with signs are those of whole numbers.
use mathlib.Core.Path.{◌≡◌, refl, sym, ap, ◌∙◌}
use mathlib.Core.Logic.{inl, inr}
use mathlib.Core.Bool.{Bool, true, false, not, ◌&&◌}
use Prim.Native.Nat.{ℕ, zero, suc, ◌+◌, ◌-◌, ◌*◌, ◌≤◌, ◌<◌}
use native.Mathlib.Nat.{mul_comm, zero-mul, mul-zero}
use native.Mathlib.Omega.{arith}
use borrow.Author.Tests.{lt-ltb, le-ltb}
use lib.Ieee.{unlike}
use lib.IntN.{pos, neg_ℤ, nat_abs, ◌+ℤ◌, ◌*ℤ◌, neg_ℤ-neg_ℤ, neg_ℤ-+ℤ, +ℤ_comm, *ℤ_comm, *ℤ-negsuc, negsuc-*ℤ-pos}
use Rattle.rounding_spec.specs.Value.{finite}
use Rattle.rounding_spec.proofs.Compare.{tri}
use Rattle.pattern_spec.specs.Exact.{plus_finite, int}
use Rattle.pattern_spec.proofs.Sums.{sum_same, sum_left, sum-right, sum-none}

-- ---- the difference of two naturals
sub-le : (a b : ℕ) → b ≤ a → pos a +ℤ neg_ℤ (pos b) ≡ pos (a - b)
sub-le a zero h = ap pos (omega arith)
sub-le a (suc b) h = rw (le-ltb a (suc b) h)

sub-lt : (a b : ℕ) → a < b → pos a +ℤ neg_ℤ (pos b) ≡ neg_ℤ (pos (b - a))
sub-lt a zero h = absurd (omega arith)
sub-lt a (suc b) h = rw (lt-ltb a (suc b) h) (let e : suc b - a ≡ suc (suc b - suc a) = omega arith in sym (ap (λ (x : ℕ). neg_ℤ (pos x)) e))

-- ---- sums
module _ (s : Bool) (a : ℕ) (t : Bool) (b : ℕ) where
  abbrev Sum : Type 0
  Sum = (r : Bool) × (c : ℕ) × (plus_finite s a t b ≡ finite r c) × (int r c ≡ int s a +ℤ int t b) × (c ≡ 0 → r ≡ s && t)

pub plus-exact : (s : Bool) (a : ℕ) (t : Bool) (b : ℕ) → Sum s a t b
plus-exact false a false b = (false, a + b, sum_same false a false b refl, refl, λ e. refl)
plus-exact true a true b = (true, a + b, sum_same true a true b refl, neg_ℤ-+ℤ (pos a) (pos b), λ e. refl)
plus-exact false a true b =
    elim (tri a b) [
      | inl h ↦ (true, b - a, sum-right false a true b refl h, sym (sub-lt a b h), λ e. absurd (omega arith))
      | inr o ↦ elim o [
        | inl h ↦ (false, 0, sum-none false a true b refl h, sym (sub-le a b (omega arith) ∙ ap pos (omega arith)), λ e. refl)
        | inr h ↦ (false, a - b, sum_left false a true b refl h, sym (sub-le a b (omega arith)), λ e. refl)
      ]
    ]
plus-exact true a false b =
    let swap = +ℤ_comm (neg_ℤ (pos a)) (pos b) in
    elim (tri a b) [
      | inl h ↦ (false, b - a, sum-right true a false b refl h, sym (swap ∙ sub-le b a (omega arith)), λ e. refl)
      | inr o ↦ elim o [
        | inl h ↦ (false, 0, sum-none true a false b refl h, sym (swap ∙ sub-le b a (omega arith) ∙ ap pos (omega arith)), λ e. refl)
        | inr h ↦ (true, a - b, sum_left true a false b refl h, sym (swap ∙ sub-lt b a h), λ e. absurd (omega arith))
      ]
    ]

-- ---- products
neg-times : (a b : ℕ) → neg_ℤ (pos a) *ℤ pos b ≡ neg_ℤ (pos (a * b))
neg-times zero b = ap pos (zero-mul b) ∙ sym (ap (λ (x : ℕ). neg_ℤ (pos x)) (zero-mul b))
neg-times (suc a) b = negsuc-*ℤ-pos a b

pub times-exact : (s : Bool) (a : ℕ) (t : Bool) (b : ℕ) → int (unlike s t) (a * b) ≡ int s a *ℤ int t b
times-exact false a false b = refl
times-exact true a false b = sym (neg-times a b)
times-exact false a true b = sym (*ℤ_comm (pos a) (neg_ℤ (pos b)) ∙ neg-times b a ∙ ap (λ (x : ℕ). neg_ℤ (pos x)) (mul_comm b a))
times-exact true a true zero = ap pos (mul-zero a) ∙ sym (neg-times a 0 ∙ ap (λ (x : ℕ). neg_ℤ (pos x)) (mul-zero a))
times-exact true a true (suc b) = sym (*ℤ-negsuc (neg_ℤ (pos a)) b ∙ ap neg_ℤ (neg-times a (suc b)) ∙ neg_ℤ-neg_ℤ (pos (a * suc b)))

-- ---- the negated, and in a finer unit
pub int-not : (s : Bool) (a : ℕ) → int (not s) a ≡ neg_ℤ (int s a)
int-not false a = refl
int-not true a = sym (neg_ℤ-neg_ℤ (pos a))

pub int-scale : (s : Bool) (a G : ℕ) → int s (a * G) ≡ int s a *ℤ pos G
int-scale false a G = refl
int-scale true a G = sym (neg-times a G)

-- ---- a number's magnitude
pub int-size : (s : Bool) (a : ℕ) → nat_abs (int s a) ≡ a
int-size false a = refl
int-size true zero = refl
int-size true (suc a) = refl
