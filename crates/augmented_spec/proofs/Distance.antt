-- Whole numbers by sign and magnitude: the magnitudes of a sum and of a difference, and what is left of a number.
use mathlib.Core.Path.{◌≡◌, refl, sym, ap, ap₂, ◌∙◌}
use mathlib.Core.Logic.{◌⊎◌, inl, inr}
use mathlib.Core.Bool.{Bool, true, false, not, cond}
use Prim.Native.Nat.{ℕ, zero, suc, ◌+◌, ◌-◌, ◌*◌}
use native.Mathlib.Omega.{arith}
use borrow.Author.Tests.{ne_eqb}
use lib.Dec.{ltb, eqb}
use lib.Ieee.{unlike}
use lib.IntN.{ℤ, pos, negsuc, nat_abs, ◌+ℤ◌, ◌-ℤ◌, ◌*ℤ◌, +ℤ_invr}
use Rattle.rounding_spec.specs.Nearest.{dist}
use Rattle.rounding_spec.specs.Value.{finite}
use Rattle.rounding_spec.proofs.Compare.{tri}
use Rattle.pattern_spec.specs.Exact.{int}
use Rattle.pattern_spec.proofs.Integers.{plus-exact, int-not, int-size}
use Rattle.pattern_spec.proofs.Sums.{like?, sum_same, sum_left, sum-right, sum-none}
use Rattle.augmented_spec.proofs.Second.{less-is}

-- ---- one number
pub int-one : (s : Bool) (a b : ℕ) → int s a ≡ int s b → a ≡ b
int-one s a b e = sym (int-size s a) ∙ ap nat_abs e ∙ int-size s b

int-none : (s : Bool) → int s 0 ≡ pos 0
int-none false = refl
int-none true = refl

-- nothing has every sign
pub int-zero : (q r : Bool) (d : ℕ) → int (cond (eqb d 0) q r) d ≡ int r d
int-zero q r zero = int-none q ∙ sym (int-none r)
int-zero q r (suc d) = rw (ne_eqb (suc d) 0 (λ (e : suc d ≡ 0). omega arith))

pub scaled-size : (k : ℤ) (G : ℕ) → nat_abs (k *ℤ pos G) ≡ nat_abs k * G
scaled-size (pos a) G = refl
scaled-size (negsuc a) G = int-size true (suc a * G)

-- ---- a sum and a difference
module _ (s : Bool) (a : ℕ) (t : Bool) (b : ℕ) where
  -- of two signs the magnitude is the distance
  pub sum-size : (nat_abs (int s a +ℤ int t b) ≡ a + b) ⊎ (nat_abs (int s a +ℤ int t b) ≡ dist a b)
  sum-size =
      let e = plus-exact s a t b in
      let n : nat_abs (int s a +ℤ int t b) ≡ e.1 = sym (ap nat_abs e.3) ∙ int-size e.0 e.1 in
      let is = e.2 in
      elim (like? s t) [
        | inl l ↦ let z : e.1 ≡ a + b = cc (sum_same s a t b l) in inl (n ∙ z)
        | inr l ↦ elim (tri a b) [
          | inl h ↦ let z : e.1 ≡ b - a = cc (sum-right s a t b l h) in inr (n ∙ z ∙ omega arith)
          | inr o ↦ elim o [
            | inl h ↦ let z : e.1 ≡ 0 = cc (sum-none s a t b l h) in inr (n ∙ z ∙ omega arith)
            | inr h ↦ let z : e.1 ≡ a - b = cc (sum_left s a t b l h) in inr (n ∙ z ∙ omega arith)
          ]
        ]
      ]

pub difference-size : (s : Bool) (a : ℕ) (t : Bool) (b : ℕ) → (nat_abs (int s a -ℤ int t b) ≡ a + b) ⊎ (nat_abs (int s a -ℤ int t b) ≡ dist a b)
difference-size s a t b = rw (int-not t b) at (sum-size s a (not t) b)

-- ---- what is left of a number when another of its sign is taken away
module _ (s : Bool) (N A : ℕ) where
  left-some : (N ≡ A → ⊥) → int (unlike s (ltb N A)) (dist A N) ≡ int s N -ℤ int s A
  left-some n =
      let e = plus-exact s N (not s) A in
      let f : finite e.0 e.1 ≡ finite (unlike s (ltb N A)) (dist A N) = sym e.2 ∙ less-is s N A n in
      let x : e.0 ≡ unlike s (ltb N A) = cc in
      let y : e.1 ≡ dist A N = cc in
      sym (ap₂ int x y) ∙ e.3 ∙ ap (λ (k : ℤ). int s N +ℤ k) (int-not s A)

  left-none : N ≡ A → int (unlike s (ltb N A)) (dist A N) ≡ int s N -ℤ int s A
  left-none e =
      let g : dist A N ≡ 0 = omega arith in
      ap (int (unlike s (ltb N A))) g ∙ int-none (unlike s (ltb N A)) ∙ sym (ap (λ (x : ℕ). int s x -ℤ int s A) e ∙ +ℤ_invr (int s A))

  pub left_is : int (unlike s (ltb N A)) (dist A N) ≡ int s N -ℤ int s A
  left_is =
      elim (tri N A) [
        | inl h ↦ left-some (λ e. omega arith)
        | inr o ↦ elim o [ inl e ↦ left-none e | inr h ↦ left-some (λ e. omega arith) ]
      ]

pub same_size : (s : Bool) (a b : ℕ) → nat_abs (int s a -ℤ int s b) ≡ dist a b
same_size s a b = sym (ap nat_abs (left_is s a b)) ∙ int-size (unlike s (ltb a b)) (dist b a) ∙ omega arith
