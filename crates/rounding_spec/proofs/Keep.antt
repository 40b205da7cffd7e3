-- N / 2 ^ k to the nearest whole number: by the remainder, its distance from N, and scaling.
use mathlib.Core.Path.{◌≡◌, sym, ap, ap₂, ◌∙◌, subst}
use mathlib.Core.Logic.{inl, inr}
use Prim.Native.Nat.{ℕ, suc, ◌+◌, ◌*◌, ◌/◌, ◌%◌, ◌^◌, ◌≤◌, ◌<◌}
use native.Mathlib.Nat.{le_refl, le-suc, add-zero, zero-add, eq-or-lt_of_le, mul_assoc, mul-div_cancel, mul-mod_left, mul-div-mul_right, mod-lt, div-add-mod'}
use native.Mathlib.Omega.{arith}
use lib.Arith.{mod-mul}
use lib.Pow.{pow-add, pow_pos}
use Rattle.rounding_spec.specs.declared.Ties.{Ties}
use Rattle.rounding_spec.specs.declared.Ties.TheVariants.{ToEven, ToZero}
use Rattle.rounding_spec.specs.Round.{tied, keep}
use Rattle.rounding_spec.proofs.Compare.{tri, cmp-lt, cmp-eq, cmp-gt, cmp-scale}

-- ---- by the remainder
module _ (t : Ties) (k N : ℕ) where
  pub keep-lt : 2 * (N % 2 ^ k) < 2 ^ k → keep t k N ≡ N / 2 ^ k
  unfolding keep
  keep-lt h = rw (cmp-lt (2 * (N % 2 ^ k)) (2 ^ k) h)

  pub keep-eq : 2 * (N % 2 ^ k) ≡ 2 ^ k → keep t k N ≡ tied t (N / 2 ^ k)
  unfolding keep
  keep-eq h = rw (cmp-eq (2 * (N % 2 ^ k)) (2 ^ k) h)

  pub keep-gt : 2 ^ k < 2 * (N % 2 ^ k) → keep t k N ≡ suc (N / 2 ^ k)
  unfolding keep
  keep-gt h = rw (cmp-gt (2 * (N % 2 ^ k)) (2 ^ k) h)

tied-le : (t : Ties) (q : ℕ) → (q ≤ tied t q) × (tied t q ≤ suc q)
tied-le ToEven q = omega arith
tied-le ToZero q = omega arith

-- ---- the quotient or the next number, within half a unit of N
pub record Kept (k N x : ℕ) : Type 0 where
  pub low : N / 2 ^ k ≤ x
  pub high : x ≤ suc (N / 2 ^ k)
  pub above : 2 * (x * 2 ^ k) ≤ 2 * N + 2 ^ k
  pub below : 2 * N ≤ 2 * (x * 2 ^ k) + 2 ^ k

pub kept : (t : Ties) (k N : ℕ) → Kept k N (keep t k N)
kept t k N =
    let m = 2 ^ k in
    let q = N / m in
    let r = N % m in
    let s : q * m + r ≡ N = div-add-mod' N m in
    let l : r < m = mod-lt N (pow_pos k) in
    let at-q : 2 * r ≤ m → Kept k N q = λ h. record { low = le_refl q; high = le-suc q; above = omega arith; below = omega arith } in
    let at_suc : m ≤ 2 * r → Kept k N (suc q) = λ h. record { low = le-suc q; high = le_refl (suc q); above = omega arith; below = omega arith } in
    let tie : 2 * r ≡ m → (x : ℕ) → (q ≤ x) × (x ≤ suc q) → Kept k N x =
    λ h x b. elim (eq-or-lt_of_le b.0) [ inl e ↦ subst (λ (y : ℕ). Kept k N y) e (at-q (omega arith)) | inr g ↦ subst (λ (y : ℕ). Kept k N y) (omega arith) (at_suc (omega arith)) ]
    in
    elim (tri (2 * r) m) [
      | inl h ↦ subst (λ (y : ℕ). Kept k N y) (sym (keep-lt t k N h)) (at-q (omega arith))
      | inr o ↦ elim o [
        | inl h ↦ subst (λ (y : ℕ). Kept k N y) (sym (keep-eq t k N h)) (tie h (tied t q) (tied-le t q))
        | inr h ↦ subst (λ (y : ℕ). Kept k N y) (sym (keep-gt t k N h)) (at_suc (omega arith))
      ]
    ]

-- ---- scaled
mod-scale : (N m c : ℕ) → 0 < m → 0 < c → N * c % (m * c) ≡ N % m * c
mod-scale N m c p q = mod-mul (N * c) p q ∙ ap₂ (λ (x y : ℕ). x % m * c + y) (mul-div_cancel N q) (mul-mod_left N c) ∙ add-zero (N % m * c)

pub keep-scale : (t : Ties) (k s N : ℕ) → keep t (k + s) (N * 2 ^ s) ≡ keep t k N
unfolding keep
keep-scale t k s N =
    rw (
      pow-add 2 k s,
      mul-div-mul_right N (2 ^ k) (pow_pos s),
      mod-scale N (2 ^ k) (2 ^ s) (pow_pos k) (pow_pos s),
      ← mul_assoc 2 (N % 2 ^ k) (2 ^ s),
      cmp-scale (2 * (N % 2 ^ k)) (2 ^ k) (2 ^ s) (pow_pos s),
    )

-- nothing is dropped of a multiple
pub keep-whole : (t : Ties) (k c : ℕ) → keep t k (c * 2 ^ k) ≡ c
keep-whole t k c =
    ap (λ (x : ℕ). keep t x (c * 2 ^ k)) (sym (zero-add k))
    ∙ keep-scale t 0 k c
    ∙ keep-lt t 0 c (let z : c % 1 ≡ 0 = omega arith in rw z (omega arith))
    ∙ omega arith
