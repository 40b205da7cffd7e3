-- `keep` as the code computes it: by the remainder in a 64-bit word, with one more for a tie that goes up.
use mathlib.Core.Path.{◌≡◌, refl, sym, ap, ◌∙◌, subst}
use mathlib.Core.Logic.{inl, inr}
use Prim.Native.Nat.{ℕ, suc, ◌+◌, ◌-◌, ◌*◌, ◌/◌, ◌%◌, ◌^◌, ◌≤◌, ◌<◌}
use native.Mathlib.Nat.{one-mul, mul-le-mul_left, div-lt_iff_lt-mul, lt_of_le_of_lt, lt_of_lt_of_le, div-add-mod', div-mul-le_self, div-eq_of_lt, mod-eq_of_lt, mod-lt, pow-succ'}
use native.Mathlib.Omega.{arith}
use lib.Pow.{pow_pos, pow_mono, pow-lt}
use Rattle.rounding_spec.specs.declared.Ties.{Ties}
use Rattle.rounding_spec.specs.declared.Ties.TheVariants.{ToEven, ToZero}
use Rattle.rounding_spec.specs.Round.{tied, keep}
use Rattle.rounding_spec.specs.Inner.{tie_bit}
use Rattle.rounding_spec.proofs.Compare.{tri}
use Rattle.rounding_spec.proofs.Keep.{keep-lt, keep-eq, keep-gt}

pub tie-bit-le : (t : Ties) (q : ℕ) → tie_bit t q ≤ 1
tie-bit-le ToEven q = omega arith
tie-bit-le ToZero q = omega arith

tied-bit : (t : Ties) (q : ℕ) → tied t q ≡ q + tie_bit t q
tied-bit ToEven q = refl
tied-bit ToZero q = omega arith

module _ (t : Ties) (h n : ℕ) where
  rest_up : 2 ^ h < n % 2 ^ suc h + tie_bit t (n / 2 ^ suc h) → keep t (suc h) n ≡ n / 2 ^ suc h + 1
  rest_up g =
      let p = pow-succ' 2 h in
      let b = tie-bit-le t (n / 2 ^ suc h) in
      elim (tri (2 * (n % 2 ^ suc h)) (2 ^ suc h)) [
        | inl l ↦ absurd (omega arith)
        | inr o ↦ elim o [
          | inl e ↦ keep-eq t (suc h) n e ∙ tied-bit t (n / 2 ^ suc h) ∙ omega arith
          | inr l ↦ keep-gt t (suc h) n l ∙ omega arith
        ]
      ]

  rest-down : n % 2 ^ suc h + tie_bit t (n / 2 ^ suc h) ≤ 2 ^ h → keep t (suc h) n ≡ n / 2 ^ suc h
  rest-down g =
      let p = pow-succ' 2 h in
      elim (tri (2 * (n % 2 ^ suc h)) (2 ^ suc h)) [
        | inl l ↦ keep-lt t (suc h) n l
        | inr o ↦ elim o [
          | inl e ↦ keep-eq t (suc h) n e ∙ tied-bit t (n / 2 ^ suc h) ∙ omega arith
          | inr l ↦ absurd (omega arith)
        ]
      ]

-- ---- in a word
module _ (n s : ℕ) (word : n < 2 ^ 64) where
  pub shifted_back : n / 2 ^ s * 2 ^ s % 2 ^ 64 ≡ n / 2 ^ s * 2 ^ s
  shifted_back = mod-eq_of_lt (lt_of_le_of_lt (div-mul-le_self n (2 ^ s)) word)

  pub rest_le : n / 2 ^ s * 2 ^ s % 2 ^ 64 ≤ n
  rest_le = rw shifted_back (div-mul-le_self n (2 ^ s))

  rest-is : n - n / 2 ^ s * 2 ^ s % 2 ^ 64 ≡ n % 2 ^ s
  rest-is = rw shifted_back (let z = div-add-mod' n (2 ^ s) in omega arith)

  pub rest_lt : s ≤ 63 → n - n / 2 ^ s * 2 ^ s % 2 ^ 64 < 2 ^ 63
  rest_lt h = rw rest-is (lt_of_lt_of_le (mod-lt n (pow_pos s)) (pow_mono {j = 63} h))

  pub quot-lt : 0 < s → n / 2 ^ s < 2 ^ 63
  quot-lt h = div-lt
    where
      two : 2 ≤ 2 ^ s
      two = pow_mono {i = 1} h

      div-lt : n / 2 ^ s < 2 ^ 63
      div-lt = (div-lt_iff_lt-mul (pow_pos s)).1 (let z = mul-le-mul_left (2 ^ 63) two in omega arith)

  module _ (pos : 0 < s) (small : s ≤ 63) where
    half_is : 1 * 2 ^ (s - 1) % 2 ^ 64 ≡ 2 ^ (s - 1)
    half_is = rw one-mul (mod-eq_of_lt (pow-lt {j = 64} (omega arith)))

    at : s ≡ suc (s - 1)
    at = omega arith

    pub word-up : (t : Ties) (b : ℕ) → b ≡ tie_bit t (n / 2 ^ s) → 1 * 2 ^ (s - 1) % 2 ^ 64 < n - n / 2 ^ s * 2 ^ s % 2 ^ 64 + b → n / 2 ^ s + 1 ≡ keep t s n
    word-up t b e h = sym (subst (λ (x : ℕ). 2 ^ (s - 1) < n % 2 ^ x + tie_bit t (n / 2 ^ x) → keep t x n ≡ n / 2 ^ x + 1) (sym at) (rest_up t (s - 1) n) (rw (half_is, rest-is, e) at h))

    pub word-down : (t : Ties) (b : ℕ) → b ≡ tie_bit t (n / 2 ^ s) → n - n / 2 ^ s * 2 ^ s % 2 ^ 64 + b ≤ 1 * 2 ^ (s - 1) % 2 ^ 64 → n / 2 ^ s ≡ keep t s n
    word-down t b e h = sym (subst (λ (x : ℕ). n % 2 ^ x + tie_bit t (n / 2 ^ x) ≤ 2 ^ (s - 1) → keep t x n ≡ n / 2 ^ x) (sym at) (rest-down t (s - 1) n) (rw (half_is, rest-is, e) at h))

-- ---- all digits are dropped
module _ (t : Ties) (n : ℕ) (word : n < 2 ^ 64) where
  tied-zero : (t : Ties) → tied t 0 ≡ 0
  tied-zero ToEven = refl
  tied-zero ToZero = refl

  pub far_none : (s : ℕ) → 64 < s → 0 ≡ keep t s n
  far_none s h =
      let b : 2 ^ 65 ≤ 2 ^ s = pow_mono {i = 65} h in
      let l : n < 2 ^ s = omega arith in
      sym (keep-lt t s n (rw (mod-eq_of_lt l) (omega arith)) ∙ div-eq_of_lt l)

  pub far-up : 2 ^ 63 < n → 1 ≡ keep t 64 n
  far-up h = sym (keep-gt t 64 n (rw (mod-eq_of_lt word) (omega arith)) ∙ ap suc (div-eq_of_lt word))

  pub far-down : n ≤ 2 ^ 63 → 0 ≡ keep t 64 n
  far-down h =
      elim (tri n (2 ^ 63)) [
        | inl l ↦ sym (keep-lt t 64 n (rw (mod-eq_of_lt word) (omega arith)) ∙ div-eq_of_lt word)
        | inr o ↦ elim o [
          | inl e ↦ sym (keep-eq t 64 n (rw (mod-eq_of_lt word) (omega arith)) ∙ ap (tied t) (div-eq_of_lt word) ∙ tied-zero t)
          | inr l ↦ absurd (omega arith)
        ]
      ]
