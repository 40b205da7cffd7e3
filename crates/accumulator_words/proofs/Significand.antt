-- A shifted significand in two parts: its lowest 64 digits, and what the shift moves beyond them.
use Rattle.std.proofs.Common.{◌≡◌, ℕ, ◌+◌, ◌-◌, ◌*◌, ◌/◌, ◌%◌, ◌^◌, ◌<◌, ◌≤◌, sym, ap, ◌∙◌, le_trans, lt_of_lt_of_le, mod-eq_of_lt, div-lt_iff_lt-mul, mul-le-mul_left, mul-lt-mul_of_pos_right, arith}
use Rattle.std.proofs.Common.{pow_pos, pow_mono, pow-add}
use native.Mathlib.Nat.{mod-add-div, div-div-eq-div-mul, mul-div-mul_right}

module _ (sig shift : ℕ) (inside : shift < 32) where
  -- 64 places above the lowest digit, as the code counts them
  places : 2 * 2 ^ (63 - shift) * 2 ^ shift ≡ 2 ^ 64
  places =
      let e : 1 + (63 - shift) + shift ≡ 64 = omega arith in
      ap (λ (x : ℕ). x * 2 ^ shift) (sym (pow-add 2 1 (63 - shift))) ∙ sym (pow-add 2 (1 + (63 - shift)) shift) ∙ ap (λ (x : ℕ). 2 ^ x) e

  pub two-parts : sig * 2 ^ shift % 2 ^ 64 + 2 ^ 64 * (sig / 2 / 2 ^ (63 - shift)) ≡ sig * 2 ^ shift
  two-parts =
      let n = sig * 2 ^ shift in
      let K = 2 * 2 ^ (63 - shift) in
      let beyond : n / 2 ^ 64 ≡ sig / 2 / 2 ^ (63 - shift) =
      ap (λ (x : ℕ). n / x) (sym places) ∙ mul-div-mul_right sig K (pow_pos shift) ∙ sym (div-div-eq-div-mul sig 2 (2 ^ (63 - shift)))
      in
      ap (λ (x : ℕ). n % 2 ^ 64 + 2 ^ 64 * x) (sym beyond) ∙ mod-add-div n (2 ^ 64)

  pub beyond-lt : sig < 2 ^ 64 → sig / 2 / 2 ^ (63 - shift) < 2 ^ 31
  beyond-lt fits =
      let k : 2147483648 * 2 ^ 32 ≤ 2147483648 * 2 ^ (63 - shift) = mul-le-mul_left 2147483648 (pow_mono {i = 32} (omega arith)) in
      (div-lt_iff_lt-mul {k = 2 ^ (63 - shift)} {y = 2 ^ 31} (pow_pos (63 - shift))).1 (lt_of_lt_of_le (let h : sig / 2 < 2147483648 * 2 ^ 32 = omega arith in h) k)

  -- a significand of one word is shifted into the next and no further
  pub short-parts : sig < 2 ^ 32 → sig * 2 ^ shift % 2 ^ 64 + 2 ^ 64 * 0 ≡ sig * 2 ^ shift
  short-parts fits =
      let k : 4294967296 * 2 ^ shift ≤ 4294967296 * 2 ^ 32 = mul-le-mul_left 4294967296 (pow_mono {j = 32} (omega arith)) in
      let e = mod-eq_of_lt {m = 2 ^ 64} (lt_of_lt_of_le (mul-lt-mul_of_pos_right fits (pow_pos shift)) (le_trans k (omega arith))) in
      ap (λ (x : ℕ). x + 2 ^ 64 * 0) e ∙ omega arith
