-- The pattern of a number of at most 24 digits, moved up by its leading zeros, or as far as its exponent goes.
use mathlib.Core.Path.{◌≡◌, refl, sym, ap, ◌∙◌}
use mathlib.Core.Bool.{Bool, cond}
use Prim.Native.Nat.{ℕ, suc, ◌+◌, ◌-◌, ◌*◌, ◌%◌, ◌^◌, ◌≤◌, ◌<◌, min}
use native.Mathlib.Nat.{le_trans, lt_of_lt_of_le, lt_of_not-le, not-le_of_lt, zero-mul, mul-le-mul_left, mul-le-mul_right, mod-eq_of_lt, lt_irrefl, pow-succ'}
use native.Mathlib.Decide.{dec_le}
use native.Mathlib.Omega.{arith}
use lib.Count.{count_leading_zeros, leading_top}
use lib.Dec.{ltb, eqb}
use lib.Pow.{pow-add, pow_mono, shl_lt}
use borrow.Author.Tests.{lt-ltb, le-ltb, eq-eqb, ne_eqb}
use Rattle.rounding_spec.specs.Format.{binary32, limit, infinity}
use Rattle.rounding_spec.specs.Value.{finite, bits, signed, encode}
use Rattle.rounding_spec.specs.Inner.{packed}
use Rattle.rounding_spec.proofs.Multiple.{joined}
use Rattle.rounding_spec.proofs.Bits.{bits_at}
use Rattle.rounding_spec.proofs.Codec.{bits_below}

module _ (rest : ℕ) (small : rest < 2 ^ 24) where
  -- the position of the leading digit of 2 * rest + 1
  abbrev zeros : ℕ
  zeros = count_leading_zeros 64 (2 * rest + 1)

  pub zeros-ge : (39 ≤ zeros) × (zeros ≤ 63)
  zeros-ge =
      let top = leading_top 64 (2 * rest + 1) (omega arith) (omega arith) in
      let j : top.0 < 25 = lt_of_not-le (λ (g : 25 ≤ top.0). not-le_of_lt (let z : 2 * rest + 1 < 2 ^ 25 = omega arith in z) (le_trans (pow_mono {i = 25} g) top.2)) in
      (omega arith, omega arith)

  -- with so many places more, the number has 24 digits
  filled : 0 < rest → (2 ^ 23 ≤ rest * 2 ^ (zeros - 39)) × (rest * 2 ^ (zeros - 39) < 2 ^ 24)
  filled pos =
      let top = leading_top 64 (2 * rest + 1) (omega arith) (omega arith) in
      let j = top.0 in
      let z = zeros-ge in
      let one : 1 ≤ j = lt_of_not-le (λ (g : j ≤ 0). not-le_of_lt top.3 (le_trans (pow_mono {j = 1} (let q : suc j ≤ 1 = omega arith in q)) (omega arith))) in
      let half : 2 ^ j ≡ 2 * 2 ^ (j - 1) = ap (λ (x : ℕ). 2 ^ x) (let q : j ≡ suc (j - 1) = omega arith in q) ∙ pow-succ' 2 (j - 1) in
      let low : 2 ^ (j - 1) ≤ rest = omega (arith, top.2) in
      let high : rest < 2 ^ j = let p = pow-succ' 2 j in omega (arith, top.3) in (
        le_trans (rw (← pow-add 2 (j - 1) (zeros - 39)) (pow_mono {i = 23} (omega arith))) (mul-le-mul_right (2 ^ (zeros - 39)) low),
        lt_of_lt_of_le (shl_lt j (zeros - 39) high) (pow_mono {j = 24} (omega arith)),
      )

  module _ (unit shift : ℕ) (Shift-is : shift ≡ cond (ltb (zeros - 39) unit) (zeros - 39) unit) where
    pub shift_le : (shift ≤ unit) × (shift ≤ 24)
    shift_le =
        let z = zeros-ge in
        elim (dec_le unit (zeros - 39)) [
          | yes h ↦ let e : shift ≡ unit = rw (le-ltb (zeros - 39) unit h) at Shift-is in omega arith
          | no h ↦ let l : zeros - 39 < unit = omega arith in let e : shift ≡ zeros - 39 = rw (lt-ltb (zeros - 39) unit l) at Shift-is in omega arith
        ]

    -- the significand has at most 24 digits, and all of them where the exponent field is above 0
    significand : (rest * 2 ^ shift < 2 ^ 24) × (0 < unit - shift → 0 < rest → 2 ^ 23 ≤ rest * 2 ^ shift)
    significand =
        let z = zeros-ge in
        elim (dec_le rest 0) [
          | yes n ↦ let e : rest * 2 ^ shift ≡ 0 = ap (λ (x : ℕ). x * 2 ^ shift) (let q : rest ≡ 0 = omega arith in q) ∙ zero-mul (2 ^ shift) in (omega arith, λ g h. absurd (omega arith))
          | no n ↦
              let f = filled (omega arith) in
              elim (dec_le unit (zeros - 39)) [
                | yes h ↦
                    let e : shift ≡ unit = rw (le-ltb (zeros - 39) unit h) at Shift-is in
                    let k : rest * 2 ^ shift ≤ rest * 2 ^ (zeros - 39) = mul-le-mul_left rest (pow_mono (let q : shift ≤ zeros - 39 = omega arith in q)) in
                    (omega arith, λ g p. absurd (omega arith))
                | no h ↦
                    let l : zeros - 39 < unit = omega arith in
                    let e : shift ≡ zeros - 39 = rw (lt-ltb (zeros - 39) unit l) at Shift-is in
                    rw e (f.1, λ g p. f.0)
              ]
        ]

    module _ (field : ℕ) (field_is : field ≡ cond (eqb rest 0) 0 (unit - shift)) where
      packed-bits : field * 2 ^ 23 + rest * 2 ^ shift % 2 ^ 64 ≡ bits 23 (rest * 2 ^ unit)
      packed-bits =
          let b = significand in
          let w : rest * 2 ^ shift % 2 ^ 64 ≡ rest * 2 ^ shift = mod-eq_of_lt (omega arith) in
          elim (dec_le rest 0) [
            | yes n ↦
                let z : rest ≡ 0 = omega arith in
                let f : field ≡ 0 = rw (eq-eqb rest 0 z) at field_is in
                let k : rest * 2 ^ shift ≡ 0 = ap (λ (x : ℕ). x * 2 ^ shift) z ∙ zero-mul (2 ^ shift) in
                let g : rest * 2 ^ unit ≡ 0 * 2 ^ 0 = ap (λ (x : ℕ). x * 2 ^ unit) z ∙ zero-mul (2 ^ unit) in
                rw w (omega arith) ∙ sym (ap (bits 23) g ∙ bits_at 23 0 0 (omega arith) (λ (h : 0 < 0). absurd (lt_irrefl 0 h)))
            | no n ↦
                let f : field ≡ unit - shift = rw (ne_eqb rest 0 (λ (q : rest ≡ 0). omega arith)) at field_is in
                rw (w, f)
                (sym (ap (bits 23) (sym (joined rest shift (unit - shift) unit (let l = shift_le in omega arith)))
                ∙ bits_at 23 (unit - shift) (rest * 2 ^ shift) (omega arith) (λ g. b.1 g (let q : 0 < rest = omega arith in q))))
          ]

      packed-below : rest * 2 ^ unit < limit binary32 → field * 2 ^ 23 + rest * 2 ^ shift % 2 ^ 64 < 0x7f80_0000
      packed-below h = rw packed-bits (bits_below binary32 (omega arith) (record { e = unit; m = rest; low = omega arith; small = small; is = refl }) h)

      pub packed-bounds : rest * 2 ^ unit < limit binary32 → (field ≤ 0x1_0000) × (rest * 2 ^ shift % 2 ^ 64 ≤ 0x100_0000)
      packed-bounds h =
          let b = packed-below h in
          let w : rest * 2 ^ shift % 2 ^ 64 ≡ rest * 2 ^ shift = mod-eq_of_lt (let l = significand.0 in omega arith) in
          (omega arith, rw w (let l = significand.0 in omega arith))

      pub packed-is : (minus : Bool) → rest * 2 ^ unit < limit binary32 → packed minus field (rest * 2 ^ shift % 2 ^ 64) ≡ encode binary32 (finite minus (rest * 2 ^ unit))
      unfolding encode
      packed-is minus h =
          let b = packed-below h in
          let below : min (infinity binary32) (field * 2 ^ 23 + rest * 2 ^ shift % 2 ^ 64) ≡ field * 2 ^ 23 + rest * 2 ^ shift % 2 ^ 64 = omega arith in
          ap (signed binary32 minus) (below ∙ packed-bits)
