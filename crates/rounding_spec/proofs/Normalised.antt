-- A significand moved up by its leading zeros: where its last place is, and what is kept of it.
use mathlib.Core.Path.{◌≡◌, refl, sym, ap, ap₂, ◌∙◌}
use mathlib.Core.Bool.{Bool}
use Prim.Native.Nat.{ℕ, suc, ◌+◌, ◌-◌, ◌*◌, ◌%◌, ◌^◌, ◌≤◌, ◌<◌, min, max}
use native.Mathlib.Nat.{zero-mul, mul-le-mul_right, lt_of_lt_of_le, mod-eq_of_lt, lt_irrefl}
use native.Mathlib.Omega.{arith}
use lib.Count.{count_leading_zeros, leading_top}
use lib.Pow.{pow-add, pow_mono, shl_lt}
use Rattle.rounding_spec.specs.declared.Ties.{Ties}
use Rattle.rounding_spec.specs.Format.{binary32, infinity}
use Rattle.rounding_spec.specs.Round.{keep, last_place}
use Rattle.rounding_spec.specs.Value.{bits, signed, encode, round_finite}
use Rattle.rounding_spec.proofs.LastPlace.{place_is}
use Rattle.rounding_spec.proofs.Keep.{keep-scale}
use Rattle.rounding_spec.proofs.Multiple.{joined}
use Rattle.rounding_spec.proofs.Rounded.{keep-le, rounded-none}
use Rattle.rounding_spec.proofs.Bits.{bits_at, bits-rounded}
use Rattle.rounding_spec.proofs.RoundValue.{encode-round}

-- ---- nothing rounds to nothing
pub round-zero : (t : Ties) (s : Bool) (e : ℕ) → encode binary32 (round_finite t binary32 s (0 * 2 ^ e)) ≡ signed binary32 s 0
round-zero t s e =
    let b : bits 23 0 ≡ 0 = bits_at 23 0 0 (omega arith) (λ (h : 0 < 0). absurd (lt_irrefl 0 h)) in
    ap (λ (x : ℕ). encode binary32 (round_finite t binary32 s x)) (zero-mul (2 ^ e))
    ∙ encode-round t binary32 s 0 (omega arith)
    ∙ ap (λ (x : ℕ). signed binary32 s (min (infinity binary32) x)) (ap (bits 23) (rounded-none t 23 149) ∙ b)

module _ (t : Ties) (sig e place : ℕ) (pos : 0 < sig) (word : sig < 2 ^ 64) (is : place ≡ max 149 (e + 64 - count_leading_zeros 64 sig - 24)) where
  pub zeros-lt : count_leading_zeros 64 sig < 64
  zeros-lt = let top = leading_top 64 sig pos word in omega arith

  pub at-last-place : last_place 23 149 (sig * 2 ^ e) ≡ place
  at-last-place =
      let top = leading_top 64 sig pos word in
      let up : sig * 2 ^ e < 2 ^ (24 + place) = lt_of_lt_of_le (shl_lt (suc top.0) e top.3) (pow_mono (omega arith)) in
      let down : 149 < place → 2 ^ (23 + place) ≤ sig * 2 ^ e = λ h.
      let same : 23 + place ≡ top.0 + e = omega arith in
      rw (same, pow-add 2 top.0 e) (mul-le-mul_right (2 ^ e) top.2)
      in
      place_is 23 149 place (sig * 2 ^ e) (omega arith) up down

  -- what is kept of the normalised word is what is kept of the number
  kept-is : keep t (place + 64 - (e + 64 - count_leading_zeros 64 sig)) (sig * 2 ^ count_leading_zeros 64 sig % 2 ^ 64) ≡ keep t place (sig * 2 ^ e)
  kept-is =
      let top = leading_top 64 sig pos word in
      let z = count_leading_zeros 64 sig in
      let d = e + 64 - z in
      let r = place + 64 - d in
      let fit : sig * 2 ^ z < 2 ^ 64 = lt_of_lt_of_le (shl_lt (suc top.0) z top.3) (pow_mono {j = 64} (omega arith)) in
      let same : sig * 2 ^ z * 2 ^ d ≡ sig * 2 ^ e * 2 ^ 64 = joined sig z d (e + 64) (omega arith) ∙ sym (joined sig e 64 (e + 64) refl) in
      let at : r + d ≡ place + 64 = omega arith in
      ap (keep t r) (mod-eq_of_lt fit) ∙ sym (keep-scale t r d (sig * 2 ^ z)) ∙ ap (λ (x : ℕ). keep t x (sig * 2 ^ z * 2 ^ d)) at ∙ ap (keep t (place + 64)) same ∙ keep-scale t place 64 (sig * 2 ^ e)

  -- with q for what is kept of the normalised word
  module _ (q : ℕ) (kept : q ≡ keep t (place + 64 - (e + 64 - count_leading_zeros 64 sig)) (sig * 2 ^ count_leading_zeros 64 sig % 2 ^ 64)) where
    pub at_place : q ≡ keep t (last_place 23 149 (sig * 2 ^ e)) (sig * 2 ^ e)
    at_place = kept ∙ kept-is ∙ ap (λ (x : ℕ). keep t x (sig * 2 ^ e)) (sym at-last-place)

    pub kept_small : q ≤ 2 ^ 24
    kept_small = rw at_place (keep-le t 23 149 (sig * 2 ^ e))

    pub round_is : (s : Bool) → encode binary32 (round_finite t binary32 s (sig * 2 ^ e)) ≡ signed binary32 s (min (infinity binary32) ((place - 149) * 2 ^ 23 + q))
    round_is s =
        encode-round t binary32 s (sig * 2 ^ e) (omega arith)
        ∙ ap (λ (x : ℕ). signed binary32 s (min (infinity binary32) x)) (bits-rounded t 23 149 (sig * 2 ^ e) ∙ ap₂ (λ (x y : ℕ). (x - 149) * 2 ^ 23 + y) at-last-place (sym at_place))
