-- Signalling patterns lie between the infinity's and its sum with the highest fraction bit.
use mathlib.Core.Path.{◌≡◌, sym, ap, ◌∙◌}
use mathlib.Core.Logic.{inl, inr}
use mathlib.Core.Bool.{◌&&◌}
use Prim.Native.Nat.{ℕ, suc, ◌+◌, ◌-◌, ◌*◌, ◌/◌, ◌%◌, ◌^◌, ◌≤◌, ◌<◌}
use native.Mathlib.Nat.{mod-lt, div-add-mod', pow-suc}
use native.Mathlib.Decide.{dec_le}
use native.Mathlib.Omega.{arith}
use borrow.Author.Tests.{lt-ltb, le-ltb}
use lib.Arith.{digits_div}
use lib.Dec.{leb, ltb, eqb}
use lib.Pow.{pow_pos}
use Rattle.rounding_spec.specs.Format.{Format, ones, infinity, sign_bit}
use Rattle.rounding_spec.specs.Value.{is_nan, decode, signalling}
use Rattle.rounding_spec.specs.Theorems.{SignallingRange}
use Rattle.rounding_spec.proofs.Compare.{tri}
use Rattle.rounding_spec.proofs.Codec.{unsigned-finite, unsigned-infinite, unsigned-nan}

module _ (F : Format) (pos : 0 < F.fraction) (x : ℕ) where
  -- the weight of the highest fraction bit
  abbrev H : ℕ
  H = 2 ^ (F.fraction - 1)

  abbrev c : ℕ
  c = x % sign_bit F

  -- the bits above it, where all exponent bits are 1
  abbrev above : ℕ
  above = (x / sign_bit F * suc (ones F) + ones F) * 2

  pub two-halves : 2 ^ F.fraction ≡ H * 2
  two-halves = ap (λ (k : ℕ). 2 ^ k) (let z : F.fraction ≡ suc (F.fraction - 1) = omega (arith, pos) in z) ∙ pow-suc 2 (F.fraction - 1)

  infinity-is : infinity F ≡ ones F * 2 * H
  infinity-is = ap (λ (k : ℕ). ones F * k) two-halves ∙ omega arith

  sign-is : sign_bit F ≡ suc (ones F) * 2 * H
  sign-is = ap (λ (k : ℕ). suc (ones F) * k) two-halves ∙ omega arith

  pub c-below : c < infinity F + 2 * H
  c-below = let z : 0 < sign_bit F = omega (arith, pow_pos F.fraction) in omega (arith, mod-lt x z, two-halves)

  pub split_at : infinity F ≤ c → x ≡ above * H + (c - infinity F)
  split_at h =
      let q = x / sign_bit F in
      let d : q * sign_bit F + c ≡ x = div-add-mod' x (sign_bit F) in
      let s : q * sign_bit F ≡ q * (suc (ones F) * 2 * H) = ap (λ (k : ℕ). q * k) sign-is in
      omega (arith, infinity-is)

  bit : infinity F < c → eqb (x / H % 2) 0 ≡ ltb c (infinity F + H)
  bit h =
      elim (dec_le (infinity F + H) c) [
        | yes g ↦
            let e : x ≡ (above + 1) * H + (c - infinity F - H) = omega (arith, split_at (let z : infinity F ≤ c = omega arith in z)) in
            let k : x / H ≡ above + 1 = ap (λ (y : ℕ). y / H) e ∙ digits_div (above + 1) (let z : c - infinity F - H < H = omega (arith, c-below) in z) in
            let n : x / H % 2 ≡ 1 = ap (λ (y : ℕ). y % 2) k ∙ omega arith in
            ap (λ (y : ℕ). eqb y 0) n ∙ sym (le-ltb c (infinity F + H) g)
        | no g ↦
            let k : x / H ≡ above = ap (λ (y : ℕ). y / H) (split_at (let z : infinity F ≤ c = omega arith in z)) ∙ digits_div above (let z : c - infinity F < H = omega arith in z) in
            let n : x / H % 2 ≡ 0 = ap (λ (y : ℕ). y % 2) k ∙ omega arith in
            ap (λ (y : ℕ). eqb y 0) n ∙ sym (lt-ltb c (infinity F + H) (omega arith))
      ]

  range : is_nan (decode F x) && eqb (x / H % 2) 0 ≡ ltb (infinity F) c && ltb c (infinity F + H)
  unfolding decode
  range =
      let s = leb (sign_bit F) x in
      elim (tri c (infinity F)) [
        | inl h ↦ rw (unsigned-finite F s c h, le-ltb (infinity F) c (omega arith))
        | inr o ↦ elim o [
          | inl e ↦ rw (unsigned-infinite F s c e, le-ltb (infinity F) c (omega arith))
          | inr h ↦ rw (unsigned-nan F s c h, lt-ltb (infinity F) c h) (bit h)
        ]
      ]

pub signalling-range : SignallingRange
unfolding signalling
signalling-range F ok x = range F ok.0 x
