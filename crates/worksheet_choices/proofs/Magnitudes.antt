-- What the bits below the sign show: the smaller of two magnitudes.
use mathlib.Core.Path.{◌≡◌, sym, ap, ◌∙◌}
use mathlib.Core.Logic.{inl, inr}
use mathlib.Core.Bool.{Bool, false, cond}
use Prim.Native.Nat.{ℕ, ◌%◌, ◌^◌, ◌≤◌, ◌<◌}
use native.Mathlib.Nat.{le_of_lt, le_of_eq}
use native.Mathlib.Decide.{dec_le}
use native.Mathlib.Omega.{arith}
use lib.Dec.{ltb, leb}
use borrow.Author.Tests.{lt-ltb, le-ltb, le-leb, lt-leb}
use Rattle.rounding_spec.specs.Format.{binary32, infinity}
use Rattle.rounding_spec.specs.Value.{Value, finite, magnitude, unsigned, decode}
use Rattle.rounding_spec.proofs.Compare.{tri}
use Rattle.rounding_spec.proofs.Codec.{unsigned-finite, unsigned-infinite, unsigned-nan}
use Rattle.pattern_spec.specs.Comparisons.{less_magnitude}
use Rattle.worksheet_spec.specs.Sheets.{swaps}
use Rattle.rounding_spec.proofs.Orders.{magnitude-ltb}

-- infinities, and NaN, whose bits are above theirs, are below nothing
ordered-below : (c d : ℕ) → infinity binary32 ≤ c → cond (leb d 0x7f80_0000) (ltb c d) false ≡ false
ordered-below c d h =
    elim (dec_le d 0x7f80_0000) [
      | yes g ↦ rw (le-leb d 0x7f80_0000 g, le-ltb c d (omega arith))
      | no g ↦ let k : 0x7f80_0000 < d = omega arith in rw (lt-leb d 0x7f80_0000 k)
    ]

module _ (s : Bool) (c : ℕ) (v : Value) where
  below-nothing : infinity binary32 ≤ c → less_magnitude (unsigned binary32 s c) v ≡ false
  unfolding less_magnitude
  below-nothing h =
      elim (tri c (infinity binary32)) [
        | inl g ↦ absurd (omega arith)
        | inr o ↦ elim o [ inl e ↦ rw (unsigned-infinite binary32 s c e) | inr g ↦ rw (unsigned-nan binary32 s c g) ]
      ]

module _ (s : Bool) (c : ℕ) (t : Bool) (d : ℕ) where
  finite-below : c < infinity binary32 → cond (leb d 0x7f80_0000) (ltb c d) false ≡ less_magnitude (finite s (magnitude 23 c)) (unsigned binary32 t d)
  unfolding less_magnitude
  finite-below h =
      elim (tri d (infinity binary32)) [
        | inl g ↦ rw (le-leb d 0x7f80_0000 (le_of_lt g), unsigned-finite binary32 t d g) (magnitude-ltb 23 c d)
        | inr o ↦ elim o [
          | inl e ↦ rw (le-leb d 0x7f80_0000 (le_of_eq e), lt-ltb c d (omega arith), unsigned-infinite binary32 t d e)
          | inr g ↦ rw (lt-leb d 0x7f80_0000 g, unsigned-nan binary32 t d g)
        ]
      ]

  less-unsigned : cond (leb d 0x7f80_0000) (ltb c d) false ≡ less_magnitude (unsigned binary32 s c) (unsigned binary32 t d)
  less-unsigned =
      elim (dec_le (infinity binary32) c) [
        | yes g ↦ ordered-below c d g ∙ sym (below-nothing s c (unsigned binary32 t d) g)
        | no g ↦ let h : c < infinity binary32 = omega arith in finite-below h ∙ ap (λ (v : Value). less_magnitude v (unsigned binary32 t d)) (sym (unsigned-finite binary32 s c h))
      ]

pub swaps-is : (x y : ℕ) → cond (leb (y % 2 ^ 31) 0x7f80_0000) (ltb (x % 2 ^ 31) (y % 2 ^ 31)) false ≡ swaps x y
unfolding swaps decode
swaps-is x y = less-unsigned (leb (2 ^ 31) x) (x % 2 ^ 31) (leb (2 ^ 31) y) (y % 2 ^ 31)
