-- The operand of the larger magnitude and the other one, and what a flip does to the bits.
use mathlib.Core.Path.{◌≡◌, refl, sym, ap, ◌∙◌}
use mathlib.Core.Logic.{inl, inr}
use Prim.Native.Nat.{ℕ, ◌+◌, ◌-◌, ◌%◌, ◌^◌, ◌<◌}
use native.Mathlib.Nat.{le_of_lt, sub-add_cancel, add-mod_right}
use native.Mathlib.Decide.{dec_le}
use native.Mathlib.Omega.{arith}
use borrow.Author.Tests.{lt-leb, le-leb, lt-ltb, le-ltb}
use Rattle.rounding_spec.specs.Format.{sign_bit}
use Rattle.pattern_spec.specs.Theorems.{LargerFirst, FlipBits}

pub larger-first : LargerFirst
larger-first x y =
    elim (dec_le (y % 2 ^ 31) (x % 2 ^ 31)) [
      | yes h ↦ rw (le-ltb (x % 2 ^ 31) (y % 2 ^ 31) h) (inl (refl, refl), h, λ e. (refl, refl))
      | no h ↦ let l : x % 2 ^ 31 < y % 2 ^ 31 = omega arith in rw (lt-ltb (x % 2 ^ 31) (y % 2 ^ 31) l) (inr (refl, refl), le_of_lt l, λ e. absurd (omega arith))
    ]

pub flip_bits : FlipBits
flip_bits F x h =
    let S = sign_bit F in
    elim (dec_le S x) [
      | yes g ↦
          let m : (x - S) % S ≡ x % S = sym (add-mod_right (x - S) S) ∙ ap (λ (y : ℕ). y % S) (sub-add_cancel g) in
          rw (le-leb S x g, lt-leb S (x - S) (omega arith)) (m, refl, omega arith)
      | no g ↦ rw (lt-leb S x (omega arith), le-leb S (x + S) (omega arith)) (add-mod_right x S, refl, omega arith)
    ]
