-- What the bits of a binary32 pattern show: NaN, finite, infinite, zero.
use mathlib.Core.Path.{◌≡◌, refl, sym, ap, ◌∙◌}
use mathlib.Core.Logic.{inl, inr}
use mathlib.Core.Bool.{Bool, true, false, cond, ◌&&◌, ◌||◌}
use Prim.Native.Nat.{ℕ, ◌%◌, ◌^◌, ◌<◌}
use native.Mathlib.Nat.{le_of_eq, le_of_lt}
use native.Mathlib.Decide.{dec_le}
use native.Mathlib.Omega.{arith}
use lib.Dec.{ltb, leb, eqb}
use borrow.Author.Tests.{lt-ltb, le-ltb, ltb-false, eq-eqb, ne_eqb}
use Rattle.rounding_spec.specs.Format.{binary32, infinity}
use Rattle.rounding_spec.specs.Value.{unsigned, decode, is_nan, is_finite, is_infinite, is_zero}
use Rattle.rounding_spec.proofs.Compare.{tri}
use Rattle.rounding_spec.proofs.Orders.{magnitude-none}
use Rattle.rounding_spec.proofs.Codec.{unsigned-finite, unsigned-infinite, unsigned-nan}
use Rattle.pattern_spec.specs.Inner.{larger}

-- ---- NaN, finite, infinite
nan-unsigned : (s : Bool) (c : ℕ) → ltb 0x7f80_0000 c ≡ is_nan (unsigned binary32 s c)
nan-unsigned s c =
    elim (tri c (infinity binary32)) [
      | inl h ↦ le-ltb 0x7f80_0000 c (le_of_lt h) ∙ sym (ap is_nan (unsigned-finite binary32 s c h))
      | inr o ↦ elim o [
        | inl e ↦ le-ltb 0x7f80_0000 c (le_of_eq e) ∙ sym (ap is_nan (unsigned-infinite binary32 s c e))
        | inr h ↦ lt-ltb 0x7f80_0000 c h ∙ sym (ap is_nan (unsigned-nan binary32 s c h))
      ]
    ]

pub nan_is : (x : ℕ) → ltb 0x7f80_0000 (x % 2 ^ 31) ≡ is_nan (decode binary32 x)
unfolding decode
nan_is x = nan-unsigned (leb (2 ^ 31) x) (x % 2 ^ 31)

-- where the operand of the larger magnitude is no NaN, none is
pub larger-number : (x y : ℕ) → is_nan (decode binary32 (larger x y)) ≡ false → (is_nan (decode binary32 x) ≡ false) × (is_nan (decode binary32 y) ≡ false)
larger-number x y n =
    elim (dec_le (y % 2 ^ 31) (x % 2 ^ 31)) [
      | yes h ↦
          let m : is_nan (decode binary32 x) ≡ false = rw (le-ltb (x % 2 ^ 31) (y % 2 ^ 31) h) at n in
          let l = ltb-false 0x7f80_0000 (x % 2 ^ 31) (nan_is x ∙ m) in
          (m, sym (nan_is y) ∙ le-ltb 0x7f80_0000 (y % 2 ^ 31) (omega arith))
      | no h ↦
          let g : x % 2 ^ 31 < y % 2 ^ 31 = omega arith in
          let m : is_nan (decode binary32 y) ≡ false = rw (lt-ltb (x % 2 ^ 31) (y % 2 ^ 31) g) at n in
          let l = ltb-false 0x7f80_0000 (y % 2 ^ 31) (nan_is y ∙ m) in
          (sym (nan_is x) ∙ le-ltb 0x7f80_0000 (x % 2 ^ 31) (omega arith), m)
    ]

finite-unsigned : (s : Bool) (c : ℕ) → ltb c 0x7f80_0000 ≡ is_finite (unsigned binary32 s c)
finite-unsigned s c =
    elim (tri c (infinity binary32)) [
      | inl h ↦ lt-ltb c 0x7f80_0000 h ∙ sym (ap is_finite (unsigned-finite binary32 s c h))
      | inr o ↦ elim o [
        | inl e ↦ le-ltb c 0x7f80_0000 (le_of_eq (sym e)) ∙ sym (ap is_finite (unsigned-infinite binary32 s c e))
        | inr h ↦ le-ltb c 0x7f80_0000 (le_of_lt h) ∙ sym (ap is_finite (unsigned-nan binary32 s c h))
      ]
    ]

pub finite-is : (x : ℕ) → ltb (x % 2 ^ 31) 0x7f80_0000 ≡ is_finite (decode binary32 x)
unfolding decode
finite-is x = finite-unsigned (leb (2 ^ 31) x) (x % 2 ^ 31)

infinite-unsigned : (s : Bool) (c : ℕ) → eqb c 0x7f80_0000 ≡ is_infinite (unsigned binary32 s c)
infinite-unsigned s c =
    elim (tri c (infinity binary32)) [
      | inl h ↦ ne_eqb c 0x7f80_0000 (λ (e : c ≡ 0x7f80_0000). omega arith) ∙ sym (ap is_infinite (unsigned-finite binary32 s c h))
      | inr o ↦ elim o [
        | inl e ↦ eq-eqb c 0x7f80_0000 e ∙ sym (ap is_infinite (unsigned-infinite binary32 s c e))
        | inr h ↦ ne_eqb c 0x7f80_0000 (λ (e : c ≡ 0x7f80_0000). omega arith) ∙ sym (ap is_infinite (unsigned-nan binary32 s c h))
      ]
    ]

pub infinite-is : (x : ℕ) → eqb (x % 2 ^ 31) 0x7f80_0000 ≡ is_infinite (decode binary32 x)
unfolding decode
infinite-is x = infinite-unsigned (leb (2 ^ 31) x) (x % 2 ^ 31)

-- ---- +0 or -0
zero-unsigned : (s : Bool) (c : ℕ) → eqb c 0 ≡ is_zero (unsigned binary32 s c)
zero-unsigned s c =
    elim (tri c (infinity binary32)) [
      | inl h ↦ magnitude-none c ∙ sym (ap is_zero (unsigned-finite binary32 s c h))
      | inr o ↦ elim o [
        | inl e ↦ ne_eqb c 0 (λ (z : c ≡ 0). omega arith) ∙ sym (ap is_zero (unsigned-infinite binary32 s c e))
        | inr h ↦ ne_eqb c 0 (λ (z : c ≡ 0). omega arith) ∙ sym (ap is_zero (unsigned-nan binary32 s c h))
      ]
    ]

pub zero_is : (x : ℕ) → eqb (x % 2 ^ 31) 0 ≡ is_zero (decode binary32 x)
unfolding decode
zero_is x = zero-unsigned (leb (2 ^ 31) x) (x % 2 ^ 31)

-- ---- choices that read as `or` and `and`
pub chosen-or : (a b : Bool) → cond a true b ≡ a || b
chosen-or true b = refl
chosen-or false b = refl

pub chosen-and : (a b : Bool) → cond a b false ≡ a && b
chosen-and true b = refl
chosen-and false b = refl
