-- Equal values by their patterns: one pattern that is no NaN's, or two zeros.
use mathlib.Core.Path.{◌≡◌, refl, sym, ap, ◌∙◌}
use mathlib.Core.Logic.{inl, inr}
use mathlib.Core.Bool.{Bool, true, false, beq, cond}
use Prim.Native.Nat.{ℕ, ◌+◌, ◌%◌, ◌^◌, ◌≤◌, ◌<◌}
use native.Mathlib.Decide.{dec_le}
use native.Mathlib.Omega.{arith}
use lib.Dec.{leb, eqb}
use borrow.Author.Tests.{le-leb, lt-leb, eqb-true, eqb-false, eq-eqb, ne_eqb}
use Rattle.rounding_spec.specs.Format.{binary32, infinity}
use Rattle.rounding_spec.specs.Value.{infinite, finite, magnitude, unsigned, decode}
use Rattle.rounding_spec.proofs.Compare.{tri}
use Rattle.rounding_spec.proofs.Codec.{unsigned-finite, unsigned-infinite, unsigned-nan}
use Rattle.pattern_spec.specs.Comparisons.{same}
use Rattle.worksheet_spec.specs.Lines.{equal}
use Rattle.rounding_spec.proofs.Orders.{magnitude-none, magnitude-eqb}

own_sign : (s : Bool) → beq s s ≡ true
own_sign true = refl
own_sign false = refl

-- ---- other bits below the sign
module _ (s : Bool) (c : ℕ) (t : Bool) (d : ℕ) (n : c ≡ d → ⊥) where
  finite-apart : c < infinity binary32 → same (finite s (magnitude 23 c)) (unsigned binary32 t d) ≡ false
  unfolding same
  finite-apart h =
      elim (tri d (infinity binary32)) [
        | inl g ↦ rw (unsigned-finite binary32 t d g, ← magnitude-eqb 23 c d, ne_eqb c d n)
        | inr o ↦ elim o [ inl e ↦ rw (unsigned-infinite binary32 t d e) | inr g ↦ rw (unsigned-nan binary32 t d g) ]
      ]

  infinite-apart : c ≡ infinity binary32 → same (infinite s) (unsigned binary32 t d) ≡ false
  unfolding same
  infinite-apart h =
      elim (tri d (infinity binary32)) [
        | inl g ↦ rw (unsigned-finite binary32 t d g)
        | inr o ↦ elim o [ inl e ↦ absurd (n (h ∙ sym e)) | inr g ↦ rw (unsigned-nan binary32 t d g) ]
      ]

  bits-apart : same (unsigned binary32 s c) (unsigned binary32 t d) ≡ false
  unfolding same
  bits-apart =
      elim (tri c (infinity binary32)) [
        | inl h ↦ rw (unsigned-finite binary32 s c h) (finite-apart h)
        | inr o ↦ elim o [ inl e ↦ rw (unsigned-infinite binary32 s c e) (infinite-apart e) | inr h ↦ rw (unsigned-nan binary32 s c h) ]
      ]

-- ---- the same bits below the sign
module _ (s : Bool) (c : ℕ) where
  same_self : leb c 0x7f80_0000 ≡ same (unsigned binary32 s c) (unsigned binary32 s c)
  unfolding same
  same_self =
      elim (tri c (infinity binary32)) [
        | inl h ↦ rw (le-leb c 0x7f80_0000 (omega arith), unsigned-finite binary32 s c h, eq-eqb (magnitude 23 c) (magnitude 23 c) refl, own_sign s)
        | inr o ↦ elim o [
          | inl e ↦ rw (le-leb c 0x7f80_0000 (omega arith), unsigned-infinite binary32 s c e, own_sign s)
          | inr h ↦ rw (lt-leb c 0x7f80_0000 h, unsigned-nan binary32 s c h)
        ]
      ]

  same-opposite : (t : Bool) → beq s t ≡ false → eqb c 0 ≡ same (unsigned binary32 s c) (unsigned binary32 t c)
  unfolding same
  same-opposite t n =
      elim (tri c (infinity binary32)) [
        | inl h ↦ rw (unsigned-finite binary32 s c h, unsigned-finite binary32 t c h, eq-eqb (magnitude 23 c) (magnitude 23 c) refl, n) (magnitude-none c)
        | inr o ↦ elim o [
          | inl e ↦ rw (ne_eqb c 0 (λ (z : c ≡ 0). omega arith), unsigned-infinite binary32 s c e, unsigned-infinite binary32 t c e, n)
          | inr h ↦ rw (ne_eqb c 0 (λ (z : c ≡ 0). omega arith), unsigned-nan binary32 s c h)
        ]
      ]

-- ---- patterns
signs-differ : (x y : ℕ) → x < 2 ^ 32 → y < 2 ^ 32 → (x ≡ y → ⊥) → x % 2 ^ 31 ≡ y % 2 ^ 31 → beq (leb (2 ^ 31) x) (leb (2 ^ 31) y) ≡ false
signs-differ x y v w n e =
    elim (dec_le (2 ^ 31) x) [
      | yes g ↦ elim (dec_le (2 ^ 31) y) [
        | yes h ↦ absurd (n (omega arith))
        | no h ↦ let k : y < 2 ^ 31 = omega arith in rw (le-leb (2 ^ 31) x g, lt-leb (2 ^ 31) y k)
      ]
      | no g ↦ let l : x < 2 ^ 31 = omega arith in elim (dec_le (2 ^ 31) y) [
        | yes h ↦ rw (lt-leb (2 ^ 31) x l, le-leb (2 ^ 31) y h)
        | no h ↦ absurd (n (omega arith))
      ]
    ]

-- both zero, or neither
twice-none : (c d : ℕ) → c ≡ d → eqb (c + d) 0 ≡ eqb c 0
twice-none c d e = by (eqb c 0) refl
  where
    by : (b : Bool) → eqb c 0 ≡ b → eqb (c + d) 0 ≡ b
    by true z = let q = eqb-true c 0 z in eq-eqb (c + d) 0 (omega arith)
    by false z = ne_eqb (c + d) 0 (λ (q : c + d ≡ 0). eqb-false c 0 z (omega arith))

different : (s : Bool) (c : ℕ) (t : Bool) (d : ℕ) → (c ≡ d → beq s t ≡ false) → eqb (c + d) 0 ≡ same (unsigned binary32 s c) (unsigned binary32 t d)
different s c t d k =
    elim (tri c d) [
      | inl h ↦ apart (λ (e : c ≡ d). omega arith)
      | inr o ↦ elim o [
        | inl e ↦ twice-none c d e ∙ same-opposite s c t (k e) ∙ ap (λ (z : ℕ). same (unsigned binary32 s c) (unsigned binary32 t z)) e
        | inr h ↦ apart (λ (e : c ≡ d). omega arith)
      ]
    ]
  where
    apart : (c ≡ d → ⊥) → eqb (c + d) 0 ≡ same (unsigned binary32 s c) (unsigned binary32 t d)
    apart n = ne_eqb (c + d) 0 (λ (z : c + d ≡ 0). n (omega arith)) ∙ sym (bits-apart s c t d n)

pub equal_is : (x y : ℕ) → x < 2 ^ 32 → y < 2 ^ 32 → cond (eqb x y) (leb (x % 2 ^ 31) 0x7f80_0000) (eqb (x % 2 ^ 31 + y % 2 ^ 31) 0) ≡ equal x y
unfolding decode
equal_is x y v w = by (eqb x y) refl
  where
    by : (b : Bool) → eqb x y ≡ b → cond b (leb (x % 2 ^ 31) 0x7f80_0000) (eqb (x % 2 ^ 31 + y % 2 ^ 31) 0) ≡ equal x y
    by true e = same_self (leb (2 ^ 31) x) (x % 2 ^ 31) ∙ ap (equal x) (eqb-true x y e)
    by false e = different (leb (2 ^ 31) x) (x % 2 ^ 31) (leb (2 ^ 31) y) (y % 2 ^ 31) (signs-differ x y v w (eqb-false x y e))

-- a value that is neither zero nor NaN has one pattern
pub equal-one : (x y : ℕ) → x < 2 ^ 32 → y < 2 ^ 32 → 0 < y % 2 ^ 31 → y % 2 ^ 31 ≤ 0x7f80_0000 → eqb x y ≡ equal x y
equal-one x y v w l h = by (eqb x y) refl ∙ equal_is x y v w
  where
    by : (b : Bool) → eqb x y ≡ b → b ≡ cond b (leb (x % 2 ^ 31) 0x7f80_0000) (eqb (x % 2 ^ 31 + y % 2 ^ 31) 0)
    by true e = let q = eqb-true x y e in sym (le-leb (x % 2 ^ 31) 0x7f80_0000 (omega arith))
    by false e = sym (ne_eqb (x % 2 ^ 31 + y % 2 ^ 31) 0 (λ z. omega arith))
