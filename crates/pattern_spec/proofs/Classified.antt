-- The class of a pattern stands for the value that the pattern decodes to, within bounds; and a flipped sign bit negates.
use mathlib.Core.Path.{◌≡◌, refl, sym, ap, ◌∙◌}
use mathlib.Core.Logic.{inl, inr}
use mathlib.Core.Bool.{Bool, true, false, not, cond}
use Prim.Native.Nat.{ℕ, zero, suc, ◌+◌, ◌-◌, ◌*◌, ◌/◌, ◌%◌, ◌^◌, ◌≤◌, ◌<◌}
use native.Mathlib.Nat.{le_refl, le_of_lt, mul-one, lt_irrefl, sub-add_cancel, add-mod_right}
use native.Mathlib.Decide.{dec_le}
use native.Mathlib.Omega.{arith}
use borrow.Author.Tests.{lt-leb, le-leb, lt-ltb, le-ltb, ne_eqb}
use lib.Dec.{leb, ltb, eqb}
use lib.Pow.{mod-mod-pow}
use Rattle.rounding_spec.specs.Format.{Format, binary32, infinity, sign_bit}
use Rattle.rounding_spec.specs.Value.{Value, nan, infinite, finite, is_nan, fields, magnitude, unsigned, decode}
use Rattle.rounding_spec.specs.Numbers.{number}
use Rattle.rounding_spec.proofs.Compare.{tri}
use Rattle.rounding_spec.proofs.Codec.{unsigned-finite, unsigned-infinite, unsigned-nan}
use Rattle.pattern_spec.specs.declared.Class.{Class}
use Rattle.pattern_spec.specs.declared.Class.TheVariants.{Finite, Infinite, NotANumber}
use Rattle.pattern_spec.specs.Exact.{negate}
use Rattle.pattern_spec.specs.Classes.{by_field, class_of, value_of, flip}
use Rattle.pattern_spec.specs.Inner.{Operand, Below, Descending, Bounded}

-- ---- the four cases
module _ (s : Bool) (m : ℕ) where
  field-zero : (E : ℕ) → E ≡ 0 → by_field s E m ≡ Finite (number s m 0)
  field-zero E e = rw e

  field-normal : (E : ℕ) → 1 ≤ E → E ≤ 254 → by_field s E m ≡ Finite (number s (2 ^ 23 + m) (E - 1))
  field-normal zero l h = absurd (lt_irrefl 0 l)
  field-normal (suc e) l h = rw (ne_eqb (suc e) 255 (λ (q : suc e ≡ 255). omega arith)) (ap (λ (e : ℕ). Finite (number s (2 ^ 23 + m) e)) (omega arith))

  field-infinite : (E : ℕ) → E ≡ 255 → m ≡ 0 → by_field s E m ≡ Infinite s
  field-infinite E e z = rw (e, z)

  field-nan : (E : ℕ) → E ≡ 255 → (m ≡ 0 → ⊥) → by_field s E m ≡ NotANumber
  field-nan E e n = rw (e, ne_eqb m 0 n)

module _ (x : ℕ) where
  pub class-zero : x % 2 ^ 31 / 2 ^ 23 ≡ 0 → Finite (number (leb (2 ^ 31) x) (x % 2 ^ 23) 0) ≡ class_of x
  unfolding class_of
  class-zero e = sym (field-zero (leb (2 ^ 31) x) (x % 2 ^ 23) (x % 2 ^ 31 / 2 ^ 23) e)

  pub class-normal : 1 ≤ x % 2 ^ 31 / 2 ^ 23 → x % 2 ^ 31 / 2 ^ 23 ≤ 254 → Finite (number (leb (2 ^ 31) x) (2 ^ 23 + x % 2 ^ 23) (x % 2 ^ 31 / 2 ^ 23 - 1)) ≡ class_of x
  unfolding class_of
  class-normal l h = sym (field-normal (leb (2 ^ 31) x) (x % 2 ^ 23) (x % 2 ^ 31 / 2 ^ 23) l h)

  pub class-infinite : 254 < x % 2 ^ 31 / 2 ^ 23 → x % 2 ^ 23 ≡ 0 → Infinite (leb (2 ^ 31) x) ≡ class_of x
  unfolding class_of
  class-infinite l z = sym (field-infinite (leb (2 ^ 31) x) (x % 2 ^ 23) (x % 2 ^ 31 / 2 ^ 23) (omega arith) z)

  pub class-nan : 254 < x % 2 ^ 31 / 2 ^ 23 → (x % 2 ^ 23 ≡ 0 → ⊥) → NotANumber ≡ class_of x
  unfolding class_of
  class-nan l n = sym (field-nan (leb (2 ^ 31) x) (x % 2 ^ 23) (x % 2 ^ 31 / 2 ^ 23) (omega arith) n)

-- ---- the value
module _ (s : Bool) (c : ℕ) where
  value-zero : c / 2 ^ 23 ≡ 0 → finite s (c % 2 ^ 23 * 2 ^ 0) ≡ unsigned binary32 s c
  unfolding magnitude fields
  value-zero e =
      let v : magnitude 23 c ≡ c % 2 ^ 23 = rw e in
      sym (unsigned-finite binary32 s c (omega arith) ∙ ap (finite s) (v ∙ sym (mul-one (c % 2 ^ 23))))

  value-normal : (E : ℕ) → c / 2 ^ 23 ≡ E → 1 ≤ E → E ≤ 254 → finite s ((2 ^ 23 + c % 2 ^ 23) * 2 ^ (E - 1)) ≡ unsigned binary32 s c
  unfolding magnitude fields
  value-normal zero e l h = absurd (lt_irrefl 0 l)
  value-normal (suc d) e l h =
      let v : magnitude 23 c ≡ (2 ^ 23 + c % 2 ^ 23) * 2 ^ d = rw e in
      let w : suc d - 1 ≡ d = omega arith in
      sym (unsigned-finite binary32 s c (omega arith) ∙ ap (finite s) (v ∙ ap (λ (k : ℕ). (2 ^ 23 + c % 2 ^ 23) * 2 ^ k) (sym w)))

pub value-class : (x : ℕ) → value_of (class_of x) ≡ decode binary32 x
unfolding value_of decode
value-class x =
    let s = leb (2 ^ 31) x in
    let c = x % 2 ^ 31 in
    let m : c % 2 ^ 23 ≡ x % 2 ^ 23 = mod-mod-pow x 8 23 in
    elim (tri (c / 2 ^ 23) 0) [
      | inl h ↦ absurd (omega arith)
      | inr o ↦ elim o [
        | inl e ↦ ap value_of (sym (class-zero x e)) ∙ ap (λ (k : ℕ). finite s (k * 2 ^ 0)) (sym m) ∙ value-zero s c e
        | inr p ↦ elim (dec_le (c / 2 ^ 23) 254) [
          | yes h ↦ ap value_of (sym (class-normal x p h)) ∙ ap (λ (k : ℕ). finite s ((2 ^ 23 + k) * 2 ^ (c / 2 ^ 23 - 1))) (sym m) ∙ value-normal s c (c / 2 ^ 23) refl p h
          | no h ↦ elim (tri (x % 2 ^ 23) 0) [
            | inl g ↦ absurd (omega arith)
            | inr q ↦ elim q [
              | inl z ↦ ap value_of (sym (class-infinite x (omega arith) z)) ∙ sym (unsigned-infinite binary32 s c (omega arith))
              | inr z ↦ ap value_of (sym (class-nan x (omega arith) (λ (g : x % 2 ^ 23 ≡ 0). omega arith))) ∙ sym (unsigned-nan binary32 s c (omega arith))
            ]
          ]
        ]
      ]
    ]

-- what a call of `classify` tells its caller
pub class-value : (x : ℕ) (r : Class) → r ≡ class_of x → value_of r ≡ decode binary32 x
class-value x r e = ap value_of e ∙ value-class x

-- ---- the bounds
by_field-bounded : (s : Bool) (E m : ℕ) → m < 2 ^ 23 → E ≤ 255 → Bounded Operand (by_field s E m)
by_field-bounded s E m h l =
    elim (tri E 0) [
      | inl g ↦ absurd (omega arith)
      | inr o ↦ elim o [
        | inl e ↦ rw (field-zero s m E e) (record { sig = omega arith; exp = omega arith; leads = λ g. absurd (lt_irrefl 0 g) })
        | inr p ↦ elim (dec_le E 254) [
          | yes g ↦ rw (field-normal s m E p g) (record { sig = omega arith; exp = omega arith; leads = λ k. omega arith })
          | no g ↦ elim (tri m 0) [
            | inl k ↦ absurd (omega arith)
            | inr q ↦ elim q [
              | inl z ↦ rw (field-infinite s m E (omega arith) z) tt
              | inr z ↦ rw (field-nan s m E (omega arith) (λ (k : m ≡ 0). omega arith)) tt
            ]
          ]
        ]
      ]
    ]

pub class-bounded : (x : ℕ) → Bounded Operand (class_of x)
unfolding class_of
class-bounded x = by_field-bounded (leb (2 ^ 31) x) (x % 2 ^ 31 / 2 ^ 23) (x % 2 ^ 23) (omega arith) (omega arith)

pub class-operand : (x : ℕ) (r : Class) → r ≡ class_of x → Bounded Operand r
class-operand x r e = rw e (class-bounded x)

-- ---- the order of magnitudes is that of exponents
-- between two finite classes; a class that is not finite is below none and above all
descend : (s : Bool) (E m : ℕ) (t : Bool) (D n : ℕ) → D ≤ E → Descending (by_field s E m) (by_field t D n)
descend s zero m t zero n h = le_refl 0
descend s zero m t (suc d) n h = absurd (omega arith)
descend s (suc e) m t D n h = first (eqb (suc e) 255) (eqb m 0)
  where
    zero-below : (D : ℕ) → D ≤ suc e → Below e (by_field t D n)
    zero-below zero h = omega arith
    zero-below (suc d) h = second (eqb (suc d) 255) (eqb n 0)
      where
        second : (b c : Bool) → Below e (cond b (cond c (Infinite t) NotANumber) (Finite (number t (2 ^ 23 + n) d)))
        second true true = tt
        second true false = tt
        second false c = omega arith

    first : (b c : Bool) → Descending (cond b (cond c (Infinite s) NotANumber) (Finite (number s (2 ^ 23 + m) e))) (by_field t D n)
    first true true = tt
    first true false = tt
    first false c = zero-below D h

class-descending : (x y : ℕ) → y % 2 ^ 31 ≤ x % 2 ^ 31 → Descending (class_of x) (class_of y)
unfolding class_of
class-descending x y h = descend (leb (2 ^ 31) x) (x % 2 ^ 31 / 2 ^ 23) (x % 2 ^ 23) (leb (2 ^ 31) y) (y % 2 ^ 31 / 2 ^ 23) (y % 2 ^ 23) (omega arith)

-- the patterns as they are chosen, the larger magnitude first
pub chosen-descending : (x y : ℕ) → Descending (class_of (cond (ltb (x % 2 ^ 31) (y % 2 ^ 31)) y x)) (class_of (cond (ltb (x % 2 ^ 31) (y % 2 ^ 31)) x y))
chosen-descending x y =
    elim (dec_le (y % 2 ^ 31) (x % 2 ^ 31)) [
      | yes h ↦ rw (le-ltb (x % 2 ^ 31) (y % 2 ^ 31) h) (class-descending x y h)
      | no h ↦ let l : x % 2 ^ 31 < y % 2 ^ 31 = omega arith in rw (lt-ltb (x % 2 ^ 31) (y % 2 ^ 31) l) (class-descending y x (le_of_lt l))
    ]

-- ---- the sign bit
negate-unsigned : (F : Format) (s : Bool) (c : ℕ) → unsigned F (not s) c ≡ negate (unsigned F s c)
unfolding negate
negate-unsigned F s c =
    elim (tri c (infinity F)) [
      | inl h ↦ unsigned-finite F (not s) c h ∙ sym (ap negate (unsigned-finite F s c h))
      | inr o ↦ elim o [
        | inl e ↦ unsigned-infinite F (not s) c e ∙ sym (ap negate (unsigned-infinite F s c e))
        | inr h ↦ unsigned-nan F (not s) c h ∙ sym (ap negate (unsigned-nan F s c h))
      ]
    ]

pub decode-flip : (F : Format) (x : ℕ) → x < 2 * sign_bit F → decode F (flip F x) ≡ negate (decode F x)
unfolding decode
decode-flip F x h =
    let S = sign_bit F in
    elim (dec_le S x) [
      | yes g ↦
          let a : leb S x ≡ true = le-leb S x g in
          let b : leb S (x - S) ≡ false = lt-leb S (x - S) (omega arith) in
          let m : (x - S) % S ≡ x % S = sym (add-mod_right (x - S) S) ∙ ap (λ (y : ℕ). y % S) (sub-add_cancel g) in
          rw (a, b, m) (negate-unsigned F true (x % S))
      | no g ↦
          let a : leb S x ≡ false = lt-leb S x (omega arith) in
          let b : leb S (x + S) ≡ true = le-leb S (x + S) (omega arith) in
          let m : (x + S) % S ≡ x % S = add-mod_right x S in
          rw (a, b, m) (negate-unsigned F false (x % S))
    ]

pub nan-negated : (v : Value) → is_nan (negate v) ≡ is_nan v
unfolding negate
nan-negated nan = refl
nan-negated (infinite s) = refl
nan-negated (finite s a) = refl
