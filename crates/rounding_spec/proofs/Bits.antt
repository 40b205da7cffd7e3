-- Magnitudes and the bits below the sign: each is the other's inverse, the order of the one is the order of the other, and the bits of
-- a rounded number.
use mathlib.Core.Path.{◌≡◌, refl, sym, ap, ◌∙◌}
use mathlib.Core.Logic.{inl, inr}
use Prim.Native.Nat.{ℕ, zero, suc, ◌+◌, ◌-◌, ◌*◌, ◌/◌, ◌%◌, ◌^◌, ◌≤◌, ◌<◌}
use native.Mathlib.Nat.{le_refl, le_of_lt, lt_irrefl, le_of_eq, le_trans, lt_of_le_of_lt, eq-or-lt_of_le, mul-one, mul-le-mul_right, mul-lt-mul_of_pos_right, le_of_mul-le-mul_right}
use native.Mathlib.Nat.{lt_of_mul-lt-mul_right, mul-div_cancel, div-eq_of_lt, mod-eq_of_lt, mod-lt, div-add-mod', le-div_iff_mul-le, div-lt_iff_lt-mul, pow-succ'}
use native.Mathlib.Decide.{dec_le}
use native.Mathlib.Omega.{arith}
use lib.Arith.{digits_div, digits_mod}
use lib.Ieee.{size}
use lib.Pow.{pow-add, pow_pos, shr_mono}
use Rattle.rounding_spec.specs.declared.Ties.{Ties}
use Rattle.rounding_spec.specs.Round.{keep, last_place, rounded}
use Rattle.rounding_spec.specs.Value.{magnitude, bits}
use Rattle.rounding_spec.specs.Nearest.{Rep}
use Rattle.rounding_spec.proofs.Compare.{tri}
use Rattle.rounding_spec.proofs.LastPlace.{place_is, place-above, place-below, place_mono}
use Rattle.rounding_spec.proofs.Representable.{rep-unit}
use Rattle.rounding_spec.proofs.Rounded.{keep-le, keep-ge}

-- ---- from bits to the magnitude
mag-sub : (f q : ℕ) → q < 2 ^ f → magnitude f q ≡ q
unfolding magnitude
mag-sub f q h = rw (div-eq_of_lt h, mod-eq_of_lt h)

mag-norm : (f d m : ℕ) → m < 2 ^ f → magnitude f (suc d * 2 ^ f + m) ≡ (2 ^ f + m) * 2 ^ d
unfolding magnitude
mag-norm f d m h = rw (digits_div (suc d) h, digits_mod (suc d) h)

mag-big : (f d q : ℕ) → 2 ^ f ≤ q → q ≤ 2 * 2 ^ f → magnitude f (d * 2 ^ f + q) ≡ q * 2 ^ d
mag-big f d q l h =
    let carried : q ≡ 2 * 2 ^ f → magnitude f (d * 2 ^ f + q) ≡ q * 2 ^ d = λ e.
    let c : d * 2 ^ f + q ≡ suc (suc d) * 2 ^ f + 0 = omega arith in
    let v : (2 ^ f + 0) * 2 ^ suc d ≡ q * 2 ^ d = rw (e, pow-succ') (omega arith) in
    ap (magnitude f) c ∙ mag-norm f (suc d) 0 (pow_pos f) ∙ v
    in
    let plain : q < 2 * 2 ^ f → magnitude f (d * 2 ^ f + q) ≡ q * 2 ^ d = λ g.
    let c : d * 2 ^ f + q ≡ suc d * 2 ^ f + (q - 2 ^ f) = omega arith in
    let v : 2 ^ f + (q - 2 ^ f) ≡ q = omega arith in
    ap (magnitude f) c ∙ mag-norm f d (q - 2 ^ f) (omega arith) ∙ ap (λ (x : ℕ). x * 2 ^ d) v
    in
    elim (eq-or-lt_of_le h) [ inl e ↦ carried e | inr g ↦ plain g ]

-- a significand and an exponent side by side; a carry out of the fraction goes into the field by itself
pub mag-at : (f d q : ℕ) → q ≤ 2 * 2 ^ f → (0 < d → 2 ^ f ≤ q) → magnitude f (d * 2 ^ f + q) ≡ q * 2 ^ d
mag-at f zero q h g =
    elim (tri q (2 ^ f)) [
      | inl l ↦ let c : 0 * 2 ^ f + q ≡ q = omega arith in ap (magnitude f) c ∙ mag-sub f q l ∙ sym (mul-one q)
      | inr o ↦ mag-big f 0 q (elim o [ inl e ↦ omega arith | inr l ↦ omega arith ]) h
    ]
mag-at f (suc d) q h g = mag-big f (suc d) q (g (omega arith)) h

-- ---- from the magnitude to bits
place-zero : (f a : ℕ) → last_place f 0 a ≡ size a - suc f
unfolding last_place
place-zero f a = omega arith

bits-place : (f a : ℕ) → bits f a ≡ last_place f 0 a * 2 ^ f + a / 2 ^ last_place f 0 a
unfolding bits
bits-place f a = rw (place-zero f a)

bits-digits : (f d q : ℕ) → q < 2 * 2 ^ f → (0 < d → 2 ^ f ≤ q) → bits f (q * 2 ^ d) ≡ d * 2 ^ f + q
bits-digits f d q h g =
    let up : q * 2 ^ d < 2 ^ (suc f + d) = rw (pow-add 2 (suc f) d, pow-succ' 2 f) (mul-lt-mul_of_pos_right h (pow_pos d)) in
    let down : 0 < d → 2 ^ (f + d) ≤ q * 2 ^ d = λ l. rw (pow-add 2 f d) (mul-le-mul_right (2 ^ d) (g l)) in
    bits-place f (q * 2 ^ d) ∙ rw (place_is f 0 d (q * 2 ^ d) (omega arith) up down, mul-div_cancel q (pow_pos d))

pub bits_at : (f d q : ℕ) → q ≤ 2 * 2 ^ f → (0 < d → 2 ^ f ≤ q) → bits f (q * 2 ^ d) ≡ d * 2 ^ f + q
bits_at f d q h g =
    elim (eq-or-lt_of_le h) [
      | inr l ↦ bits-digits f d q l g
      | inl e ↦
          let v : q * 2 ^ d ≡ 2 ^ f * 2 ^ suc d = rw (e, pow-succ') (omega arith) in
          ap (bits f) v ∙ bits-digits f (suc d) (2 ^ f) (omega (arith, pow_pos f)) (λ l. le_refl (2 ^ f)) ∙ omega arith
    ]

-- the bits of a rounded number: the carry goes into the exponent field
pub bits-rounded : (t : Ties) (f L N : ℕ) → bits f (rounded t f L N) ≡ (last_place f L N - L) * 2 ^ f + keep t (last_place f L N) N
unfolding rounded
bits-rounded t f L N = bits_at f (last_place f L N - L) (keep t (last_place f L N) N) (keep-le t f L N) (λ h. keep-ge t f L N (omega arith))

-- ---- each is the other's inverse
-- the significand and exponent of bits c
pub record Split (f c : ℕ) : Type 0 where
  pub d : ℕ
  pub q : ℕ
  pub small : q < 2 * 2 ^ f
  pub normal : 0 < d → 2 ^ f ≤ q
  pub is : c ≡ d * 2 ^ f + q

pub split-bits : (f c : ℕ) → Split f c
split-bits f c = go (c / 2 ^ f) refl
  where
    m : c % 2 ^ f < 2 ^ f
    m = mod-lt c (pow_pos f)

    s : c / 2 ^ f * 2 ^ f + c % 2 ^ f ≡ c
    s = div-add-mod' c (2 ^ f)

    go : (E : ℕ) → c / 2 ^ f ≡ E → Split f c
    go zero e =
        let z : c / 2 ^ f * 2 ^ f ≡ 0 * 2 ^ f = ap (λ (x : ℕ). x * 2 ^ f) e in
        record { d = 0; q = c % 2 ^ f; small = omega (arith, m); normal = λ h. absurd (lt_irrefl 0 h); is = omega (arith, s) }
    go (suc E) e =
        let z : c / 2 ^ f * 2 ^ f ≡ suc E * 2 ^ f = ap (λ (x : ℕ). x * 2 ^ f) e in
        record { d = E; q = 2 ^ f + c % 2 ^ f; small = omega (arith, m); normal = λ h. omega arith; is = omega (arith, s) }

pub magnitude-split : (f c : ℕ) (p : Split f c) → magnitude f c ≡ p.q * 2 ^ p.d
magnitude-split f c p = ap (magnitude f) p.is ∙ mag-at f p.d p.q (omega (arith, p.small)) p.normal

pub bits-magnitude : (f c : ℕ) → bits f (magnitude f c) ≡ c
bits-magnitude f c =
    let p = split-bits f c in
    ap (bits f) (magnitude-split f c p) ∙ bits-digits f p.d p.q p.small p.normal ∙ sym p.is

pub magnitude-rep : (f c : ℕ) → Rep (suc f) 0 (magnitude f c)
magnitude-rep f c =
    let p = split-bits f c in
    record { e = p.d; m = p.q; low = omega arith; small = rw (pow-succ' 2 f) p.small; is = magnitude-split f c p }

pub magnitude-bits : (f a : ℕ) → Rep (suc f) 0 a → magnitude f (bits f a) ≡ a
magnitude-bits f a r =
    let k = last_place f 0 a in
    let high : 0 < k → 2 ^ f * 2 ^ k ≤ a = λ h. rw (← pow-add 2 f k) (place-below f 0 a h) in
    let c = rep-unit {k = k} r high in
    let q : a / 2 ^ k ≡ c.0 = ap (λ (x : ℕ). x / 2 ^ k) c.1 ∙ mul-div_cancel c.0 (pow_pos k) in
    let up : c.0 < 2 * 2 ^ f =
    lt_of_mul-lt-mul_right (2 ^ k) (lt_of_le_of_lt (le_of_eq (sym c.1)) (rw (← pow-succ' 2 f, ← pow-add 2 (suc f) k) (place-above f 0 a)))
    in
    let down : 0 < k → 2 ^ f ≤ c.0 = λ h. le_of_mul-le-mul_right (le_trans (high h) (le_of_eq c.1)) (pow_pos k) in
    ap (magnitude f) (bits-place f a ∙ ap (λ (x : ℕ). k * 2 ^ f + x) q) ∙ mag-at f k c.0 (omega arith) down ∙ sym c.1

-- ---- order
pub bits_mono : (f a b : ℕ) → a ≤ b → bits f a ≤ bits f b
bits_mono f a b h =
    let k = last_place f 0 a in
    let j = last_place f 0 b in
    rw (bits-place f a, bits-place f b)
    (elim (eq-or-lt_of_le (place_mono f 0 a b h)) [
      | inl e ↦ rw e (omega (arith, shr_mono j h))
      | inr l ↦
          let up : a / 2 ^ k < 2 * 2 ^ f = (div-lt_iff_lt-mul (pow_pos k)).1 (rw (← pow-succ' 2 f, ← pow-add 2 (suc f) k) (place-above f 0 a)) in
          let down : 2 ^ f ≤ b / 2 ^ j = (le-div_iff_mul-le (pow_pos j)).1 (rw (← pow-add 2 f j) (place-below f 0 b (omega arith))) in
          omega (arith, mul-le-mul_right (2 ^ f) l)
    ])

pub magnitude-lt : (f c d : ℕ) → c < d → magnitude f c < magnitude f d
magnitude-lt f c d h =
    elim (dec_le (magnitude f d) (magnitude f c)) [
      | yes l ↦ absurd (omega (arith, bits_mono f (magnitude f d) (magnitude f c) l, bits-magnitude f c, bits-magnitude f d))
      | no l ↦ omega arith
    ]

pub magnitude-mono : (f c d : ℕ) → c ≤ d → magnitude f c ≤ magnitude f d
magnitude-mono f c d h = elim (eq-or-lt_of_le h) [ inl e ↦ le_of_eq (ap (magnitude f) e) | inr l ↦ le_of_lt (magnitude-lt f c d l) ]
