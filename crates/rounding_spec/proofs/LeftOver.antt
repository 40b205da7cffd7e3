-- What a rounding leaves over, as the code computes it: the remainder in a word, or what it lacks to the unit.
use mathlib.Core.Path.{◌≡◌, refl, sym, ap, ap₂, ◌∙◌}
use mathlib.Core.Bool.{Bool, true, false, cond}
use Prim.Native.Nat.{ℕ, suc, ◌+◌, ◌-◌, ◌*◌, ◌/◌, ◌%◌, ◌^◌, ◌≤◌, ◌<◌, max}
use native.Mathlib.Nat.{le_trans, le_of_eq, lt_of_lt_of_le, zero-mul, one-mul, mul-one, mul_right_comm, add-mul, le_of_lt, mul-le-mul_left, eq_of_mul-eq-mul_right, suc-mul, mul-le-mul_right}
use native.Mathlib.Nat.{mul-lt-mul_of_pos_right, mul-div_cancel, mod-eq_of_lt, mod-lt, div-eq_of_lt, div-add-mod'}
use native.Mathlib.Decide.{dec_le}
use native.Mathlib.Omega.{arith}
use lib.Count.{count_leading_zeros, leading_top}
use lib.Dec.{ltb, eqb}
use lib.Pow.{pow_pos, pow_mono, pow-lt, shl_lt}
use borrow.Author.Tests.{ltb-true, ltb-false, lt-ltb, le-ltb, eq-eqb, ne_eqb}
use Rattle.rounding_spec.specs.declared.Ties.{Ties}
use Rattle.rounding_spec.specs.Round.{keep, rounded, left_over, rounded_up}
use Rattle.rounding_spec.specs.Nearest.{dist, Rep}
use Rattle.rounding_spec.specs.Theorems.{LeftOverIs}
use Rattle.rounding_spec.proofs.Keep.{keep-whole}
use Rattle.rounding_spec.proofs.Multiple.{joined, digits-zero, split-unit, sub-mul}
use Rattle.rounding_spec.proofs.Remainder.{shifted_back}
use Rattle.rounding_spec.proofs.Rounded.{rounded-near, rounded-keep, rounded-none}
use Rattle.rounding_spec.proofs.Normalised.{at-last-place, at_place}

-- ---- in other units
pub dist-scale : (a b c : ℕ) → dist (a * c) (b * c) ≡ dist a b * c
dist-scale a b c = sym (add-mul (a - b) (b - a) c ∙ ap₂ ◌+◌ (sub-mul a b c) (sub-mul b a c))

pub ltb-scale : (a b c : ℕ) → 0 < c → ltb (a * c) (b * c) ≡ ltb a b
ltb-scale a b c p =
    elim (dec_le b a) [
      | yes h ↦ le-ltb (a * c) (b * c) (mul-le-mul_right c h) ∙ sym (le-ltb a b h)
      | no h ↦ let l : a < b = omega arith in lt-ltb (a * c) (b * c) (mul-lt-mul_of_pos_right l p) ∙ sym (lt-ltb a b l)
    ]

-- ---- from the rounded number to the exact one
pub left-over-is : LeftOverIs
left-over-is t f L N =
    let a = rounded t f L N * 2 ^ L in
    (λ e. let h : N < a = ltb-true N a e in (omega arith, omega arith), λ e. let h : a ≤ N = ltb-false N a e in omega arith)

-- ---- of a sum or a difference, of which one number is representable, no more than the other one
pub left-sum : (t : Ties) (f L X Y : ℕ) → Rep (suc f) L X → left_over t f L (X + Y) ≤ Y
left-sum t f L X Y r = omega (arith, (rounded-near t f L (X + Y)).best X r)

pub left-difference : (t : Ties) (f L X Y : ℕ) → Y ≤ X → Rep (suc f) L X → left_over t f L (X - Y) ≤ Y
left-difference t f L X Y h r = omega (arith, (rounded-near t f L (X - Y)).best X r)

-- ---- nothing leaves nothing
pub nothing_left : (t : Ties) (e : ℕ) → (0 * 2 ^ e ≡ left_over t 23 149 (0 * 2 ^ e)) × (false ≡ rounded_up t 23 149 (0 * 2 ^ e))
nothing_left t e =
    let z : 0 * 2 ^ e ≡ 0 = zero-mul (2 ^ e) in
    let n : rounded t 23 149 (0 * 2 ^ e) * 2 ^ 149 ≡ 0 = ap (λ (x : ℕ). rounded t 23 149 x * 2 ^ 149) z ∙ ap (λ (x : ℕ). x * 2 ^ 149) (rounded-none t 23 149) ∙ zero-mul (2 ^ 149) in
    (dist-zero z n, sym (le-ltb (0 * 2 ^ e) (rounded t 23 149 (0 * 2 ^ e) * 2 ^ 149) (le_of_eq (n ∙ sym z))))
  where
    dist-zero : {a b : ℕ} → a ≡ 0 → b ≡ 0 → a ≡ dist b a
    dist-zero x y = omega arith

pub nothing-none : (t : Ties) (e : ℕ) → true ≡ eqb (left_over t 23 149 (0 * 2 ^ e)) 0
nothing-none t e = sym (eq-eqb (left_over t 23 149 (0 * 2 ^ e)) 0 (sym (nothing_left t e).0 ∙ zero-mul (2 ^ e)))

-- ---- in a word, with s places dropped
module _ (n s q : ℕ) (word : n < 2 ^ 64) (low : n / 2 ^ s ≤ q) (high : q ≤ suc (n / 2 ^ s)) where
  abbrev Left : ℕ → Bool → Type 0
  Left r u = (r ≡ dist (q * 2 ^ s) n) × (u ≡ ltb n (q * 2 ^ s))

  stays : q ≡ n / 2 ^ s → Left (n % 2 ^ s) false
  stays e =
      let d = div-add-mod' n (2 ^ s) in
      let g : q * 2 ^ s ≡ n / 2 ^ s * 2 ^ s = ap (λ (x : ℕ). x * 2 ^ s) e in
      (omega arith, sym (le-ltb n (q * 2 ^ s) (omega arith)))

  goes-up : q ≡ suc (n / 2 ^ s) → Left (2 ^ s - n % 2 ^ s) true
  goes-up e =
      let d = div-add-mod' n (2 ^ s) in
      let m = mod-lt n (pow_pos s) in
      let g : q * 2 ^ s ≡ 2 ^ s + n / 2 ^ s * 2 ^ s = ap (λ (x : ℕ). x * 2 ^ s) e ∙ suc-mul (n / 2 ^ s) (2 ^ s) ∙ omega arith in
      (omega arith, sym (lt-ltb n (q * 2 ^ s) (omega arith)))

  remainder : n - n / 2 ^ s * 2 ^ s % 2 ^ 64 ≡ n % 2 ^ s
  remainder = rw (shifted_back n s word) (let z = div-add-mod' n (2 ^ s) in omega arith)

  module _ (small : s ≤ 63) where
    unit : 1 * 2 ^ s % 2 ^ 64 ≡ 2 ^ s
    unit = rw one-mul (mod-eq_of_lt (pow-lt {j = 64} (omega arith)))

    pub rest-fits : n - n / 2 ^ s * 2 ^ s % 2 ^ 64 ≤ 1 * 2 ^ s % 2 ^ 64
    rest-fits = rw (unit, remainder) (let m = mod-lt n (pow_pos s) in omega arith)

    pub left_is : (r : ℕ) → r ≡ cond (ltb (n / 2 ^ s) q) (1 * 2 ^ s % 2 ^ 64 - (n - n / 2 ^ s * 2 ^ s % 2 ^ 64)) (n - n / 2 ^ s * 2 ^ s % 2 ^ 64) → Left r (ltb (n / 2 ^ s) q)
    left_is r e =
        elim (dec_le q (n / 2 ^ s)) [
          | yes h ↦ rw (le-ltb (n / 2 ^ s) q h) (let z = stays (omega arith) in (rw (le-ltb (n / 2 ^ s) q h) at e ∙ remainder ∙ z.0, z.1))
          | no h ↦
              let l : n / 2 ^ s < q = omega arith in
              rw (lt-ltb (n / 2 ^ s) q l) (let z = goes-up (omega arith) in (rw (lt-ltb (n / 2 ^ s) q l) at e ∙ ap₂ ◌-◌ unit remainder ∙ z.0, z.1))
        ]

    -- a remainder that is rounded up is at least half the unit
    pub none_is : 2 * (q * 2 ^ s) ≤ 2 * n + 2 ^ s → eqb (n - n / 2 ^ s * 2 ^ s % 2 ^ 64) 0 ≡ eqb (dist (q * 2 ^ s) n) 0
    none_is half =
        ap (λ (x : ℕ). eqb x 0) remainder
        ∙ elim (dec_le q (n / 2 ^ s)) [
          | yes h ↦ ap (λ (x : ℕ). eqb x 0) (stays (omega arith)).0
          | no h ↦
              let d = div-add-mod' n (2 ^ s) in
              let m = mod-lt n (pow_pos s) in
              let u = (goes-up (omega arith)).0 in
              let g : q * 2 ^ s ≡ 2 ^ s + n / 2 ^ s * 2 ^ s =
              ap (λ (x : ℕ). x * 2 ^ s) (let z : q ≡ suc (n / 2 ^ s) = omega arith in z) ∙ suc-mul (n / 2 ^ s) (2 ^ s) ∙ omega arith in
              ne_eqb (n % 2 ^ s) 0 (λ (z : n % 2 ^ s ≡ 0). omega (arith, pow_pos s)) ∙ sym (ne_eqb (dist (q * 2 ^ s) n) 0 (λ (z : dist (q * 2 ^ s) n ≡ 0). omega (arith, pow_pos s)))
        ]

  -- all digits dropped
  module _ (large : 63 < s) (half : 2 * (q * 2 ^ s) ≤ 2 * n + 2 ^ s) where
    pub far-small : q ≤ 1
    far-small =
        let b : 2 ^ 64 ≤ 2 ^ s = pow_mono {i = 64} large in
        let z : n / 2 ^ s ≡ 0 = div-eq_of_lt (omega arith) in
        omega arith

    pub far-unit : q * 2 ^ 64 ≡ q * 2 ^ s
    far-unit =
        elim (dec_le s 64) [
          | yes h ↦ let e : s ≡ 64 = omega arith in ap (λ (x : ℕ). q * 2 ^ x) (sym e)
          | no h ↦
              let b : 2 ^ 65 ≤ 2 ^ s = pow_mono {i = 65} (let z : 65 ≤ s = omega arith in z) in
              let z : q ≡ 0 = elim (dec_le q 0) [
                | yes g ↦ omega arith
                | no g ↦ let e : q ≡ 1 = omega (arith, far-small) in let w : q * 2 ^ s ≡ 2 ^ s = ap (λ (x : ℕ). x * 2 ^ s) e ∙ one-mul (2 ^ s) in absurd (omega arith)
              ] in
              ap (λ (x : ℕ). x * 2 ^ 64) z ∙ zero-mul (2 ^ 64) ∙ sym (ap (λ (x : ℕ). x * 2 ^ s) z ∙ zero-mul (2 ^ s))
        ]

pub far_none : (n q : ℕ) → q ≡ 0 → (n ≡ dist (q * 2 ^ 64) n) × (false ≡ ltb n (q * 2 ^ 64))
far_none n q e = let z : q * 2 ^ 64 ≡ 0 = ap (λ (x : ℕ). x * 2 ^ 64) e ∙ zero-mul (2 ^ 64) in (omega arith, sym (le-ltb n (q * 2 ^ 64) (omega arith)))

pub far_some : (n q : ℕ) → 0 < n → n < 2 ^ 64 → q ≤ 1 → false ≡ eqb (dist (q * 2 ^ 64) n) 0
far_some n q pos word small =
    sym (ne_eqb (dist (q * 2 ^ 64) n) 0 (λ (z : dist (q * 2 ^ 64) n ≡ 0). omega arith))

pub far-one : (n q : ℕ) → n < 2 ^ 64 → q ≡ 1 → (0xffff_ffff_ffff_ffff - n + 1 ≡ dist (q * 2 ^ 64) n) × (true ≡ ltb n (q * 2 ^ 64))
far-one n q w e = let z : q * 2 ^ 64 ≡ 2 ^ 64 = ap (λ (x : ℕ). x * 2 ^ 64) e ∙ one-mul (2 ^ 64) in (omega arith, sym (lt-ltb n (q * 2 ^ 64) (omega arith)))

-- ---- of a normalised word, brought back to the significand's unit
module _ (t : Ties) (sig e place : ℕ) (pos : 0 < sig) (word : sig < 2 ^ 64) (is : place ≡ max 149 (e + 64 - count_leading_zeros 64 sig - 24))
    (q : ℕ) (kept_at : q ≡ keep t (place + 64 - (e + 64 - count_leading_zeros 64 sig)) (sig * 2 ^ count_leading_zeros 64 sig % 2 ^ 64)) where
  abbrev zeros : ℕ
  zeros = count_leading_zeros 64 sig

  abbrev shift : ℕ
  shift = place + 64 - (e + 64 - zeros)

  top-fits : (zeros < 64) × (sig * 2 ^ zeros < 2 ^ 64)
  top-fits =
      let top = leading_top 64 sig pos word in
      (omega arith, lt_of_lt_of_le (shl_lt (suc top.0) zeros top.3) (pow_mono {j = 64} (omega arith)))

  moved : sig * 2 ^ zeros % 2 ^ 64 ≡ sig * 2 ^ zeros
  moved = mod-eq_of_lt top-fits.1

  pub moved-pos : 0 < sig * 2 ^ zeros % 2 ^ 64
  moved-pos = rw moved (le_trans pos (le_trans (le_of_eq (sym (mul-one sig))) (mul-le-mul_left sig (pow_pos zeros))))

  shift-at : shift + e ≡ place + zeros
  shift-at = let b = top-fits.0 in omega arith

  rounded-at : rounded t 23 149 (sig * 2 ^ e) * 2 ^ 149 ≡ q * 2 ^ place
  rounded-at = rounded-keep t 23 149 (sig * 2 ^ e) ∙ ap₂ (λ (x k : ℕ). x * 2 ^ k) (sym (at_place t sig e place pos word is q kept_at)) (at-last-place t sig e place pos word is)

  -- both counted in the unit of the normalised word
  same : q * 2 ^ shift * 2 ^ e ≡ q * 2 ^ place * 2 ^ zeros
  same = joined q shift e (place + zeros) shift-at ∙ sym (joined q place zeros (place + zeros) refl)

  pub up_is : ltb (sig * 2 ^ zeros % 2 ^ 64) (q * 2 ^ shift) ≡ rounded_up t 23 149 (sig * 2 ^ e)
  up_is =
      ap (λ (x : ℕ). ltb x (q * 2 ^ shift)) moved
      ∙ sym (ltb-scale (sig * 2 ^ zeros) (q * 2 ^ shift) (2 ^ e) (pow_pos e))
      ∙ ap₂ ltb (mul_right_comm sig (2 ^ zeros) (2 ^ e)) same
      ∙ ltb-scale (sig * 2 ^ e) (q * 2 ^ place) (2 ^ zeros) (pow_pos zeros)
      ∙ sym (ap (ltb (sig * 2 ^ e)) rounded-at)

  -- the unit of the word is not finer than the significand's
  coarse : zeros ≤ shift → dist (q * 2 ^ shift) (sig * 2 ^ zeros) / 2 ^ zeros * 2 ^ e ≡ dist (q * 2 ^ place) (sig * 2 ^ e)
  coarse h =
      let a : dist (q * 2 ^ shift) (sig * 2 ^ zeros) ≡ dist (q * 2 ^ (shift - zeros)) sig * 2 ^ zeros =
      ap (λ (x : ℕ). dist x (sig * 2 ^ zeros)) (split-unit q h) ∙ dist-scale (q * 2 ^ (shift - zeros)) sig (2 ^ zeros) in
      let b : dist (q * 2 ^ (shift - zeros)) sig * 2 ^ e ≡ dist (q * 2 ^ place) (sig * 2 ^ e) =
      sym (dist-scale (q * 2 ^ (shift - zeros)) sig (2 ^ e)) ∙ ap (λ (x : ℕ). dist x (sig * 2 ^ e)) (joined q (shift - zeros) e place (let z = shift-at in omega arith)) in
      rw (a, mul-div_cancel (dist (q * 2 ^ (shift - zeros)) sig) (pow_pos zeros)) b

  -- whether it is nothing, in either unit
  pub none-at : eqb (dist (q * 2 ^ shift) (sig * 2 ^ zeros % 2 ^ 64)) 0 ≡ eqb (left_over t 23 149 (sig * 2 ^ e)) 0
  none-at =
      let d = dist (q * 2 ^ shift) (sig * 2 ^ zeros) in
      let l = left_over t 23 149 (sig * 2 ^ e) in
      let both : d * 2 ^ e ≡ l * 2 ^ zeros =
      sym (dist-scale (q * 2 ^ shift) (sig * 2 ^ zeros) (2 ^ e))
      ∙ ap₂ dist (same ∙ ap (λ (x : ℕ). x * 2 ^ zeros) (sym rounded-at)) (mul_right_comm sig (2 ^ zeros) (2 ^ e))
      ∙ dist-scale (rounded t 23 149 (sig * 2 ^ e) * 2 ^ 149) (sig * 2 ^ e) (2 ^ zeros) in
      ap (λ (x : ℕ). eqb (dist (q * 2 ^ shift) x) 0) moved ∙ sym (digits-zero d e) ∙ ap (λ (x : ℕ). eqb x 0) both ∙ digits-zero l zeros

  -- or it is, and nothing is left over
  fine : shift < zeros → q * 2 ^ shift ≡ sig * 2 ^ zeros
  fine h =
      let c = sig * 2 ^ (zeros - shift) in
      let at : sig * 2 ^ zeros ≡ c * 2 ^ shift = split-unit sig (le_of_lt h) in
      kept-at' ∙ sym at
    where
      kept-at' : q * 2 ^ shift ≡ sig * 2 ^ (zeros - shift) * 2 ^ shift
      kept-at' = ap (λ (x : ℕ). x * 2 ^ shift) (kept_at ∙ ap (keep t shift) (moved ∙ split-unit sig (le_of_lt h)) ∙ keep-whole t shift (sig * 2 ^ (zeros - shift)))

  pub rest-is : (r : ℕ) → r ≡ dist (q * 2 ^ shift) (sig * 2 ^ zeros % 2 ^ 64) → r / 2 ^ zeros * 2 ^ e ≡ left_over t 23 149 (sig * 2 ^ e)
  rest-is r d =
      ap (λ (x : ℕ). x / 2 ^ zeros * 2 ^ e) (d ∙ ap (dist (q * 2 ^ shift)) moved)
      ∙ elim (dec_le zeros shift) [
        | yes h ↦ coarse h
        | no h ↦
            let l : shift < zeros = omega arith in
            let w : q * 2 ^ place ≡ sig * 2 ^ e = eq_of_mul-eq-mul_right (2 ^ zeros) (pow_pos zeros) (q * 2 ^ place) (sig * 2 ^ e)
            (sym same ∙ ap (λ (x : ℕ). x * 2 ^ e) (fine l) ∙ mul_right_comm sig (2 ^ zeros) (2 ^ e)) in
            ap (λ (x : ℕ). x / 2 ^ zeros * 2 ^ e) (dist-none (fine l)) ∙ nothing ∙ sym (dist-none w)
      ]
      ∙ sym (ap (λ (x : ℕ). dist x (sig * 2 ^ e)) rounded-at)
    where
      dist-none : {a b : ℕ} → a ≡ b → dist a b ≡ 0
      dist-none g = omega arith

      nothing : 0 / 2 ^ zeros * 2 ^ e ≡ 0
      nothing = ap (λ (x : ℕ). x * 2 ^ e) (div-eq_of_lt (pow_pos zeros)) ∙ zero-mul (2 ^ e)
