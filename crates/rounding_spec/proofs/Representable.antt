-- Numbers of the format: how to make one, and which lie around a given number.
use mathlib.Core.Path.{◌≡◌, refl, sym, ap, ◌∙◌}
use Prim.Native.Nat.{ℕ, zero, suc, ◌+◌, ◌*◌, ◌/◌, ◌^◌, ◌≤◌, ◌<◌}
use native.Mathlib.Nat.{mul-one, mul_left_comm, pow-succ', le_refl, le_trans, le_of_eq, zero-mul, one-mul, mul-le-mul_right, mul-lt-mul_of_pos_right, lt_of_mul-lt-mul_right, lt_of_le_of_lt}
use native.Mathlib.Nat.{lt_of_lt_of_le, le-div_iff_mul-le, div-lt_iff_lt-mul}
use native.Mathlib.Decide.{dec_le}
use native.Mathlib.Omega.{arith}
use lib.Pow.{pow-add, pow_pos, pow_mono}
use Rattle.rounding_spec.specs.Nearest.{Rep}
use Rattle.rounding_spec.proofs.Multiple.{Mult, mult-down}

abbrev pub rep-mult : {p l n : ℕ} (r : Rep p l n) → Mult r.e n
rep-mult r = (r.m, r.is)

pub rep-low : {p l n : ℕ} → Rep p l n → Mult l n
rep-low {n = n} r = mult-down n r.low (rep-mult r)

-- ---- which numbers are representable
pub rep_zero : {p l : ℕ} → Rep p l 0
rep_zero {p} {l} = record { e = l; m = 0; low = le_refl l; small = pow_pos p; is = sym (zero-mul (2 ^ l)) }

one-small : (p : ℕ) → 1 < 2 ^ suc p
one-small p = omega (arith, pow_pos p)

pub rep-pow : (p l k : ℕ) → l ≤ k → Rep (suc p) l (2 ^ suc p * 2 ^ k)
rep-pow p l k h = record { e = suc p + k; m = 1; low = omega arith; small = one-small p; is = sym (pow-add 2 (suc p) k) ∙ sym (one-mul (2 ^ (suc p + k))) }

pub rep-le : (p l q k : ℕ) → l ≤ k → q ≤ 2 ^ suc p → Rep (suc p) l (q * 2 ^ k)
rep-le p l q k h b =
    elim (dec_le (suc q) (2 ^ suc p)) [
      | yes s ↦ record { e = k; m = q; low = h; small = s; is = refl }
      | no s ↦ let e : q ≡ 2 ^ suc p = omega arith in rw e (rep-pow p l k h)
    ]

pub rep-lt : {p l : ℕ} (g n : ℕ) → l ≤ g → Mult g n → n < 2 ^ p * 2 ^ g → Rep p l n
rep-lt g n h c b = record { e = g; m = c.0; low = h; small = lt_of_mul-lt-mul_right (2 ^ g) (rw c.1 at b); is = c.1 }

-- ---- what the exponent says of the size
pub rep-top : {p l n : ℕ} (r : Rep p l n) → n < 2 ^ p * 2 ^ r.e
rep-top r = le_trans (le_of_eq (ap suc r.is)) (mul-lt-mul_of_pos_right r.small (pow_pos r.e))

-- at an exponent below k: below 2 ^ p units of 2 ^ k
pub rep-under : {p l n k : ℕ} (r : Rep (suc p) l n) → r.e < k → n < 2 ^ p * 2 ^ k
rep-under {p} {k = k} r h =
    le_trans (rep-top r)
    (le_trans (le_of_eq (sym (pow-add 2 (suc p) r.e))) (le_trans (pow_mono (let z : suc p + r.e ≤ p + k = omega arith in z)) (le_of_eq (pow-add 2 p k))))

-- a representable number from 2 ^ p units of 2 ^ k on is a multiple of 2 ^ k
pub rep-unit : {p l n k : ℕ} → Rep (suc p) l n → (l < k → 2 ^ p * 2 ^ k ≤ n) → Mult k n
rep-unit {n = n} {k = k} r h =
    elim (dec_le k r.e) [
      | yes g ↦ mult-down n g (rep-mult r)
      | no g ↦ let b = r.low in absurd (omega (arith, h (omega arith), rep-under {k = k} r (omega arith)))
    ]

-- ---- with another lowest exponent
pub rep-lower : {p l k n : ℕ} → l ≤ k → Rep p k n → Rep p l n
rep-lower h r = record { e = r.e; m = r.m; low = le_trans h r.low; small = r.small; is = r.is }

pub rep-raise : {p l k n : ℕ} → 2 ^ p * 2 ^ k ≤ n → Rep (suc p) l n → Rep (suc p) k n
rep-raise {k = k} h r =
    elim (dec_le k r.e) [
      | yes g ↦ record { e = r.e; m = r.m; low = g; small = r.small; is = r.is }
      | no g ↦ absurd (omega (arith, rep-under {k = k} r (omega arith)))
    ]

-- a number of more than p + 1 digits is even, and its half is a number of the format
pub rep-half : {p X : ℕ} → Rep (suc p) 0 X → 2 ^ suc p ≤ X → (H : ℕ) × (X ≡ 2 * H) × Rep (suc p) 0 H
rep-half {p} {X} r h = go r.e r.is
  where
    go : (e : ℕ) → X ≡ r.m * 2 ^ e → (H : ℕ) × (X ≡ 2 * H) × Rep (suc p) 0 H
    go zero i = absurd (omega (arith, r.small, mul-one r.m))
    go (suc e) i = (r.m * 2 ^ e, i ∙ ap (λ (z : ℕ). r.m * z) (pow-succ' 2 e) ∙ mul_left_comm r.m 2 (2 ^ e), record { e = e; m = r.m; low = omega arith; small = r.small; is = refl })

-- a number that is no larger than x and y, and a multiple of 2 ^ g wherever both are
pub rep-within : {p l x y : ℕ} (d : ℕ) → Rep p l x → Rep p l y → ((g : ℕ) → Mult g x → Mult g y → Mult g d) → d ≤ x → d ≤ y → Rep p l d
rep-within {x = x} {y = y} d r s f u v =
    elim (dec_le r.e s.e) [
      | yes h ↦ rep-lt r.e d r.low (f r.e (rep-mult r) (mult-down y h (rep-mult s))) (lt_of_le_of_lt u (rep-top r))
      | no h ↦ rep-lt s.e d s.low (f s.e (mult-down x (omega arith) (rep-mult r)) (rep-mult s)) (lt_of_le_of_lt v (rep-top s))
    ]

-- ---- the representable numbers around n are the multiples of 2 ^ k
module _ (p l n k : ℕ) (high : l < k → 2 ^ p * 2 ^ k ≤ n) where
  pub floor-best : (m : ℕ) → Rep (suc p) l m → m ≤ n → m ≤ n / 2 ^ k * 2 ^ k
  floor-best m r h =
      elim (dec_le k r.e) [
        | yes g ↦
            let c = mult-down m g (rep-mult r) in
            le_trans (le_of_eq c.1) (mul-le-mul_right (2 ^ k) ((le-div_iff_mul-le (pow_pos k)).1 (le_trans (le_of_eq (sym c.1)) h)))
        | no g ↦
            let b = r.low in
            let f = mul-le-mul_right (2 ^ k) ((le-div_iff_mul-le {x = 2 ^ p} {y = n} (pow_pos k)).1 (high (omega arith))) in
            omega (arith, rep-under {k = k} r (omega arith))
      ]

  pub ceil-best : (m : ℕ) → Rep (suc p) l m → n < m → suc (n / 2 ^ k) * 2 ^ k ≤ m
  ceil-best m r h =
      let c = rep-unit {k = k} r (λ (g : l < k). le_trans (high g) (let z : n ≤ m = omega arith in z)) in
      le_trans (mul-le-mul_right (2 ^ k) ((div-lt_iff_lt-mul (pow_pos k)).1 (lt_of_lt_of_le h (le_of_eq c.1)))) (le_of_eq (sym c.1))
