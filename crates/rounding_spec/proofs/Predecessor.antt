-- The number below A, also where A is a power of two, and the product that rounds to it.
use mathlib.Core.Path.{◌≡◌, sym, ap, ◌∙◌}
use Prim.Native.Nat.{ℕ, suc, ◌+◌, ◌-◌, ◌*◌, ◌/◌, ◌^◌, ◌≤◌, ◌<◌}
use native.Mathlib.Nat.{le_antisymm, le_trans, le_of_eq, lt_of_lt_of_le, lt_of_le_of_lt, mul-le-mul_right, mul-lt-mul_of_pos_right, lt_of_mul-lt-mul_right, le_of_mul-le-mul_right, suc-mul, mul_comm}
use native.Mathlib.Nat.{mul_assoc, mul-div_cancel, zero-mul, one-mul}
use native.Mathlib.Decide.{dec_le}
use native.Mathlib.Omega.{arith}
use lib.Pow.{pow-add, pow_pos}
use Rattle.rounding_spec.specs.Nearest.{dist, Rep, Near}
use Rattle.rounding_spec.specs.Round.{last_place}
use Rattle.rounding_spec.proofs.Multiple.{sub-mul}
use Rattle.rounding_spec.proofs.Representable.{rep-le, rep-unit, ceil-best}
use Rattle.rounding_spec.proofs.LastPlace.{place-ge, place-above, place-below}
use Rattle.rounding_spec.proofs.Scaled.{rep-up, rep_down}

-- ---- A above 0 as m * 2 ^ f with m ≤ 2 ^ (p + 1), and 2 ^ p < m unless f is the lowest exponent: the number below A is A - 2 ^ f, at a power of two as well
pub record Upper (p l A : ℕ) : Type 0 where
  pub f : ℕ
  pub m : ℕ
  pub low : l ≤ f
  pub pos : 0 < m
  pub above : l < f → 2 ^ p < m
  pub top : m ≤ 2 ^ suc p
  pub is : A ≡ m * 2 ^ f

upper-at : {p l A f : ℕ} → l ≤ f → (l < f → 2 ^ p * 2 ^ f < A) → A ≤ 2 ^ suc p * 2 ^ f → 0 < A → Rep (suc p) l A → Upper p l A
upper-at {p} {l} {A} {f} low high top pos r =
    let c = rep-unit {k = f} r (λ (h : l < f). let z : 2 ^ p * 2 ^ f ≤ A = omega (arith, high h) in z) in
    record {
      f = f;
      m = c.0;
      low = low;
      pos = lt_of_mul-lt-mul_right (2 ^ f) (lt_of_le_of_lt (le_of_eq (zero-mul (2 ^ f))) (lt_of_lt_of_le pos (le_of_eq c.1)));
      above = λ h. lt_of_mul-lt-mul_right (2 ^ f) (lt_of_lt_of_le (high h) (le_of_eq c.1));
      top = le_of_mul-le-mul_right (le_trans (le_of_eq (sym c.1)) top) (pow_pos f);
      is = c.1;
    }

pub upper : (p l A : ℕ) → Rep (suc p) l A → 0 < A → Upper p l A
upper p l A r pos =
    let k = last_place p l (A - 1) in
    let above : A ≤ 2 ^ suc p * 2 ^ k = omega (arith, place-above p l (A - 1), pow-add 2 (suc p) k) in
    upper-at {f = k} (place-ge p l (A - 1)) (λ g. omega (arith, place-below p l (A - 1) g, pow-add 2 p k)) above pos r

psi-fin : (A F DA DF PD zD W : ℕ) → F ≤ A → DF < 2 * A → A ≤ DF → DF ≤ DA → PD ≡ DA - DF → W ≡ DA - A → dist zD W ≤ dist PD W → (zD < DA) × (PD ≤ zD)
psi-fin A F DA DF PD zD W low big top le v w h = omega arith

module _ {p l A : ℕ} (u : Upper p l A) where
  below-is : A - 2 ^ u.f ≡ (u.m - 1) * 2 ^ u.f
  below-is = let b = u.pos in let q : u.m ≡ suc (u.m - 1) = omega arith in omega (arith, u.is, suc-mul (u.m - 1) (2 ^ u.f), ap (λ (z : ℕ). z * 2 ^ u.f) q)

  pub below-add : A - 2 ^ u.f + 2 ^ u.f ≡ A
  below-add = let b = u.pos in omega (arith, mul-le-mul_right (2 ^ u.f) (let x : 1 ≤ u.m = omega arith in x), u.is)

  pub below-rep : Rep (suc p) l (A - 2 ^ u.f)
  below-rep = rw below-is (rep-le p l (u.m - 1) u.f u.low (omega (arith, u.top)))

  pub below-best : (x : ℕ) → Rep (suc p) l x → x < A → x ≤ A - 2 ^ u.f
  below-best x r h =
      elim (dec_le x (A - 2 ^ u.f)) [
        | yes g ↦ g
        | no g ↦ absurd
            (let q = u.m - 1 in
            let F = 2 ^ u.f in
            let b = u.pos in
            let e : suc q ≡ u.m = omega arith in
            let v : q * F / F ≡ q = mul-div_cancel q (pow_pos u.f) in
            let w : suc (q * F / F) * F ≤ x = ceil-best p l (q * F) u.f (λ z. mul-le-mul_right F (omega (arith, u.above z))) x r (omega (arith, below-is)) in
            omega (arith, rw (v, e) at w, u.is))
      ]

  -- the product by 1 - 2 ^ -(p + 1), in units 2 ^ (p + 1) times finer, rounds to the number below A
  pub above-always : 2 ^ p * 2 ^ l < A → 2 ^ p < u.m
  above-always h = elim (dec_le (suc l) u.f) [
    | yes g ↦ u.above g
    | no g ↦ let b = u.low in let e : u.f ≡ l = omega arith in
        lt_of_mul-lt-mul_right (2 ^ l) (lt_of_lt_of_le h (le_of_eq (u.is ∙ ap (λ (z : ℕ). u.m * 2 ^ z) e)))
  ]

  pub psi : 2 ^ p * 2 ^ l < A → (z : ℕ) → Near (suc p) (l + suc p) ((2 ^ suc p - 1) * A) (z * 2 ^ suc p) → z ≡ A - 2 ^ u.f
  psi over z h =
      let D = 2 ^ suc p in
      let F = 2 ^ u.f in
      let P = A - F in
      let b = above-always over in
      let low : F ≤ A = omega (arith, mul-le-mul_right F (let x : 1 ≤ u.m = omega arith in x), u.is) in
      let w : (D - 1) * A ≡ A * D - A = sub-mul D 1 A ∙ ap (λ (x : ℕ). D * A - x) (one-mul A) ∙ ap (λ (x : ℕ). x - A) (mul_comm D A) in
      let big : F * D < 2 * A = omega (arith, u.is, mul_comm F D, mul_assoc 2 u.m F, mul-lt-mul_of_pos_right (let x : D < 2 * u.m = omega arith in x) (pow_pos u.f)) in
      let top : A ≤ F * D = omega (arith, u.is, mul_comm F D, mul-le-mul_right F u.top) in
      let e = psi-fin A F (A * D) (F * D) (P * D) (z * D) ((D - 1) * A) low big top (mul-le-mul_right D low) (sub-mul A F D) w (h.best (P * D) (rep-up (suc p) below-rep)) in
      let less : z < A = lt_of_mul-lt-mul_right D e.0 in
      le_antisymm (below-best z (rep_down z (suc p) h.rep) less) (le_of_mul-le-mul_right e.1 (pow_pos (suc p)))
