-- A number less than a quarter of a unit away from a representable one of full length rounds to it.
use mathlib.Core.Path.{◌≡◌, refl, sym, ap, ap₂, ◌∙◌}
use mathlib.Core.Logic.{inl, inr}
use Prim.Native.Nat.{ℕ, suc, ◌+◌, ◌*◌, ◌^◌, ◌≤◌, ◌<◌}
use native.Mathlib.Nat.{le_of_eq, le_trans, mul_assoc, mul-le-mul_right, suc-mul, pow-succ'}
use native.Mathlib.Decide.{dec_le}
use native.Mathlib.Omega.{arith}
use lib.Pow.{pow_pos}
use Rattle.rounding_spec.specs.Nearest.{dist, Near}
use Rattle.rounding_spec.proofs.Compare.{tri}
use Rattle.rounding_spec.proofs.Multiple.{mult-down}
use Rattle.rounding_spec.proofs.Representable.{rep-mult, rep-under}

-- two multiples of G that are less than G apart are one number
mult-close : (a b G : ℕ) → dist (a * G) (b * G) < G → a * G ≡ b * G
mult-close a b G h =
    elim (tri a b) [
      | inl l ↦ absurd (omega (arith, mul-le-mul_right G l, suc-mul a G))
      | inr o ↦ elim o [ inl e ↦ ap (λ (x : ℕ). x * G) e | inr l ↦ absurd (omega (arith, mul-le-mul_right G l, suc-mul b G)) ]
    ]

triangle : (a b n g : ℕ) → dist a n ≤ dist b n → dist b n < g → dist a b < 2 * g
triangle a b n g h k = omega arith

-- the last place of m * 2 ^ (e + 2) is 2 ^ (e + 2), and just below it possibly half of that
pub near-spaced : {p l n a : ℕ} (m e : ℕ) → Near (suc p) l n a → 2 ^ p ≤ m → m < 2 ^ suc p → l ≤ suc (suc e) → dist (m * 2 ^ suc (suc e)) n < 2 ^ e → a ≡ m * 2 ^ suc (suc e)
near-spaced {p} {l} {n} {a} m e h full small low close =
    let x = m * 2 ^ suc (suc e) in
    let g = 2 ^ suc e in
    let best = h.best x (record { e = suc (suc e); m = m; low = low; small = small; is = refl }) in
    let two : 2 ^ suc e ≡ 2 * 2 ^ e = pow-succ' 2 e in
    let near : dist a x < g = le_trans (triangle a x n (2 ^ e) best close) (le_of_eq (sym two)) in
    let four : 2 ^ suc (suc e) ≡ 2 * g = pow-succ' 2 (suc e) in
    let xg : x ≡ m * 2 * g = ap (λ (y : ℕ). m * y) four ∙ sym (mul_assoc m 2 g) in
    elim (dec_le (suc e) h.rep.e) [
      | yes k ↦
          let c = mult-down a k (rep-mult h.rep) in
          c.1 ∙ mult-close c.0 (m * 2) g (le_trans (le_of_eq (ap₂ (λ (y z : ℕ). suc (dist y z)) (sym c.1) (sym xg))) near) ∙ sym xg
      | no k ↦
          let under : a < 2 ^ p * g = rep-under {k = suc e} h.rep (omega arith) in
          let big : 2 ^ p * g + 2 ^ p * g ≤ x = le_trans (le_of_eq (let z : 2 ^ p * g + 2 ^ p * g ≡ 2 ^ p * 2 * g = omega arith in z))
          (le_trans (mul-le-mul_right g (let z : 2 ^ p * 2 ≤ m * 2 = omega arith in z)) (le_of_eq (sym xg))) in
          let one : 1 * g ≤ 2 ^ p * g = mul-le-mul_right g (pow_pos p) in
          absurd (omega arith)
    ]
