-- The number below a nearest one, as a rounded product, and when it is the one that ties go down to.
use mathlib.Core.Path.{◌≡◌, sym}
use mathlib.Core.Logic.{◌≢◌}
use Prim.Native.Nat.{ℕ, suc, ◌+◌, ◌-◌, ◌*◌, ◌^◌, ◌≤◌, ◌<◌}
use native.Mathlib.Nat.{le_refl, le_trans, le_of_eq, le_of_mul-le-mul_right, mul_comm, mul-one, one-mul, zero-add}
use native.Mathlib.Decide.{dec_le}
use native.Mathlib.Omega.{arith}
use lib.Pow.{pow_pos}
use Rattle.rounding_spec.specs.Nearest.{dist, Rep, Near, Near0}
use Rattle.rounding_spec.proofs.Multiple.{sub-mul}
use Rattle.rounding_spec.proofs.Representable.{rep-lt}
use Rattle.rounding_spec.proofs.NearLaws.{near_le}
use Rattle.rounding_spec.proofs.Scaled.{rep-up}
use Rattle.rounding_spec.proofs.Predecessor.{Upper, upper, psi, below-add}
use Rattle.rounding_spec.proofs.TieDown.{keep-above, keep-below, go-down, small-exact}

-- A is nearest to n, and Z to A times 1 - 2 ^ -(p + 1), which is counted in units that much finer
module _ {p n A : ℕ} (Z : ℕ) (h : Near (suc p) 0 n A) (z : Near (suc p) (suc p) ((2 ^ suc p - 1) * A) (Z * 2 ^ suc p)) where
  exact-small : A ≤ 2 ^ p → A ≡ n
  exact-small g = small-exact h (n, sym (mul-one n)) (omega arith)

  z-big : (u : Upper p 0 A) → 2 ^ p < A → Z ≡ A - 2 ^ u.f
  z-big u g = psi u (omega arith) Z (rw zero-add z)

  -- n is halfway between them
  pub choose-z : 2 * n ≡ Z + A → Near0 (suc p) 0 n Z
  choose-z e =
      elim (dec_le A (2 ^ p)) [
        | yes g ↦ let q : Z ≡ A = omega (arith, exact-small g) in rw q (keep-above h (omega (arith, exact-small g)))
        | no g ↦
            let u = upper p 0 A h.rep (omega arith) in
            let q = z-big u (omega arith) in
            let f = below-add u in
            rw q (go-down h u (omega (arith, pow_pos u.f)) (omega (arith, pow_pos u.f)))
      ]

  pub choose-a : 2 * n ≢ Z + A → Near0 (suc p) 0 n A
  choose-a e =
      elim (dec_le A n) [
        | yes k ↦ keep-above h k
        | no k ↦ elim (dec_le A (2 ^ p)) [
          | yes g ↦ absurd (omega (arith, exact-small g))
          | no g ↦
              let u = upper p 0 A h.rep (omega arith) in
              let q = z-big u (omega arith) in
              let f = below-add u in
              keep-below h u (omega arith) (λ t. e (omega arith))
        ]
      ]

  pub z-le : Z ≤ A
  z-le =
      let r : Rep (suc p) (suc p) (A * 2 ^ suc p) = rw zero-add at (rep-up (suc p) h.rep) in
      le_of_mul-le-mul_right (near_le z r (le_trans (le_of_eq (sub-mul (2 ^ suc p) 1 A)) (omega (arith, mul_comm A (2 ^ suc p))))) (pow_pos (suc p))

  -- their difference is exact
  pub z-diff : Rep (suc p) 0 (dist Z A)
  z-diff =
      elim (dec_le A (2 ^ p)) [
        | yes g ↦ rep-lt 0 (dist Z A) (le_refl 0) (dist Z A, sym (mul-one (dist Z A))) (omega (arith, z-le, pow_pos p))
        | no g ↦
            let u = upper p 0 A h.rep (omega arith) in
            let q = z-big u (omega arith) in
            let f = below-add u in
            let e : dist Z A ≡ 2 ^ u.f = omega arith in
            rw e (record { e = u.f; m = 1; low = u.low; small = omega (arith, pow_pos p); is = sym (one-mul (2 ^ u.f)) })
      ]
