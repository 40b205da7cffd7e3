-- What RN0 leaves over, rounded again, is at most half a unit of the rounded number's last place.
use mathlib.Core.Path.{◌≡◌, ap, ◌∙◌}
use Prim.Native.Nat.{ℕ, zero, suc, ◌+◌, ◌-◌, ◌*◌, ◌^◌, ◌≤◌}
use native.Mathlib.Nat.{le_trans, le_of_eq, one-mul, mul-le-mul_right, le_of_mul-le-mul_right, pow-succ'}
use native.Mathlib.Decide.{dec_le}
use native.Mathlib.Omega.{arith}
use lib.Pow.{pow-add, pow_pos, pow_mono}
use Rattle.rounding_spec.specs.declared.Ties.{Ties}
use Rattle.rounding_spec.specs.declared.Ties.TheVariants.{ToZero}
use Rattle.rounding_spec.specs.Round.{last_place, rounded, left_over}
use Rattle.rounding_spec.proofs.LastPlace.{place-gt}
use Rattle.rounding_spec.proofs.NearLaws.{near_le}
use Rattle.rounding_spec.proofs.Representable.{rep_zero, rep-le}
use Rattle.rounding_spec.proofs.Rounded.{keep-ge, rounded-near, rounded-near0, rounded-half}

-- rounding does not lower the last place
place-rounded : (t : Ties) (f L N : ℕ) → last_place f L N ≤ last_place f 0 (rounded t f L N) + L
unfolding rounded
place-rounded t f L N =
    let k = last_place f L N in
    elim (dec_le k L) [
      | yes h ↦ omega arith
      | no h ↦
          let e : suc f + (k - L - 1) ≡ f + (k - L) = omega arith in
          let b : 2 ^ (suc f + (k - L - 1)) ≤ rounded t f L N =
          le_trans (le_of_eq (ap (λ (x : ℕ). 2 ^ x) e ∙ pow-add 2 f (k - L))) (mul-le-mul_right (2 ^ (k - L)) (keep-ge t f L N (omega arith))) in
          omega (arith, place-gt f 0 (k - L - 1) (rounded t f L N) b)
    ]

-- half of u is a tie, which goes to zero; half of any other unit is a number of the format
half_of : (f L n j : ℕ) → 2 * n ≤ 2 ^ (j + L) → 2 * rounded ToZero f L n ≤ 2 ^ j
half_of f L n zero h =
    let near = rounded-near0 f L n in
    let p : 2 * n ≤ 2 ^ L = le_trans h (le_of_eq (ap (λ (x : ℕ). 2 ^ x) (omega arith))) in
    elim (dec_le 1 (rounded ToZero f L n)) [
      | yes g ↦
          let a : 1 * 2 ^ L ≤ rounded ToZero f L n * 2 ^ L = mul-le-mul_right (2 ^ L) g in
          let b = near.near.best 0 rep_zero in
          absurd (omega (arith, near.tie 0 rep_zero (omega arith), pow_pos L))
      | no g ↦ omega arith
    ]
half_of f L n (suc i) h =
    let e : 2 ^ (suc i + L) ≡ 2 * 2 ^ (i + L) = ap (λ (x : ℕ). 2 ^ x) (let z : suc i + L ≡ suc (i + L) = omega arith in z) ∙ pow-succ' 2 (i + L) in
    let a = near_le (rounded-near ToZero f L n) (rep-le f L 1 (i + L) (omega arith) (pow_pos (suc f))) (omega arith) in
    let b : rounded ToZero f L n ≤ 2 ^ i = le_of_mul-le-mul_right (le_trans a (le_of_eq (one-mul (2 ^ (i + L)) ∙ pow-add 2 i L))) (pow_pos L) in
    omega (arith, pow-succ' 2 i)

pub left-half : (f L N : ℕ) → 2 * rounded ToZero f L (left_over ToZero f L N) ≤ 2 ^ last_place f 0 (rounded ToZero f L N)
left-half f L N = half_of f L (left_over ToZero f L N) (last_place f 0 (rounded ToZero f L N)) (le_trans (rounded-half ToZero f L N) (pow_mono (place-rounded ToZero f L N)))
