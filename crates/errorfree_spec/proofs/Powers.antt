-- Powers of two: what a number that is bounded by one rounds to, and products with one, exact or rounded.
use mathlib.Core.Path.{◌≡◌, sym, ap, ◌∙◌, subst}
use mathlib.Core.Bool.{Bool, false}
use Prim.Native.Nat.{ℕ, suc, ◌+◌, ◌-◌, ◌*◌, ◌^◌, ◌≤◌, ◌<◌}
use native.Mathlib.Nat.{mul_comm, one-mul}
use native.Mathlib.Decide.{dec_le}
use native.Mathlib.Omega.{arith}
use lib.Pow.{pow_pos}
use Rattle.rounding_spec.specs.declared.Ties.TheVariants.{ToEven}
use Rattle.rounding_spec.specs.Format.{Format, low, limit}
use Rattle.rounding_spec.specs.Nearest.{Rep, Near}
use Rattle.rounding_spec.specs.Value.{finite, round_finite}
use Rattle.rounding_spec.proofs.Multiple.{joined}
use Rattle.rounding_spec.proofs.Rounded.{rounded-near}
use Rattle.rounding_spec.proofs.Bounds.{rounded-le, rounded-ge}
use Rattle.rounding_spec.proofs.Rescaled.{near_down}
use Rattle.binary32_spec.specs.Steps.{mul_value}
use Rattle.errorfree_spec.proofs.Factors.{unscale}
use Rattle.errorfree_spec.proofs.Steps.{to_even, round_whole, mul-positive}

-- ---- N units of u * u beside a power of two
pub pow-le-of : (F : Format) (N k : ℕ) → N ≤ 2 ^ k * 2 ^ low F → to_even F N ≤ 2 ^ k
pow-le-of F N k h = rw one-mul at (rounded-le ToEven F.fraction (low F) N 1 k (pow_pos (suc F.fraction)) (rw one-mul h))

pub pow-ge-of : (F : Format) (N k : ℕ) → 2 ^ k * 2 ^ low F ≤ N → 2 ^ k ≤ to_even F N
pow-ge-of F N k h = rw one-mul at (rounded-ge ToEven F.fraction (low F) N 1 k (pow_pos (suc F.fraction)) (rw one-mul h))

-- a number that rounds to more than a power of two is not below it
pub pow-above : (F : Format) (N k : ℕ) → 2 ^ k < to_even F N → 2 ^ k * 2 ^ low F ≤ N
pow-above F N k h = elim (dec_le (2 ^ k * 2 ^ low F) N) [ yes g ↦ g | no g ↦ absurd (omega (arith, pow-le-of F N k (omega arith))) ]

-- ---- scaled up: 2 ^ (low F + k) is 2 ^ k, so `scale F` and `scale_twice F` are among them
pub up_step : (F : Format) (s : Bool) (m k : ℕ) → Rep (suc F.fraction) 0 (m * 2 ^ k) → m * 2 ^ k < limit F → mul_value F (finite false (2 ^ (low F + k))) (finite s m) ≡ finite s (m * 2 ^ k)
up_step F s m k r b =
    mul-positive F (2 ^ (low F + k)) s m
    ∙ ap (round_finite ToEven F s) (mul_comm (2 ^ (low F + k)) m ∙ sym (joined m k (low F) (low F + k) (let z : k + low F ≡ low F + k = omega arith in z)))
    ∙ round_whole ToEven F s (m * 2 ^ k) r b

-- ---- scaled down by 2 ^ suc F.fraction
module _ (F : Format) (wide : suc F.fraction ≤ low F) where
  down-arg : (m : ℕ) → 2 ^ (low F - suc F.fraction) * (m * 2 ^ suc F.fraction) ≡ m * 2 ^ low F
  down-arg m =
      mul_comm (2 ^ (low F - suc F.fraction)) (m * 2 ^ suc F.fraction)
      ∙ joined m (suc F.fraction) (low F - suc F.fraction) (low F) (let z : suc F.fraction + (low F - suc F.fraction) ≡ low F = omega arith in z)

  pub down_step : (s : Bool) (m : ℕ) → Rep (suc F.fraction) 0 m → m < limit F → mul_value F (unscale F) (finite s (m * 2 ^ suc F.fraction)) ≡ finite s m
  down_step s m r b = mul-positive F (2 ^ (low F - suc F.fraction)) s (m * 2 ^ suc F.fraction) ∙ ap (round_finite ToEven F s) (down-arg m) ∙ round_whole ToEven F s m r b

  -- what d units of u scaled down round to, beside d: a multiple of 2 ^ suc F.fraction
  pub down-rounds : (d : ℕ) → Near (suc F.fraction) (suc F.fraction) d (to_even F (2 ^ (low F - suc F.fraction) * d) * 2 ^ suc F.fraction)
  down-rounds d =
      let D = suc F.fraction in
      let s = low F - D in
      let e = to_even F (2 ^ s * d) in
      let l-is : D + s ≡ low F = omega arith in
      near_down d (e * 2 ^ D) s
      (rw l-is (subst (λ (z : ℕ). Near D (low F) (d * 2 ^ s) z) (sym (joined e D s (low F) l-is))
      (subst (λ (z : ℕ). Near D (low F) z (e * 2 ^ low F)) (mul_comm (2 ^ s) d) (rounded-near ToEven F.fraction (low F) (2 ^ s * d)))))
