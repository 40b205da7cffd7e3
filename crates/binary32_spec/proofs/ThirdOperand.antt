-- A third operand brought to 24 digits, and how far a product or an operand can go up.
use mathlib.Core.Path.{◌≡◌}
use Prim.Native.Nat.{ℕ, suc, ◌-◌, ◌*◌, ◌%◌, ◌^◌, ◌≤◌, ◌<◌}
use native.Mathlib.Nat.{mul-le-mul_right, lt_of_lt_of_le, le_trans, lt_of_not-le, not-le_of_lt, mod-eq_of_lt}
use native.Mathlib.Omega.{arith}
use lib.Count.{count_leading_zeros, leading_top}
use lib.Pow.{pow-add, pow_mono, shl_lt}
use Rattle.rounding_spec.proofs.Multiple.{joined}
use Rattle.pattern_spec.specs.Inner.{Product}
use Rattle.binary32_spec.specs.Inner.{Normal, Reaches}

-- ---- a third operand with all its digits
module _ (c j : ℕ) (pos : 0 < c) (high : c < 2 ^ 24) (le : 149 ≤ j) where
  pub zeros-ge : 40 ≤ count_leading_zeros 64 c
  zeros-ge =
      let top = leading_top 64 c pos (omega arith) in
      let j : top.0 < 24 = lt_of_not-le (λ (g : 24 ≤ top.0). not-le_of_lt high (le_trans (pow_mono {i = 24} g) top.2)) in
      omega arith

  pub normalised-is : Normal c j (c * 2 ^ (count_leading_zeros 64 c - 40) % 2 ^ 64) (j - (count_leading_zeros 64 c - 40))
  normalised-is =
      let top = leading_top 64 c pos (omega arith) in
      let u = count_leading_zeros 64 c - 40 in
      let z = zeros-ge in
      let up : c * 2 ^ u < 2 ^ 24 = lt_of_lt_of_le (shl_lt (suc top.0) u top.3) (pow_mono {j = 24} (omega arith)) in
      let down : 2 ^ 23 ≤ c * 2 ^ u = le_trans (rw (← pow-add 2 top.0 u) (pow_mono {i = 23} (omega arith))) (mul-le-mul_right (2 ^ u) top.2) in
      let whole : c * 2 ^ u % 2 ^ 64 ≡ c * 2 ^ u = mod-eq_of_lt (omega arith) in
      rw whole (record { value = joined c u (j - u) j (omega arith); low = down; high = up; exp = omega arith; below = omega arith })

-- ---- a product goes up by 15 places, an operand by 39: then it stands far above the other
pub product-reaches : (p i c k : ℕ) → Product p i → 0 < p → 2 ^ 23 ≤ c → c < 2 ^ 24 → k ≤ i → Reaches p i c k 15
product-reaches p i c k o pos low high le =
    record {
      order = le;
      steps = (omega arith, omega arith);
      high = omega (arith, o.sig);
      second = omega arith;
      first = λ h. let l = o.leads (omega arith) pos in omega arith;
    }

pub operand-reaches : (c k p i : ℕ) → Product p i → 2 ^ 23 ≤ c → c < 2 ^ 24 → i ≤ k → Reaches c k p i 39
operand-reaches c k p i o low high le =
    record { order = le; steps = (omega arith, omega arith); high = omega arith; second = omega (arith, o.sig); first = λ h. omega (arith, o.sig) }
