-- What a number that is bounded by a number of the format rounds to.
use mathlib.Core.Path.{refl, sym, subst}
use Prim.Native.Nat.{ℕ, suc, ◌+◌, ◌*◌, ◌^◌, ◌≤◌}
use native.Mathlib.Nat.{le_of_mul-le-mul_right}
use native.Mathlib.Omega.{arith}
use lib.Pow.{pow_pos}
use Rattle.rounding_spec.specs.declared.Ties.{Ties}
use Rattle.rounding_spec.specs.Round.{rounded}
use Rattle.rounding_spec.specs.Nearest.{Rep}
use Rattle.rounding_spec.proofs.Multiple.{joined}
use Rattle.rounding_spec.proofs.Representable.{rep-le}
use Rattle.rounding_spec.proofs.NearLaws.{near-ge, near_le}
use Rattle.rounding_spec.proofs.Rounded.{rounded-near}

-- m * 2 ^ k units of u, in the unit of N
module _ (t : Ties) (f L N m k : ℕ) (b : m ≤ 2 ^ suc f) where
  bound-rep : Rep (suc f) L (m * 2 ^ k * 2 ^ L)
  bound-rep = subst (λ (z : ℕ). Rep (suc f) L z) (sym (joined m k L (k + L) refl)) (rep-le f L m (k + L) (omega arith) b)

  pub rounded-le : N ≤ m * 2 ^ k * 2 ^ L → rounded t f L N ≤ m * 2 ^ k
  rounded-le h = le_of_mul-le-mul_right (near_le (rounded-near t f L N) bound-rep h) (pow_pos L)

  pub rounded-ge : m * 2 ^ k * 2 ^ L ≤ N → m * 2 ^ k ≤ rounded t f L N
  rounded-ge h = le_of_mul-le-mul_right (near-ge (rounded-near t f L N) bound-rep h) (pow_pos L)
