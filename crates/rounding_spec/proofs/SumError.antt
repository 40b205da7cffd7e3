-- The error of a rounded sum or difference of two numbers of the format is a number of the format.
use mathlib.Core.Path.{◌≡◌}
use Prim.Native.Nat.{ℕ, suc, ◌+◌, ◌-◌, ◌≤◌}
use native.Mathlib.Nat.{le_trans, le_of_eq}
use native.Mathlib.Decide.{dec_le}
use native.Mathlib.Omega.{arith}
use Rattle.rounding_spec.specs.Nearest.{dist, Rep, Near}
use Rattle.rounding_spec.proofs.Multiple.{mult-add, mult-dist}
use Rattle.rounding_spec.proofs.Representable.{rep-within}
use Rattle.rounding_spec.proofs.NearLaws.{near-mult}

-- from the larger of two numbers, their distance lies as far as the smaller one
dist-back : (n x y : ℕ) → y ≤ x → n ≡ x - y → dist x n ≡ y
dist-back n x y h e = omega arith

-- Either operand is a candidate, so the error is no larger than the other one; and it is a multiple of whatever both are.
module _ {p l x y a : ℕ} (r : Rep (suc p) l x) (s : Rep (suc p) l y) where
  pub sum-error : Near (suc p) l (x + y) a → Rep (suc p) l (dist a (x + y))
  sum-error h =
      rep-within (dist a (x + y)) r s (λ g b c. let m = mult-add g x y b c in mult-dist g a (x + y) (near-mult g h m) m)
      (omega (arith, h.best y s)) (omega (arith, h.best x r))

  error-le : Near (suc p) l (dist x y) a → (dist a (dist x y) ≤ x) × (dist a (dist x y) ≤ y)
  error-le h =
      elim (dec_le y x) [
        | yes g ↦ let b = le_trans (h.best x r) (le_of_eq (dist-back (dist x y) x y g (omega arith))) in (le_trans b g, b)
        | no g ↦
            let k : x ≤ y = omega arith in
            let b = le_trans (h.best y s) (le_of_eq (dist-back (dist x y) y x k (omega arith))) in
            (b, le_trans b k)
      ]

  pub difference-error : Near (suc p) l (dist x y) a → Rep (suc p) l (dist a (dist x y))
  difference-error h =
      rep-within (dist a (dist x y)) r s (λ g b c. let m = mult-dist g x y b c in mult-dist g a (dist x y) (near-mult g h m) m) (error-le h).0 (error-le h).1
