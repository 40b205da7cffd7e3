-- Which of a product and an operand comes first in a fused sum, as the code picks it, and what is then known.
use mathlib.Core.Path.{◌≡◌, refl}
use mathlib.Core.Bool.{cond}
use Prim.Native.Nat.{ℕ, ◌*◌, ◌^◌, ◌≤◌, ◌<◌}
use native.Mathlib.Nat.{le_of_lt}
use native.Mathlib.Decide.{dec_le}
use native.Mathlib.Omega.{arith}
use borrow.Author.Tests.{le-leb, lt-leb}
use lib.Dec.{leb}
use Rattle.rounding_spec.specs.declared.Number.{Number}
use Rattle.rounding_spec.specs.Numbers.{number_value}
use Rattle.binary32_fma.specs.declared.Addends.{Addends}
use Rattle.pattern_spec.specs.Exact.{plus}
use Rattle.pattern_spec.specs.Inner.{Product}
use Rattle.binary32_spec.specs.Inner.{Reaches}
use Rattle.binary32_fma.specs.Inner.{Ordered, product-first, operand-first}
use Rattle.pattern_spec.proofs.Sums.{sum-swap}
use Rattle.binary32_spec.proofs.ThirdOperand.{product-reaches, operand-reaches}

-- equal fields make equal addends
same-addends : (r : Addends) (a b : Number) (room : ℕ) → r.high ≡ a → r.low ≡ b → r.room ≡ room → r ≡ record { high = a; low = b; room = room }
same-addends r a b room e f g = rw (← e, ← f, ← g) refl

module _ (p z : Number) (r : Addends) where
  pub ordered-is : r.high ≡ cond (leb z.exp p.exp) p z → r.low ≡ cond (leb z.exp p.exp) z p → r.room ≡ cond (leb z.exp p.exp) 15 39 → Ordered p z r
  ordered-is =
      elim (dec_le z.exp p.exp) [
        | yes h ↦ rw (le-leb z.exp p.exp h) (λ a b c. product-first h (same-addends r p z 15 a b c))
        | no h ↦ let l : p.exp < z.exp = omega arith in rw (lt-leb z.exp p.exp l) (λ a b c. operand-first l (same-addends r z p 39 a b c))
      ]

  pub ordered-reaches : Ordered p z r → Product p.sig p.exp → 0 < p.sig → 2 ^ 23 ≤ z.sig → z.sig < 2 ^ 24 → Reaches r.high.sig r.high.exp r.low.sig r.low.exp r.room
  ordered-reaches (product-first h e) o pos low high = rw e (product-reaches p.sig p.exp z.sig z.exp o pos low high h)
  ordered-reaches (operand-first h e) o pos low high = rw e (operand-reaches z.sig z.exp p.sig p.exp o low high (le_of_lt h))

  pub ordered-sum : Ordered p z r → plus (number_value r.high) (number_value r.low) ≡ plus (number_value p) (number_value z)
  unfolding plus
  ordered-sum (product-first h e) = rw e
  ordered-sum (operand-first h e) = rw e (sum-swap p.sign (p.sig * 2 ^ p.exp) z.sign (z.sig * 2 ^ z.exp))
