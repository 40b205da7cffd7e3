-- The sum and the difference of the same operands are the same.
use mathlib.Core.Path.{◌≡◌, refl}
use mathlib.Core.Logic.{inl, inr}
use mathlib.Core.Bool.{Bool, true, false, and-true, and-false, beq, cond}
use Prim.Native.Nat.{ℕ, ◌-◌, ◌*◌, ◌^◌}
use native.Mathlib.Nat.{mul_comm}
use native.Mathlib.Omega.{arith}
use borrow.Author.Tests.{lt-ltb, le-ltb}
use lib.Ieee.{Float, nan as not-number, inf, Format as Standard, low as standard-low, down, round as standard-round, sum, add, sub}
use lib.Ieee.Fits.{down_pos}
use Rattle.rounding_spec.specs.declared.Ties.TheVariants.{ToEven}
use Rattle.rounding_spec.specs.Format.{low}
use Rattle.rounding_spec.specs.Value.{Value, nan, infinite, round_finite, round}
use Rattle.rounding_spec.proofs.Compare.{tri}
use Rattle.pattern_spec.specs.Exact.{plus_finite, finer}
use Rattle.binary32_spec.specs.Steps.{add_value, sub_value}
use Rattle.binary32_spec.proofs.IeeeFraction.{Counts, counts-add, counts-sub, counts-lt, counts-eq, counts-over, counts-finer}
use Rattle.binary32_spec.proofs.IeeeSame.{ours, low-is, both-nan, both-inf, both-fin, Agree, neg_same}
use Rattle.binary32_spec.proofs.IeeeRound.{round-agrees}

-- x units of u, rounded
in-u : (f : Standard) (s : Bool) {x a c : ℕ} → Counts (standard-low f) x a c → Agree f (round_finite ToEven (ours f) s (x * 2 ^ low (ours f))) (standard-round f s a c)
in-u f s p = rw (low-is f) (round-agrees f s (counts-finer p))

-- a / c and b / c are x and y units; r says whether the signs are equal
sum_same : (f : Standard) (s t r : Bool) {x y a b c : ℕ} → beq s t ≡ r → Counts (standard-low f) x a c → Counts (standard-low f) y b c
    → Agree f (round ToEven (ours f) (finer (ours f) (plus_finite s x t y))) (sum f s a t b c)
unfolding round finer plus_finite sum
sum_same f s t true e p q = rw e (in-u f s (counts-add p q))
sum_same f s t false {x} {y} {a} {b} e p q =
    elim (tri x y) [
      | inl h ↦ rw (e, le-ltb y x (omega arith), lt-ltb x y h, lt-ltb a b (counts-lt p q h)) (in-u f t (counts-sub q p))
      | inr o ↦ elim o [
        | inl h ↦
            let g = counts-eq p q h in
            let z : x - y ≡ 0 = omega arith in
            rw (e, le-ltb y x (omega arith), le-ltb x y (omega arith), le-ltb a b (omega arith), le-ltb b a (omega arith), and-false s)
            (in-u f false (rw z at (counts-sub p q)))
        | inr h ↦
            let g = counts-lt q p h in
            rw (e, lt-ltb y x h, le-ltb a b (omega arith), lt-ltb b a g, and-true s) (in-u f s (counts-sub p q))
      ]
    ]

-- two infinities, by whether their signs are equal
infinite-sum : (f : Standard) (s r : Bool) → Agree f (round ToEven (ours f) (finer (ours f) (cond r (infinite s) nan))) (cond r (inf s) not-number)
unfolding round finer
infinite-sum f s true = both-inf
infinite-sum f s false = both-nan

pub add_same : (f : Standard) {v w : Value} {x y : Float} → Agree f v x → Agree f w y → Agree f (add_value (ours f) v w) (add f x y)
unfolding add_value add
add_same f both-nan q = both-nan
add_same f both-inf both-nan = both-nan
add_same f (both-inf {s}) (both-inf {s = t}) = infinite-sum f s (beq s t)
add_same f both-inf (both-fin q) = both-inf
add_same f (both-fin p) both-nan = both-nan
add_same f (both-fin p) both-inf = both-inf
add_same f (both-fin {s} {e = e} p) (both-fin {s = t} {e = d} q) =
    sum_same f s t (beq s t) refl (counts-over (down d) (down_pos d) p) (rw (mul_comm (down d) (down e)) at (counts-over (down e) (down_pos e) q))

pub sub_same : (f : Standard) {v w : Value} {x y : Float} → Agree f v x → Agree f w y → Agree f (sub_value (ours f) v w) (sub f x y)
unfolding sub_value sub
sub_same f p q = add_same f p (neg_same q)
