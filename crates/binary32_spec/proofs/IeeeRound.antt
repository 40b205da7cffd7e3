-- lib.Ieee rounds a fraction that has the value of an exact result as we round that result, ties to even.
use mathlib.Core.Path.{◌≡◌, refl, ◌∙◌}
use mathlib.Core.Bool.{Bool, true, false, cond}
use Prim.Native.Nat.{ℕ, suc, ◌+◌, ◌-◌, ◌*◌, ◌/◌, ◌%◌, ◌^◌, ◌≤◌, ◌<◌, compare, Ordering}
use native.Mathlib.Nat.{add_comm, mul_comm, mul_assoc, mul-pos, lt_of_lt_of_le, le-div_iff_mul-le, div-lt_iff_lt-mul}
use native.Mathlib.Omega.{arith}
use lib.Dec.{ltb}
use lib.Pow.{pow-add, pow_pos, pow_mono}
use lib.Ieee.{Format as Standard, prec, emax, low as standard-low, size, inf, nearest as standard-nearest, odd, units, round as standard-round}
use lib.Ieee.Digits.{size-lt, size_reaches}
use lib.Ieee.Fits.{round_is}
use lib.Ieee.Nearest.{closest, closest_same, div_same}
use lib.Ieee.Scale.{round_same}
use Rattle.rounding_spec.specs.declared.Ties.TheVariants.{ToEven}
use Rattle.rounding_spec.specs.Format.{limit}
use Rattle.rounding_spec.specs.Round.{nearest, keep, last_place, rounded}
use Rattle.rounding_spec.specs.Value.{infinite, finite, round_finite}
use Rattle.rounding_spec.proofs.LastPlace.{place_is}
use Rattle.binary32_spec.proofs.IeeeFraction.{Counts}
use Rattle.binary32_spec.proofs.IeeeSame.{ours, low-is, digits-is, both-inf, Agree, odd-same}

-- ---- the rounded significand
even : (q : ℕ) (o : Ordering) → nearest ToEven q o ≡ standard-nearest q o
even q Ordering.lt = refl
even q Ordering.eq = refl
even q Ordering.gt = refl

keep-is : (k N : ℕ) → keep ToEven k N ≡ closest N (2 ^ k)
unfolding keep
keep-is k N = rw (mul_comm 2 (N % 2 ^ k)) (even (N / 2 ^ k) (compare (N % 2 ^ k * 2) (2 ^ k)))

-- ---- its exponent: of the digits of the whole units k are dropped
module _ (g L N k : ℕ) (is : size (N / 2 ^ L) - suc g ≡ k) where
  last-place : last_place g L N ≡ L + k
  last-place =
      let n = N / 2 ^ L in
      let up : N < 2 ^ (suc g + (L + k)) = lt_of_lt_of_le ((div-lt_iff_lt-mul (pow_pos L)).0 (size-lt n)) (rw (← pow-add 2 (size n) L) (pow_mono (omega arith))) in
      let down : L < L + k → 2 ^ (g + (L + k)) ≤ N = λ h.
      let e : g + (L + k) ≡ g + k + L = omega arith in
      rw (e, pow-add 2 (g + k) L) ((le-div_iff_mul-le (pow_pos L)).0 (size_reaches n (g + k) (omega arith)))
      in
      place_is g L (L + k) N (omega arith) up down

  rounded-is : rounded ToEven g L N ≡ closest N (2 ^ (L + k)) * 2 ^ k
  unfolding rounded
  rounded-is = let e : L + k - L ≡ k = omega arith in rw (last-place, e, keep-is (L + k) N)

-- ---- finite or infinite
units-same : (f : Standard) (s : Bool) (q k : ℕ) → Agree f (cond (ltb (q * 2 ^ k) (2 ^ (standard-low f + suc (emax f)))) (finite s (q * 2 ^ k)) (infinite s)) (units f s q k)
unfolding units
units-same f s q k = go (ltb (q * 2 ^ k) (2 ^ (standard-low f + suc (emax f))))
  where
    go : (b : Bool) → Agree f (cond b (finite s (q * 2 ^ k)) (infinite s)) (cond b (odd (suc (prec f)) s q k (standard-low f)) (inf s))
    go true = odd-same (suc (prec f)) s q k (standard-low f)
    go false = both-inf

limit_is : (f : Standard) → limit (ours f) ≡ 2 ^ (standard-low f + suc (emax f))
unfolding limit
limit_is f = rw (low-is f, add_comm (suc (emax f)) (standard-low f))

-- ---- an exact result of N units of u * u
module _ (f : Standard) (s : Bool) (N : ℕ) where
  module _ (l k : ℕ) (low-f : standard-low f ≡ l) (is : size (N / 2 ^ l) - prec f ≡ k) where
    ours-is : round_finite ToEven (ours f) s N ≡ cond (ltb (closest N (2 ^ (l + k)) * 2 ^ k) (2 ^ (l + suc (emax f)))) (finite s (closest N (2 ^ (l + k)) * 2 ^ k)) (infinite s)
    unfolding round_finite
    ours-is = rw (limit_is f, low-is f, low-f, rounded-is (prec f - 1) l N k (rw (digits-is f) is))

    theirs-is : standard-round f s N (2 ^ (l + l)) ≡ units f s (closest N (2 ^ (l + k))) k
    theirs-is =
        let whole : N * 2 ^ l / 2 ^ (l + l) ≡ N / 2 ^ l = div_same (N * 2 ^ l) (2 ^ (l + l)) N (2 ^ l) (pow_pos (l + l)) (pow_pos l) (simp (mul_assoc, pow-add)) in
        let kept : closest (N * 2 ^ l) (2 ^ (l + l) * 2 ^ k) ≡ closest N (2 ^ (l + k)) =
        closest_same (N * 2 ^ l) (2 ^ (l + l) * 2 ^ k) N (2 ^ (l + k)) (mul-pos (pow_pos (l + l)) (pow_pos k)) (pow_pos (l + k)) (simp (mul_assoc, pow-add))
        in
        round_is f s N (2 ^ (l + l)) ∙ rw (low-f, whole, is, kept)

  in-units : Agree f (round_finite ToEven (ours f) s N) (standard-round f s N (2 ^ (standard-low f + standard-low f)))
  in-units =
      let l = standard-low f in
      let k = size (N / 2 ^ l) - prec f in
      rw (ours-is l k refl refl, theirs-is l k refl refl) (units-same f s (closest N (2 ^ (l + k))) k)

-- any fraction of that value
pub round-agrees : (f : Standard) (s : Bool) {N a c : ℕ} → Counts (standard-low f + standard-low f) N a c → Agree f (round_finite ToEven (ours f) s N) (standard-round f s a c)
round-agrees f s {N} {a} {c} p =
    let l = standard-low f in
    rw (round_same f s a c N (2 ^ (l + l)) p.pos (pow_pos (l + l)) p.is) (in-units f s N)
