-- `rounded` is nearest, its tie rules, exactness, order and scaling.
use mathlib.Core.Path.{◌≡◌, sym, ap, ◌∙◌}
use mathlib.Core.Logic.{◌⊎◌, inl, inr}
use Prim.Native.Nat.{ℕ, suc, ◌+◌, ◌-◌, ◌*◌, ◌/◌, ◌%◌, ◌^◌, ◌≤◌, ◌<◌}
use native.Mathlib.Nat.{le_refl, le_of_eq, mul-le-mul_right, le_of_mul-le-mul_right, eq_of_mul-eq-mul_right, le-div_iff_mul-le, div-lt_iff_lt-mul, div-add-mod', suc-mul, zero-mul, pow-succ'}
use native.Mathlib.Decide.{dec_le}
use native.Mathlib.Omega.{arith}
use lib.Pow.{pow-add, pow_pos}
use Rattle.rounding_spec.specs.declared.Ties.{Ties}
use Rattle.rounding_spec.specs.declared.Ties.TheVariants.{ToEven, ToZero}
use Rattle.rounding_spec.specs.Round.{keep, last_place, rounded}
use Rattle.rounding_spec.specs.Nearest.{dist, Rep, Near, Near0}
use Rattle.rounding_spec.proofs.Compare.{tri}
use Rattle.rounding_spec.proofs.LastPlace.{place-ge, place-above, place-below, place-scale}
use Rattle.rounding_spec.proofs.Keep.{keep-lt, keep-eq, keep-gt, kept, keep-scale}
use Rattle.rounding_spec.proofs.Multiple.{split-unit, mult-down}
use Rattle.rounding_spec.proofs.Representable.{rep-mult, rep_zero, rep-under, rep-le, floor-best}
use Rattle.rounding_spec.proofs.NearLaws.{near-exact, near-near0, near-order}

-- the significand that is cut off has at most suc f digits
module _ (f L N : ℕ) where
  pub quot-lt : N / 2 ^ last_place f L N < 2 * 2 ^ f
  quot-lt = (div-lt_iff_lt-mul (pow_pos (last_place f L N))).1 (rw (← pow-succ' 2 f, ← pow-add 2 (suc f) (last_place f L N)) (place-above f L N))

  pub quot-ge : L < last_place f L N → 2 ^ f ≤ N / 2 ^ last_place f L N
  quot-ge h = (le-div_iff_mul-le (pow_pos (last_place f L N))).1 (rw (← pow-add 2 f (last_place f L N)) (place-below f L N h))

-- the rounded one too, or it is the power of two behind them
module _ (t : Ties) (f L N : ℕ) where
  pub keep-le : keep t (last_place f L N) N ≤ 2 * 2 ^ f
  keep-le = omega (arith, quot-lt f L N, (kept t (last_place f L N) N).high)

  pub keep-ge : L < last_place f L N → 2 ^ f ≤ keep t (last_place f L N) N
  keep-ge h = omega (arith, quot-ge f L N h, (kept t (last_place f L N) N).low)

  -- in units of N the result is a multiple of 2 ^ last_place
  pub rounded-keep : rounded t f L N * 2 ^ L ≡ keep t (last_place f L N) N * 2 ^ last_place f L N
  unfolding rounded
  rounded-keep = sym (split-unit (keep t (last_place f L N) N) (place-ge f L N))

keep-nearest : (t : Ties) (k N y : ℕ) → dist (keep t k N * 2 ^ k) N ≤ dist (y * 2 ^ k) N
keep-nearest t k N y =
    let x = keep t k N in
    let b = kept t k N in
    elim (tri x y) [
      | inl l ↦ omega (arith, b.above, b.below, mul-le-mul_right (2 ^ k) l)
      | inr o ↦ elim o [
        | inl e ↦ rw e (le_refl (dist (y * 2 ^ k) N))
        | inr l ↦ omega (arith, b.above, b.below, mul-le-mul_right (2 ^ k) l)
      ]
    ]

-- ---- nearest
rounded-best : (t : Ties) (f L N m : ℕ) → Rep (suc f) L m → dist (keep t (last_place f L N) N * 2 ^ last_place f L N) N ≤ dist m N
rounded-best t f L N m r =
    let k = last_place f L N in
    elim (dec_le k r.e) [
      | yes g ↦ let c = mult-down m g (rep-mult r) in rw c.1 (keep-nearest t k N c.0)
      | no g ↦
          let low = r.low in
          let n : 2 ^ f * 2 ^ k ≤ N = rw (← pow-add 2 f k) (place-below f L N (omega arith)) in
          omega (arith, keep-nearest t k N (2 ^ f), rep-under {k = k} r (omega arith))
    ]

pub rounded-near : (t : Ties) (f L N : ℕ) → Near (suc f) L N (rounded t f L N * 2 ^ L)
rounded-near t f L N =
    rw (rounded-keep t f L N)
    (record {
      rep = rep-le f L (keep t (last_place f L N) N) (last_place f L N) (place-ge f L N) (rw (pow-succ' 2 f) (keep-le t f L N));
      best = rounded-best t f L N;
    })

-- ---- ties to the smaller magnitude
keep-zero-le : (k N : ℕ) → N < keep ToZero k N * 2 ^ k → 2 ^ k < 2 * (N % 2 ^ k)
keep-zero-le k N h =
    let s = div-add-mod' N (2 ^ k) in
    elim (tri (2 * (N % 2 ^ k)) (2 ^ k)) [
      | inl g ↦ absurd (let e = ap (λ (x : ℕ). x * 2 ^ k) (keep-lt ToZero k N g) in omega arith)
      | inr o ↦ elim o [ inl e ↦ absurd (let e = ap (λ (x : ℕ). x * 2 ^ k) (keep-eq ToZero k N e) in omega arith) | inr g ↦ g ]
    ]

pub rounded-near0 : (f L N : ℕ) → Near0 (suc f) L N (rounded ToZero f L N * 2 ^ L)
rounded-near0 f L N =
    let k = last_place f L N in
    let near = rounded-near ToZero f L N in
    let high : L < k → 2 ^ f * 2 ^ k ≤ N = λ g. rw (← pow-add 2 f k) (place-below f L N g) in
    let tie : (m : ℕ) → Rep (suc f) L m → dist m N ≡ dist (keep ToZero k N * 2 ^ k) N → keep ToZero k N * 2 ^ k ≤ m =
    λ m r e.
    elim (dec_le (keep ToZero k N * 2 ^ k) N) [
      | yes g ↦ elim (dec_le m N) [ yes h ↦ omega arith | no h ↦ omega arith ]
      | no g ↦ elim (dec_le m N) [
        | yes h ↦
            let up = keep-zero-le k N (omega arith) in
            let is = ap (λ (x : ℕ). x * 2 ^ k) (keep-gt ToZero k N up) in
            let b = floor-best f L N k high m r h in
            omega (arith, suc-mul (N / 2 ^ k) (2 ^ k), div-add-mod' N (2 ^ k))
        | no h ↦ omega arith
      ]
    ]
    in
    record { near = near; tie = rw (rounded-keep ToZero f L N) tie }

-- ---- at most half a unit away
half-unit : (t : Ties) (k N : ℕ) → 2 * dist (keep t k N * 2 ^ k) N ≤ 2 ^ k
half-unit t k N = let b = kept t k N in omega (arith, b.above, b.below)

pub rounded-half : (t : Ties) (f L N : ℕ) → 2 * dist (rounded t f L N * 2 ^ L) N ≤ 2 ^ last_place f L N
rounded-half t f L N = rw (rounded-keep t f L N) (half-unit t (last_place f L N) N)

-- ---- exactness, order, scaling
pub rounded-exact : (t : Ties) (f L N : ℕ) → Rep (suc f) L N → rounded t f L N * 2 ^ L ≡ N
rounded-exact t f L N r = near-exact (rounded-near t f L N) r

pub rounded-none : (t : Ties) (f L : ℕ) → rounded t f L 0 ≡ 0
rounded-none t f L = eq_of_mul-eq-mul_right (2 ^ L) (pow_pos L) (rounded t f L 0) 0 (rounded-exact t f L 0 rep_zero ∙ sym (zero-mul (2 ^ L)))

pub rounded-mono : (t : Ties) (f L N M : ℕ) → N ≤ M → rounded t f L N ≤ rounded t f L M
rounded-mono t f L N M h =
    elim (near-order h (rounded-near t f L N) (rounded-near t f L M)) [
      | inl g ↦ le_of_mul-le-mul_right g (pow_pos L)
      | inr e ↦ le_of_eq (ap (rounded t f L) e)
    ]

pub rounded-scale : (t : Ties) (f L s N : ℕ) → rounded t f (L + s) (N * 2 ^ s) ≡ rounded t f L N
unfolding rounded
rounded-scale t f L s N =
    let k = last_place f L N in
    let e : k + s - (L + s) ≡ k - L = omega arith in
    rw (place-scale f L s N, e, keep-scale t k s N)

-- ---- the two tie rules
pub rounded-differ : (f L N : ℕ) → (rounded ToEven f L N ≡ rounded ToZero f L N) ⊎ ((N < rounded ToEven f L N * 2 ^ L) × (rounded ToZero f L N * 2 ^ L + rounded ToEven f L N * 2 ^ L ≡ 2 * N))
rounded-differ f L N =
    elim (near-near0 (rounded-near ToEven f L N) (rounded-near0 f L N)) [
      | inl e ↦ inl (eq_of_mul-eq-mul_right (2 ^ L) (pow_pos L) (rounded ToEven f L N) (rounded ToZero f L N) e)
      | inr d ↦ inr d
    ]

-- ties to zero are not above ties to even
pub rounded-zero-le : (f L N : ℕ) → rounded ToZero f L N ≤ rounded ToEven f L N
rounded-zero-le f L N =
    elim (rounded-differ f L N) [
      | inl e ↦ le_of_eq (sym e)
      | inr d ↦ le_of_mul-le-mul_right {k = 2 ^ L} (omega arith) (pow_pos L)
    ]
