-- Sums and products that overflow, halved: the halves are exact, and the edge test on them gives the pair.
use mathlib.Core.Path.{◌≡◌, sym, ap, ap₂, ◌∙◌, subst}
use mathlib.Core.Logic.{◌⊎◌, inl, inr}
use mathlib.Core.Bool.{Bool, not, cond, ◌&&◌}
use Prim.Native.Nat.{ℕ, suc, ◌+◌, ◌-◌, ◌*◌, ◌^◌, ◌≤◌, ◌<◌}
use native.Mathlib.Nat.{le_trans, le_of_eq, mul_comm, mul_assoc, one-mul, pow-succ', mul-le-mul_right, mul-le-mul_left, mul-lt-mul_of_pos_right}
use native.Mathlib.Decide.{dec_le}
use native.Mathlib.Omega.{arith}
use lib.Ieee.{unlike}
use lib.Pow.{pow-add, pow_pos, pow_mono}
use Rattle.rounding_spec.specs.declared.Ties.TheVariants.{ToEven}
use Rattle.rounding_spec.specs.Format.{Format, Proper, low, limit}
use Rattle.rounding_spec.specs.Nearest.{Rep}
use Rattle.rounding_spec.specs.Value.{Value, infinite, finite, round_finite}
use Rattle.rounding_spec.proofs.Representable.{rep-half}
use Rattle.rounding_spec.proofs.NearLaws.{near-ge}
use Rattle.rounding_spec.proofs.RoundValue.{round-below, round-above}
use Rattle.rounding_spec.proofs.Sterbenz.{add-le}
use Rattle.pattern_spec.specs.Exact.{negate, plus}
use Rattle.binary32_spec.specs.Steps.{add_value, sub_value, mul_value, fma_value}
use Rattle.pattern_spec.proofs.Sums.{like-own, sum_same}
use Rattle.augmented_spec.specs.Pairs.{pair_of}
use Rattle.augmented_spec.proofs.Second.{first-infinite, second-infinite}
use Rattle.pattern_spec.specs.Comparisons.{same}
use Rattle.errorfree_spec.specs.Constants.{Roomy}
use Rattle.errorfree_spec.proofs.Factors.{half, kappa, minus_two}
use Rattle.errorfree_spec.proofs.Signed.{Is}
use Rattle.errorfree_spec.proofs.Steps.{to_even, to_zero, even-at, zero-at, round_whole, mul-positive, mul-finite}
use Rattle.errorfree_spec.proofs.ProductSplit.{whole, product-split}
use Rattle.errorfree_spec.proofs.FastTwoSum.{add-finite, fast-same}
use Rattle.errorfree_spec.proofs.Powers.{pow-le-of}
use Rattle.errorfree_spec.proofs.Edge.{half_limit, edge_rest, limit-twice, over-ge, last-add, last-best, edge-pair}

-- what the edge test makes of a and b, the halves' split: the pair of N, whose sign is s
abbrev pub EdgePair : Format → Bool → ℕ → Value → Value → Type 0
EdgePair F s N a b =
    let c = same a (finite s (half_limit F)) && same b (finite (not s) (edge_rest F)) in
    (cond c (mul_value F (kappa F) a) (infinite s) ≡ (pair_of F (finite s N)).first) × (cond c (mul_value F (minus_two F) b) (infinite s) ≡ (pair_of F (finite s N)).second)

-- ---- halves
pub half_step : (F : Format) → Roomy F → (s : Bool) (H : ℕ) → Rep (suc F.fraction) 0 H → H < limit F → mul_value F (half F) (finite s (2 * H)) ≡ finite s H
half_step F room s H r b =
    let e : 2 * 2 ^ (low F - 1) ≡ 2 ^ low F = sym (pow-succ' 2 (low F - 1)) ∙ ap (λ (z : ℕ). 2 ^ z) (let z : suc (low F - 1) ≡ low F = omega arith in z) in
    mul-positive F (2 ^ (low F - 1)) s (2 * H)
    ∙ ap (round_finite ToEven F s) (sym (mul_assoc (2 ^ (low F - 1)) 2 H) ∙ ap (λ (z : ℕ). z * H) (mul_comm (2 ^ (low F - 1)) 2 ∙ e) ∙ mul_comm (2 ^ low F) H)
    ∙ round_whole ToEven F s H r b

-- ---- sums of like signs
module _ (F : Format) (ok : Proper F) (room : Roomy F) (s : Bool) (X Y : ℕ) (xr : Rep (suc F.fraction) 0 X) (yr : Rep (suc F.fraction) 0 Y) (xb : X < limit F) (le : Y ≤ X)
    (over : limit F ≤ to_even F ((X + Y) * 2 ^ low F)) where
  pub y-big : 2 ^ suc F.fraction ≤ Y
  unfolding edge_rest
  y-big =
      let k = F.emax + low F - suc (suc F.fraction) in
      let p : 2 ^ suc F.fraction ≤ 2 ^ suc k = pow_mono (omega arith) in
      omega (arith, over-ge F room ok (X + Y) over, last-add F room, last-best F room X xr xb, pow-succ' 2 k)

  pub sum-edge : (x' y' a' v' b' : Value) → x' ≡ mul_value F (half F) (finite s X) → y' ≡ mul_value F (half F) (finite s Y) → a' ≡ add_value F x' y' → v' ≡ sub_value F a' x' → b' ≡ sub_value F y' v'
      → (A : ℕ) × (a' ≡ finite s A) × EdgePair F s ((X + Y) * 2 ^ low F) a' b'
  unfolding plus
  sum-edge x' y' a' v' b' xi yi ai vi bi =
      let hy = rep-half yr y-big in
      let hx = rep-half xr (le_trans y-big le) in
      let H = hx.0 in
      let G = hy.0 in
      let n = H + G in
      let A = to_even F (n * 2 ^ low F) in
      let two-n : X + Y ≡ 2 * n = omega (arith, hx.1, hy.1) in
      let le' : G ≤ H = omega (arith, hx.1, hy.1) in
      let hb : H < limit F = omega (arith, hx.1) in
      let fine : A < limit F = omega (arith, hx.1, add-le hx.2 hy.2 le' (even-at F n)) in
      let x-is : x' ≡ finite s H = xi ∙ ap (λ (z : ℕ). mul_value F (half F) (finite s z)) hx.1 ∙ half_step F room s H hx.2 hb in
      let y-is : y' ≡ finite s G = yi ∙ ap (λ (z : ℕ). mul_value F (half F) (finite s z)) hy.1 ∙ half_step F room s G hy.2 (omega arith) in
      let a-is : a' ≡ finite s A = ai ∙ ap₂ (add_value F) x-is y-is ∙ add-finite F (finite s H) (finite s G) s n (sum_same s H s G (like-own s)) ∙ round-below ToEven F s (n * 2 ^ low F) fine in
      let b-is : b' ≡ sub_value F (finite s G) (sub_value F (finite s A) (finite s H)) = bi ∙ ap₂ (sub_value F) y-is (vi ∙ ap₂ (sub_value F) a-is x-is) in
      let split = (fast-same F H G hx.2 hy.2 hb le' s fine).split in
      (A, a-is, rw (a-is, b-is, two-n) (edge-pair F room ok s n (sub_value F (finite s G) (sub_value F (finite s A) (finite s H))) (rw two-n at over) split.rest))

-- ---- products
module _ (F : Format) (ok : Proper F) (room : Roomy F) (a b : ℕ) (ar : Rep (suc F.fraction) 0 a) (br : Rep (suc F.fraction) 0 b) (ab : a < limit F) (bb : b < limit F)
    (over : limit F ≤ to_even F (a * b)) where
  abbrev f : ℕ
  f = F.fraction

  abbrev W : ℕ
  W = half_limit F

  -- the product is far above the numbers that a fused step would not split
  small-le : 2 * 2 ^ suc (f + f) ≤ W
  unfolding half_limit
  small-le = le_trans (le_of_eq (sym (pow-succ' 2 (suc (f + f))))) (pow_mono (omega arith))

  rest_le : 2 * edge_rest F ≤ W
  unfolding half_limit edge_rest
  rest_le = le_trans (le_of_eq (sym (pow-succ' 2 (F.emax + low F - suc (suc f))))) (pow_mono (omega arith))

  W-pos : 0 < W
  unfolding half_limit
  W-pos = pow_pos (F.emax + low F)

  big : 2 ^ suc (f + f) * 2 ^ low F ≤ a * b
  big =
      elim (dec_le (2 ^ suc (f + f) * 2 ^ low F) (a * b)) [
        | yes g ↦ g
        | no g ↦ absurd (omega (arith, pow-le-of F (a * b) (suc (f + f)) (omega arith), limit-twice F room, small-le, W-pos))
      ]

  n : ℕ
  n = (whole F a b ar br big).0

  n-is : a * b ≡ n * 2 ^ low F
  unfolding n
  n-is = (whole F a b ar br big).1

  n-big : limit F ≤ n + 2 * edge_rest F
  n-big = over-ge F room ok n (subst (λ (z : ℕ). limit F ≤ to_even F z) n-is over)

  scaled-le : 2 ^ suc f * limit F ≤ W * 2 ^ low F
  unfolding limit half_limit
  scaled-le =
      le_trans (le_of_eq (sym (pow-add 2 (suc f) (suc F.emax + low F))))
      (le_trans (pow_mono (let z : suc f + (suc F.emax + low F) ≤ F.emax + low F + low F = omega arith in z)) (le_of_eq (pow-add 2 (F.emax + low F) (low F))))

  -- so x is far from the subnormal numbers, and its half is exact
  a-big : 2 ^ suc f ≤ a
  a-big =
      elim (dec_le (2 ^ suc f) a) [
        | yes g ↦ g
        | no g ↦ absurd
            (let U = 2 ^ low F in
            let x : W * U ≤ n * U = mul-le-mul_right U (omega (arith, n-big, limit-twice F room, rest_le)) in
            let y : a * b ≤ a * limit F = mul-le-mul_left a (let z : b ≤ limit F = omega arith in z) in
            let z : a * limit F < 2 ^ suc f * limit F = mul-lt-mul_of_pos_right (omega arith) (let w = limit-twice F room in omega (arith, W-pos)) in
            omega (arith, n-is, scaled-le))
      ]

  halved : (H : ℕ) × (a ≡ 2 * H) × Rep (suc f) 0 H
  halved = rep-half ar a-big

  pub H : ℕ
  H = halved.0

  pub H-is : a ≡ 2 * H
  unfolding H
  H-is = halved.1

  twice : a * b ≡ 2 * (H * b)
  twice = ap (λ (z : ℕ). z * b) H-is ∙ mul_assoc 2 H b

  pub H-rep : Rep (suc f) 0 H
  unfolding H
  H-rep = halved.2

  pub big-half : 2 ^ suc (f + f) * 2 ^ low F ≤ H * b
  big-half =
      let U = 2 ^ low F in
      let x = mul-le-mul_right U (let z : 2 * 2 ^ suc (f + f) ≤ n = omega (arith, n-big, limit-twice F room, rest_le, small-le) in z) in
      omega (arith, twice, n-is, mul_assoc 2 (2 ^ suc (f + f)) U)

  m : ℕ
  m = (whole F H b H-rep br big-half).0

  m-is : H * b ≡ m * 2 ^ low F
  unfolding m
  m-is = (whole F H b H-rep br big-half).1

  n-twice : a * b ≡ 2 * m * 2 ^ low F
  n-twice = twice ∙ ap (λ (z : ℕ). 2 * z) m-is ∙ sym (mul_assoc 2 m (2 ^ low F))

  half_is : (s : Bool) → mul_value F (half F) (finite s a) ≡ finite s H
  unfolding H
  half_is s = ap (λ (z : ℕ). mul_value F (half F) (finite s z)) halved.1 ∙ half_step F room s halved.0 halved.2 (omega (arith, halved.1))

  -- the half overflows as well, and then RN0 of the product does
  infinite-half : limit F ≤ to_even F (H * b) → limit F ≤ to_zero F (a * b)
  infinite-half g =
      let k = over-ge F room ok m (subst (λ (z : ℕ). limit F ≤ to_even F z) m-is g) in
      rw n-twice (near-ge (zero-at F (2 * m)).near limit-rep (omega (arith, limit-twice F room, rest_le)))
    where
      limit-rep : Rep (suc f) 0 (limit F)
      limit-rep = unfold limit in record { e = suc F.emax + low F; m = 1; low = omega arith; small = omega (arith, pow_pos f); is = sym (one-mul (2 ^ (suc F.emax + low F))) }

  pub product-edge : (s t : Bool) (h a' b' : Value) → h ≡ mul_value F (half F) (finite s a) → a' ≡ mul_value F h (finite t b) → b' ≡ fma_value F h (finite t b) (negate a')
      → ((a' ≡ infinite (unlike s t)) × ((pair_of F (finite (unlike s t) (a * b))).first ≡ infinite (unlike s t)) × ((pair_of F (finite (unlike s t) (a * b))).second ≡ infinite (unlike s t)))
      ⊎ ((A : ℕ) × (a' ≡ finite (unlike s t) A) × EdgePair F (unlike s t) (a * b) a' b')
  unfolding m
  product-edge s t h a' b' hi ai bi =
      let r = unlike s t in
      let h-is : h ≡ finite s H = hi ∙ half_is s in
      let step : a' ≡ round_finite ToEven F r (H * b) = ai ∙ ap (λ (v : Value). mul_value F v (finite t b)) h-is ∙ mul-finite F s H t b in
      elim (dec_le (limit F) (to_even F (H * b))) [
        | yes g ↦ let z = infinite-half g in inl (step ∙ round-above ToEven F r (H * b) g, first-infinite F r (a * b) z, second-infinite F r (a * b) z)
        | no g ↦
            let fine : to_even F (H * b) < limit F = omega arith in
            let A = to_even F (H * b) in
            let a-is : a' ≡ finite r A = step ∙ round-below ToEven F r (H * b) fine in
            let b-is : b' ≡ fma_value F (finite s H) (finite t b) (negate (finite r A)) = bi ∙ ap₂ (λ (v w : Value). fma_value F v (finite t b) (negate w)) h-is a-is in
            let split = product-split F H b H-rep br big-half s t fine in
            let v = fma_value F (finite s H) (finite t b) (negate (finite r A)) in
            inr (
              A,
              a-is,
              rw (a-is, b-is, n-twice) (rw (← m-is) at (edge-pair F room ok r m v (subst (λ (z : ℕ). limit F ≤ to_even F z) n-twice over)
                  (subst (λ (z : ℕ). Is r v m (to_even F z)) m-is split.rest))),
            )
      ]
