-- The rest of a scaled product, scaled down again: a tie that went up goes down by one u.
use mathlib.Core.Path.{◌≡◌, sym, ap, ap₂, ◌∙◌, subst}
use mathlib.Core.Logic.{inl, inr}
use mathlib.Core.Bool.{Bool, true, false, not, ◌&&◌, cond}
use Prim.Native.Nat.{ℕ, suc, ◌+◌, ◌-◌, ◌*◌, ◌^◌, ◌≤◌, ◌<◌}
use native.Mathlib.Nat.{le_refl, mul-one, one-mul, zero-mul, zero-add, mul_left_comm, pow-succ', le-mul_of_pos_right, eq-zero-or-pos}
use native.Mathlib.Decide.{dec_le}
use native.Mathlib.Omega.{arith}
use borrow.Author.Tests.{ne_eqb}
use lib.Dec.{T, eqb, eqb→eq}
use lib.Pow.{pow-add, pow_pos}
use Rattle.rounding_spec.specs.declared.Ties.TheVariants.{ToEven}
use Rattle.rounding_spec.specs.Format.{Format, low, limit}
use Rattle.rounding_spec.specs.Nearest.{dist, Rep, Near, Near0}
use Rattle.rounding_spec.specs.Value.{Value, nan, infinite, finite, is_zero}
use Rattle.rounding_spec.proofs.Multiple.{sub-mul}
use Rattle.rounding_spec.proofs.NearLaws.{near-exact, near_le}
use Rattle.rounding_spec.proofs.Representable.{rep-lt, rep-lower, rep-raise}
use Rattle.rounding_spec.proofs.ProductError.{near-half}
use Rattle.rounding_spec.proofs.RoundValue.{round-below}
use Rattle.rounding_spec.proofs.Even.{half-to-even}
use Rattle.rounding_spec.proofs.Scaled.{rep_down}
use Rattle.rounding_spec.proofs.SmallProducts.{rest-down, rest-keep}
use Rattle.rounding_spec.proofs.TieDown.{dbl}
use Rattle.binary32_spec.specs.Steps.{sub_value, mul_value}
use Rattle.pattern_spec.specs.Comparisons.{same}
use Rattle.errorfree_spec.proofs.Factors.{scale, unscale}
use Rattle.errorfree_spec.proofs.Signed.{and_both, Is, rel-own, rel-dist, is-shift, same-eq, eq-same}
use Rattle.errorfree_spec.proofs.Steps.{to_even, is-sub, mul-positive}
use Rattle.errorfree_spec.proofs.Powers.{up_step, down-rounds}

-- c, of the sign t, less one u where r, what c scaled up is off by, is half of a scaled u with that sign
abbrev pub stepped : Format → Bool → Value → Value → Value
stepped F t c r = cond (not (is_zero c) && same r (finite t (2 ^ F.fraction))) (sub_value F c (finite t 1)) c

-- d units of u with the sign t, not more than a number `top` that is still one of the format when it is scaled down
module _ (F : Format) (wide : suc F.fraction ≤ low F) (t : Bool) (d : ℕ) (dr : Rep (suc F.fraction) 0 d) (top : ℕ) (tr : Rep (suc F.fraction) (suc F.fraction) top) (dt : d ≤ top)
    (tw : top < limit F) where
  -- d scaled down, and that scaled up again
  abbrev pub small : ℕ
  small = to_even F (2 ^ (low F - suc F.fraction) * d)

  abbrev large : ℕ
  large = small * 2 ^ suc F.fraction

  near : Near (suc F.fraction) (suc F.fraction) d large
  near = down-rounds F wide d

  large-top : large ≤ top
  large-top = near_le near tr dt

  small-large : small ≤ large
  small-large = le-mul_of_pos_right small (pow_pos (suc F.fraction))

  pub small_is : mul_value F (unscale F) (finite t d) ≡ finite t small
  small_is = mul-positive F (2 ^ (low F - suc F.fraction)) t d ∙ round-below ToEven F t (2 ^ (low F - suc F.fraction) * d) (omega (arith, small-large, large-top))

  pub large_is : mul_value F (scale F) (finite t small) ≡ finite t large
  large_is = up_step F t small (suc F.fraction) (rep-lower (let z : 0 ≤ suc F.fraction = omega arith in z) near.rep) (omega (arith, large-top))

  off : 2 * dist large d ≤ 2 ^ suc F.fraction
  off =
      elim (dec_le (2 ^ F.fraction * 2 ^ suc F.fraction) d) [
        | yes g ↦ omega (arith, near-exact near (rep-raise g dr))
        | no g ↦ near-half (suc F.fraction) near (le_refl (suc F.fraction)) (omega (arith, dbl F.fraction (suc F.fraction)))
      ]

  abbrev gap : Value
  gap = sub_value F (finite t large) (finite t d)

  abbrev half_place : Value
  half_place = finite t (2 ^ F.fraction)

  pub gap_is : Is t gap large d
  gap_is =
      let e : dist (large + 0) (0 + d) ≡ dist large d = omega arith in
      let rep : Rep (suc F.fraction) 0 (dist large d) = rep-lt 0 (dist large d) (le_refl 0) (dist large d, sym (mul-one (dist large d))) (omega (arith, off, pow_pos F.fraction)) in
      let q = is-sub F t (finite t large) (finite t d) large 0 d 0 (rel-own t large) (rel-own t d) (rw e rep) (rw e (omega (arith, large-top))) in
      is-shift t gap (large + 0) (0 + d) large d q (omega arith)

  -- ---- the tie that went up
  nothing : small ≡ 0 → large ≡ 0
  nothing e = ap (λ (z : ℕ). z * 2 ^ suc F.fraction) e ∙ zero-mul (2 ^ suc F.fraction)

  module _ (tie : large + 0 ≡ 2 ^ F.fraction + d) where
    -- half of u would have gone down
    pub above-one : 1 < small
    above-one =
        let K = suc F.fraction in
        let b = pow_pos F.fraction in
        elim (dec_le small 1) [
          | yes g ↦ elim (eq-zero-or-pos small) [
            | inl z ↦ absurd (omega (arith, nothing z))
            | inr z ↦
                let one : small ≡ 1 = omega arith in
                let l : large ≡ 2 ^ K = ap (λ (z : ℕ). z * 2 ^ K) one ∙ one-mul (2 ^ K) in
                let twice : 2 * d ≡ 2 ^ K = omega (arith, pow-succ' 2 F.fraction) in
                let all : 2 * (2 ^ (low F - K) * d) ≡ 2 ^ low F =
                mul_left_comm 2 (2 ^ (low F - K)) d ∙ ap (λ (z : ℕ). 2 ^ (low F - K) * z) twice ∙ sym (pow-add 2 (low F - K) K)
                ∙ ap (λ (z : ℕ). 2 ^ z) (let z : low F - K + K ≡ low F = omega arith in z)
                in
                absurd (omega (arith, half-to-even F.fraction (low F) (2 ^ (low F - K) * d) all))
          ]
          | no g ↦ omega arith
        ]

    less_one : (small - 1) * 2 ^ suc F.fraction ≡ large - 2 ^ suc F.fraction
    less_one = sub-mul small 1 (2 ^ suc F.fraction) ∙ ap (λ (z : ℕ). large - z) (one-mul (2 ^ suc F.fraction))

    lower-near : Near0 (suc F.fraction) (suc F.fraction) d ((small - 1) * 2 ^ suc F.fraction)
    lower-near = let b = pow_pos F.fraction in let two = pow-succ' 2 F.fraction in rw less_one (rest-down dr near (omega arith) (omega arith) (omega arith))

    pub lower-is : Is t (sub_value F (finite t small) (finite t 1)) (small - 1) 0
    lower-is =
        let one = above-one in
        let rep : Rep (suc F.fraction) 0 (small - 1) = rep_down (small - 1) (suc F.fraction) (rw zero-add lower-near.near.rep) in
        let m : dist (small + 0) (0 + 1) ≡ small - 1 = omega arith in
        let i = is-sub F t (finite t small) (finite t 1) small 0 1 0 (rel-own t small) (rel-own t 1) (rw m rep) (rw m (omega (arith, small-large, large-top))) in
        is-shift t (sub_value F (finite t small) (finite t 1)) (small + 0) (0 + 1) (small - 1) 0 i (omega arith)

    lower-nonzero : is_zero (sub_value F (finite t small) (finite t 1)) ≡ false
    lower-nonzero = by (sub_value F (finite t small) (finite t 1)) lower-is
      where
        by : (v : Value) → Is t v (small - 1) 0 → is_zero v ≡ false
        by nan i = absurd i
        by (infinite u) i = absurd i
        by (finite u m) i = ne_eqb m 0 (λ (z : m ≡ 0). omega (arith, rel-dist t u m (small - 1) 0 i, above-one))

  -- q units of u with the sign t, the number nearest to d scaled down, ties to zero
  abbrev pub Result : Value → Type 0
  Result v = (q : ℕ) × Is t v q 0 × Near0 (suc F.fraction) (suc F.fraction) d (q * 2 ^ suc F.fraction)

  result : Result (stepped F t (finite t small) gap)
  result =
      go (eqb small 0) (eqb→eq small 0) (same gap half_place) (same-eq t gap half_place large d (2 ^ F.fraction) 0 gap_is (rel-own t (2 ^ F.fraction)))
      (eq-same t gap half_place large d (2 ^ F.fraction) 0 gap_is (rel-own t (2 ^ F.fraction)))
    where
      keep : ¬ ((d < large) × (2 * (large - d) ≡ 2 ^ suc F.fraction)) → Result (finite t small)
      keep no_tie = (small, rel-own t small, rest-keep dr near no_tie)

      go : (z : Bool) → (T z → small ≡ 0) → (c : Bool) → (T c → large + 0 ≡ 2 ^ F.fraction + d) → (large + 0 ≡ 2 ^ F.fraction + d → T c)
          → Result (cond (not z && c) (sub_value F (finite t small) (finite t 1)) (finite t small))
      go true e c x y = keep (λ k. omega (arith, nothing (e tt)))
      go false e false x y = keep (λ k. y (omega (arith, pow-succ' 2 F.fraction)))
      go false e true x y = (small - 1, lower-is (x tt), lower-near (x tt))

  module _ (c g r : Value) (c-is : c ≡ mul_value F (unscale F) (finite t d)) (g-is : g ≡ mul_value F (scale F) c) (r-is : r ≡ sub_value F g (finite t d)) where
    pub scaled-down : c ≡ finite t small
    scaled-down = c-is ∙ small_is

    pub stepped-is : Result (stepped F t c r)
    stepped-is =
        let e : r ≡ gap = r-is ∙ ap (λ (v : Value). sub_value F v (finite t d)) (g-is ∙ ap (mul_value F (scale F)) scaled-down ∙ large_is) in
        rw (e, scaled-down) result

    -- a correction leaves no zero
    pub stepped-nonzero : not (is_zero c) && same r (finite t (2 ^ F.fraction)) ≡ true → is_zero (stepped F t c r) ≡ false
    stepped-nonzero h =
        let e : r ≡ gap = r-is ∙ ap (λ (v : Value). sub_value F v (finite t d)) (g-is ∙ ap (mul_value F (scale F)) scaled-down ∙ large_is) in
        let k : not (eqb small 0) && same gap half_place ≡ true = sym (ap₂ (λ (v w : Value). not (is_zero v) && same w half_place) scaled-down e) ∙ h in
        let tie = same-eq t gap half_place large d (2 ^ F.fraction) 0 gap_is (rel-own t (2 ^ F.fraction))
        (and_both (not (eqb small 0)) (same gap half_place) (subst (λ (b : Bool). T b) (sym k) tt)).1 in
        rw (h, scaled-down) (lower-nonzero tie)
