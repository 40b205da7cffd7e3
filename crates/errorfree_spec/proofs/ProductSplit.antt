-- A product that is not small: a whole number of u, which a product step and a fused step split without loss.
use mathlib.Core.Path.{◌≡◌, sym, ap, ap₂, ◌∙◌, subst}
use mathlib.Core.Bool.{Bool, true, false, not}
use Prim.Native.Nat.{ℕ, suc, ◌+◌, ◌*◌, ◌^◌, ◌≤◌, ◌<◌}
use native.Mathlib.Nat.{le_trans, le_of_eq, lt_of_le_of_lt, mul-le-mul_left, mul-lt-mul_of_pos_right, mul-mul-mul_comm, zero-add, add-mul, eq_of_mul-eq-mul_right}
use native.Mathlib.Decide.{dec_le}
use native.Mathlib.Omega.{arith}
use lib.Ieee.{unlike}
use lib.Pow.{pow-add, pow_pos, pow_mono}
use Rattle.rounding_spec.specs.declared.Ties.TheVariants.{ToEven}
use Rattle.rounding_spec.specs.Format.{Format, low, limit}
use Rattle.rounding_spec.specs.Nearest.{dist, Rep, Near}
use Rattle.rounding_spec.specs.Value.{Value, nan, infinite, finite, round, RNe}
use Rattle.rounding_spec.proofs.Multiple.{Mult, mult-down}
use Rattle.rounding_spec.proofs.Scaled.{rep_down}
use Rattle.rounding_spec.proofs.Rescaled.{dist-mul, near_up}
use Rattle.rounding_spec.proofs.ProductError.{product-error}
use Rattle.rounding_spec.proofs.TieDown.{error-le}
use Rattle.pattern_spec.specs.Exact.{negate, plus, times, finer}
use Rattle.binary32_spec.specs.Steps.{fma_value}
use Rattle.errorfree_spec.proofs.Signed.{Rel, Is, rel-own, rel-dist, is-plus, is-shift, rel-other}
use Rattle.errorfree_spec.proofs.Steps.{to_even, even-at, round_whole}
use Rattle.errorfree_spec.proofs.Split.{Split}

-- ---- the fused step, where it is exact
rel-cancel : (r s : Bool) (m p n S : ℕ) → 0 < S → Rel r s (m * S) (p * S) (n * S) → Rel r s m p n
rel-cancel false false m p n S z h = eq_of_mul-eq-mul_right S z (m + n) p (add-mul m n S ∙ h)
rel-cancel false true m p n S z h = eq_of_mul-eq-mul_right S z (m + p) n (add-mul m p S ∙ h)
rel-cancel true false m p n S z h = eq_of_mul-eq-mul_right S z (m + p) n (add-mul m p S ∙ h)
rel-cancel true true m p n S z h = eq_of_mul-eq-mul_right S z (m + n) p (add-mul m n S ∙ h)

-- a number of u * u that is a number of the format in units of u
is-exact : (F : Format) (r : Bool) (v : Value) (p n : ℕ) → Is r v (p * 2 ^ low F) (n * 2 ^ low F) → Rep (suc F.fraction) 0 (dist p n) → dist p n < limit F → Is r (RNe F v) p n
unfolding round
is-exact F r nan p n h rep lt = absurd h
is-exact F r (infinite s) p n h rep lt = absurd h
is-exact F r (finite s m) p n h rep lt =
    let d : m ≡ dist p n * 2 ^ low F = rel-dist r s m (p * 2 ^ low F) (n * 2 ^ low F) h ∙ dist-mul p n (2 ^ low F) in
    rw (d, round_whole ToEven F s (dist p n) rep lt) (rel-cancel r s (dist p n) p n (2 ^ low F) (pow_pos (low F)) (rw d at h))

pub fused-rest : (F : Format) (s : Bool) (a : ℕ) (t : Bool) (b n A : ℕ) → a * b ≡ n * 2 ^ low F → Rep (suc F.fraction) 0 (dist n A) → dist n A < limit F
    → Is (unlike s t) (fma_value F (finite s a) (finite t b) (negate (finite (unlike s t) A))) n A
unfolding fma_value times negate finer
fused-rest F s a t b n A e rep lt =
    let r = unlike s t in
    let U = 2 ^ low F in
    let v = plus (finite r (a * b)) (finite (not r) (A * U)) in
    let x : Rel r r (a * b) (n * U) 0 = subst (λ (z : ℕ). Rel r r (a * b) z 0) e (rel-own r (a * b)) in
    let sum = is-plus r (finite r (a * b)) (finite (not r) (A * U)) (n * U) 0 0 (A * U) x (rel-other r (A * U)) in
    is-exact F r v n A (is-shift r v (n * U + 0) (0 + A * U) (n * U) (A * U) sum (omega arith)) rep lt

-- ---- two numbers of the format and their product
module _ (F : Format) (a b : ℕ) (ar : Rep (suc F.fraction) 0 a) (br : Rep (suc F.fraction) 0 b) where
  product_is : a * b ≡ ar.m * br.m * 2 ^ (ar.e + br.e)
  product_is = ap₂ (λ (x y : ℕ). x * y) ar.is br.is ∙ mul-mul-mul_comm ar.m (2 ^ ar.e) br.m (2 ^ br.e) ∙ ap (λ (z : ℕ). ar.m * br.m * z) (sym (pow-add 2 ar.e br.e))

  product_small : ar.m * br.m < 2 ^ suc F.fraction * 2 ^ suc F.fraction
  product_small = lt_of_le_of_lt (mul-le-mul_left ar.m (le_trans (let z : br.m ≤ suc br.m = omega arith in z) br.small)) (mul-lt-mul_of_pos_right ar.small (pow_pos (suc F.fraction)))

  -- not small: from 2 ^ (2 * fraction + 1) units of u on, 2 ^ -102 in binary32
  module _ (big : 2 ^ suc (F.fraction + F.fraction) * 2 ^ low F ≤ a * b) where
    grid : low F ≤ ar.e + br.e
    grid =
        elim (dec_le (low F) (ar.e + br.e)) [
          | yes g ↦ g
          | no g ↦ absurd
              (let k = ar.e + br.e in
              let D = 2 ^ suc F.fraction in
              let x : a * b < D * D * 2 ^ k = lt_of_le_of_lt (le_of_eq product_is) (mul-lt-mul_of_pos_right product_small (pow_pos k)) in
              let y : D * D * 2 ^ k ≤ 2 ^ suc (F.fraction + F.fraction) * 2 ^ low F =
              le_trans (le_of_eq (ap (λ (z : ℕ). z * 2 ^ k) (sym (pow-add 2 (suc F.fraction) (suc F.fraction))) ∙ sym (pow-add 2 (suc F.fraction + suc F.fraction) k)))
              (le_trans (pow_mono (let z : suc F.fraction + suc F.fraction + k ≤ suc (F.fraction + F.fraction) + low F = omega arith in z))
              (le_of_eq (pow-add 2 (suc (F.fraction + F.fraction)) (low F))))
              in
              omega arith)
        ]

    pub whole : Mult (low F) (a * b)
    whole = mult-down (a * b) grid (ar.m * br.m, product_is)

    pub whole-error : (A : ℕ) → Near (suc F.fraction) 0 whole.0 A → Rep (suc F.fraction) 0 (dist whole.0 A)
    whole-error A h =
        let n = whole.0 in
        let U = 2 ^ low F in
        let k : Near (suc F.fraction) (low F) (n * U) (A * U) = rw zero-add at (near_up (low F) h) in
        let r = product-error (ar.e + br.e) (ar.m * br.m) grid (sym whole.1 ∙ product_is) product_small k in
        rep_down (dist n A) (low F) (rw zero-add (subst (λ (z : ℕ). Rep (suc F.fraction) (low F) z) (dist-mul A n U ∙ ap (λ (z : ℕ). z * U) (let z : dist A n ≡ dist n A = omega arith in z)) r))

    -- RNe of the product, and what the fused step leaves
    pub product-split : (s t : Bool) → to_even F (a * b) < limit F
        → Split F (unlike s t) whole.0 (to_even F (a * b)) (fma_value F (finite s a) (finite t b) (negate (finite (unlike s t) (to_even F (a * b)))))
    product-split s t fine =
        let n = whole.0 in
        let A = to_even F (a * b) in
        let h : Near (suc F.fraction) 0 n A = subst (λ (z : ℕ). Near (suc F.fraction) 0 n (to_even F z)) (sym whole.1) (even-at F n) in
        let error = whole-error A h in
        record { near = h; fine = fine; error = error; rest = fused-rest F s a t b n A whole.1 error (omega (arith, error-le h)) }
