-- Tiny products: the pair of one that rounds to zero, and of one that rounds to less than 2 ^ precision units of u, by both factors scaled up.
use mathlib.Core.Path.{◌≡◌, refl, sym, ap, ap₂, ◌∙◌, subst}
use mathlib.Core.Logic.{inl, inr}
use mathlib.Core.Bool.{Bool, true, false, not, ◌&&◌, cond}
use Prim.Native.Nat.{ℕ, suc, ◌+◌, ◌-◌, ◌*◌, ◌^◌, ◌≤◌, ◌<◌}
use native.Mathlib.Nat.{le_refl, le_trans, le_of_eq, lt_of_le_of_lt, lt_of_lt_of_le, mul_comm, mul_assoc, mul_right_comm, mul-mul-mul_comm, mul-one, one-mul, zero-mul, mul-zero, pow-succ'}
use native.Mathlib.Nat.{mul-le-mul_right, mul-le-mul_left, mul-lt-mul_of_pos_right, lt_of_mul-lt-mul_right, le_of_mul-le-mul_right, le-mul_of_pos_right, eq-zero-or-pos}
use native.Mathlib.Omega.{arith}
use lib.Dec.{T}
use lib.Ieee.{unlike}
use lib.Pow.{pow-add, pow_pos, pow_mono, pow-lt}
use Rattle.rounding_spec.specs.declared.Ties.TheVariants.{ToEven}
use Rattle.rounding_spec.specs.Format.{Format, low, limit}
use Rattle.rounding_spec.specs.Nearest.{dist, Rep, Near}
use Rattle.rounding_spec.specs.Value.{Value, finite, round, RNe}
use Rattle.rounding_spec.proofs.ProductError.{near-half}
use Rattle.rounding_spec.proofs.Representable.{rep_zero, rep-lt}
use Rattle.rounding_spec.proofs.Rescaled.{dist-mul}
use Rattle.rounding_spec.proofs.Rounded.{rounded-near, rounded-zero-le}
use Rattle.rounding_spec.proofs.RoundValue.{round-below}
use Rattle.rounding_spec.proofs.Scaled.{rounded-rep, rep-shift}
use Rattle.rounding_spec.proofs.TieDown.{error-le}
use Rattle.pattern_spec.specs.Exact.{negate, plus, finer}
use Rattle.binary32_spec.specs.Steps.{add_value, sub_value, mul_value, fma_value}
use Rattle.pattern_spec.proofs.Sums.{not-like, sum_left}
use Rattle.augmented_spec.specs.Pairs.{pair_of}
use Rattle.pattern_spec.specs.Comparisons.{same}
use Rattle.errorfree_spec.specs.Constants.{Roomy}
use Rattle.errorfree_spec.proofs.Factors.{scale, scale_twice, zero}
use Rattle.errorfree_spec.proofs.Steps.{to_even, even-at, round_whole, mul-finite, zero-times}
use Rattle.errorfree_spec.proofs.ProductSplit.{fused-rest, whole, whole-error}
use Rattle.errorfree_spec.proofs.Powers.{pow-le-of, up_step}
use Rattle.errorfree_spec.proofs.TinyRounding.{tiny-below, tiny-direct, tie-of, of-tie, tie-above-one, tiny-keep, tiny-down}
use Rattle.errorfree_spec.proofs.TinyTest.{Scaled, tie_up, test-true, test-make}

-- a product that rounds to zero has two zeros for a pair
pub zero-pair : (F : Format) (s : Bool) (N : ℕ) → to_even F N ≡ 0 → ((pair_of F (finite s N)).first ≡ finite s 0) × ((pair_of F (finite s N)).second ≡ finite s 0)
unfolding limit
zero-pair F s N e =
    let d = tiny-direct F s N 0 (omega (arith, pow_pos (suc F.fraction))) (omega (arith, pow_pos (suc F.emax + low F))) (omega (arith, rounded-zero-le F.fraction (low F) N)) in
    (sym d.0, sym d.1)

-- ---- one unit less
less_one : (F : Format) (s : Bool) (A : ℕ) → 1 < A → Rep (suc F.fraction) 0 (A - 1) → A - 1 < limit F → sub_value F (finite s A) (finite s 1) ≡ finite s (A - 1)
unfolding sub_value add_value negate plus finer round
less_one F s A h r b = ap (λ (v : Value). RNe F (finer F v)) (sum_left s A (not s) 1 (not-like s) h) ∙ round_whole ToEven F s (A - 1) r b

module _ (F : Format) (room : Roomy F) (a b : ℕ) (ar : Rep (suc F.fraction) 0 a) (br : Rep (suc F.fraction) 0 b)
    (pos : 0 < to_even F (a * b)) (lo : to_even F (a * b) < 2 ^ suc F.fraction) where
  abbrev N : ℕ
  N = a * b

  abbrev E : ℕ
  E = to_even F (a * b)

  abbrev K : ℕ
  K = suc F.fraction

  abbrev U : ℕ
  U = 2 ^ low F

  abbrev S : ℕ
  S = 2 ^ (K + K)

  abbrev H : ℕ
  H = 2 ^ suc (F.fraction + F.fraction)

  S-is : S ≡ 2 * H
  S-is = ap (λ (z : ℕ). 2 ^ z) (let z : K + K ≡ suc (suc (F.fraction + F.fraction)) = omega arith in z) ∙ pow-succ' 2 (suc (F.fraction + F.fraction))

  H-pos : 0 < H
  H-pos = pow_pos (suc (F.fraction + F.fraction))

  -- ---- the product is at least half of u
  N-top : N < 2 ^ K * U
  N-top = tiny-below F N lo

  N-half : U ≤ 2 * N
  N-half = omega (arith, (rounded-near ToEven F.fraction (low F) N).best 0 rep_zero, le_trans (le_of_eq (sym (one-mul U))) (mul-le-mul_right U pos))

  N-pos : 0 < N
  N-pos = omega (arith, N-half, pow_pos (low F))

  a-pos : 0 < a
  a-pos = elim (eq-zero-or-pos a) [ inl z ↦ absurd (omega (arith, N-pos, ap (λ (z : ℕ). z * b) z ∙ zero-mul b)) | inr z ↦ z ]

  b-pos : 0 < b
  b-pos = elim (eq-zero-or-pos b) [ inl z ↦ absurd (omega (arith, N-pos, ap (λ (z : ℕ). a * z) z ∙ mul-zero a)) | inr z ↦ z ]

  -- ---- the scaled product
  top_fine : 2 ^ (K + K + K) * U < limit F
  unfolding limit
  top_fine = lt_of_le_of_lt (le_of_eq (sym (pow-add 2 (K + K + K) (low F)))) (pow-lt (let z : K + K + K + low F < suc F.emax + low F = omega arith in z))

  scaled-top : N * S < 2 ^ (K + K + K) * U
  scaled-top =
      lt_of_lt_of_le (mul-lt-mul_of_pos_right N-top (pow_pos (K + K)))
      (le_of_eq (mul_right_comm (2 ^ K) U S ∙ ap (λ (z : ℕ). z * U) (sym (pow-add 2 K (K + K)) ∙ ap (λ (z : ℕ). 2 ^ z) (let z : K + (K + K) ≡ K + K + K = omega arith in z))))

  up-fine : (c : ℕ) → c ≤ N → c * 2 ^ K < limit F
  up-fine c h =
      lt_of_le_of_lt (le_trans (mul-le-mul_right (2 ^ K) h) (mul-le-mul_left N (pow_mono (let z : K ≤ K + K = omega arith in z)))) (omega (arith, scaled-top, top_fine))

  pub a-fine : a * 2 ^ K < limit F
  a-fine = up-fine a (le-mul_of_pos_right a b-pos)

  pub b-fine : b * 2 ^ K < limit F
  b-fine = up-fine b (le_trans (le-mul_of_pos_right b a-pos) (le_of_eq (mul_comm b a)))

  scaled-is : a * 2 ^ K * (b * 2 ^ K) ≡ N * S
  scaled-is = mul-mul-mul_comm a (2 ^ K) b (2 ^ K) ∙ ap (λ (z : ℕ). N * z) (sym (pow-add 2 K K))

  scaled-big : H * U ≤ a * 2 ^ K * (b * 2 ^ K)
  scaled-big =
      le_trans (le_of_eq (mul_comm H U)) (le_trans (mul-le-mul_right H N-half)
      (le_of_eq (ap (λ (z : ℕ). z * H) (mul_comm 2 N) ∙ mul_assoc N 2 H ∙ ap (λ (z : ℕ). N * z) (sym S-is) ∙ sym scaled-is)))

  pub a-rep : Rep K 0 (a * 2 ^ K)
  a-rep = rep-shift K ar

  pub b-rep : Rep K 0 (b * 2 ^ K)
  b-rep = rep-shift K br

  pub Q : ℕ
  Q = (whole F (a * 2 ^ K) (b * 2 ^ K) a-rep b-rep scaled-big).0

  pub Q-whole : a * 2 ^ K * (b * 2 ^ K) ≡ Q * U
  unfolding Q
  Q-whole = (whole F (a * 2 ^ K) (b * 2 ^ K) a-rep b-rep scaled-big).1

  pub Q-is : N * S ≡ Q * U
  Q-is = sym scaled-is ∙ Q-whole

  pub T1 : ℕ
  T1 = to_even F (a * 2 ^ K * (b * 2 ^ K))

  T1-near : Near K 0 Q T1
  unfolding T1
  T1-near = subst (λ (z : ℕ). Near K 0 Q (to_even F z)) (sym Q-whole) (even-at F Q)

  T1-fine : T1 < limit F
  unfolding T1
  T1-fine = lt_of_le_of_lt (le_trans (pow-le-of F (a * 2 ^ K * (b * 2 ^ K)) (K + K + K) (omega (arith, scaled-is, scaled-top))) (le-mul_of_pos_right (2 ^ (K + K + K)) (pow_pos (low F)))) top_fine

  T1-error : Rep K 0 (dist Q T1)
  unfolding Q
  T1-error = whole-error F (a * 2 ^ K) (b * 2 ^ K) a-rep b-rep scaled-big T1 T1-near

  -- ---- the scaled rounded product
  pub G-rep : Rep K 0 (E * S)
  G-rep = rep-shift (K + K) (rounded-rep ToEven F.fraction (low F) N)

  pub G-fine : E * S < limit F
  G-fine =
      lt_of_lt_of_le (mul-lt-mul_of_pos_right lo (pow_pos (K + K)))
      (le_trans (le_of_eq (sym (pow-add 2 K (K + K)) ∙ ap (λ (z : ℕ). 2 ^ z) (let z : K + (K + K) ≡ K + K + K = omega arith in z)))
      (le_trans (le-mul_of_pos_right (2 ^ (K + K + K)) (pow_pos (low F))) (omega (arith, top_fine))))

  pub G-is : E * U * S ≡ E * S * U
  G-is = mul_right_comm E U S

  S-le : S ≤ E * S
  S-le = le_trans (le_of_eq (sym (one-mul S))) (mul-le-mul_right S pos)

  apart-is : dist Q (E * S) * U ≡ dist (E * U) N * S
  apart-is = sym (dist-mul Q (E * S) U) ∙ ap₂ (λ (x y : ℕ). dist x y) (sym Q-is) (sym G-is) ∙ dist-mul N (E * U) S ∙ ap (λ (z : ℕ). z * S) (let z : dist N (E * U) ≡ dist (E * U) N = omega arith in z)

  apart-half : 2 * dist Q (E * S) ≤ S
  apart-half =
      le_of_mul-le-mul_right {k = U}
      (le_trans (le_of_eq (mul_assoc 2 (dist Q (E * S)) U ∙ ap (λ (z : ℕ). 2 * z) apart-is ∙ sym (mul_assoc 2 (dist (E * U) N) S)))
      (le_trans (mul-le-mul_right S (near-half (low F) (rounded-near ToEven F.fraction (low F) N) (le_refl (low F)) N-top)) (le_of_eq (mul_comm U S))))
      (pow_pos (low F))

  Q-top : Q < 2 ^ K * 2 ^ (K + K)
  Q-top = lt_of_mul-lt-mul_right U (lt_of_le_of_lt (le_of_eq (sym Q-is)) (lt_of_lt_of_le (mul-lt-mul_of_pos_right N-top (pow_pos (K + K))) (le_of_eq (mul_right_comm (2 ^ K) U S))))

  less-rep : Rep K 0 (E - 1)
  less-rep = rep-lt 0 (E - 1) (le_refl 0) (E - 1, sym (mul-one (E - 1))) (omega (arith, lo))

  E-fine : E < limit F
  E-fine = lt_of_le_of_lt (le-mul_of_pos_right E (pow_pos (K + K))) G-fine

  -- ---- the steps
  module _ (s t : Bool) where
    abbrev r : Bool
    r = unlike s t

    abbrev A : Value
    A = finite r E

    abbrev left : Value
    left = fma_value F (finite s (a * 2 ^ K)) (finite t (b * 2 ^ K)) (negate (finite r T1))

    pub t1-is : mul_value F (finite s (a * 2 ^ K)) (finite t (b * 2 ^ K)) ≡ finite r T1
    unfolding T1
    t1-is = mul-finite F s (a * 2 ^ K) t (b * 2 ^ K) ∙ round-below ToEven F r (a * 2 ^ K * (b * 2 ^ K)) T1-fine

    pub scaled : Scaled F r T1 Q (E * S) H (K + K) left
    scaled =
        record {
          near = T1-near;
          fine = T1-fine;
          error = let e : dist T1 Q ≡ dist Q T1 = omega arith in rw e T1-error;
          rest = fused-rest F s (a * 2 ^ K) t (b * 2 ^ K) Q T1 Q-whole T1-error (omega (arith, error-le T1-near, T1-fine));
          top = Q-top;
          G-rep = G-rep;
          G-grid = (E, refl);
          G-fine = G-fine;
          close = omega (arith, apart-half, S-le);
          H-rep = record { e = suc (F.fraction + F.fraction); m = 1; low = omega arith; small = omega (arith, pow_pos F.fraction); is = sym (one-mul H) };
          H-pos = H-pos;
          H-fine = omega (arith, S-is, G-fine, S-le, H-pos);
          within = omega (arith, apart-half, S-is);
        }

    choice : (c : Bool) → (T c → Q + H ≡ E * S) → (Q + H ≡ E * S → T c)
        → (cond c (sub_value F A (finite r 1)) A ≡ (pair_of F (finite r N)).first) × (mul_value F zero (cond c (sub_value F A (finite r 1)) A) ≡ (pair_of F (finite r N)).second)
    choice true x y =
        let tie = tie-of N E Q S H U S-is Q-is H-pos (pow_pos (low F)) (x tt) in
        let e = less_one F r E (tie-above-one F N pos lo tie) less-rep (omega (arith, E-fine)) in
        let d = tiny-direct F r N (E - 1) lo E-fine (tiny-down F N pos lo tie) in
        (e ∙ d.0, ap (mul_value F zero) e ∙ zero-times F r (E - 1) ∙ d.1)
    choice false x y =
        let d = tiny-direct F r N E lo E-fine (tiny-keep F N pos lo (λ z. y (of-tie N E Q S H U S-is Q-is (pow_pos (low F)) z))) in
        (d.0, zero-times F r E ∙ d.1)

    -- both factors scaled up; z and w find the tie that went up
    pub tiny-pair : (m n t1 t2 g t3 z w : Value)
        → m ≡ mul_value F (scale F) (finite s a) → n ≡ mul_value F (scale F) (finite t b) → t1 ≡ mul_value F m n → t2 ≡ fma_value F m n (negate t1)
        → g ≡ mul_value F (scale_twice F) (finite (unlike s t) (to_even F (a * b))) → t3 ≡ sub_value F t1 g → z ≡ add_value F t2 t3 → w ≡ sub_value F z t3
        → let A = finite (unlike s t) (to_even F (a * b)) in
        let first = cond (same z (finite (not (unlike s t)) (2 ^ suc (F.fraction + F.fraction))) && same w t2) (sub_value F A (finite (unlike s t) 1)) A in
        (first ≡ (pair_of F (finite (unlike s t) (a * b))).first) × (mul_value F zero first ≡ (pair_of F (finite (unlike s t) (a * b))).second)
    tiny-pair m n t1 t2 g t3 z w em en e1 e2 eg e3 ez ew =
        let m-is : m ≡ finite s (a * 2 ^ K) = em ∙ up_step F s a K a-rep a-fine in
        let n-is : n ≡ finite t (b * 2 ^ K) = en ∙ up_step F t b K b-rep b-fine in
        let g-is : g ≡ finite r (E * S) = eg ∙ up_step F r E (K + K) G-rep G-fine in
        let t1-val : t1 ≡ finite r T1 = e1 ∙ ap₂ (mul_value F) m-is n-is ∙ t1-is in
        rw (ew, ez, e3, e2, t1-val, g-is, m-is, n-is)
        (choice (tie_up F r T1 Q (E * S) H (K + K) left scaled) (test-true F r T1 Q (E * S) H (K + K) left scaled) (test-make F r T1 Q (E * S) H (K + K) left scaled))
