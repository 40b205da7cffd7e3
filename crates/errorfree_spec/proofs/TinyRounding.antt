-- A product that rounds below 2 ^ precision units of u: the rest rounds to zero, half of u does by ties to even, and which of A and A - 1 is RN0.
use mathlib.Core.Path.{◌≡◌, refl, sym, ap, ap₂, ◌∙◌}
use mathlib.Core.Logic.{inl, inr}
use mathlib.Core.Bool.{Bool, cond}
use Prim.Native.Nat.{ℕ, suc, ◌+◌, ◌-◌, ◌*◌, ◌^◌, ◌≤◌, ◌<◌}
use native.Mathlib.Nat.{le_refl, le_trans, le_of_eq, lt_of_le_of_lt, lt_of_lt_of_le, mul_comm, mul_assoc, mul_left_comm, mul_right_comm, add-mul, one-mul, pow-succ', mul-le-mul_right}
use native.Mathlib.Nat.{mul-le-mul_left, mul-lt-mul_of_pos_right, eq_of_mul-eq-mul_right, eq-zero-or-pos, mul-pos}
use native.Mathlib.Decide.{dec_le}
use native.Mathlib.Omega.{arith}
use lib.Dec.{eqb}
use lib.Ieee.{unlike}
use lib.Pow.{pow_pos, pow_mono}
use Rattle.rounding_spec.specs.declared.Ties.TheVariants.{ToEven}
use Rattle.rounding_spec.specs.Format.{Format, low, limit}
use Rattle.rounding_spec.specs.Nearest.{dist, Near0}
use Rattle.rounding_spec.specs.Value.{finite}
use Rattle.rounding_spec.proofs.Even.{half-to-even}
use Rattle.rounding_spec.proofs.Multiple.{sub-mul}
use Rattle.rounding_spec.proofs.NearLaws.{near0-one}
use Rattle.rounding_spec.proofs.Predecessor.{Upper, upper}
use Rattle.rounding_spec.proofs.ProductError.{near-half}
use Rattle.rounding_spec.proofs.Representable.{rep_zero}
use Rattle.rounding_spec.proofs.Rounded.{rounded-near, rounded-near0, rounded-zero-le}
use Rattle.rounding_spec.proofs.TieDown.{dbl, keep-above, keep-below, go-down}
use Rattle.augmented_spec.specs.Pairs.{pair_of}
use Rattle.augmented_spec.proofs.Second.{head, tail, up, first-finite, pair-second}
use Rattle.errorfree_spec.proofs.Steps.{to_even, to_zero}
use Rattle.errorfree_spec.proofs.Powers.{pow-ge-of}

-- ---- the rest: half of u at most, which ties to zero round to zero
half-to-zero : (F : Format) (X : ℕ) → 2 * X ≤ 2 ^ low F → to_zero F X ≡ 0
half-to-zero F X b =
    elim (eq-zero-or-pos (to_zero F X)) [
      | inl z ↦ z
      | inr z ↦ absurd (go (to_zero F X * 2 ^ low F) (le_trans (le_of_eq (sym (one-mul (2 ^ low F)))) (mul-le-mul_right (2 ^ low F) z)) (rounded-near0 F.fraction (low F) X))
    ]
  where
    go : (R : ℕ) → 2 ^ low F ≤ R → Near0 (suc F.fraction) (low F) X R → ⊥
    go R h k = let x = k.near.best 0 rep_zero in omega (arith, k.tie 0 rep_zero (omega arith), pow_pos (low F))

tiny-rest : (F : Format) (N : ℕ) → N < 2 ^ suc F.fraction * 2 ^ low F → to_zero F (dist (to_zero F N * 2 ^ low F) N) ≡ 0
tiny-rest F N h = half-to-zero F (dist (to_zero F N * 2 ^ low F) N) (near-half (low F) (rounded-near0 F.fraction (low F) N).near (le_refl (low F)) h)

pub tiny-below : (F : Format) (N : ℕ) → to_even F N < 2 ^ suc F.fraction → N < 2 ^ suc F.fraction * 2 ^ low F
tiny-below F N h = elim (dec_le (2 ^ suc F.fraction * 2 ^ low F) N) [ yes g ↦ absurd (omega (arith, pow-ge-of F N (suc F.fraction) g)) | no g ↦ omega arith ]

-- so the direct pair is RN0 and a zero
with-zero : (s c : Bool) (k : ℕ) → k ≡ 0 → finite (cond (eqb k 0) s c) k ≡ finite s 0
with-zero s c k e = rw e refl

pub tiny-direct : (F : Format) (s : Bool) (N f : ℕ) → to_even F N < 2 ^ suc F.fraction → to_even F N < limit F → to_zero F N ≡ f
    → (finite s f ≡ (pair_of F (finite s N)).first) × (finite s 0 ≡ (pair_of F (finite s N)).second)
tiny-direct F s N f lo fine e =
    let h : head F s N < limit F = lt_of_le_of_lt (rounded-zero-le F.fraction (low F) N) fine in
    (ap (finite s) (sym e) ∙ sym (first-finite F s N h), sym (pair-second F s N h ∙ with-zero s (unlike s (up F s N)) (tail F s N) (tiny-rest F N (tiny-below F N lo))))

-- ---- a tie that went up: N is half of U below E * U. H stands for half of U where S stands for U.
abbrev pub Tie : ℕ → ℕ → ℕ → Type 0
Tie N E U = (N < E * U) × (2 * (E * U - N) ≡ U)

module _ (N E Q S H U : ℕ) (S-is : S ≡ 2 * H) (Q-is : N * S ≡ Q * U) where
  scale-tie : (Q + H) * U ≡ (2 * N + U) * H
  scale-tie =
      add-mul Q H U ∙ ap₂ (λ (x y : ℕ). x + y) (sym Q-is ∙ ap (λ (z : ℕ). N * z) S-is ∙ sym (mul_assoc N 2 H) ∙ ap (λ (z : ℕ). z * H) (mul_comm N 2)) (mul_comm H U)
      ∙ sym (add-mul (2 * N) U H)

  scale-rounded : E * S * U ≡ 2 * (E * U) * H
  scale-rounded = mul_right_comm E S U ∙ ap (λ (z : ℕ). E * U * z) S-is ∙ sym (mul_assoc (E * U) 2 H) ∙ ap (λ (z : ℕ). z * H) (mul_comm (E * U) 2)

  pub tie-of : 0 < H → 0 < U → Q + H ≡ E * S → Tie N E U
  tie-of h u e =
      let x : 2 * N + U ≡ 2 * (E * U) = eq_of_mul-eq-mul_right H h (2 * N + U) (2 * (E * U)) (sym scale-tie ∙ ap (λ (z : ℕ). z * U) e ∙ scale-rounded) in
      (omega arith, omega arith)

  pub of-tie : 0 < U → Tie N E U → Q + H ≡ E * S
  of-tie u t =
      let x : 2 * N + U ≡ 2 * (E * U) = omega arith in
      eq_of_mul-eq-mul_right U u (Q + H) (E * S) (scale-tie ∙ ap (λ (z : ℕ). z * H) x ∙ sym scale-rounded)

-- ---- which of A and A - 1 is RN0
module _ (F : Format) (N : ℕ) (pos : 0 < to_even F N) (lo : to_even F N < 2 ^ suc F.fraction) where
  abbrev A : ℕ
  A = to_even F N

  abbrev U : ℕ
  U = 2 ^ low F

  abbrev p : ℕ
  p = F.fraction

  scaled-pos : 0 < A * U
  scaled-pos = mul-pos pos (pow_pos (low F))

  -- the number below A is one u less
  lowest : (u : Upper p (low F) (A * U)) → u.f ≡ low F
  lowest u =
      elim (dec_le u.f (low F)) [
        | yes g ↦ omega (arith, u.low)
        | no g ↦ absurd
            (let x : 2 ^ p * 2 ^ suc (low F) < A * U =
            lt_of_le_of_lt (mul-le-mul_left (2 ^ p) (pow_mono (let z : suc (low F) ≤ u.f = omega arith in z)))
            (lt_of_lt_of_le (mul-lt-mul_of_pos_right (u.above (omega arith)) (pow_pos u.f)) (le_of_eq (sym u.is)))
            in
            let y : A * U < 2 ^ suc p * U = mul-lt-mul_of_pos_right lo (pow_pos (low F)) in
            omega (arith, dbl p (low F), ap (λ (z : ℕ). 2 ^ p * z) (pow-succ' 2 (low F)), mul_left_comm (2 ^ p) 2 U))
      ]

  pub tiny-keep : ¬ Tie N A U → to_zero F N ≡ A
  tiny-keep no_tie =
      eq_of_mul-eq-mul_right U (pow_pos (low F)) (to_zero F N) A
      (near0-one (rounded-near0 p (low F) N)
      (elim (dec_le (A * U) N) [
        | yes g ↦ keep-above (rounded-near ToEven p (low F) N) g
        | no g ↦
            let less : N < A * U = omega arith in
            let u = upper p (low F) (A * U) (rounded-near ToEven p (low F) N).rep scaled-pos in
            keep-below (rounded-near ToEven p (low F) N) u less (λ t. no_tie (less, t ∙ ap (λ (z : ℕ). 2 ^ z) (lowest u)))
      ]))

  pub tiny-down : Tie N A U → to_zero F N ≡ A - 1
  tiny-down t =
      let u = upper p (low F) (A * U) (rounded-near ToEven p (low F) N).rep scaled-pos in
      let e = lowest u in
      let q : A * U - 2 ^ u.f ≡ (A - 1) * U = ap (λ (z : ℕ). A * U - 2 ^ z) e ∙ sym (sub-mul A 1 U ∙ ap (λ (z : ℕ). A * U - z) (one-mul U)) in
      eq_of_mul-eq-mul_right U (pow_pos (low F)) (to_zero F N) (A - 1)
      (near0-one (rounded-near0 p (low F) N) (go-down (rounded-near ToEven p (low F) N) u t.0 (t.1 ∙ ap (λ (z : ℕ). 2 ^ z) (sym e))) ∙ q)

  -- a tie that went up to 1 would have gone to 0
  pub tie-above-one : Tie N A U → 1 < A
  tie-above-one t =
      elim (dec_le A 1) [
        | yes g ↦ absurd
            (let e : A ≡ 1 = omega (arith, pos) in
            let y : A * U ≡ U = ap (λ (z : ℕ). z * U) e ∙ one-mul U in
            omega (arith, half-to-even F.fraction (low F) N (omega (arith, t.0, t.1))))
        | no g ↦ omega arith
      ]
