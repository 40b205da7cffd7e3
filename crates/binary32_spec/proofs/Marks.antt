-- The mark of a step by its exact value: laws for the code.
use mathlib.Core.Path.{◌≡◌, refl, sym, ap, ap₂, ◌∙◌}
use mathlib.Core.Logic.{inr}
use mathlib.Core.Bool.{Bool, true, false, cond, ◌&&◌, ◌||◌, true≢false, and-true}
use Prim.Native.Nat.{ℕ, ◌*◌, ◌^◌}
use native.Mathlib.Decide.{dec_le, ℕ_discrete}
use native.Mathlib.Omega.{arith}
use borrow.Author.Tests.{eq-eqb, ne_eqb}
use lib.Dec.{eqb}
use Rattle.rounding_spec.specs.declared.Ties.TheVariants.{ToEven}
use Rattle.rounding_spec.specs.Format.{binary32, limit}
use Rattle.rounding_spec.specs.Round.{rounded, left_over}
use Rattle.rounding_spec.specs.Nearest.{dist}
use Rattle.rounding_spec.specs.Value.{Value, nan, infinite, finite, decode, is_finite, encode, round, round_finite}
use Rattle.rounding_spec.proofs.Codec.{decode-encode}
use Rattle.rounding_spec.proofs.RoundValue.{round-fits, round-below, round-above}
use Rattle.pattern_spec.specs.Comparisons.{same}
use Rattle.pattern_spec.specs.Exact.{negate, plus, times, finer}
use Rattle.pattern_spec.proofs.Finiteness.{negate-finite, finer-finite, plus-finite, times-finite}
use Rattle.pattern_spec.proofs.Shown.{chosen-and}
use Rattle.pattern_spec.proofs.Sums.{like-own}
use Rattle.pattern_spec.proofs.Truth.{some-false}
use Rattle.binary32_spec.specs.declared.Outcome.{Outcome}
use Rattle.binary32_spec.specs.Steps.{add_step, sub_step, mul_step, fma_step}
use Rattle.binary32_spec.specs.Marks.{mark_by, add_mark, sub_mark, mul_mark, fma_mark}
use Rattle.binary32_spec.specs.Inner.{outcome}

-- ---- by the exact value alone
pub special-mark : (v : Value) (r : ℕ) → is_finite v ≡ false → mark_by (is_finite v) v r ≡ 2
unfolding mark_by
special-mark v r n = rw n

-- of a number: whether its rounding left nothing over, and did not overflow
nothing_left : (a N : ℕ) → eqb a N ≡ eqb (dist a N) 0
nothing_left a N =
    elim (ℕ_discrete a N) [
      | yes e ↦ eq-eqb a N e ∙ sym (eq-eqb (dist a N) 0 (omega arith))
      | no n ↦ ne_eqb a N n ∙ sym (ne_eqb (dist a N) 0 (λ (z : dist a N ≡ 0). n (omega arith)))
    ]

no_distance : (a N : ℕ) → dist a N ≡ 0 → a ≡ N
no_distance a N z = omega arith

-- numbers of one sign are the same where their magnitudes are
pub same_sign_lem : (s : Bool) (a b : ℕ) → same (finite s a) (finite s b) ≡ eqb a b
unfolding same
same_sign_lem s a b = ap (λ (c : Bool). eqb a b && (c || eqb a 0)) (like-own s) ∙ and-true (eqb a b)

module _ (s : Bool) (N : ℕ) where
  abbrev after : Value
  after = round_finite ToEven binary32 s N

  shown : decode binary32 (encode binary32 after) ≡ after
  unfolding round
  shown = decode-encode binary32 (omega arith) after (round-fits ToEven binary32 (finite s N))

  kept : same (finer binary32 after) (finite s N) ≡ eqb (left_over ToEven 23 149 N) 0 && is_finite after
  unfolding same finer
  kept =
      let a = rounded ToEven 23 149 N in
      let left = left_over ToEven 23 149 N in
      elim (dec_le (limit binary32) a) [
        | yes h ↦
            let e = round-above ToEven binary32 s N h in
            ap (λ (v : Value). same (finer binary32 v) (finite s N)) e ∙ sym (some-false (eqb left 0) (is_finite after) (inr (ap is_finite e)))
        | no h ↦
            let e = round-below ToEven binary32 s N (omega arith) in
            ap (λ (v : Value). same (finer binary32 v) (finite s N)) e
            ∙ same_sign_lem s (a * 2 ^ 149) N
            ∙ nothing_left (a * 2 ^ 149) N
            ∙ sym (ap (λ (c : Bool). eqb left 0 && c) (ap is_finite e) ∙ and-true (eqb left 0))
      ]

  -- by the rounded value
  pub value-mark : (v : Value) → after ≡ v → (outcome (finite s N)).mark ≡ cond (same (finer binary32 v) (finite s N)) 0 1
  unfolding outcome mark_by round
  value-mark v e = ap (λ (w : Value). cond (same (finer binary32 w) (finite s N)) 0 1) (shown ∙ e)

  pub number-mark : (outcome (finite s N)).mark ≡ cond (eqb (left_over ToEven 23 149 N) 0 && is_finite after) 0 1
  number-mark = value-mark after refl ∙ ap (λ (b : Bool). cond b 0 1) kept

  -- where something was left over
  pub lost-mark : (rounded ToEven 23 149 N * 2 ^ 149 ≡ N → ⊥) → (outcome (finite s N)).mark ≡ 1
  lost-mark n =
      number-mark
      ∙ ap (λ (b : Bool). cond (b && is_finite after) 0 1)
      (ne_eqb (left_over ToEven 23 149 N) 0 (λ (z : left_over ToEven 23 149 N ≡ 0). n (no_distance (rounded ToEven 23 149 N * 2 ^ 149) N z)))

-- as the code makes it: q is the pattern, and d says whether nothing was left over
pub outcome-by-rest : (s : Bool) (m e q : ℕ) (d : Bool) (k : ℕ) → q ≡ encode binary32 (round_finite ToEven binary32 s (m * 2 ^ e)) → d ≡ eqb (left_over ToEven 23 149 (m * 2 ^ e)) 0
    → k ≡ cond (cond d (is_finite (decode binary32 q)) false) 0 1 → record { result = q; mark = k } ≡ outcome (finite s (m * 2 ^ e))
unfolding outcome round
outcome-by-rest s m e q d k is none by =
    let N = m * 2 ^ e in
    let far : is_finite (decode binary32 q) ≡ is_finite (round_finite ToEven binary32 s N) = ap is_finite (ap (decode binary32) is ∙ shown s N) in
    ap₂ (λ (r j : ℕ). record { result = r; mark = j }) is
    (by ∙ ap (λ (b : Bool). cond b 0 1) (chosen-and d (is_finite (decode binary32 q))) ∙ ap₂ (λ (b c : Bool). cond (b && c) 0 1) none far ∙ sym (number-mark s N))

-- ---- result and mark together
pub same_outcome : (r q : Outcome) → r.result ≡ q.result → r.mark ≡ q.mark → r ≡ q
same_outcome r q e f = ap₂ (λ (i j : ℕ). record { result = i; mark = j }) e f

-- an exact value that is no number needs no rounding, and its mark is 2
pub outcome-special : (v : Value) → is_finite v ≡ false → outcome v ≡ record { result = encode binary32 v; mark = 2 }
unfolding outcome round
outcome-special nan n = ap (λ (m : ℕ). record { result = encode binary32 nan; mark = m }) (special-mark nan (encode binary32 nan) refl)
outcome-special (infinite s) n = ap (λ (m : ℕ). record { result = encode binary32 (infinite s); mark = m }) (special-mark (infinite s) (encode binary32 (infinite s)) refl)
outcome-special (finite s a) n = absurd (true≢false n)

-- ---- the four steps: operands are finite exactly where the exact value is
module _ (x y : ℕ) where
  abbrev pub exact_sum : Value
  exact_sum = finer binary32 (plus (decode binary32 x) (decode binary32 y))

  abbrev pub exact_difference : Value
  exact_difference = finer binary32 (plus (decode binary32 x) (negate (decode binary32 y)))

  abbrev pub exact_product : Value
  exact_product = times (decode binary32 x) (decode binary32 y)

  pub add-mark : add_mark x y ≡ mark_by (is_finite exact_sum) exact_sum (add_step x y)
  unfolding add_mark
  add-mark =
      ap (λ (b : Bool). mark_by b exact_sum (add_step x y)) (sym (finer-finite binary32 (plus (decode binary32 x) (decode binary32 y)) ∙ plus-finite (decode binary32 x) (decode binary32 y)))

  pub sub-mark : sub_mark x y ≡ mark_by (is_finite exact_difference) exact_difference (sub_step x y)
  unfolding sub_mark
  sub-mark =
      ap (λ (b : Bool). mark_by b exact_difference (sub_step x y))
      (sym (finer-finite binary32 (plus (decode binary32 x) (negate (decode binary32 y)))
      ∙ plus-finite (decode binary32 x) (negate (decode binary32 y)) ∙ ap (λ (b : Bool). is_finite (decode binary32 x) && b) (negate-finite (decode binary32 y))))

  pub mul-mark : mul_mark x y ≡ mark_by (is_finite exact_product) exact_product (mul_step x y)
  unfolding mul_mark
  mul-mark = ap (λ (b : Bool). mark_by b exact_product (mul_step x y)) (sym (times-finite (decode binary32 x) (decode binary32 y)))

module _ (x y z : ℕ) where
  abbrev pub exact_fused : Value
  exact_fused = plus (times (decode binary32 x) (decode binary32 y)) (finer binary32 (decode binary32 z))

  pub fma-mark : fma_mark x y z ≡ mark_by (is_finite exact_fused) exact_fused (fma_step x y z)
  unfolding fma_mark
  fma-mark =
      ap (λ (b : Bool). mark_by b exact_fused (fma_step x y z))
      (sym (plus-finite (times (decode binary32 x) (decode binary32 y)) (finer binary32 (decode binary32 z))
      ∙ ap₂ ◌&&◌ (times-finite (decode binary32 x) (decode binary32 y)) (finer-finite binary32 (decode binary32 z))
      ∙ grouped (is_finite (decode binary32 x)) (is_finite (decode binary32 y)) (is_finite (decode binary32 z))))
    where
      grouped : (a b c : Bool) → (a && b) && c ≡ a && (b && c)
      grouped true b c = refl
      grouped false b c = refl
