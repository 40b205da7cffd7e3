-- What a mark means (`specs/MarkTheorems.antt`).
use mathlib.Core.Path.{◌≡◌, refl, sym, ap, ap₂, ◌∙◌, subst}
use mathlib.Core.Logic.{◌⊎◌, inl, inr}
use mathlib.Core.Bool.{Bool, true, false, not, cond, ◌&&◌, true≢false}
use Prim.Native.Nat.{ℕ, ◌*◌, ◌^◌, ◌≤◌, ◌<◌}
use native.Mathlib.Omega.{arith}
use borrow.Author.Tests.{eqb-true}
use lib.Ieee.{unlike, size}
use lib.Pow.{pow_pos}
use lib.IntN.{ℤ, pos, nat_abs, ◌+ℤ◌, ◌-ℤ◌, ◌*ℤ◌, zero-*ℤ}
use Rattle.rounding_spec.specs.declared.Ties.TheVariants.{ToEven}
use Rattle.rounding_spec.specs.Format.{binary32, limit}
use Rattle.rounding_spec.specs.Round.{keep, last_place}
use Rattle.rounding_spec.specs.Value.{Value, nan, infinite, finite, decode, is_finite, is_infinite, is_zero, round}
use Rattle.rounding_spec.proofs.Rounded.{rounded-none}
use Rattle.rounding_spec.proofs.RoundValue.{round-below}
use Rattle.pattern_spec.specs.Classes.{both_finite}
use Rattle.pattern_spec.specs.Comparisons.{same}
use Rattle.pattern_spec.specs.Exact.{negate, plus, times, finer, int, whole}
use Rattle.pattern_spec.proofs.Finiteness.{number-of}
use Rattle.pattern_spec.proofs.Integers.{plus-exact, times-exact, int-not, int-scale, int-size}
use Rattle.pattern_spec.proofs.Theorems.{same-means}
use Rattle.pattern_spec.proofs.Truth.{one_of, both_of, some-false}
use Rattle.binary32_spec.specs.Steps.{add_value, sub_value, mul_value, fma_value, add_step, sub_step, mul_step, fma_step}
use Rattle.binary32_spec.specs.Marks.{mark_by, all_finite, add_mark, sub_mark, mul_mark, fma_mark}
use Rattle.binary32_spec.specs.MarkTheorems.{Special, number_of, whole_sum, whole_difference, whole_product, whole_fused, IsExact, MarkMeans, AddMarkMeans, SubMarkMeans, MulMarkMeans}
use Rattle.binary32_spec.specs.MarkTheorems.{FmaMarkMeans, ZeroOverflowMarks, ZeroAndOverflow, MarkLandmarks}
use Rattle.binary32_spec.proofs.Marks.{exact_sum, exact_difference, exact_product, exact_fused}
use Rattle.binary32_spec.proofs.Decoded.{add-decodes, sub-decodes, mul-decodes, fma-decodes}

-- ---- exact values as whole numbers
abbrev Numbered : Value → ℤ → Type 0
Numbered v n = (s : Bool) × (N : ℕ) × (v ≡ finite s N) × (int s N ≡ n)

sum_number : (s : Bool) (a : ℕ) (t : Bool) (b : ℕ) → Numbered (finer binary32 (plus (finite s a) (finite t b))) ((int s a +ℤ int t b) *ℤ pos (2 ^ 149))
unfolding plus finer
sum_number s a t b =
    let e = plus-exact s a t b in
    (e.0, e.1 * 2 ^ 149, ap (finer binary32) e.2, int-scale e.0 e.1 (2 ^ 149) ∙ ap (λ (n : ℤ). n *ℤ pos (2 ^ 149)) e.3)

difference-number : (s : Bool) (a : ℕ) (t : Bool) (b : ℕ) → Numbered (finer binary32 (plus (finite s a) (negate (finite t b)))) ((int s a -ℤ int t b) *ℤ pos (2 ^ 149))
unfolding negate
difference-number s a t b =
    let e = sum_number s a (not t) b in
    (e.0, e.1, e.2, e.3 ∙ ap (λ (n : ℤ). (int s a +ℤ n) *ℤ pos (2 ^ 149)) (int-not t b))

product-number : (s : Bool) (a : ℕ) (t : Bool) (b : ℕ) → Numbered (times (finite s a) (finite t b)) (int s a *ℤ int t b)
unfolding times
product-number s a t b = (unlike s t, a * b, refl, times-exact s a t b)

fused-number : (s : Bool) (a : ℕ) (t : Bool) (b : ℕ) (r : Bool) (c : ℕ)
    → Numbered (plus (times (finite s a) (finite t b)) (finer binary32 (finite r c))) (int s a *ℤ int t b +ℤ int r c *ℤ pos (2 ^ 149))
unfolding plus times finer
fused-number s a t b r c =
    let e = plus-exact (unlike s t) (a * b) r (c * 2 ^ 149) in
    (e.0, e.1, e.2, e.3 ∙ ap₂ ◌+ℤ◌ (times-exact s a t b) (int-scale r c (2 ^ 149)))

-- of two finite values
of_two : (P : Value → Value → Type 0) (v w : Value) → ((s : Bool) (a : ℕ) (t : Bool) (b : ℕ) → P (finite s a) (finite t b)) → is_finite v && is_finite w ≡ true → P v w
of_two P v w h f =
    let k = both_of (is_finite v) (is_finite w) f in
    let p = number-of v k.0 in
    let q = number-of w k.1 in
    subst (λ (u : Value). P u w) (sym p.2) (subst (P (finite p.0 p.1)) (sym q.2) (h p.0 p.1 q.0 q.1))

-- ---- the test of a result, against a number
module _ (s : Bool) (N : ℕ) where
  test-means : (r : Value) → same (finer binary32 r) (finite s N) ≡ true → (is_finite r ≡ true) × (whole r *ℤ pos (2 ^ 149) ≡ int s N)
  unfolding finer
  test-means nan h = absurd (true≢false (sym h ∙ (same-means.1 (finite s N)).0))
  test-means (infinite t) h = absurd (true≢false (sym h ∙ (same-means.3 t s N).0))
  test-means (finite t c) h = (refl, sym (int-scale t c (2 ^ 149)) ∙ (same-means.0 t (c * 2 ^ 149) s N).0 h)

  means-test : (r : Value) → is_finite r ≡ true → whole r *ℤ pos (2 ^ 149) ≡ int s N → same (finer binary32 r) (finite s N) ≡ true
  unfolding finer
  means-test nan f h = absurd (true≢false (sym f))
  means-test (infinite t) f h = absurd (true≢false (sym f))
  means-test (finite t c) f h = (same-means.0 t (c * 2 ^ 149) s N).1 (int-scale t c (2 ^ 149) ∙ h)

-- ---- a mark by its two tests
abbrev by_tests : Bool → Bool → ℕ
by_tests f k = cond f (cond k 0 1) 2

tests-zero : (f k : Bool) → by_tests f k ≡ 0 → (f ≡ true) × (k ≡ true)
tests-zero true true h = (refl, refl)
tests-zero true false h = absurd (omega arith)
tests-zero false k h = absurd (omega arith)

tests-one : (f k : Bool) → by_tests f k ≡ 1 → (f ≡ true) × (k ≡ false)
tests-one true true h = absurd (omega arith)
tests-one true false h = (refl, refl)
tests-one false k h = absurd (omega arith)

tests-two : (f k : Bool) → by_tests f k ≡ 2 → f ≡ false
tests-two true true h = absurd (omega arith)
tests-two true false h = absurd (omega arith)
tests-two false k h = refl

tests-most : (f k : Bool) → by_tests f k ≤ 2
tests-most true true = omega arith
tests-most true false = omega arith
tests-most false k = omega arith

make-one : (f k : Bool) → f ≡ true → ¬ (k ≡ true) → by_tests f k ≡ 1
make-one true true h n = absurd (n refl)
make-one true false h n = refl
make-one false k h n = absurd (true≢false (sym h))

some-limit : 0 < limit binary32
unfolding limit
some-limit = pow_pos 277

-- ---- what it means, of any step: f says that all operands are finite, v is the exact value, r the result
module _ (f : Bool) (v : Value) (r : ℕ) (S : Type 0) (E : ℤ) (some : S → f ≡ false) (none : f ≡ false → S) (number : f ≡ true → Numbered v E) where
  abbrev kept : Bool
  kept = same (finer binary32 (decode binary32 r)) v

  finite-of : ¬ S → f ≡ true
  finite-of n = by f none
    where
      by : (b : Bool) → (b ≡ false → S) → b ≡ true
      by true h = refl
      by false h = absurd (n (h refl))

  kept_of : f ≡ true → kept ≡ true → IsExact E r
  kept_of h k =
      let e = number h in
      let t = test-means e.0 e.1 (decode binary32 r) (sym (ap (same (finer binary32 (decode binary32 r))) e.2) ∙ k) in
      (t.0, t.1 ∙ e.3)

  of-kept : f ≡ true → IsExact E r → kept ≡ true
  of-kept h k =
      let e = number h in
      ap (same (finer binary32 (decode binary32 r))) e.2 ∙ means-test e.0 e.1 (decode binary32 r) k.0 (k.1 ∙ sym e.3)

  no-special : f ≡ true → ¬ S
  no-special h s = true≢false (sym h ∙ some s)

  mark-one : ¬ S → ¬ IsExact E r → mark_by f v r ≡ 1
  unfolding mark_by
  mark-one n l = let h = finite-of n in make-one f kept h (λ k. l (kept_of h k))

  means : MarkMeans S E r (mark_by f v r)
  unfolding mark_by
  means =
      record {
        zero = (
          λ m. let t = tests-zero f kept m in (no-special t.0, kept_of t.0 t.1),
          λ h. let g = finite-of h.0 in ap₂ by_tests g (of-kept g h.1),
        );
        one = (
          λ m. let t = tests-one f kept m in (no-special t.0, λ l. true≢false (sym (of-kept t.0 l) ∙ t.1)),
          λ h. mark-one h.0 h.1,
        );
        two = (λ m. none (tests-two f kept m), λ s. ap (λ (b : Bool). by_tests b kept) (some s));
        most = tests-most f kept;
      }

  -- zeros and overflow
  module _ (is : decode binary32 r ≡ round ToEven binary32 v) where
    zero-kept : (s : Bool) (N : ℕ) → v ≡ finite s N → N ≡ 0 → decode binary32 r ≡ finite s 0
    unfolding round
    zero-kept s N e n =
        is ∙ ap (round ToEven binary32) (e ∙ ap (finite s) n)
        ∙ round-below ToEven binary32 s 0 (rw (rounded-none ToEven 23 149) some-limit)
        ∙ ap (finite s) (rounded-none ToEven 23 149)

    edges : ZeroOverflowMarks S E r (mark_by f v r)
    edges = (
      λ n z.
          let e = number (finite-of n) in
          let nothing : e.1 ≡ 0 = sym (int-size e.0 e.1) ∙ ap nat_abs (e.3 ∙ z) in
          let d = zero-kept e.0 e.1 e.2 nothing in
          means.zero.1 (n, (ap is_finite d, ap (λ (w : Value). whole w *ℤ pos (2 ^ 149)) d ∙ no_number e.0 ∙ sym z)),
      λ n z k. mark-one n (λ l. z (sym l.1 ∙ ap (λ (i : ℤ). i *ℤ pos (2 ^ 149)) (zero_number (decode binary32 r) k) ∙ zero-*ℤ (pos (2 ^ 149)))),
      λ n i. mark-one n (λ l. not_finite (decode binary32 r) i l.0),
    )
      where
        int-none : (s : Bool) → int s 0 ≡ pos 0
        int-none false = refl
        int-none true = refl

        no_number : (s : Bool) → int s 0 *ℤ pos (2 ^ 149) ≡ pos 0
        no_number s = ap (λ (i : ℤ). i *ℤ pos (2 ^ 149)) (int-none s) ∙ zero-*ℤ (pos (2 ^ 149))

        zero_number : (w : Value) → is_zero w ≡ true → whole w ≡ pos 0
        zero_number nan h = absurd (true≢false (sym h))
        zero_number (infinite s) h = absurd (true≢false (sym h))
        zero_number (finite s a) h = ap (int s) (eqb-true a 0 h) ∙ int-none s

        not_finite : (w : Value) → is_infinite w ≡ true → is_finite w ≡ true → ⊥
        not_finite nan i j = true≢false (sym i)
        not_finite (infinite s) i j = true≢false (sym j)
        not_finite (finite s a) i j = true≢false (sym i)

-- ---- the four steps
module _ (x y : ℕ) where
  abbrev u : Value
  u = decode binary32 x

  abbrev w : Value
  w = decode binary32 y

  of-special : Special x ⊎ Special y → both_finite x y ≡ false
  of-special h = some-false (is_finite u) (is_finite w) h

  special-of : both_finite x y ≡ false → Special x ⊎ Special y
  special-of h = one_of (is_finite u) (is_finite w) h

  sum_is : both_finite x y ≡ true → Numbered (exact_sum x y) (whole_sum x y)
  sum_is = of_two (λ (a b : Value). Numbered (finer binary32 (plus a b)) ((whole a +ℤ whole b) *ℤ pos (2 ^ 149))) u w sum_number

  difference-is : both_finite x y ≡ true → Numbered (exact_difference x y) (whole_difference x y)
  difference-is = of_two (λ (a b : Value). Numbered (finer binary32 (plus a (negate b))) ((whole a -ℤ whole b) *ℤ pos (2 ^ 149))) u w difference-number

  product_is : both_finite x y ≡ true → Numbered (exact_product x y) (whole_product x y)
  product_is = of_two (λ (a b : Value). Numbered (times a b) (whole a *ℤ whole b)) u w product-number

module _ (x y z : ℕ) where
  of-special-three : Special x ⊎ (Special y ⊎ Special z) → all_finite x y z ≡ false
  of-special-three h =
      some-false (is_finite (decode binary32 x)) (both_finite y z) (elim h [ inl k ↦ inl k | inr k ↦ inr (of-special y z k) ])

  special-of-three : all_finite x y z ≡ false → Special x ⊎ (Special y ⊎ Special z)
  special-of-three h = elim (one_of (is_finite (decode binary32 x)) (both_finite y z) h) [ inl k ↦ inl k | inr k ↦ inr (special-of y z k) ]

  fused-is : all_finite x y z ≡ true → Numbered (exact_fused x y z) (whole_fused x y z)
  fused-is h =
      let k = both_of (is_finite (decode binary32 x)) (both_finite y z) h in
      let p = number-of (decode binary32 x) k.0 in
      subst (λ (a : Value). Numbered (plus (times a (decode binary32 y)) (finer binary32 (decode binary32 z))) (whole a *ℤ number_of y +ℤ number_of z *ℤ pos (2 ^ 149))) (sym p.2)
      (of_two
      (λ (b c : Value). Numbered (plus (times (finite p.0 p.1) b) (finer binary32 c)) (int p.0 p.1 *ℤ whole b +ℤ whole c *ℤ pos (2 ^ 149)))
      (decode binary32 y) (decode binary32 z) (λ t b r c. fused-number p.0 p.1 t b r c) k.1)

pub add-mark-means : AddMarkMeans
unfolding add_mark
add-mark-means x y = means (both_finite x y) (exact_sum x y) (add_step x y) _ _ (of-special x y) (special-of x y) (sum_is x y)

pub sub-mark-means : SubMarkMeans
unfolding sub_mark
sub-mark-means x y = means (both_finite x y) (exact_difference x y) (sub_step x y) _ _ (of-special x y) (special-of x y) (difference-is x y)

pub mul-mark-means : MulMarkMeans
unfolding mul_mark
mul-mark-means x y = means (both_finite x y) (exact_product x y) (mul_step x y) _ _ (of-special x y) (special-of x y) (product_is x y)

pub fma-mark-means : FmaMarkMeans
unfolding fma_mark
fma-mark-means x y z = means (all_finite x y z) (exact_fused x y z) (fma_step x y z) _ _ (of-special-three x y z) (special-of-three x y z) (fused-is x y z)

pub zero-and-overflow : ZeroAndOverflow
unfolding add_mark sub_mark mul_mark fma_mark add_value sub_value mul_value fma_value
zero-and-overflow = (
  λ x y. edges (both_finite x y) (exact_sum x y) (add_step x y) _ _ (of-special x y) (special-of x y) (sum_is x y) (add-decodes x y),
  λ x y. edges (both_finite x y) (exact_difference x y) (sub_step x y) _ _ (of-special x y) (special-of x y) (difference-is x y) (sub-decodes x y),
  λ x y. edges (both_finite x y) (exact_product x y) (mul_step x y) _ _ (of-special x y) (special-of x y) (product_is x y) (mul-decodes x y),
  λ x y z. edges (all_finite x y z) (exact_fused x y z) (fma_step x y z) _ _ (of-special-three x y z) (special-of-three x y z) (fused-is x y z) (fma-decodes x y z),
)

pub mark-landmarks : MarkLandmarks
unfolding add_mark sub_mark mul_mark fma_mark keep last_place size
mark-landmarks = (refl, refl, refl, refl, refl, refl, refl, refl, refl, refl, refl, refl, refl, refl)
