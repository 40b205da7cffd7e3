-- A finite pair has finite operands, and the exact result of an operation is the sum of the terms that are set.
use mathlib.Core.Path.{◌≡◌, refl, sym, ap, ap₂, ◌∙◌}
use mathlib.Core.Bool.{true≢false, Bool, true, false, not, ◌&&◌}
use mathlib.Core.List.{[], ◌∷◌}
use Prim.Native.Nat.{ℕ, ◌*◌, ◌^◌, ◌<◌}
use native.Mathlib.Omega.{arith}
use lib.Dec.{lit<}
use lib.IntN.{ℤ, pos, ◌+ℤ◌, ◌*ℤ◌, +ℤ_idr}
use Rattle.pattern_spec.proofs.Truth.{both_of}
use Rattle.rounding_spec.specs.Format.{binary32}
use Rattle.rounding_spec.specs.Value.{Value, nan, infinite, finite, decode, is_finite, round, RN0}
use Rattle.pattern_spec.specs.Exact.{int, whole, negate}
use Rattle.pattern_spec.specs.Classes.{flip}
use Rattle.pattern_spec.proofs.Finiteness.{number-of, negate-finite, times-finite}
use Rattle.pattern_spec.proofs.Integers.{plus-exact, int-not, int-scale}
use Rattle.pattern_spec.proofs.Sums.{sum-scale}
use Rattle.pattern_spec.proofs.Theorems.{flip-negates}
use Rattle.augmented_spec.specs.Pairs.{pair_of}
use Rattle.augmented_spec.specs.declared.Operation.{Operation}
use Rattle.augmented_spec.specs.declared.Operation.TheVariants.{Sum as sum, Difference as difference, Product as product}
use Rattle.augmented_spec.specs.Direct.{direct_pair, exact_result}
use Rattle.augmented_spec.specs.Theorems.{second_operand, FinitePattern}
use Rattle.augmented_spec.proofs.Read.{exact_for, first_read_lem}
use Rattle.augmented_spec.proofs.Unrounded.{infinite-sum}
use Rattle.accumulator_spec.specs.Totals.{of_pattern, of_product, exact_term}
use Rattle.accumulator_spec.specs.Columns.{AllFinite, column_sum}
use Rattle.accumulator_spec.proofs.Landmarks.{pattern-term, product_term}
use Rattle.conservation_spec.specs.Lists.{set_terms, exact_of_patterns}

-- ---- from the pair to the operands
rounded-finite : (v : Value) → is_finite (RN0 binary32 v) ≡ true → is_finite v ≡ true
unfolding round
rounded-finite nan e = e
rounded-finite (infinite s) e = e
rounded-finite (finite s a) e = refl

special-result : (o : Operation) (x y : ℕ) → is_finite (decode binary32 x) && is_finite (decode binary32 (second_operand o binary32 y)) ≡ false → is_finite (exact_for o binary32 x y) ≡ false
special-result sum x y h = infinite-sum (decode binary32 x) (decode binary32 y) h
special-result difference x y h = infinite-sum (decode binary32 x) (decode binary32 (flip binary32 y)) h
special-result product x y h = times-finite (decode binary32 x) (decode binary32 y) ∙ h

operands-finite : (o : Operation) (x y : ℕ) → is_finite (decode binary32 (direct_pair o binary32 x y).first) ≡ true
    → is_finite (decode binary32 x) && is_finite (decode binary32 (second_operand o binary32 y)) ≡ true
unfolding pair_of
operands-finite o x y e = go (is_finite (decode binary32 x) && is_finite (decode binary32 (second_operand o binary32 y))) (special-result o x y)
  where
    exact-finite : is_finite (exact_for o binary32 x y) ≡ true
    exact-finite = rounded-finite (exact_for o binary32 x y) (sym (ap is_finite (first_read_lem o binary32 (omega arith) x y)) ∙ e)

    go : (c : Bool) → (c ≡ false → is_finite (exact_for o binary32 x y) ≡ false) → c ≡ true
    go true h = refl
    go false h = absurd (true≢false (sym exact-finite ∙ h refl))

taken_back : (o : Operation) (y : ℕ) → y < 2 ^ 32 → is_finite (decode binary32 (second_operand o binary32 y)) ≡ true → is_finite (decode binary32 y) ≡ true
taken_back sum y w e = e
taken_back difference y w e = sym (ap is_finite (flip-negates binary32 y w) ∙ negate-finite (decode binary32 y)) ∙ e
taken_back product y w e = e

-- the operands of a pair whose first is finite
pub operands : (o : Operation) (x y : ℕ) → y < 2 ^ 32 → is_finite (decode binary32 (direct_pair o binary32 x y).first) ≡ true → FinitePattern binary32 x × FinitePattern binary32 y
operands o x y w e =
    let p = both_of (is_finite (decode binary32 x)) (is_finite (decode binary32 (second_operand o binary32 y))) (operands-finite o x y e) in
    (number-of (decode binary32 x) p.0, number-of (decode binary32 y) (taken_back o y w p.1))

-- ---- the terms that are set
scaled-sum : (s : Bool) (a : ℕ) (t : Bool) (b G : ℕ) → 0 < G → int s a *ℤ pos G +ℤ int t b *ℤ pos G ≡ (int s a +ℤ int t b) *ℤ pos G
scaled-sum s a t b G h =
    let e = plus-exact s a t b in
    let f = plus-exact s (a * G) t (b * G) in
    ap₂ ◌+ℤ◌ (sym (int-scale s a G)) (sym (int-scale t b G)) ∙ sym f.3 ∙ ap whole (sym f.2 ∙ sum-scale s a t b G h e.0 e.1 e.2) ∙ int-scale e.0 e.1 G
    ∙ ap (λ (k : ℤ). k *ℤ pos G) e.3

module _ (x y : ℕ) (s : Bool) (a : ℕ) (t : Bool) (b : ℕ) (width : y < 2 ^ 32) (left : decode binary32 x ≡ finite s a) (right : decode binary32 y ≡ finite t b) where
  pub result-is : (o : Operation) → exact_of_patterns o x y ≡ exact_result o binary32 (int s a) (int t b)
  result-is sum = rw (left, right)
  result-is difference = rw (left, right)
  result-is product = rw (left, right)

  flipped : decode binary32 (flip binary32 y) ≡ finite (not t) b
  unfolding negate
  flipped = flip-negates binary32 y width ∙ ap negate right

  two-terms : (z : ℕ) (r : Bool) (c : ℕ) → decode binary32 z ≡ finite r c → column_sum (of_pattern x ∷ of_pattern z ∷ []) ≡ (int s a +ℤ int r c) *ℤ pos (2 ^ 149)
  unfolding column_sum
  two-terms z r c e =
      ap₂ ◌+ℤ◌ (pattern-term x s a left) (+ℤ_idr (whole (exact_term (of_pattern z))) ∙ pattern-term z r c e) ∙ scaled-sum s a r c (2 ^ 149) (lit< tt)

  pub terms-sum : (o : Operation) → column_sum (set_terms o x y) ≡ exact_result o binary32 (int s a) (int t b)
  unfolding column_sum
  terms-sum sum = two-terms y t b right
  terms-sum difference = two-terms (flip binary32 y) (not t) b flipped ∙ ap (λ (k : ℤ). (int s a +ℤ k) *ℤ pos (2 ^ 149)) (int-not t b)
  terms-sum product = +ℤ_idr (whole (exact_term (of_product x y))) ∙ product_term x y s t a b left right

  pub terms-finite : (o : Operation) → AllFinite (set_terms o x y)
  unfolding AllFinite
  terms-finite sum = (ap is_finite left, (ap is_finite right, tt))
  terms-finite difference = (ap is_finite left, (ap is_finite flipped, tt))
  terms-finite product = (ap₂ ◌&&◌ (ap is_finite left) (ap is_finite right), tt)
