-- Reading against overflow and against the direct pairs of two operands.
use mathlib.Core.Path.{◌≡◌, refl, sym, ap, ap₂, ◌∙◌}
use mathlib.Core.Logic.{inl}
use mathlib.Core.Bool.{true≢false, Bool, true, false, not, cond, ◌&&◌}
use mathlib.Core.List.{[], ◌∷◌}
use Prim.Native.Nat.{ℕ, zero, suc, ◌+◌, ◌*◌, ◌^◌}
use native.Mathlib.Omega.{arith}
use borrow.Author.Tests.{ne_eqb}
use lib.Dec.{eqb, lit≤}
use lib.Ieee.{unlike}
use lib.IntN.{ℤ, pos, negsuc, ◌+ℤ◌, +ℤ_idr, neg_ℤ-+ℤ}
use Rattle.rounding_spec.specs.declared.Ties.TheVariants.{ToZero}
use Rattle.rounding_spec.specs.Format.{binary32}
use Rattle.rounding_spec.specs.Value.{Value, nan, infinite, finite, decode, is_finite, encode}
use Rattle.rounding_spec.proofs.RoundValue.{over-edge}
use Rattle.pattern_spec.specs.Answer.{Answer}
use Rattle.pattern_spec.specs.Exact.{whole, int, plus_finite, plus, times, finer}
use Rattle.binary32_spec.specs.Steps.{result}
use Rattle.pattern_spec.proofs.Integers.{plus-exact}
use Rattle.binary32_spec.proofs.Result.{result-number}
use Rattle.pattern_spec.proofs.Sums.{sum_same, finer-sum}
use Rattle.augmented_spec.specs.Pairs.{pair_of, answer, sum_pair, product_pair}
use Rattle.augmented_spec.proofs.Answered.{first-number, second-number}
use Rattle.augmented_spec.proofs.Second.{first-infinite, second-infinite}
use Rattle.accumulator_spec.specs.Totals.{of_pattern, of_product, is_minus_zero, sign_of_both}
use Rattle.accumulator_spec.specs.Totals.{TwoPatterns, pair_read, exact_number, exact_total, pair_answer}
use Rattle.accumulator_spec.specs.Columns.{AllFinite, column_sum, column_sign}
use Rattle.accumulator_spec.specs.Theorems.{ReadOverflow, ReadSum, ReadProduct}
use Rattle.accumulator_spec.proofs.Rest.{exact-int}
use Rattle.accumulator_spec.proofs.Signs.{sign-one}
use Rattle.accumulator_spec.proofs.ReadTotal.{exact-number, read_some, int-some, read-column}

pub read-overflow : ReadOverflow
read-overflow t s zero f e h = absurd (omega arith)
read-overflow t s (suc N) f e h =
    let o = over-edge binary32 (lit≤ tt, lit≤ tt) ToZero (suc N) h in
    read_some t f (λ z. int-some s N (sym e ∙ z)) ∙ ap (λ z. pair_answer (pair_of binary32 (exact_number z))) e
    ∙ ap (λ v. pair_answer (pair_of binary32 v)) (exact-int s (suc N) (λ z. absurd (omega arith)))
    ∙ ap₂ (λ (v w : Value). pair_read (encode binary32 v) (encode binary32 w)) (first-infinite binary32 s (suc N) o) (second-infinite binary32 s (suc N) o)

-- ---- what is rounded for two patterns, and for a product
abbrev word : Bool → ℕ → ℕ
word s a = cond (is_minus_zero (finite s a)) 0 1

abbrev words : Bool → ℕ → Bool → ℕ → ℕ
words s a t b = sign_of_both (word s a) (sign_of_both (word t b) 0)

-- where the sign word is 1, a zero sum must have the sign +
plain : (s : Bool) (a : ℕ) (t : Bool) (b w : ℕ) → w ≡ 1 → (r : Bool) (N : ℕ) → plus_finite s a t b ≡ finite r N → int r N ≡ int s a +ℤ int t b → (N ≡ 0 → r ≡ false)
    → exact_total (int s a +ℤ (int t b +ℤ pos 0)) 2 w ≡ plus_finite s a t b
plain s a t b w e r N p q h =
    let z : int s a +ℤ (int t b +ℤ pos 0) ≡ int r N = ap (λ (k : ℤ). int s a +ℤ k) (+ℤ_idr (int t b)) ∙ sym q in
    exact-number (int s a +ℤ (int t b +ℤ pos 0)) 2 w (inl e) ∙ ap exact_number z ∙ exact-int r N h ∙ sym p

-- of two signs, one of them +
unlike-plain : (s : Bool) (a : ℕ) (t : Bool) (b w : ℕ) → s && t ≡ false → w ≡ 1 → exact_total (int s a +ℤ (int t b +ℤ pos 0)) 2 w ≡ plus_finite s a t b
unlike-plain s a t b w o e = let p = plus-exact s a t b in plain s a t b w e p.0 p.1 p.2 p.3 (λ (m : p.1 ≡ 0). p.4 m ∙ o)

-- of two minus signs, where a magnitude is not 0
minus-plain : (a b w : ℕ) → w ≡ 1 → (a + b ≡ 0 → ⊥) → exact_total (int true a +ℤ (int true b +ℤ pos 0)) 2 w ≡ plus_finite true a true b
minus-plain a b w e n = plain true a true b w e true (a + b) (sum_same true a true b refl) (neg_ℤ-+ℤ (pos a) (pos b)) (λ (m : a + b ≡ 0). absurd (n m))

some_word : (s : Bool) (a : ℕ) → word s (suc a) ≡ 1
some_word true a = rw (ne_eqb (suc a) 0 (λ (e : suc a ≡ 0). omega arith))
some_word false a = refl

sum-signed : (s : Bool) (a : ℕ) (t : Bool) (b : ℕ) → exact_total (int s a +ℤ (int t b +ℤ pos 0)) 2 (words s a t b) ≡ plus_finite s a t b
unfolding plus_finite
sum-signed false a t b = unlike-plain false a t b (words false a t b) refl refl
sum-signed true a false b = unlike-plain true a false b (words true a false b) refl (sign-one (word true a) 1 (λ e. omega arith))
sum-signed true zero true zero = refl
sum-signed true zero true (suc b) =
    minus-plain zero (suc b) (words true zero true (suc b)) (rw (some_word true b)) (λ (e : 0 + suc b ≡ 0). omega arith)
sum-signed true (suc a) true b = minus-plain (suc a) b (words true (suc a) true b) (rw (some_word true a)) (λ (e : suc a + b ≡ 0). omega arith)

sum-value : (v w : Value) → is_finite v ≡ true → is_finite w ≡ true
    → exact_total (whole (finer binary32 v) +ℤ (whole (finer binary32 w) +ℤ pos 0)) 2
    (sign_of_both (cond (is_minus_zero (finer binary32 v)) 0 1) (sign_of_both (cond (is_minus_zero (finer binary32 w)) 0 1) 0))
    ≡ finer binary32 (plus v w)
unfolding finer plus
sum-value nan w e f = absurd (true≢false (sym e))
sum-value (infinite s) w e f = absurd (true≢false (sym e))
sum-value (finite s a) nan e f = absurd (true≢false (sym f))
sum-value (finite s a) (infinite t) e f = absurd (true≢false (sym f))
sum-value (finite s a) (finite t b) e f = sum-signed s (a * 2 ^ 149) t (b * 2 ^ 149) ∙ sym (finer-sum binary32 s a t b)

-- one value: its own sign word
one-signed : (s : Bool) (a : ℕ) → exact_total (int s a +ℤ pos 0) 1 (sign_of_both (word s a) 0) ≡ finite s a
one-signed false a = ap exact_number (+ℤ_idr (pos a))
one-signed true zero = refl
one-signed true (suc a) =
    exact-number (int true (suc a) +ℤ pos 0) 1 (sign_of_both (word true (suc a)) 0) (inl (rw (some_word true a))) ∙ ap exact_number (+ℤ_idr (int true (suc a)))

product_value : (v w : Value) → is_finite v && is_finite w ≡ true
    → exact_total (whole (times v w) +ℤ pos 0) 1 (sign_of_both (cond (is_minus_zero (times v w)) 0 1) 0) ≡ times v w
unfolding times
product_value nan w e = absurd (true≢false (sym e))
product_value (infinite s) w e = absurd (true≢false (sym e))
product_value (finite s a) nan e = absurd (true≢false (sym e))
product_value (finite s a) (infinite t) e = absurd (true≢false (sym e))
product_value (finite s a) (finite t b) e = one-signed (unlike s t) (a * b)

-- the patterns of a number's pair, as the answer of two operands shows them: no half is NaN
module _ (x y : ℕ) where
  abbrev shown : Value → Answer TwoPatterns
  shown v = pair_read (result binary32 (x ∷ y ∷ []) (pair_of binary32 v).first) (result binary32 (x ∷ y ∷ []) (pair_of binary32 v).second)

  finite-shown : (s : Bool) (N : ℕ) → pair_answer (pair_of binary32 (finite s N)) ≡ shown (finite s N)
  finite-shown s N =
      ap₂ pair_read (sym (result-number binary32 (x ∷ y ∷ []) _ (first-number binary32 s N)))
      (sym (result-number binary32 (x ∷ y ∷ []) _ (second-number binary32 s N)))

  total-shown : (z : ℤ) (n w : ℕ) → pair_answer (pair_of binary32 (exact_total z n w)) ≡ shown (exact_total z n w)
  total-shown z n w = go z (eqb w 0 && not (eqb n 0))
    where
      go : (z : ℤ) (b : Bool) → pair_answer (pair_of binary32 (cond b (finite true 0) (exact_number z))) ≡ shown (cond b (finite true 0) (exact_number z))
      go z true = finite-shown true 0
      go (pos n) false = finite-shown false n
      go (negsuc n) false = finite-shown true (suc n)

pub read-sum : ReadSum
unfolding column_sum column_sign AllFinite sum_pair answer
read-sum x y e f =
    let xs = of_pattern x ∷ of_pattern y ∷ [] in
    read-column xs (lit≤ tt) (e, (f, tt)) ∙ total-shown x y (column_sum xs) 2 (column_sign xs) ∙ ap (shown x y) (sum-value (decode binary32 x) (decode binary32 y) e f)

pub read-product : ReadProduct
unfolding column_sum column_sign AllFinite product_pair answer
read-product x y e =
    let xs = of_product x y ∷ [] in
    read-column xs (lit≤ tt) (e, tt) ∙ total-shown x y (column_sum xs) 1 (column_sign xs) ∙ ap (shown x y) (product_value (decode binary32 x) (decode binary32 y) e)
