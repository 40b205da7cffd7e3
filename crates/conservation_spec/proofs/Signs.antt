-- The sign word of a question, from its operands: that of the terms set, and that of the terms of its foot, where this adds up.
use mathlib.Core.Path.{◌≡◌, refl, sym, ap, ap₂, ◌∙◌}
use mathlib.Core.Bool.{true≢false, Bool, true, false, not, cond, ◌&&◌, ◌||◌, or-false}
use mathlib.Core.List.{[], ◌∷◌}
use Prim.Native.Nat.{ℕ, zero, suc, ◌+◌, ◌*◌, ◌^◌, ◌<◌}
use native.Mathlib.Nat.{zero-add}
use native.Mathlib.Omega.{arith}
use borrow.Author.Tests.{ne_eqb, eqb-true}
use lib.Dec.{eqb}
use lib.Ieee.{unlike}
use lib.IntN.{ℤ, pos, ◌+ℤ◌, ◌*ℤ◌, neg_ℤ-+ℤ}
use Rattle.pattern_spec.proofs.Truth.{both_of, alike}
use Rattle.rounding_spec.specs.declared.Ties.TheVariants.{ToZero}
use Rattle.rounding_spec.specs.Format.{binary32, limit}
use Rattle.rounding_spec.specs.Value.{Value, nan, infinite, finite, decode, round_finite}
use Rattle.rounding_spec.proofs.Rounded.{rounded-none}
use Rattle.pattern_spec.specs.Classes.{flip}
use Rattle.pattern_spec.specs.Exact.{int, negate}
use Rattle.pattern_spec.proofs.Integers.{int-scale, times-exact}
use Rattle.pattern_spec.proofs.Theorems.{flip-negates}
use Rattle.augmented_spec.specs.declared.Pair.{Pair}
use Rattle.augmented_spec.specs.declared.Operation.{Operation}
use Rattle.augmented_spec.specs.declared.Operation.TheVariants.{Sum as sum, Difference as difference, Product as product}
use Rattle.augmented_spec.specs.Direct.{exact_result}
use Rattle.augmented_spec.specs.Theorems.{zero_sign, finer_int, FiniteOperands}
use Rattle.augmented_spec.proofs.Theorems.{first-rounded, second-rounded}
use Rattle.accumulator_spec.specs.Totals.{of_pattern, term_sign, sign_of_both}
use Rattle.accumulator_spec.specs.Columns.{column_sign}
use Rattle.accumulator_spec.proofs.MinusZeros.{no-product, finer-zero, product-minus-zero}
use Rattle.conservation_spec.specs.Lists.{set_terms, minus_zeros, sign_of_patterns}

-- ---- words of truth values
abbrev word : Bool → ℕ
word p = cond p 0 1

both_words : (p q : Bool) → sign_of_both (word p) (sign_of_both (word q) 0) ≡ word (p && q)
both_words true true = refl
both_words true false = refl
both_words false true = refl
both_words false false = refl

one_word : (p : Bool) → sign_of_both (word p) 0 ≡ word p
one_word true = refl
one_word false = refl

-- ---- of a pattern as a term
pattern-sign : (x : ℕ) (s : Bool) (a : ℕ) → decode binary32 x ≡ finite s a → term_sign (of_pattern x) ≡ word (s && eqb a 0)
pattern-sign x s a e = ap word (finer-zero (decode binary32 x)) ∙ rw e

two-patterns : (x y : ℕ) (s : Bool) (a : ℕ) (t : Bool) (b : ℕ) → decode binary32 x ≡ finite s a → decode binary32 y ≡ finite t b
    → column_sign (of_pattern x ∷ of_pattern y ∷ []) ≡ word (s && eqb a 0 && (t && eqb b 0))
unfolding column_sign
two-patterns x y s a t b e f =
    ap₂ (λ (v w : ℕ). sign_of_both v (sign_of_both w 0)) (pattern-sign x s a e) (pattern-sign y t b f) ∙ both_words (s && eqb a 0) (t && eqb b 0)

-- ---- the terms set
module _ (x y : ℕ) (s : Bool) (a : ℕ) (t : Bool) (b : ℕ) (left : decode binary32 x ≡ finite s a) (right : decode binary32 y ≡ finite t b) where
  question-sign : (o : Operation) → sign_of_patterns o x y ≡ word (minus_zeros o s a t b)
  question-sign o = rw (left, right)

  pub set-sign : y < 2 ^ 32 → (o : Operation) → column_sign (set_terms o x y) ≡ sign_of_patterns o x y
  unfolding column_sign negate
  set-sign width sum = two-patterns x y s a t b left right ∙ sym (question-sign sum)
  set-sign width difference =
      two-patterns x (flip binary32 y) s a (not t) b left (flip-negates binary32 y width ∙ ap negate right) ∙ sym (question-sign difference)
  set-sign width product =
      ap (λ (p : Bool). sign_of_both (word p) 0) (product-minus-zero x y s t a b left right) ∙ one_word (unlike s t && (eqb a 0 || eqb b 0)) ∙ sym (question-sign product)

-- ---- the exact result, where a zero would have the sign -
abbrev magnitude : Operation → ℕ → ℕ → ℕ
magnitude sum a b = (a + b) * 2 ^ 149
magnitude difference a b = (a + b) * 2 ^ 149
magnitude product a b = a * b

no-sum : (a b : ℕ) → eqb ((a + b) * 2 ^ 149) 0 ≡ (eqb a 0 && eqb b 0)
no-sum a b = no-product (a + b) (2 ^ 149) ∙ or-false (eqb (a + b) 0) ∙ go a b
  where
    go : (a b : ℕ) → eqb (a + b) 0 ≡ (eqb a 0 && eqb b 0)
    go zero b = ap (λ (n : ℕ). eqb n 0) (zero-add b)
    go (suc a) b = ne_eqb (suc a + b) 0 (λ (e : suc a + b ≡ 0). omega arith) ∙ sym (rw (ne_eqb (suc a) 0 (λ (e : suc a ≡ 0). omega arith)))

by_sign : (s t p q : Bool) → (s && p && (t && q)) ≡ (s && t && (p && q))
by_sign true true p q = refl
by_sign true false true q = refl
by_sign true false false q = refl
by_sign false t p q = refl

-- all terms -0: the sign of a zero is -, and the exact result is 0
minus-zeros : (o : Operation) (s : Bool) (a : ℕ) (t : Bool) (b : ℕ) → minus_zeros o s a t b ≡ (zero_sign o s t && eqb (magnitude o a b) 0)
minus-zeros sum s a t b = by_sign s t (eqb a 0) (eqb b 0) ∙ ap (λ (c : Bool). s && t && c) (sym (no-sum a b))
minus-zeros difference s a t b = by_sign s (not t) (eqb a 0) (eqb b 0) ∙ ap (λ (c : Bool). s && not t && c) (sym (no-sum a b))
minus-zeros product s a t b = ap (λ (c : Bool). unlike s t && c) (sym (no-product a b))

minus-sum : (a b : ℕ) → (int true a +ℤ int true b) *ℤ pos (2 ^ 149) ≡ int true ((a + b) * 2 ^ 149)
minus-sum a b = ap (λ (z : ℤ). z *ℤ pos (2 ^ 149)) (sym (neg_ℤ-+ℤ (pos a) (pos b))) ∙ sym (int-scale true (a + b) (2 ^ 149))

exact-minus : (o : Operation) (s : Bool) (a : ℕ) (t : Bool) (b : ℕ) → zero_sign o s t ≡ true → exact_result o binary32 (int s a) (int t b) ≡ int true (magnitude o a b)
exact-minus sum true a true b e = minus-sum a b
exact-minus sum true a false b e = absurd (true≢false (sym e))
exact-minus sum false a t b e = absurd (true≢false (sym e))
exact-minus difference true a false b e = minus-sum a b
exact-minus difference true a true b e = absurd (true≢false (sym e))
exact-minus difference false a t b e = absurd (true≢false (sym e))
exact-minus product s a t b e = sym (times-exact s a t b) ∙ ap (λ (r : Bool). int r (a * b)) e

-- the exact result is 0 where all terms are -0
pub exact_none : (o : Operation) (s : Bool) (a : ℕ) (t : Bool) (b : ℕ) → minus_zeros o s a t b ≡ true → exact_result o binary32 (int s a) (int t b) ≡ pos 0
exact_none o s a t b e =
    let k = both_of (zero_sign o s t) (eqb (magnitude o a b) 0) (sym (minus-zeros o s a t b) ∙ e) in
    exact-minus o s a t b k.0 ∙ ap (int true) (eqb-true (magnitude o a b) 0 k.1)

no-magnitude : (r : Bool) (N : ℕ) → int r N ≡ pos 0 → N ≡ 0
no-magnitude false N e = let z : N ≡ 0 = cc in z
no-magnitude true zero e = refl
no-magnitude true (suc N) e = absurd (let z : ◌≡◌ {A = ℕ} 0 1 = cc in omega arith)

-- ---- the terms of the foot
-- a finite value's sign and magnitude
abbrev is_minus : Value → Bool
is_minus nan = false
is_minus (infinite s) = s
is_minus (finite s a) = s

abbrev size : Value → ℕ
size nan = 0
size (infinite s) = 0
size (finite s a) = a

-- a zero is rounded to itself
zero-rounded : (r : Bool) → round_finite ToZero binary32 r 0 ≡ finite r 0
unfolding round_finite limit
zero-rounded r = rw (rounded-none ToZero 23 149)

module _ (o : Operation) (x y : ℕ) (s : Bool) (a : ℕ) (t : Bool) (b : ℕ) (left : decode binary32 x ≡ finite s a) (right : decode binary32 y ≡ finite t b) (p : Pair)
    (h : FiniteOperands o binary32 (exact_result o binary32 (int s a) (int t b)) (zero_sign o s t) p) (q : Bool) (c : ℕ) (r : Bool) (d : ℕ)
    (first : decode binary32 p.first ≡ finite q c) (second : decode binary32 p.second ≡ finite r d)
    (adds : finer_int binary32 q c +ℤ finer_int binary32 r d ≡ exact_result o binary32 (int s a) (int t b)) where
  abbrev E : ℤ
  E = exact_result o binary32 (int s a) (int t b)

  -- a zero result: first is a zero of its sign
  first-zero : E ≡ pos 0 → finite q c ≡ finite (zero_sign o s t) 0
  first-zero e =
      let f = first-rounded o binary32 E (zero_sign o s t) p h in
      let n = no-magnitude f.0 f.1 (f.2 ∙ e) in
      sym first ∙ f.4 ∙ ap₂ (round_finite ToZero binary32) (f.3 n) n ∙ zero-rounded (zero_sign o s t)

  feet-zeros : q && eqb c 0 && (r && eqb d 0) ≡ true → minus_zeros o s a t b ≡ true
  feet-zeros e =
      let k = both_of (q && eqb c 0) (r && eqb d 0) e in
      let f = both_of q (eqb c 0) k.0 in
      let g = both_of r (eqb d 0) k.1 in
      let z : E ≡ pos 0 = sym adds ∙ rw (f.0, eqb-true c 0 f.1, g.0, eqb-true d 0 g.1) in
      let w : zero_sign o s t ≡ true = sym (ap is_minus (first-zero z)) ∙ f.0 in
      let m = no-magnitude true (magnitude o a b) (sym (exact-minus o s a t b w) ∙ z) in
      minus-zeros o s a t b ∙ rw (w, m)

  zeros-feet : minus_zeros o s a t b ≡ true → q && eqb c 0 && (r && eqb d 0) ≡ true
  zeros-feet e =
      let k = both_of (zero_sign o s t) (eqb (magnitude o a b) 0) (sym (minus-zeros o s a t b) ∙ e) in
      let z : E ≡ pos 0 = exact_none o s a t b e in
      let f = first-zero z in
      let minus : q ≡ true = ap is_minus f ∙ k.0 in
      let none : c ≡ 0 = ap size f in
      let u = second-rounded o binary32 E (zero_sign o s t) p h q c first in
      let n = no-magnitude u.0 u.1 (u.3 ∙ rw (z, minus, none)) in
      let e : finite u.0 u.2 ≡ finite u.0 0 = sym u.4 ∙ ap (round_finite ToZero binary32 u.0) n ∙ zero-rounded u.0 in
      let m : u.2 ≡ 0 = ap size e in
      let v : finite r d ≡ finite q 0 = sym second ∙ u.5 ∙ rw m in
      rw (minus, none, ap is_minus v ∙ minus, ap size v)

  pub foot-sign : column_sign (of_pattern p.first ∷ of_pattern p.second ∷ []) ≡ sign_of_patterns o x y
  foot-sign =
      two-patterns p.first p.second q c r d first second
      ∙ ap word (alike (q && eqb c 0 && (r && eqb d 0)) (minus_zeros o s a t b) feet-zeros zeros-feet) ∙ sym (question-sign x y s a t b left right o)
