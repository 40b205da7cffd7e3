-- Terms of -0 and columns of them: which they are, and what such a column holds and reads; sign words by computation.
use mathlib.Core.Path.{◌≡◌, refl, sym, ap, ap₂, ◌∙◌}
use mathlib.Core.Bool.{true≢false, Bool, true, ◌&&◌, ◌||◌, or-false}
use mathlib.Core.List.{List, [], ◌∷◌}
use Prim.Native.Nat.{ℕ, zero, suc, ◌*◌, ◌^◌, ◌<◌}
use native.Mathlib.Nat.{le_trans, le_of_eq, zero-mul, mul-zero, mul-pos}
use native.Mathlib.Omega.{arith}
use borrow.Author.Tests.{ne_eqb}
use lib.Dec.{eqb}
use lib.Ieee.{unlike, size}
use lib.IntN.{pos, ◌+ℤ◌}
use Rattle.rounding_spec.specs.Format.{binary32}
use Rattle.rounding_spec.specs.Round.{keep, last_place}
use Rattle.rounding_spec.specs.Value.{Value, nan, infinite, finite, fields, magnitude, unsigned, bits, decode, encode}
use Rattle.rounding_spec.proofs.Codec.{encode-decode}
use Rattle.pattern_spec.specs.Exact.{times, finer}
use Rattle.augmented_spec.specs.Pairs.{pair_of}
use Rattle.accumulator_spec.specs.Words.{natural, integer, words_of_natural, words_of_integer}
use Rattle.accumulator_spec.specs.Totals.{zeros, number, Term, is_minus_zero, fit, adding, after_adding, reading}
use Rattle.accumulator_spec.specs.Columns.{column, AllMinusZero, column_sum}
use Rattle.accumulator_spec.specs.Carrying.{carrying, after_carrying}
use Rattle.accumulator_spec.specs.Joins.{joining, after_joining}
use Rattle.accumulator_spec.specs.SignTheorems.{PatternMinusZero, ProductMinusZero, ColumnSignIs, ColumnMinusZero, SignLandmarks}
use Rattle.accumulator_spec.proofs.Columns.{exact-column}
use Rattle.accumulator_spec.proofs.Signs.{minus-zero-value, minus-zero-whole, minus-zero-sign, column-sign-le, column-sign-zero, all-minus-zero-sign}
use Rattle.accumulator_spec.proofs.ReadTotal.{read-zero}

-- ---- terms
pub no-product : (a b : ℕ) → eqb (a * b) 0 ≡ (eqb a 0 || eqb b 0)
no-product zero b = ap (λ (n : ℕ). eqb n 0) (zero-mul b)
no-product (suc a) zero = ap (λ (n : ℕ). eqb n 0) (mul-zero (suc a)) ∙ sym (rw (ne_eqb (suc a) 0 (λ (e : suc a ≡ 0). omega arith)))
no-product (suc a) (suc b) =
    ne_eqb (suc a * suc b) 0 (λ (e : suc a * suc b ≡ 0). let h : 0 < suc a * suc b = mul-pos (omega arith) (omega arith) in omega (arith, e, h))
    ∙ sym (rw (ne_eqb (suc a) 0 (λ (e : suc a ≡ 0). omega arith), ne_eqb (suc b) 0 (λ (e : suc b ≡ 0). omega arith)))

-- the unit of a pattern is counted in u * u, which leaves a zero
pub finer-zero : (v : Value) → is_minus_zero (finer binary32 v) ≡ is_minus_zero v
unfolding finer
finer-zero nan = refl
finer-zero (infinite s) = refl
finer-zero (finite s a) = ap (λ (c : Bool). s && c) (no-product a (2 ^ 149) ∙ or-false (eqb a 0))

pub pattern-minus-zero : PatternMinusZero
unfolding encode bits size decode unsigned magnitude fields
pattern-minus-zero x w = (
  λ e.
      let v = minus-zero-value (decode binary32 x) (sym (finer-zero (decode binary32 x)) ∙ e) in
      sym (encode-decode binary32 x w (λ (n : decode binary32 x ≡ nan). apart (sym n ∙ v))) ∙ ap (encode binary32) v ∙ code,
  λ e. finer-zero (decode binary32 x) ∙ ap (λ (y : ℕ). is_minus_zero (decode binary32 y)) e ∙ shown,
)
  where
    apart : nan ≡ finite true 0 → ⊥
    apart e = true≢false (sym (ap is_minus_zero e))

    code : encode binary32 (finite true 0) ≡ 0x8000_0000
    code = refl

    shown : is_minus_zero (decode binary32 0x8000_0000) ≡ true
    shown = refl

pub product-minus-zero : ProductMinusZero
unfolding times
product-minus-zero x y s t a b e f = ap₂ (λ (v w : Value). is_minus_zero (times v w)) e f ∙ ap (λ (c : Bool). unlike s t && c) (no-product a b)

-- ---- columns
pub column-sign-is : ColumnSignIs
column-sign-is xs h f =
    let e = (exact-column xs h f).4 in
    ((λ z. column-sign-zero xs (sym e ∙ z), λ m. e ∙ all-minus-zero-sign xs m), le_trans (le_of_eq e) (column-sign-le xs))

-- terms of -0 leave the number
no-sum : (xs : List Term) → AllMinusZero xs → column_sum xs ≡ pos 0
unfolding column_sum AllMinusZero
no-sum [] m = refl
no-sum (x ∷ xs) m = ap₂ ◌+ℤ◌ (minus-zero-whole x (minus-zero-sign x m.0)) (no-sum xs m.1)

pub column-minus-zero : ColumnMinusZero
column-minus-zero xs h f =
    let c = exact-column xs h f in
    let s = (column-sign-is xs h f).0 in
    let z : AllMinusZero xs → number (column zeros xs) ≡ pos 0 = λ (m : AllMinusZero xs). c.2 ∙ no-sum xs m in (
      (λ k. (le_trans k.2 (le_of_eq c.3), s.0 k.1), λ k. (z k.1, s.1 k.1, le_trans k.0 (le_of_eq (sym c.3)))),
      λ l m. (read-zero (column zeros xs) c.5 (z m)).0 (le_trans l (le_of_eq (sym c.3))) (s.1 m),
    )

-- ---- by computation
pub sign-landmarks : SignLandmarks
unfolding
    adding after_adding joining after_joining carrying after_carrying reading fit integer natural words_of_integer words_of_natural
    decode unsigned magnitude fields times finer encode bits size pair_of keep last_place
sign-landmarks = (refl, refl, refl, refl, refl, refl, refl, refl, refl, refl, refl, refl, refl, refl, refl, refl, refl)
