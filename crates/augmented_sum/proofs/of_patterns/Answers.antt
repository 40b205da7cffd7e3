use mathlib.Core.Path.{◌≡◌, refl, sym, ap, ap₂, ◌∙◌}
use mathlib.Core.Bool.{Bool, true, false, cond, true≢false}
use mathlib.Core.List.{[], ◌∷◌}
use Prim.Native.Nat.{ℕ, ◌%◌, ◌^◌, ◌<◌, ◌≤◌}
use lib.Dec.{ltb}
use borrow.Author.Tests.{lt-ltb, le-ltb, ltb-true}
use native.Mathlib.Decide.{dec_le}
use native.Mathlib.Omega.{arith}
use native.Mathlib.Nat.{lt_of_le_of_lt, le_of_lt}
use Rattle.rounding_spec.specs.Format.{binary32}
use Rattle.rounding_spec.specs.Value.{Value, decode, is_nan, is_finite, nan_of}
use Rattle.rounding_spec.proofs.NaN.{nan_swap}
use Rattle.rounding_spec.specs.declared.Number.{Number}
use Rattle.pattern_spec.specs.declared.Class.{Class}
use Rattle.pattern_spec.specs.declared.Class.TheVariants.{Finite, Infinite, NotANumber}
use Rattle.pattern_spec.specs.Exact.{finer}
use Rattle.pattern_spec.specs.Classes.{class_of, value_of}
use Rattle.pattern_spec.specs.Inner.{Descending, larger, smaller}
use Rattle.pattern_spec.proofs.Classified.{chosen-descending}
use Rattle.pattern_spec.proofs.Shown.{finite-is}
use Rattle.pattern_spec.proofs.Exacts.{ordered-sum}
use Rattle.binary32_spec.specs.Steps.{result}
use Rattle.binary32_spec.proofs.Result.{result-same}
use Rattle.augmented_spec.specs.Pairs.{pair_of, exact_sum}
use Rattle.augmented_spec.specs.Inner.{both, patterns_of}
use Rattle.augmented_spec.proofs.Unrounded.{finite-class, special-class, first-special}
use Rattle.augmented_sum.proofs.of_patterns.Goals as goal

module _ (x y p q : ℕ) (larger-is : p ≡ larger x y) (smaller-is : q ≡ smaller x y) where
  same_sum : exact_sum binary32 p q ≡ exact_sum binary32 x y
  same_sum = ap₂ (exact_sum binary32) larger-is smaller-is ∙ ap (finer binary32) (sym (ordered-sum x y))

  special-sum : is_finite (decode binary32 p) ≡ false → is_finite (exact_sum binary32 x y) ≡ false
  special-sum h = sym (ap is_finite same_sum) ∙ first-special p q h

  -- where the larger one is no NaN, the order does not matter
  same-nan : is_nan (decode binary32 p) ≡ false → nan_of binary32 (p ∷ q ∷ []) ≡ nan_of binary32 (x ∷ y ∷ [])
  same-nan = rw (larger-is, smaller-is) (by (ltb (x % 2 ^ 31) (y % 2 ^ 31)))
    where
      by : (b : Bool) → is_nan (decode binary32 (cond b y x)) ≡ false → nan_of binary32 (cond b y x ∷ cond b x y ∷ []) ≡ nan_of binary32 (x ∷ y ∷ [])
      by true n = nan_swap binary32 y x n
      by false n = refl

  -- the halves of the operands in order are those of the operands
  same-halves : is_nan (decode binary32 p) ≡ false → patterns_of (p ∷ q ∷ []) (pair_of binary32 (exact_sum binary32 p q)) ≡ patterns_of (x ∷ y ∷ []) (pair_of binary32 (exact_sum binary32 x y))
  same-halves n =
      ap (λ (v : Value). patterns_of (p ∷ q ∷ []) (pair_of binary32 v)) same_sum
      ∙ ap₂ both (same (pair_of binary32 (exact_sum binary32 x y)).first) (same (pair_of binary32 (exact_sum binary32 x y)).second)
    where
      same : (v : Value) → result binary32 (p ∷ q ∷ []) v ≡ result binary32 (x ∷ y ∷ []) v
      same = result-same binary32 (p ∷ q ∷ []) (x ∷ y ∷ []) (same-nan n)

  smaller-finite : is_finite (decode binary32 p) ≡ true → is_finite (decode binary32 q) ≡ true
  smaller-finite h = sym (finite-is q) ∙ lt-ltb (q % 2 ^ 31) 0x7f80_0000 (lt_of_le_of_lt descending (ltb-true (p % 2 ^ 31) 0x7f80_0000 (finite-is p ∙ h)))
    where
      descending : q % 2 ^ 31 ≤ p % 2 ^ 31
      descending = rw (larger-is, smaller-is) (elim (dec_le (y % 2 ^ 31) (x % 2 ^ 31)) [
        | yes h ↦ rw (le-ltb (x % 2 ^ 31) (y % 2 ^ 31) h) h
        | no h ↦ let l : x % 2 ^ 31 < y % 2 ^ 31 = omega arith in rw (lt-ltb (x % 2 ^ 31) (y % 2 ^ 31) l) (le_of_lt l)
      ])

no-number : (q : ℕ) (k : Class) → k ≡ class_of q → ((n : Number) → k ≡ Finite n → ⊥) → is_finite (decode binary32 q) ≡ false
unfolding value_of
no-number q (Finite n) e h = absurd (h n refl)
no-number q (Infinite s) e h = special-class q (Infinite s) e refl
no-number q NotANumber e h = special-class q NotANumber e refl

pub special-requires : goal.special-requires
special-requires c =
    special-sum c.args.x c.args.y _ _ c.larger-p.ensures c.smaller-q.ensures (no-number _ _ c.classify.ensures c.in_default.not-Finite)

pub unreachable-requires : goal.unreachable-requires
unreachable-requires c =
    let o = finite-class _ _ _ c.classify.ensures c.in-Finite.is in
    let f = smaller-finite c.args.x c.args.y _ _ c.larger-p.ensures c.smaller-q.ensures (ap is_finite o.1) in
    true≢false (sym f ∙ no-number _ _ c.classify-2.ensures c.in_default-classify.not-Finite)

pub finite_plus-requires : goal.finite_plus-requires
finite_plus-requires c =
    let o = finite-class _ _ _ c.classify.ensures c.in-Finite.is in let r = finite-class _ _ _ c.classify-2.ensures c.in-Finite-classify.is in
    let order : Descending (class_of c.larger-p.result) (class_of c.smaller-q.result) =
    rw (c.larger-p.ensures, c.smaller-q.ensures) (chosen-descending c.args.x c.args.y) in record {
      operand = o.0;
      value_of_p = o.1;
      operand_2 = r.0;
      value_of_q = r.1;
      below = rw (sym c.classify.ensures ∙ c.in-Finite.is, sym c.classify-2.ensures ∙ c.in-Finite-classify.is) at order;
    }

pub returns : goal.returns
returns c =
    let o = finite-class _ _ _ c.classify.ensures c.in-Finite.is in
    c.finite_plus.ensures ∙ same-halves c.args.x c.args.y _ _ c.larger-p.ensures c.smaller-q.ensures (ap is_nan o.1)
