-- Patterns and products as terms: their exact values.
use mathlib.Core.Path.{◌≡◌, refl, sym, ap, ◌∙◌}
use mathlib.Core.Bool.{Bool, true, false, and-true}
use mathlib.Core.List.{List}
use Prim.Native.Nat.{ℕ, ◌+◌, ◌*◌, ◌^◌}
use native.Mathlib.Nat.{mul_assoc}
use lib.Pow.{pow-add}
use Rattle.rounding_spec.specs.Format.{binary32}
use Rattle.rounding_spec.specs.Value.{Value, nan, infinite, finite, fields, magnitude, unsigned, decode, is_finite}
use Rattle.pattern_spec.specs.Answer.{Answer}
use Rattle.pattern_spec.specs.declared.Class.{Class}
use Rattle.pattern_spec.specs.Exact.{times, finer}
use Rattle.pattern_spec.specs.Classes.{class_of, value_of}
use Rattle.pattern_spec.proofs.Classified.{class-value}
use Rattle.accumulator_spec.specs.Totals.{of_pattern, of_product, finite_operands, exact_term, adding, after_adding, Adds}

-- a pattern counts u
module _ (x : ℕ) (c : Class) (is : c ≡ class_of x) where
  pub pattern-value : exact_term (of_pattern x) ≡ finer binary32 (value_of c)
  pattern-value = ap (finer binary32) (sym (class-value x c is))

pub finer-digits : (s : Bool) (m e : ℕ) → finer binary32 (finite s (m * 2 ^ e)) ≡ finite s (m * 2 ^ (e + 149))
unfolding finer
finer-digits s m e = ap (finite s) (mul_assoc m (2 ^ e) (2 ^ 149) ∙ ap (λ (y : ℕ). m * y) (sym (pow-add 2 e 149)))

-- a pattern is the same term as its product with 1
one_value : (v : Value) → times v (finite false (2 ^ 149)) ≡ finer binary32 v
unfolding times finer
one_value nan = refl
one_value (infinite true) = refl
one_value (infinite false) = refl
one_value (finite true a) = refl
one_value (finite false a) = refl

pub as-product : (t : List ℕ) (x : ℕ) (a : Answer (Unit {0})) (after : List ℕ) → Adds t (of_product x 0x3f80_0000) a after → Adds t (of_pattern x) a after
unfolding adding after_adding decode unsigned magnitude fields
as-product t x a after h =
    let f : finite_operands (of_product x 0x3f80_0000) ≡ finite_operands (of_pattern x) = and-true (is_finite (decode binary32 x)) in
    let v : exact_term (of_product x 0x3f80_0000) ≡ exact_term (of_pattern x) = one_value (decode binary32 x) in
    rw (f, v) at h
