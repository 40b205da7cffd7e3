-- Totals and terms at landmarks, operands that are finite, values of terms, and the number that is read: what ties the definitions to
-- numbers.
use mathlib.Core.Path.{refl, sym, ap, ap₂, ◌∙◌}
use mathlib.Core.Bool.{◌&&◌}
use Prim.Native.Nat.{◌^◌}
use lib.IntN.{pos, negsuc}
use Rattle.rounding_spec.specs.Format.{binary32}
use Rattle.rounding_spec.specs.Value.{Value, fields, magnitude, unsigned, decode}
use Rattle.pattern_spec.specs.Exact.{whole, times, finer}
use Rattle.pattern_spec.proofs.Integers.{times-exact, int-scale}
use Rattle.pattern_spec.proofs.Shown.{finite-is}
use Rattle.accumulator_spec.specs.Words.{words_of_natural, words_of_integer}
use Rattle.accumulator_spec.specs.Theorems.{TotalLandmarks, TermLandmarks, FiniteOperandsAre, PatternTerm, ProductTerm, ExactBack}

pub total-landmarks : TotalLandmarks
unfolding words_of_natural words_of_integer
total-landmarks = (refl, refl, refl, refl)

pub term-landmarks : TermLandmarks
unfolding decode unsigned magnitude fields times finer
term-landmarks = (refl, refl, refl, refl, refl)

-- ---- which operands are finite, by the exponent field
pub finite-operands-are : FiniteOperandsAre
finite-operands-are x y = (sym (finite-is x), sym (ap₂ ◌&&◌ (finite-is x) (finite-is y)))

-- ---- values of terms
pub pattern-term : PatternTerm
unfolding finer
pattern-term x s a e = ap (λ (v : Value). whole (finer binary32 v)) e ∙ int-scale s a (2 ^ 149)

pub product_term : ProductTerm
unfolding times
product_term x y s t a b e f = ap₂ (λ (v w : Value). whole (times v w)) e f ∙ times-exact s a t b

pub exact-back : ExactBack
exact-back (pos n) = refl
exact-back (negsuc n) = refl
