-- The choices of a sheet from what the code compares: an overflow, the edge, a tie of a tiny product, a tie of a rest.
use mathlib.Core.Path.{◌≡◌, refl, ap, ap₂, ◌∙◌}
use mathlib.Core.Bool.{Bool, true, false, not, cond, ◌&&◌}
use Prim.Native.Nat.{ℕ, ◌%◌, ◌^◌, ◌<◌}
use native.Mathlib.Decide.{dec_le}
use native.Mathlib.Omega.{arith}
use lib.Dec.{leb, eqb}
use borrow.Author.Tests.{le-leb, lt-leb}
use Rattle.rounding_spec.specs.Value.{is_infinite}
use Rattle.pattern_spec.proofs.Shown.{chosen-and}
use Rattle.worksheet_spec.specs.Constants.{two_to_127, two_to_102, two_to_minus_102, two_to_minus_126}
use Rattle.pattern_spec.specs.Classes.{copy_sign}
use Rattle.worksheet_spec.specs.Lines.{value, minus, equal, is_zero_pattern}
use Rattle.worksheet_spec.specs.Sheets.{at_edge, overflows, tiny_tie, rest_tie}
use Rattle.worksheet_spec.proofs.Patterns.{minus-width, sign-width}
use Rattle.worksheet_choices.proofs.Equality.{equal-one}

-- ---- constants with a sign
minus-below : (x : ℕ) → x < 2 ^ 32 → minus x % 2 ^ 31 ≡ x % 2 ^ 31
minus-below x h =
    elim (dec_le (2 ^ 31) x) [
      | yes g ↦ rw (le-leb (2 ^ 31) x g) (omega arith)
      | no g ↦ let k : x < 2 ^ 31 = omega arith in rw (lt-leb (2 ^ 31) x k) (omega arith)
    ]

sign_below : (c a : ℕ) → c < 2 ^ 31 → copy_sign c a % 2 ^ 31 ≡ c
sign_below c a h = by (leb (2 ^ 31) a)
  where
    by : (b : Bool) → cond b (minus c) c % 2 ^ 31 ≡ c
    by true = minus-below c (omega arith) ∙ omega arith
    by false = omega arith

-- a positive constant with a's sign, or with the other one, has one pattern
module _ (x a c : ℕ) (w : x < 2 ^ 32) (l : 0 < c) (h : c < 0x7f80_0000) where
  like-sign : eqb x (copy_sign c a) ≡ equal x (copy_sign c a)
  like-sign =
      let b = sign_below c a (omega arith) in
      equal-one x (copy_sign c a) w (sign-width a c (omega arith)) (omega arith) (omega arith)

  other_sign_lem : eqb x (minus (copy_sign c a)) ≡ equal x (minus (copy_sign c a))
  other_sign_lem =
      let width = sign-width a c (omega arith) in
      let b = minus-below (copy_sign c a) width ∙ sign_below c a (omega arith) in
      equal-one x (minus (copy_sign c a)) w (minus-width (copy_sign c a) width) (omega arith) (omega arith)

-- ---- `not .. &&`
unless : (a b : Bool) → cond a false b ≡ not a && b
unless true b = refl
unless false b = refl

pub overflow-is : (second a : ℕ) (p q : Bool) → p ≡ is_zero_pattern second → q ≡ is_infinite (value a) → cond p false q ≡ overflows second a
unfolding overflows
overflow-is second a p q d e = unless p q ∙ ap₂ (λ (b c : Bool). not b && c) d e

pub edge-is : (a b : ℕ) → a < 2 ^ 32 → b < 2 ^ 32 → (p q r : ℕ) → p ≡ copy_sign two_to_127 a → q ≡ copy_sign two_to_102 a → r ≡ minus q → cond (eqb a p) (eqb b r) false ≡ at_edge a b
unfolding at_edge
edge-is a b v w p q r d e f =
    chosen-and (eqb a p) (eqb b r)
    ∙ ap₂ ◌&&◌ (ap (eqb a) d ∙ like-sign a a two_to_127 v (omega arith) (omega arith)) (ap (eqb b) (f ∙ ap minus e) ∙ other_sign_lem b a two_to_102 w (omega arith) (omega arith))

pub tiny-tie-is : (a z w t2 : ℕ) → z < 2 ^ 32 → (p q : ℕ) (b : Bool) → p ≡ copy_sign two_to_minus_102 a → q ≡ minus p → b ≡ equal w t2 → cond (eqb z q) b false ≡ tiny_tie a z w t2
unfolding tiny_tie
tiny-tie-is a z w t2 v p q b d e f =
    chosen-and (eqb z q) b ∙ ap₂ ◌&&◌ (ap (eqb z) (e ∙ ap minus d) ∙ other_sign_lem z a two_to_minus_102 v (omega arith) (omega arith)) f

pub rest-tie-is : (β r : ℕ) → r < 2 ^ 32 → (p : ℕ) (b : Bool) → p ≡ copy_sign two_to_minus_126 β → b ≡ is_zero_pattern β → cond b false (eqb r p) ≡ rest_tie β r
unfolding rest_tie
rest-tie-is β r v p b d e =
    unless b (eqb r p) ∙ ap₂ (λ (c k : Bool). not c && k) e (ap (eqb r) d ∙ like-sign r β two_to_minus_126 v (omega arith) (omega arith))
