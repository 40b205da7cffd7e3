-- A line's first three bytes, as std compares them.
use Rattle.std.proofs.Common.{◌≡◌, refl, sym, ℕ, ◌≤◌, Bool, true, false, List, [], ◌∷◌, length, arith}
use mathlib.Core.Bool.{◌&&◌}
use borrow.Author.Tests.{eqb-true, eqb-false}
use lib.Dec.{eqb}
use Rattle.std.specs.List.{starts_with}
use Rattle.question_spec.specs.Questions.{starts}

either-way : (x y : ℕ) → eqb x y ≡ eqb y x
either-way x y = by (eqb x y) (eqb y x) refl refl
  where
    by : (a b : Bool) → eqb x y ≡ a → eqb y x ≡ b → a ≡ b
    by true true p q = refl
    by true false p q = absurd (eqb-false y x q (sym (eqb-true x y p)))
    by false true p q = absurd (eqb-false x y p (sym (eqb-true y x q)))
    by false false p q = refl

and-true : (a : Bool) → (a && true) ≡ a
and-true true = refl
and-true false = refl

pub starts-is : (s : List ℕ) (a b d : ℕ) (r : Bool) → 3 ≤ length s → r ≡ starts_with eqb s (a ∷ b ∷ d ∷ []) → starts s (a ∷ b ∷ d ∷ []) ≡ r
starts-is [] a b d r h e = absurd (omega arith)
starts-is (x ∷ []) a b d r h e = absurd (omega arith)
starts-is (x ∷ y ∷ []) a b d r h e = absurd (omega arith)
starts-is (x ∷ y ∷ z ∷ rest) a b d r h e = rw (either-way x a, either-way y b, either-way z d, e, and-true)
