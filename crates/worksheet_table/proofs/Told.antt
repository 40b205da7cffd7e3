-- What a way's tests tell, one equation each.
use Prim.Native.Nat.{ℕ}
use mathlib.Core.Path.{◌≡◌}
use mathlib.Core.Bool.{Bool, true, false}
use mathlib.Core.List.{List, [], ◌∷◌}
use borrow.Author.Tests.{not-true}
use Rattle.errorfree_spec.proofs.NoNumber.{both_of}
use Rattle.worksheet_table.specs.Programs.{Operand, Test, ◌equals◌, ◌below◌, ◌up_to◌, is_zero, is_infinite, is_nan, is_not, ◌and◌}
use Rattle.worksheet_table.specs.Programs.{Way, way, operand_pattern, lines_below, results_on, passes, all_pass, taken}

abbrev pub True : (Operand → ℕ) → Test → Type 0
True pattern (is_not t) = passes pattern t ≡ false
True pattern (o equals p) = passes pattern (o equals p) ≡ true
True pattern (o below c) = passes pattern (o below c) ≡ true
True pattern (o up_to c) = passes pattern (o up_to c) ≡ true
True pattern (is_zero o) = passes pattern (is_zero o) ≡ true
True pattern (is_infinite o) = passes pattern (is_infinite o) ≡ true
True pattern (is_nan o) = passes pattern (is_nan o) ≡ true
True pattern (s and t) = passes pattern (s and t) ≡ true

abbrev pub AllTrue : (Operand → ℕ) → List Test → Type 0
AllTrue pattern [] = Unit {0}
AllTrue pattern (t ∷ ts) = True pattern t × AllTrue pattern ts

abbrev pub Told : Way → ℕ → ℕ → Type 0
Told (way tests is first second) x y = AllTrue (operand_pattern x y (results_on (lines_below x y [] is))) tests

true_of : (pattern : Operand → ℕ) (t : Test) → passes pattern t ≡ true → True pattern t
unfolding passes
true_of pattern (is_not t) h = not-true (passes pattern t) h
true_of pattern (o equals p) h = h
true_of pattern (o below c) h = h
true_of pattern (o up_to c) h = h
true_of pattern (is_zero o) h = h
true_of pattern (is_infinite o) h = h
true_of pattern (is_nan o) h = h
true_of pattern (s and t) h = h

all_true : (pattern : Operand → ℕ) (ts : List Test) → all_pass pattern ts ≡ true → AllTrue pattern ts
unfolding all_pass
all_true pattern [] h = tt
all_true pattern (t ∷ ts) h = let k = both_of (passes pattern t) (all_pass pattern ts) h in (true_of pattern t k.0, all_true pattern ts k.1)

pub told : (w : Way) (x y : ℕ) → taken w x y ≡ true → Told w x y
unfolding taken
told (way tests is first second) x y h = all_true (operand_pattern x y (results_on (lines_below x y [] is))) tests h

-- a test on the lines of a way
abbrev pub asked : Way → ℕ → ℕ → Test → Bool
asked (way tests is first second) x y t = passes (operand_pattern x y (results_on (lines_below x y [] is))) t
