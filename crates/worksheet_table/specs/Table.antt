-- The rules of the step sheet (R5) as a table: for each way through them its tests, its lines and its foot.
-- The comment behind a line has the line's number and the name that R5 gives its result; a list of lines goes by the numbers of the whole
-- sheet. In the names of ways, Changed is recomposition's (z, -b) and Kept its (a, b), and of a tiny product
-- an a that is not lowered; Zero is zero finish, but for `product_zero`, where a is zero; Lowered is R5.8.
use Rattle.std.specs.Prelude.{ℕ, cond, List, [], ◌∷◌, ◌++◌}
use Rattle.rounding_spec.specs.Format.{binary32}
use Rattle.rounding_spec.specs.Value.{decode}
use Rattle.pattern_spec.specs.Classes.{flip}
use Rattle.augmented_spec.specs.declared.Operation.{Operation}
use Rattle.augmented_spec.specs.declared.Operation.TheVariants.{Sum as sum, Difference as difference, Product as product}
use Rattle.pattern_spec.specs.Comparisons.{less_magnitude}
use Rattle.worksheet_spec.specs.Lines.{Sheet}
use Rattle.worksheet_table.specs.Programs.{ψ, +2, -2, ½, κ, 2^24, 2^48, 2^-24, +0, u, 2^127, 2^102, 2^-102, 2^-125, 2^-126}
use Rattle.worksheet_table.specs.Programs.{X, Y, line, minus, ◌with_sign_of◌, Instruction, ◌⊕◌, ◌⊖◌, ◌·◌, ◌⊗◌, fuse}
use Rattle.worksheet_table.specs.Programs.{Test, ◌equals◌, ◌below◌, ◌up_to◌, is_zero, is_infinite, is_nan, is_not, ◌and◌}
use Rattle.worksheet_table.specs.Programs.{Way, way, sheet_by}

-- ---- sums: X and Y are the operands as they stand after the exchange (R5.9)
-- the sum and its error (R5.10), and recomposition (R5.5)
abbrev pub sum_lines : List Instruction
sum_lines =
    X ⊕ Y ∷  -- 1 a
    line 1 ⊖ X ∷  -- 2 v
    Y ⊖ line 2 ∷  -- 3 b
    ψ ⊗ line 1 ∷  -- 4 z
    line 4 ⊖ line 1 ∷  -- 5 d
    +2 ⊗ line 3 ∷  -- 6 e
    []

-- with half the operands (R5.11)
abbrev pub halved_lines : List Instruction
halved_lines =
    ½ ⊗ X ∷  -- 7 x'
    ½ ⊗ Y ∷  -- 8 y'
    line 7 ⊕ line 8 ∷  -- 9 a'
    line 9 ⊖ line 7 ∷  -- 10 v'
    line 8 ⊖ line 10 ∷  -- 11 b'
    []

-- the edge (R5.7), of a' and b'
abbrev pub at_sum_edge : Test
at_sum_edge = line 9 equals 2^127 with_sign_of line 9 and line 11 equals minus (2^102 with_sign_of line 9)

-- a is NaN: its line is the only one, and both halves are a (R5.23)
abbrev pub sum_nan : Way
sum_nan = way (is_nan (line 1) ∷ []) (X ⊕ Y ∷ []) (line 1) (line 1)

-- Recomposition gives (z, -b) where e = d (R5.5). No way has a changed pair, a second that is not zero and an infinite a: that this does
-- not occur, `OneWay` says.
abbrev pub sum_changed : Way
sum_changed =
    way (line 6 equals line 5 ∷ is_not (is_zero (minus (line 3))) ∷ is_not (is_infinite (line 1)) ∷ []) sum_lines (line 4) (minus (line 3))

-- zero finish (R5.6)
abbrev pub sum_changed_zero : Way
sum_changed_zero = way (line 6 equals line 5 ∷ is_zero (minus (line 3)) ∷ []) (sum_lines ++ +0 ⊗ line 4 ∷ []) (line 4) (line 7)

-- otherwise (a, b); a NaN passes all but the last test
abbrev pub sum_kept : Way
sum_kept =
    way (is_not (line 6 equals line 5) ∷ is_not (is_zero (line 3)) ∷ is_not (is_infinite (line 1)) ∷ is_not (is_nan (line 1)) ∷ [])
    sum_lines (line 1) (line 3)

abbrev pub sum_kept_zero : Way
sum_kept_zero = way (is_not (line 6 equals line 5) ∷ is_zero (line 3) ∷ []) (sum_lines ++ +0 ⊗ line 1 ∷ []) (line 1) (line 7)

-- an infinite sum, not at the edge: both halves are a
abbrev pub sum_infinite : Way
sum_infinite =
    way (is_not (line 6 equals line 5) ∷ is_not (is_zero (line 3)) ∷ is_infinite (line 1) ∷ is_not at_sum_edge ∷ [])
    (sum_lines ++ halved_lines) (line 1) (line 1)

-- at the edge: κ·a' and (-2)·b'
abbrev pub sum_edge : Way
sum_edge =
    way (is_not (line 6 equals line 5) ∷ is_not (is_zero (line 3)) ∷ is_infinite (line 1) ∷ at_sum_edge ∷ [])
    (sum_lines ++ halved_lines ++ κ ⊗ line 9 ∷ -2 ⊗ line 11 ∷ []) (line 12) (line 13)

abbrev pub sum_ways : List Way
sum_ways = sum_nan ∷ sum_changed ∷ sum_changed_zero ∷ sum_kept ∷ sum_kept_zero ∷ sum_infinite ∷ sum_edge ∷ []

-- ---- products: line 1 is a (R5.12)
-- a is NaN (R5.23)
abbrev pub product_nan : Way
product_nan = way (is_nan (line 1) ∷ []) (X · Y ∷ []) (line 1) (line 1)

-- a is infinite (R5.13)
abbrev pub infinite_lines : List Instruction
infinite_lines =
    X · Y ∷  -- 1 a
    ½ ⊗ X ∷  -- 2 h
    line 2 · Y ∷  -- 3 a'
    fuse (line 2) Y (minus (line 3)) ∷  -- 4 b'
    []

abbrev pub at_product_edge : Test
at_product_edge = line 3 equals 2^127 with_sign_of line 3 and line 4 equals minus (2^102 with_sign_of line 3)

abbrev pub product_infinite : Way
product_infinite = way (is_infinite (line 1) ∷ is_not at_product_edge ∷ []) infinite_lines (line 1) (line 1)

abbrev pub product_edge : Way
product_edge = way (is_infinite (line 1) ∷ at_product_edge ∷ []) (infinite_lines ++ κ ⊗ line 3 ∷ -2 ⊗ line 4 ∷ []) (line 5) (line 6)

-- a is zero (R5.14)
abbrev pub product_zero : Way
product_zero = way (is_zero (line 1) ∷ []) (X · Y ∷ []) (line 1) (line 1)

-- a tiny product (R5.15)
abbrev pub tiny : List Test
tiny = is_not (is_zero (line 1)) ∷ line 1 below 2^-125 ∷ []

abbrev pub tiny_lines : List Instruction
tiny_lines =
    X · Y ∷  -- 1 a
    2^24 ⊗ X ∷  -- 2 m
    2^24 ⊗ Y ∷  -- 3 n
    line 2 · line 3 ∷  -- 4 t1
    fuse (line 2) (line 3) (minus (line 4)) ∷  -- 5 t2
    2^48 ⊗ line 1 ∷  -- 6 g
    line 4 ⊖ line 6 ∷  -- 7 t3
    line 5 ⊕ line 7 ∷  -- 8 z
    line 8 ⊖ line 7 ∷  -- 9 w
    []

-- where its first is lowered (R5.16)
abbrev pub at_tiny_tie : Test
at_tiny_tie = line 8 equals minus (2^-102 with_sign_of line 1) and line 9 equals line 5

abbrev pub tiny_lowered : Way
tiny_lowered = way (tiny ++ at_tiny_tie ∷ []) (tiny_lines ++ line 1 ⊖ u with_sign_of line 1 ∷ +0 ⊗ line 10 ∷ []) (line 10) (line 11)

abbrev pub tiny_kept : Way
tiny_kept = way (tiny ++ is_not at_tiny_tie ∷ []) (tiny_lines ++ +0 ⊗ line 1 ∷ []) (line 1) (line 10)

-- a middle product (R5.17), and recomposition
abbrev pub middle : List Test
middle = is_not (is_zero (line 1)) ∷ is_not (line 1 below 2^-125) ∷ line 1 up_to 2^-102 ∷ []

abbrev pub middle_lines : List Instruction
middle_lines =
    X · Y ∷  -- 1 a
    2^24 ⊗ X ∷  -- 2 m
    line 2 · Y ∷  -- 3 a'
    fuse (line 2) Y (minus (line 3)) ∷  -- 4 b'
    ψ ⊗ line 3 ∷  -- 5 z
    line 5 ⊖ line 3 ∷  -- 6 d
    +2 ⊗ line 4 ∷  -- 7 e
    []

-- scaled down where (A, B) is (z, -b')
abbrev pub changed_lines : List Instruction
changed_lines =
    2^-24 ⊗ line 5 ∷  -- 8 first
    2^-24 ⊗ minus (line 4) ∷  -- 9 β
    2^24 ⊗ line 9 ∷  -- 10 g
    line 10 ⊖ minus (line 4) ∷  -- 11 r
    []

-- and where it is (a', b')
abbrev pub kept_lines : List Instruction
kept_lines =
    2^-24 ⊗ line 3 ∷  -- 8 first
    2^-24 ⊗ line 4 ∷  -- 9 β
    2^24 ⊗ line 9 ∷  -- 10 g
    line 10 ⊖ line 4 ∷  -- 11 r
    []

-- where its second is lowered (R5.18)
abbrev pub at_rest_tie : Test
at_rest_tie = is_not (is_zero (line 9)) and line 11 equals 2^-126 with_sign_of line 9

-- where (A, B) is (z, -b') no second is lowered: `OneWay` says so
abbrev pub middle_changed : Way
middle_changed =
    way (middle ++ line 7 equals line 6 ∷ is_not at_rest_tie ∷ is_not (is_zero (line 9)) ∷ [])
    (middle_lines ++ changed_lines) (line 8) (line 9)

abbrev pub middle_changed_zero : Way
middle_changed_zero =
    way (middle ++ line 7 equals line 6 ∷ is_not at_rest_tie ∷ is_zero (line 9) ∷ [])
    (middle_lines ++ changed_lines ++ +0 ⊗ line 8 ∷ []) (line 8) (line 12)

abbrev pub middle_kept : Way
middle_kept =
    way (middle ++ is_not (line 7 equals line 6) ∷ is_not at_rest_tie ∷ is_not (is_zero (line 9)) ∷ [])
    (middle_lines ++ kept_lines) (line 8) (line 9)

abbrev pub middle_kept_zero : Way
middle_kept_zero =
    way (middle ++ is_not (line 7 equals line 6) ∷ is_not at_rest_tie ∷ is_zero (line 9) ∷ [])
    (middle_lines ++ kept_lines ++ +0 ⊗ line 8 ∷ []) (line 8) (line 12)

-- no way has a lowered second that is zero: `OneWay` says that there is none
abbrev pub middle_lowered : Way
middle_lowered =
    way (middle ++ is_not (line 7 equals line 6) ∷ at_rest_tie ∷ is_not (is_zero (line 12)) ∷ [])
    (middle_lines ++ kept_lines ++ line 9 ⊖ u with_sign_of line 9 ∷ []) (line 8) (line 12)

-- any other product (R5.19), and recomposition
abbrev pub other : List Test
other =
    is_not (is_nan (line 1)) ∷ is_not (is_infinite (line 1)) ∷ is_not (is_zero (line 1)) ∷ is_not (line 1 below 2^-125)
    ∷ is_not (line 1 up_to 2^-102) ∷ []

abbrev pub other_lines : List Instruction
other_lines =
    X · Y ∷  -- 1 a
    fuse X Y (minus (line 1)) ∷  -- 2 b
    ψ ⊗ line 1 ∷  -- 3 z
    line 3 ⊖ line 1 ∷  -- 4 d
    +2 ⊗ line 2 ∷  -- 5 e
    []

-- where recomposition gives (z, -b) second is not zero: `OneWay` says so
abbrev pub other_changed : Way
other_changed = way (other ++ line 5 equals line 4 ∷ is_not (is_zero (minus (line 2))) ∷ []) other_lines (line 3) (minus (line 2))

abbrev pub other_kept : Way
other_kept = way (other ++ is_not (line 5 equals line 4) ∷ is_not (is_zero (line 2)) ∷ []) other_lines (line 1) (line 2)

abbrev pub other_kept_zero : Way
other_kept_zero =
    way (other ++ is_not (line 5 equals line 4) ∷ is_zero (line 2) ∷ []) (other_lines ++ +0 ⊗ line 1 ∷ []) (line 1) (line 6)

abbrev pub product_ways : List Way
product_ways =
    product_nan ∷ product_infinite ∷ product_edge ∷ product_zero ∷ tiny_lowered ∷ tiny_kept
    ∷ middle_changed ∷ middle_changed_zero ∷ middle_kept ∷ middle_kept_zero ∷ middle_lowered
    ∷ other_changed ∷ other_kept ∷ other_kept_zero ∷ []

-- ---- the sheet of a question
-- x and y change places where |y| > |x| (R5.9)
unfoldable pub sum_by_table : ℕ → ℕ → Sheet
sum_by_table x y =
    cond (less_magnitude (decode binary32 x) (decode binary32 y)) (sheet_by sum_ways y x) (sheet_by sum_ways x y)

-- a difference is treated as the sum of x and the flipped y (R5.9)
unfoldable pub sheet_by_table : Operation → ℕ → ℕ → Sheet
unfolding sum_by_table
sheet_by_table sum x y = sum_by_table x y
sheet_by_table difference x y = sum_by_table x (flip binary32 y)
sheet_by_table product x y = sheet_by product_ways x y
