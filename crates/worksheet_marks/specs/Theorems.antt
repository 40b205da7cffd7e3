-- Which lines of a sheet lose nothing. A table for each kind of question says of its sheet's lines (R5) whether a mark (R2.8) is 0, 1 or 2;
-- where both 0 and 1 occur, by a test on the sheet's own results, or on its operands. `All`, at the end, lists the statements.
--
-- The tables cover every question, as `EverySum` and `EveryProduct` say. Of a sum, or of a difference, which is the sum of x and the
-- flipped y (R5.9): where a is finite, `FiniteSum`; where it is not, `OverflowingSum` if both operands are finite, and else `SpecialSum`.
-- Of a product: where a is finite, `ZeroProduct`, `TinyProduct`, `MiddleProduct` or `OtherProduct`, by its magnitude; where it is not,
-- `OverflowingProduct` if both operands are finite, and else `SpecialProduct`. (A NaN a needs an infinite or NaN operand.) They leave
-- three lines open: z = ψ·a, of which `PsiMark` tells, and y' = ½·y and h = ½·x where another operand is infinite, of which `HalfMark`
-- tells.
use Rattle.std.specs.Prelude.{◌≡◌, ◌⊎◌, Bool, true, false, cond, ◌||◌, List, [], ◌∷◌, ◌++◌, length, replicate, ℕ, ◌+◌, ◌%◌, ◌^◌, ◌≤◌, ◌<◌}
use Rattle.rounding_spec.specs.Value.{Value, nan, infinite, finite, is_finite, is_infinite}
use Rattle.binary32_spec.specs.Steps.{add_step, mul_step}
use Rattle.binary32_spec.specs.Marks.{mul_mark}
use Rattle.pattern_spec.specs.Classes.{both_finite}
use Rattle.augmented_spec.specs.declared.Operation.TheVariants.{Sum as sum, Difference as difference, Product as product}
use Rattle.worksheet_spec.specs.Constants.{psi, half}
use Rattle.worksheet_spec.specs.Lines.{Line, value, minus, equal, is_zero_pattern, marks}
use Rattle.worksheet_spec.specs.declared.Branch.{Branch}
use Rattle.worksheet_spec.specs.declared.Branch.TheVariants.{NotANumber as when_nan, Infinite as when_infinite, Zero as when_zero}
use Rattle.worksheet_spec.specs.declared.Branch.TheVariants.{Tiny as when_tiny, Middle as when_middle, Other as otherwise}
use Rattle.worksheet_spec.specs.Sheets.{branch_of, sheet_of}
use Rattle.worksheet_marks.specs.Tables.{Entry, any, exact, rounded, special, exact_where, EntryHolds, MarkTable, WholeTable, result_at}

-- ---- sums. Above an entry stands the name that the rules give its line, and above the end the lines that can follow, which have mark 0.
-- of all sums, and of all differences, whose y is flipped first: what is said of the two operands and of the sheet's lines
abbrev pub OfSums : (ℕ → ℕ → List Line → Type 0) → Type 0
OfSums Says =
    ((x y : ℕ) → Says x y (sheet_of sum x y).lines) × ((x y : ℕ) → Says x (minus y) (sheet_of difference x y).lines)

-- a is finite (R5.10): it loses nothing exactly where b is zero
abbrev pub FiniteSumTable : List Line → Type 0
FiniteSumTable ls =
    let b = result_at 2 ls in
    --         a                              v       b       z     d       e       zero finish
    MarkTable (exact_where (is_zero_pattern b) ∷ exact ∷ exact ∷ any ∷ exact ∷ exact ∷ []) ls

abbrev pub FiniteSum : Type 0
FiniteSum = OfSums (λ (x y : ℕ) (ls : List Line). is_finite (value (add_step x y)) ≡ true → FiniteSumTable ls)

-- finite operands, and a overflows (R5.11): the next five lines are of infinities and NaN. Of those with half the operands a' alone can
-- lose something, exactly where b' is not zero.
abbrev pub OverflowTable : List Line → Type 0
OverflowTable ls =
    let b' = result_at 10 ls in
    --         a         v         b         z         d         e
    MarkTable (rounded ∷ special ∷ special ∷ special ∷ special ∷ special
    -- x'     y'      a'                              v'      b'      the edge
    ∷ exact ∷ exact ∷ exact_where (is_zero_pattern b') ∷ exact ∷ exact ∷ []) ls

abbrev pub OverflowingSum : Type 0
OverflowingSum =
    OfSums (λ (x y : ℕ) (ls : List Line). both_finite x y ≡ true → is_infinite (value (add_step x y)) ≡ true → OverflowTable ls)

-- an operand is infinite or NaN: a is NaN, and no line follows (R5.23), or infinite, and then y' alone may be of a number, and the edge has
-- no lines
abbrev pub SpecialSumTable : Value → List Line → Type 0
SpecialSumTable nan ls = marks ls ≡ 2 ∷ []
SpecialSumTable (finite s m) ls = ⊥
SpecialSumTable (infinite s) ls =
    --          a         v         b         z         d         e         x'        y'    a'        v'        b'
    WholeTable (special ∷ special ∷ special ∷ special ∷ special ∷ special ∷ special ∷ any ∷ special ∷ special ∷ special ∷ []) ls

abbrev pub SpecialSum : Type 0
SpecialSum = OfSums (λ (x y : ℕ) (ls : List Line). both_finite x y ≡ false → SpecialSumTable (value (add_step x y)) ls)

-- ---- products whose a is finite, by its magnitude, which counts u: 2^-125 is 2 ^ 24 of them, and 2^-102 is 2 ^ 47
-- a is zero (R5.14), the only line: it loses nothing exactly where a factor is zero
abbrev pub ZeroProduct : Type 0
ZeroProduct =
    (x y : ℕ) (s : Bool) → value (mul_step x y) ≡ finite s 0
    → marks (sheet_of product x y).lines ≡ cond (is_zero_pattern x || is_zero_pattern y) 0 1 ∷ []

-- 0 < |a| < 2^-125 (R5.15, R5.16): a loses nothing exactly where z is zero, t1 where t2 is, and z where w = t2
abbrev pub TinyTable : List Line → Type 0
TinyTable ls =
    let t2 = result_at 4 ls in
    let z = result_at 7 ls in
    let w = result_at 8 ls in
    --         a                              m       n       t1
    MarkTable (exact_where (is_zero_pattern z) ∷ exact ∷ exact ∷ exact_where (is_zero_pattern t2)
    -- t2     g       t3      z                         w       a lowered, (+0)·first
    ∷ exact ∷ exact ∷ exact ∷ exact_where (equal w t2) ∷ exact ∷ []) ls

abbrev pub TinyProduct : Type 0
TinyProduct =
    (x y : ℕ) (s : Bool) (m : ℕ) → value (mul_step x y) ≡ finite s m → 0 < m → m < 2 ^ 24 → TinyTable (sheet_of product x y).lines

-- 2^-125 ≤ |a| ≤ 2^-102 (R5.17, R5.18): a and a' lose nothing exactly where b' is zero, and β where r is
abbrev pub MiddleTable : List Line → Type 0
MiddleTable ls =
    let b' = result_at 3 ls in
    let r = result_at 10 ls in
    --         a                               m       a'                              b'      z     d       e
    MarkTable (exact_where (is_zero_pattern b') ∷ exact ∷ exact_where (is_zero_pattern b') ∷ exact ∷ any ∷ exact ∷ exact
    -- first  β                              g       r       β lowered, zero finish
    ∷ exact ∷ exact_where (is_zero_pattern r) ∷ exact ∷ exact ∷ []) ls

abbrev pub MiddleProduct : Type 0
MiddleProduct =
    (x y : ℕ) (s : Bool) (m : ℕ) → value (mul_step x y) ≡ finite s m → 2 ^ 24 ≤ m → m ≤ 2 ^ 47 → MiddleTable (sheet_of product x y).lines

-- 2^-102 < |a| (R5.19): a loses nothing exactly where b is zero
abbrev pub OtherTable : List Line → Type 0
OtherTable ls =
    let b = result_at 1 ls in
    --         a                              b       z     d       e       zero finish
    MarkTable (exact_where (is_zero_pattern b) ∷ exact ∷ any ∷ exact ∷ exact ∷ []) ls

abbrev pub OtherProduct : Type 0
OtherProduct =
    (x y : ℕ) (s : Bool) (m : ℕ) → value (mul_step x y) ≡ finite s m → 2 ^ 47 < m → OtherTable (sheet_of product x y).lines

-- ---- products whose a is not finite
-- finite operands, and a overflows (R5.13): a' is finite, and loses nothing exactly where b' is zero, or overflows too
abbrev pub OverflowProductTable : List Line → Type 0
OverflowProductTable ls =
    let b' = result_at 3 ls in
    let fine = is_finite (value (result_at 2 ls)) in
    --         a         h       a'                                                  b'                        the edge
    MarkTable (rounded ∷ exact ∷ cond fine (exact_where (is_zero_pattern b')) rounded ∷ cond fine exact special ∷ []) ls

abbrev pub OverflowingProduct : Type 0
OverflowingProduct =
    (x y : ℕ) → both_finite x y ≡ true → is_infinite (value (mul_step x y)) ≡ true → OverflowProductTable (sheet_of product x y).lines

-- an operand is infinite or NaN: a is NaN, and no line follows (R5.23), or infinite, and then h alone may be of a number, and the edge has
-- no lines
abbrev pub SpecialProductTable : Value → List Line → Type 0
SpecialProductTable nan ls = marks ls ≡ 2 ∷ []
SpecialProductTable (finite s m) ls = ⊥
SpecialProductTable (infinite s) ls =
    --          a         h     a'        b'
    WholeTable (special ∷ any ∷ special ∷ special ∷ []) ls

abbrev pub SpecialProduct : Type 0
SpecialProduct = (x y : ℕ) → both_finite x y ≡ false → SpecialProductTable (value (mul_step x y)) (sheet_of product x y).lines

-- ---- every question has its table: by whether a is finite and whether the operands are, and for a product by its branch (R5.12)
abbrev pub SumTable : Bool → Bool → Value → List Line → Type 0
SumTable true operands a ls = FiniteSumTable ls
SumTable false true a ls = OverflowTable ls
SumTable false false a ls = SpecialSumTable a ls

abbrev pub EverySum : Type 0
EverySum =
    OfSums (λ (x y : ℕ) (ls : List Line). let a = value (add_step x y) in SumTable (is_finite a) (both_finite x y) a ls)

abbrev pub ProductTable : Branch → Bool → Value → Bool → List Line → Type 0
ProductTable when_nan operands a nought ls = SpecialProductTable nan ls
ProductTable when_infinite true a nought ls = OverflowProductTable ls
ProductTable when_infinite false a nought ls = SpecialProductTable a ls
ProductTable when_zero operands a nought ls = marks ls ≡ cond nought 0 1 ∷ []
ProductTable when_tiny operands a nought ls = TinyTable ls
ProductTable when_middle operands a nought ls = MiddleTable ls
ProductTable otherwise operands a nought ls = OtherTable ls

abbrev pub EveryProduct : Type 0
EveryProduct =
    (x y : ℕ) → let a = value (mul_step x y) in
    ProductTable (branch_of a) (both_finite x y) a (is_zero_pattern x || is_zero_pattern y) (sheet_of product x y).lines

-- ---- the product by ψ (R5.5), of any finite a: it loses nothing exactly where a is zero, or a power of two from 2^-125 on
abbrev pub PsiMark : Type 0
PsiMark =
    (a : ℕ) (s : Bool) (A : ℕ) → value a ≡ finite s A
    → (mul_mark psi a ≡ 0 → (A ≡ 0) ⊎ ((k : ℕ) × (A ≡ 2 ^ (24 + k))))
    × ((A ≡ 0) ⊎ ((k : ℕ) × (A ≡ 2 ^ (24 + k))) → mul_mark psi a ≡ 0)

-- ---- the product by ½ (R5.11, R5.13), of any finite a: it loses something exactly where a is an odd number of u
abbrev pub HalfMark : Type 0
HalfMark = (a : ℕ) (s : Bool) (A : ℕ) → value a ≡ finite s A → mul_mark half a ≡ A % 2

-- ---- the marks of one sheet, the one of R9.11: a and z alone are rounded
abbrev pub WorkedMarks : Type 0
WorkedMarks = marks (sheet_of sum 0x3f80_0001 0x3380_0000).lines ≡ 1 ∷ 0 ∷ 0 ∷ 1 ∷ 0 ∷ 0 ∷ []

-- ---- what an entry of a table says of its line
abbrev pub EntryMeans : Type 0
EntryMeans =
    (l : Line)
    → (EntryHolds exact l → l.mark ≡ 0) × (EntryHolds rounded l → l.mark ≡ 1) × (EntryHolds special l → l.mark ≡ 2)
    × ((test : Bool) → EntryHolds (exact_where test) l → (test ≡ true → l.mark ≡ 0) × (test ≡ false → l.mark ≡ 1))

-- what a table says: there is a line for each entry, which holds of it; lines behind the last entry have the mark 0, and a whole table has
-- none
abbrev pub TableMeans : Type 0
TableMeans =
    ((es : List Entry) (ls : List Line) → MarkTable es ls → length es ≤ length ls)
    × ((es : List Entry) (e : Entry) (more : List Entry) (earlier : List Line) (l : Line) (later : List Line)
    → length es ≡ length earlier → MarkTable (es ++ (e ∷ more)) (earlier ++ (l ∷ later)) → EntryHolds e l × MarkTable more later)
    × ((ls : List Line) → MarkTable [] ls → marks ls ≡ replicate (length ls) 0)
    × ((es : List Entry) (ls : List Line) → WholeTable es ls → MarkTable es ls × (length ls ≡ length es))

-- which result a test looks at
abbrev pub ResultAtIs : Type 0
ResultAtIs = (earlier : List Line) (l : Line) (later : List Line) → result_at (length earlier) (earlier ++ (l ∷ later)) ≡ l.result

-- ---- all of them
abbrev pub All : Type 0
All =
    FiniteSum × OverflowingSum × SpecialSum × ZeroProduct × TinyProduct × MiddleProduct × OtherProduct × OverflowingProduct × SpecialProduct
    × EverySum × EveryProduct × PsiMark × HalfMark × WorkedMarks × EntryMeans × TableMeans × ResultAtIs
