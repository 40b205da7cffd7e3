-- What is proved of the table. `All`, at the end, lists the statements, and `proofs/Theorems.antt` proves them.
use Rattle.std.specs.Prelude.{ℕ, ◌≡◌, Bool, true, false, not, ◌&&◌, List, [], ◌∷◌, ◌++◌}
use Rattle.rounding_spec.specs.Format.{binary32}
use Rattle.rounding_spec.specs.Value.{decode, is_nan}
use Rattle.binary32_spec.specs.Steps.{add_step, mul_step}
use Rattle.augmented_spec.specs.declared.Operation.{Operation}
use Rattle.augmented_spec.specs.declared.Operation.TheVariants.{Sum as sum, Product as product}
use Rattle.pattern_spec.specs.Comparisons.{less_magnitude}
use Rattle.worksheet_spec.specs.Sheets.{sheet_of}
use Rattle.worksheet_table.specs.Programs.{Way, taken, how_many_taken, sheet_along, all_well_made}
use Rattle.worksheet_table.specs.Table.{sum_nan, sum_ways, product_nan, product_ways, sheet_by_table}
use Rattle.worksheet_table.specs.Sampled.{Sample, sample, sum_samples, product_samples, SampledSheets, SampledMarks}

-- ---- both accounts of R5 agree, in lines and foot, on every question
abbrev pub Agree : Type 0
Agree = (o : Operation) (x y : ℕ) → sheet_of o x y ≡ sheet_by_table o x y

-- ---- row by row: where a way's tests pass (and, in a sum, no exchange is due), the sheet is what its program writes
abbrev pub Every : (Way → Type 0) → List Way → Type 0
Every P [] = Unit {0}
Every P (w ∷ ws) = P w × Every P ws

abbrev pub SumWritten : Way → Type 0
SumWritten w =
    (x y : ℕ) → less_magnitude (decode binary32 x) (decode binary32 y) ≡ false → taken w x y ≡ true → sheet_of sum x y ≡ sheet_along w x y

abbrev pub ProductWritten : Way → Type 0
ProductWritten w = (x y : ℕ) → taken w x y ≡ true → sheet_of product x y ≡ sheet_along w x y

abbrev pub EachWay : Type 0
EachWay = Every SumWritten sum_ways × Every ProductWritten product_ways

-- ---- of each table exactly one way is taken, whatever the operands
abbrev pub OneWay : Type 0
OneWay = ((x y : ℕ) → how_many_taken sum_ways x y ≡ 1) × ((x y : ℕ) → how_many_taken product_ways x y ≡ 1)

-- ---- and each of the 21 is taken: by the sample in its place, in a sum without an exchange
unfoldable pub each_taken : List Way → List Sample → Bool
unfolding taken
each_taken [] [] = true
each_taken [] (q ∷ qs) = false
each_taken (w ∷ ws) [] = false
each_taken (w ∷ ws) (sample x y ls marked first second ∷ qs) = taken w x y && each_taken ws qs

unfoldable pub none_exchanged : List Sample → Bool
unfolding less_magnitude decode
none_exchanged [] = true
none_exchanged (sample x y ls marked first second ∷ qs) = not (less_magnitude (decode binary32 x) (decode binary32 y)) && none_exchanged qs

abbrev pub EachTaken : Type 0
EachTaken =
    (none_exchanged sum_samples ≡ true) × (each_taken sum_ways sum_samples ≡ true) × (each_taken product_ways product_samples ≡ true)

-- ---- instructions, tests and feet mention only lines that stand, and every line is mentioned: none is idle (R11.5)
abbrev pub WellMade : Type 0
WellMade = all_well_made (sum_ways ++ product_ways) ≡ true

-- ---- NaN has its own two ways, which are taken exactly where line 1 is NaN; of which operands that is, binary32_spec says
abbrev pub NaNTaken : Type 0
NaNTaken =
    (x y : ℕ) → (taken sum_nan x y ≡ is_nan (decode binary32 (add_step x y)))
    × (taken product_nan x y ≡ is_nan (decode binary32 (mul_step x y)))

-- ---- all of them
abbrev pub All : Type 0
All = Agree × EachWay × OneWay × EachTaken × SampledSheets × SampledMarks × WellMade × NaNTaken
