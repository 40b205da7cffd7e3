-- The constants of the step sheet, by pattern (R5.1). `ConstantPatterns` of Theorems says which numbers they are.
use Rattle.std.specs.Prelude.{ℕ, List, [], ◌∷◌}

-- ---- factors: in a multiplication the constant is the first operand (R5.2)
abbrev pub psi : ℕ
psi = 0x3f7f_ffff

abbrev pub two : ℕ
two = 0x4000_0000

abbrev pub minus_two : ℕ
minus_two = 0xc000_0000

abbrev pub half : ℕ
half = 0x3f00_0000

abbrev pub kappa : ℕ
kappa = 0x3fff_ffff

abbrev pub two_to_24 : ℕ
two_to_24 = 0x4b80_0000

abbrev pub two_to_48 : ℕ
two_to_48 = 0x5780_0000

abbrev pub two_to_minus_24 : ℕ
two_to_minus_24 = 0x3380_0000

abbrev pub plus_zero : ℕ
plus_zero = 0x0000_0000

-- the factors
abbrev pub factors : List ℕ
factors = psi ∷ two ∷ minus_two ∷ half ∷ kappa ∷ two_to_24 ∷ two_to_48 ∷ two_to_minus_24 ∷ plus_zero ∷ []

-- ---- u, which stands with a sign as the second operand of a subtraction (R5.8): -u is its flip
abbrev pub smallest : ℕ
smallest = 0x0000_0001

-- ---- what results are compared with (R5.7, R5.16, R5.18): 2^127, 2^102, 2^-102 and 2^-126
abbrev pub two_to_127 : ℕ
two_to_127 = 0x7f00_0000

abbrev pub two_to_102 : ℕ
two_to_102 = 0x7280_0000

abbrev pub two_to_minus_102 : ℕ
two_to_minus_102 = 0x0c80_0000

abbrev pub two_to_minus_126 : ℕ
two_to_minus_126 = 0x0080_0000
