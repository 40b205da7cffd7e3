-- The table of cases (R10.1), and the theorem over all its rows, `Table`: `proofs/Theorems.antt` has its proof, `table`.
use Rattle.std.specs.Prelude.{ℕ, ◌≡◌, List, [], ◌∷◌}
use Rattle.rounding_spec.specs.Format.{binary32}
use Rattle.augmented_spec.specs.declared.Flags.{Flags}
use Rattle.augmented_spec.specs.declared.Operation.{Operation}
use Rattle.augmented_spec.specs.declared.Operation.TheVariants.{Sum as sum, Product as product}
use Rattle.augmented_spec.specs.Direct.{direct_pair, none, I, OX, UX}

-- operation, operands, first, second, flags
pub data Case : Type 0 where
  row : Operation → ℕ → ℕ → ℕ → ℕ → Flags → Case

abbrev pub table : List Case
table =
    row sum 0x3f80_0000 0x3380_0000 0x3f80_0000 0x3380_0000 none
    ∷ row sum 0x7f7f_ffff 0x7300_0000 0x7f7f_ffff 0x7300_0000 none
    ∷ row sum 0x7f7f_ffff 0x7300_0001 0x7f80_0000 0x7f80_0000 OX
    ∷ row sum 0x8000_0000 0x8000_0000 0x8000_0000 0x8000_0000 none
    ∷ row sum 0xbf80_0000 0x3f80_0000 0x0000_0000 0x0000_0000 none
    ∷ row sum 0x7f80_0000 0xff80_0000 0x7fc0_0000 0x7fc0_0000 I
    ∷ row product 0x41f8_0000 0x7d04_2108 0x7f7f_ffff 0x7300_0000 none
    ∷ row product 0x0000_0003 0x3f00_0000 0x0000_0001 0x0000_0000 UX
    ∷ row product 0x8000_0001 0x3f00_0000 0x8000_0000 0x8000_0000 UX
    ∷ row product 0x3f80_0001 0x0080_0001 0x0080_0002 0x0000_0000 UX
    ∷ row product 0x3f80_0001 0x3f80_0001 0x3f80_0002 0x2880_0000 none
    ∷ []

abbrev pub Holds : Case → Type 0
Holds (row o x y a b f) = direct_pair o binary32 x y ≡ record { first = a; second = b; flags = f }

abbrev pub Every : (Case → Type 0) → List Case → Type 0
Every P [] = Unit {0}
Every P (c ∷ cs) = P c × Every P cs

abbrev pub Table : Type 0
Table = Every Holds table
