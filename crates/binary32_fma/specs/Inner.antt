-- What the crate's inner functions promise each other. No public contract cites it.
use Rattle.std.specs.Prelude.{◌≤◌, ◌<◌, ◌≡◌}
use Rattle.rounding_spec.specs.declared.Number.{Number}
use Rattle.binary32_fma.specs.declared.Addends.{Addends}

-- by which of the exponents is the higher one
pub data Ordered (p z : Number) (r : Addends) : Type 0 where
  product-first : z.exp ≤ p.exp → r ≡ record { high = p; low = z; room = 15 } → Ordered p z r
  operand-first : p.exp < z.exp → r ≡ record { high = z; low = p; room = 39 } → Ordered p z r
