-- The results of a tiny product's lines, by the names that its rules have.
use mathlib.Core.Bool.{Bool, cond}
use Prim.Native.Nat.{ℕ}
use Rattle.binary32_spec.specs.Steps.{add_step, sub_step, mul_step, fma_step}
use Rattle.worksheet_spec.specs.Constants.{two_to_24, two_to_48}
use Rattle.worksheet_spec.specs.Lines.{minus}
use Rattle.worksheet_spec.specs.Sheets.{lowered, tiny_tie}

module _ (x y a : ℕ) where
  abbrev pub m : ℕ
  m = mul_step two_to_24 x

  abbrev pub n : ℕ
  n = mul_step two_to_24 y

  abbrev pub t1 : ℕ
  t1 = mul_step m n

  abbrev pub t2 : ℕ
  t2 = fma_step m n (minus t1)

  abbrev pub g : ℕ
  g = mul_step two_to_48 a

  abbrev pub t3 : ℕ
  t3 = sub_step t1 g

  abbrev pub z : ℕ
  z = add_step t2 t3

  abbrev pub w : ℕ
  w = sub_step z t3

  abbrev pub tie : Bool
  tie = tiny_tie a z w t2

  abbrev pub first : ℕ
  first = cond tie (lowered a) a
