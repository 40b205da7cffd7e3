use mathlib.Core.Path.{sym, ◌∙◌}
use native.Mathlib.Nat.{le_of_eq}
use native.Mathlib.Omega.{arith}
use lib.ListN.{take}
use lib.Seq.{length-take-le}
use Rattle.accumulator_spec.specs.Totals.{number_size}
use Rattle.accumulator_words.proofs.Placing.{same-term}
use Rattle.accumulator_read.proofs.Arrays.{array-length}
use Rattle.accumulator_spec.proofs.TermAdded.{number-term}
use Rattle.accumulator_read.proofs.moved.Goals as goal

pub add-requires : goal.add-requires
add-requires c =
    let p = c.place.ensures in let l = array-length number_size c.args.number _ c.well_formed.0 in
    (omega (arith, p.2, c.requires, length-take-le number_size c.args.number (le_of_eq (sym l))), p.3)

pub returns : goal.returns
returns c =
    let a = c.args in let k = c.add in let p = c.place.ensures in number-term a.number a.by.sign a.by.sig a.by.exp k.new.number (array-length number_size a.number _ c.well_formed.0)
    (k.ensures ∙ same-term p.0 p.1 p.2 (take number_size a.number))
