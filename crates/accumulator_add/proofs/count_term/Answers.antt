use mathlib.Core.Path.{ap}
use Prim.Native.Nat.{ℕ}
use native.Mathlib.Numerals.{add-one}
use lib.ListN.{set}
use Rattle.accumulator_spec.specs.Totals.{number_size, count}
use Rattle.accumulator_add.proofs.count_term.Goals as goal

pub returns : goal.returns
returns c = let t = c.args.total.now in ap (λ (n : ℕ). set t number_size n) (add-one (count t))
