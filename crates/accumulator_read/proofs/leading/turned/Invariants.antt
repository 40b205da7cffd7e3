use mathlib.Core.Path.{◌≡◌}
use Prim.Native.Nat.{◌≤◌}
use Rattle.accumulator_spec.specs.Totals.{number_size}
use Rattle.accumulator_read.proofs.TurnedWords.{upto}
use Rattle.accumulator_read.proofs.leading.turned.Given as goal

abbrev pub invariant-loop-w : goal.invariant-loop-w
invariant-loop-w l = (l.w-index ≤ number_size) × (l.w-items ≡ upto l.minus l.initial.w-items l.w-index)
