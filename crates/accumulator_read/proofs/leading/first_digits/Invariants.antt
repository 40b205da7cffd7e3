use Prim.Native.Nat.{◌^◌, ◌≤◌, ◌<◌}
use lib.ListN.{drop}
use Rattle.accumulator_spec.specs.Words.{natural}
use Rattle.accumulator_spec.specs.Totals.{number_size}
use Rattle.accumulator_spec.proofs.LeadingDigits.{Digits}
use Rattle.accumulator_read.proofs.leading.first_digits.Given as goal

abbrev pub invariant-loop-i : goal.invariant-loop-i
invariant-loop-i l = (l.i ≤ number_size) × (l.sig < 2 ^ 64) × Digits (natural (drop l.i l.words)) l.i l.sig l.exp
