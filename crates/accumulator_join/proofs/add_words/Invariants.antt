use mathlib.Core.Path.{◌≡◌}
use Prim.Native.Nat.{◌≤◌}
use lib.ListN.{length}
use Rattle.accumulator_spec.proofs.WordSums.{left}
use Rattle.accumulator_join.proofs.add_words.Given as goal

abbrev pub invariant-loop-i : goal.invariant-loop-i
invariant-loop-i l =
    (l.i ≤ length l.first) × (length l.first ≡ length l.initial.first) × (length l.second ≡ length l.initial.first) × (l.carry ≤ 1)
    × (left l.i l.first l.second l.carry ≡ left 0 l.initial.first l.second 0)
