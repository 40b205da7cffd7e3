use Prim.Native.Nat.{◌*◌, ◌≤◌}
use mathlib.Core.Path.{◌≡◌}
use lib.ListN.{length}
use Rattle.transcript_spec.specs.Texts.{steps_text}
use Rattle.transcript_lines.proofs.lengths.steps.Given as goal

abbrev pub invariant-loop-k : goal.invariant-loop-k
invariant-loop-k l = (l.n ≡ length (steps_text l.k 1 l.words)) × (l.n ≤ 58 * l.k)
