use mathlib.Core.Path.{◌≡◌}
use mathlib.Core.List.{[]}
use Prim.Native.Nat.{◌*◌}
use Rattle.worksheet_spec.specs.Lines.{line_size}
use Rattle.marking_spec.specs.Marking.{claims, in_order}
use Rattle.marking_spec.proofs.InOrder.{from}
use Rattle.marking.proofs.in_order.Given as goal

abbrev pub invariant-loop-i : goal.invariant-loop-i
invariant-loop-i l = from l.operation l.x l.y l.words (line_size * l.i) ≡ in_order l.operation l.x l.y [] (claims l.words)
