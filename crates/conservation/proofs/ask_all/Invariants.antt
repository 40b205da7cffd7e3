use mathlib.Core.Path.{◌≡◌}
use Rattle.conservation_spec.proofs.Events.{left_from}
use Rattle.conservation.specs.Inner.{asking, lent}
use Rattle.conservation.proofs.ask_all.Given as goal

abbrev pub invariant-loop-i : goal.invariant-loop-i
invariant-loop-i l =
    left_from (asking l.fn.questions) l.i (lent l.words l.first l.other)
    ≡ left_from (asking l.fn.questions) 0 (lent l.initial.words l.initial.first l.initial.other)
