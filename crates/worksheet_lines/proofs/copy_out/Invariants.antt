use mathlib.Core.Path.{◌≡◌}
use mathlib.Core.List.{◌++◌}
use Prim.Native.Nat.{◌*◌}
use lib.ListN.{length, take, drop}
use Rattle.worksheet_spec.specs.Lines.{line_size}
use Rattle.worksheet_lines.specs.Inner.{flat}
use Rattle.worksheet_lines.proofs.copy_out.Given as goal

abbrev pub invariant-loop-i : goal.invariant-loop-i
invariant-loop-i l =
    (length l.words ≡ length l.initial.words)
    × (l.words ≡ flat (take l.i l.rows) ++ drop (l.i * line_size) l.initial.words)
    × (length (flat (take l.i l.rows)) ≡ l.i * line_size)
