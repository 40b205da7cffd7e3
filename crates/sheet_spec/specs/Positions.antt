-- Where a run stands (R8.15), as the code holds it: counts by value, the open line's bytes and the total in lent arrays.
use Rattle.std.specs.Prelude.{ℕ, ◌≡◌, Bool, not, ◌&&◌, ◌||◌, List, eqb, leb, ltb, take}
use Rattle.accumulator_spec.specs.Totals.{zeros}
use Rattle.sheet_spec.specs.Printed.{Progress, most_input_lines}
use Rattle.sheet_spec.specs.States.{State, kept_bytes, begin}
use Rattle.sheet_spec.specs.declared.Position.{Position}

-- whether a run goes on: it has not stopped, and its counts are such as a run can have: no line is open after the last one that is taken
unfoldable pub goes_on : Position → Bool
goes_on p =
    not p.stopped
    && (leb p.good p.lines
    && (leb p.length kept_bytes
    && (ltb p.lines most_input_lines || (eqb p.lines most_input_lines && eqb p.length 0))))

abbrev pub progress_of : Position → List ℕ → Progress
progress_of p total = record { lines = p.lines; good = p.good; total = total }

-- The state that a position stands for, with these lent arrays. A lent total that is not fit is kept as it is: it takes no term, and no
-- `total` line is printed of it. Counts that no run can have stand for a run that has stopped, so that nothing is asked of a caller.
unfoldable pub state_of : Position → List ℕ → List ℕ → State
state_of p line total = record { progress = progress_of p total; begun = take p.length line; stopped = not (goes_on p) }

-- a run begins with no line, whatever the lent line holds, and a cleared total
abbrev pub Begins : Position → Type 0
Begins p = (line : List ℕ) → state_of p line zeros ≡ begin
