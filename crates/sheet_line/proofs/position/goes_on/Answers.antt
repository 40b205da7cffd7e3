use Rattle.std.proofs.Common.{arith, sym, ◌∙◌}
use borrow.Author.Tests.{lt-ltb, ne_eqb}
use Rattle.sheet_spec.proofs.Positions.{has-stopped, more-good, too_long, lines_left, too_many, as-empty}
use Rattle.sheet_line.proofs.position.goes_on.Goals.{then-position-via-then-position, then-position-via-else-position+then-position-2}
use Rattle.sheet_line.proofs.position.goes_on.Goals.{then-position-via-else-position+else-position-2+then-position-gt-KEPT_BYTES}
use Rattle.sheet_line.proofs.position.goes_on.Goals as goal

pub returns-then-position : goal.returns-then-position
returns-then-position c =
    elim c.then-position.branch [
      | then-position-via-then-position w ↦ sym (has-stopped _ w.if-position.true)
      | then-position-via-else-position+then-position-2 w ↦ sym (more-good _ w.if-position.false w.if-position-2.true)
      | then-position-via-else-position+else-position-2+then-position-gt-KEPT_BYTES w ↦
          sym (too_long _ w.if-position.false w.if-position-2.false w.if-position-gt-KEPT_BYTES.true)
    ]

pub returns-then-position-lt-MOST_INPUT_LINES : goal.returns-then-position-lt-MOST_INPUT_LINES
returns-then-position-lt-MOST_INPUT_LINES c =
    lt-ltb _ _ c.if-position-lt-MOST_INPUT_LINES.true
    ∙ sym (lines_left _ c.if-position.false c.if-position-2.false c.if-position-gt-KEPT_BYTES.false c.if-position-lt-MOST_INPUT_LINES.true)

pub returns-then-position-eq-MOST_INPUT_LINES : goal.returns-then-position-eq-MOST_INPUT_LINES
returns-then-position-eq-MOST_INPUT_LINES c =
    sym (as-empty _ c.if-position.false c.if-position-2.false c.if-position-gt-KEPT_BYTES.false c.if-position-eq-MOST_INPUT_LINES.true)

pub returns-else-position-eq-MOST_INPUT_LINES : goal.returns-else-position-eq-MOST_INPUT_LINES
returns-else-position-eq-MOST_INPUT_LINES c =
    let more = c.if-position-lt-MOST_INPUT_LINES.false in
    ne_eqb _ _ c.if-position-eq-MOST_INPUT_LINES.false
    ∙ sym (too_many _ c.if-position.false c.if-position-2.false c.if-position-gt-KEPT_BYTES.false (omega (arith, c.if-position-eq-MOST_INPUT_LINES.false)))
