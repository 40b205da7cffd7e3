use mathlib.Core.Path.{sym, ap, ◌∙◌}
use Rattle.accumulator_spec.specs.Answers.{answer_read}
use Rattle.sheet_feed.proofs.Closing.{total-written, no-total}
use Rattle.sheet_feed.proofs.last.total_line.Goals as goal

pub returns-in_default : goal.returns-in_default
returns-in_default c = no-total c.read.result _ _ c.in_default.not-Ok c.read.ensures

pub returns : goal.returns
returns c =
    let read = c.read in let total = c.total in total-written _ _ _ _ _ _ (ap answer_read (sym c.in-Ok.is) ∙ read.ensures) total.ensures
