use Rattle.std.proofs.Common.{length, sym, ◌∙◌, eq-eqb, ne_eqb}
use Rattle.accumulator_spec.specs.Totals.{total_size}
use Rattle.accumulator_fit.proofs.refusal.Goals as goal

pub returns-then-total-ne-TOTAL_SIZE : goal.returns-then-total-ne-TOTAL_SIZE
returns-then-total-ne-TOTAL_SIZE c = rw (ne_eqb (length c.args.total.now) total_size c.if-total-ne-TOTAL_SIZE.true)

pub returns-then-not-is_fit : goal.returns-then-not-is_fit
returns-then-not-is_fit c =
    rw (eq-eqb (length c.args.total.now) total_size c.if-total-ne-TOTAL_SIZE.false, sym c.is_fit.ensures ∙ c.if-not-is_fit.true)

pub returns : goal.returns
returns c =
    rw (eq-eqb (length c.args.total.now) total_size c.if-total-ne-TOTAL_SIZE.false, sym c.is_fit.ensures ∙ c.if-not-is_fit.false)
