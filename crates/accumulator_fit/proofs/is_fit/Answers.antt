use Rattle.std.proofs.Common.{sym, ◌∙◌}
use Rattle.accumulator_spec.specs.Totals.{fit}
use Rattle.accumulator_fit.proofs.is_fit.Goals as goal

pub returns-then-within_limits : goal.returns-then-within_limits
unfolding fit
returns-then-within_limits c = c.sign_fits.ensures ∙ sym (rw (sym c.within_limits.ensures ∙ c.if-within_limits.true))

pub returns-else-within_limits : goal.returns-else-within_limits
unfolding fit
returns-else-within_limits c = c.if-within_limits.false ∙ sym (rw (sym c.within_limits.ensures ∙ c.if-within_limits.false))
