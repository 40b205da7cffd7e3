use Rattle.std.proofs.Common.{◌∙◌}
use Rattle.accumulator_fit.proofs.Limit.{zero-sign-word}
use Rattle.accumulator_fit.proofs.sign_fits.Goals as goal

pub returns-in-0 : goal.returns-in-0
returns-in-0 c = c.is_zero.ensures ∙ zero-sign-word c.args.total.now (λ i. (c.type_inv.total i).fits) c.in-0.is
