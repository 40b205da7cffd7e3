use mathlib.Core.Path.{refl, sym}
use Rattle.std.proofs.lemmas.Result.{err_from_is_err_and}
use Rattle.pattern_spec.specs.Answer.{refused, done}
use Rattle.conservation_spec.specs.Refusals.{refusal_number}
use Rattle.conservation_spec.proofs.Outcome.{refusal-outcome, ready, done-outcome}
use Rattle.conservation.proofs.replay.Goals as goal

pub returns-in_err-fit : goal.returns-in_err-fit
returns-in_err-fit c =
    let p = err_from_is_err_and c.from_residual.result c.from_residual.ensures.1 in
    rw (p.1, p.2) (refusal-outcome _ _ (refused (refusal_number c.in_err-fit.field-0.0)) c.in_err-fit.ensures refl)

pub ask_all-requires : goal.ask_all-requires
ask_all-requires c =
    let r = ready _ _ (done tt) c.in_ok-fit.ensures refl in record { equal = r.0; within = r.1 }

pub returns : goal.returns
returns c =
    done-outcome _ _ (done tt) c.in_ok-fit.ensures refl (λ i. (c.type_inv.xs i).fits) (λ i. (c.type_inv.ys i).fits) _ (sym c.ask_all.ensures)
