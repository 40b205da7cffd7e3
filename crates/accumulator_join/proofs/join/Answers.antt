use Rattle.std.proofs.lemmas.Result.{err_from_is_err_and}
use mathlib.Core.Path.{refl, sym, ◌∙◌}
use Rattle.accumulator_spec.proofs.Adding.{fit-bounds}
use Rattle.accumulator_fit.proofs.Lent.{sound}
use Rattle.accumulator_join.proofs.Outcomes.{first-wrong, second-wrong, both-fit}
use Rattle.accumulator_join.proofs.join.Goals as goal

pub returns-in_err-refusal : goal.returns-in_err-refusal
returns-in_err-refusal c =
    let a = c.args in let p = err_from_is_err_and c.from_residual.result c.from_residual.ensures.1 in record {
      joins = rw (p.1, p.2) (first-wrong a.first.now a.second.now _ (sym c.in_err-refusal.was ∙ c.refusal.ensures));
      second_kept = refl;
    }

pub returns-in_err-refusal-2 : goal.returns-in_err-refusal-2
returns-in_err-refusal-2 c =
    let a = c.args in let p = err_from_is_err_and c.from_residual-in_err-refusal-2.result c.from_residual-in_err-refusal-2.ensures.1 in record {
      joins = rw (p.1, p.2)
          (second-wrong a.first.now a.second.now (sym c.in_ok-refusal.was ∙ c.refusal.ensures) _ (sym c.in_err-refusal-2.was ∙ c.refusal-2.ensures));
      second_kept = refl;
    }

pub join_fit-requires : goal.join_fit-requires
join_fit-requires c =
    let k = sound c.args.first.now (sym c.refusal.ensures ∙ c.in_ok-refusal.was) in
    let l = sound c.args.second.now (sym c.refusal-2.ensures ∙ c.in_ok-refusal-2.was) in
    let f = fit-bounds c.args.first.now k.1 in
    let s = fit-bounds c.args.second.now l.1 in record {
      lengths = (k.0, l.0, f.few, s.few);
      signs = (f.sign, s.sign);
    }

pub returns : goal.returns
returns c =
    let k = sound c.args.first.now (sym c.refusal.ensures ∙ c.in_ok-refusal.was) in
    let l = sound c.args.second.now (sym c.refusal-2.ensures ∙ c.in_ok-refusal-2.was) in record {
      joins = both-fit c.args.first.now c.args.second.now k l _ _ c.join_fit.ensures;
      second_kept = refl;
    }
