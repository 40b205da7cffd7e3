use Rattle.std.proofs.lemmas.Result.{err_from_is_err_and}
use mathlib.Core.Path.{refl, sym, ap, ◌∙◌}
use native.Mathlib.Omega.{arith}
use Rattle.accumulator_spec.specs.Answers.{answer_of}
use Rattle.accumulator_carry_over.proofs.Outcomes.{refuses, sound, carried-out}
use Rattle.accumulator_carry_over.proofs.carry_over.Goals as goal

pub returns-in_err-refusal_to_carry : goal.returns-in_err-refusal_to_carry
returns-in_err-refusal_to_carry c =
    let a = c.args in let p = err_from_is_err_and c.from_residual.result c.from_residual.ensures.1 in
    let r = refuses a.old.now a.new.now _ (ap answer_of (sym c.in_err-refusal_to_carry.was) ∙ c.refusal_to_carry.ensures) in record {
      carries = rw (p.1, p.2) r;
      old_kept = refl;
    }

pub copy-requires : goal.copy-requires
copy-requires c =
    let a = c.args in
    let s = sound a.old.now a.new.now (ap answer_of (sym c.in_ok-refusal_to_carry.was) ∙ c.refusal_to_carry.ensures) in
    (s.0, s.1)

pub bounds-old-20 : goal.bounds-old-20
bounds-old-20 c =
    let a = c.args in
    let s = sound a.old.now a.new.now (ap answer_of (sym c.in_ok-refusal_to_carry.was) ∙ c.refusal_to_carry.ensures) in
    omega (arith, s.0)

pub returns : goal.returns
returns c =
    let k = c.copy in let a = c.args in
    let s = sound a.old.now a.new.now (ap answer_of (sym c.in_ok-refusal_to_carry.was) ∙ c.refusal_to_carry.ensures) in record {
      carries = carried-out a.old.now a.new.now s k.new.new k.ensures.0 k.ensures.1 _ c.choose.ensures;
      old_kept = refl;
    }
