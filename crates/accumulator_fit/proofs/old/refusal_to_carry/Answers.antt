use Rattle.std.proofs.Common.{sym, ◌∙◌}
use Rattle.accumulator_spec.proofs.Carried.{old-length, new-length, old-unfit, carries}
use Rattle.accumulator_fit.proofs.old.refusal_to_carry.Goals as goal

pub returns-then-old-ne-OLD_SIZE : goal.returns-then-old-ne-OLD_SIZE
returns-then-old-ne-OLD_SIZE c = let a = c.args in sym (old-length a.old.now a.new.now c.if-old-ne-OLD_SIZE.true)

pub returns-then-new-ne-TOTAL_SIZE : goal.returns-then-new-ne-TOTAL_SIZE
returns-then-new-ne-TOTAL_SIZE c = let a = c.args in sym (new-length a.old.now a.new.now c.if-new-ne-TOTAL_SIZE.true)

pub returns-then-not-within_limits : goal.returns-then-not-within_limits
returns-then-not-within_limits c =
    let a = c.args in sym (old-unfit a.old.now a.new.now c.if-old-ne-OLD_SIZE.false c.if-new-ne-TOTAL_SIZE.false (sym c.within_limits.ensures ∙ c.if-not-within_limits.true))

pub returns : goal.returns
returns c =
    let a = c.args in sym (carries a.old.now a.new.now c.if-old-ne-OLD_SIZE.false c.if-new-ne-TOTAL_SIZE.false (sym c.within_limits.ensures ∙ c.if-not-within_limits.false))
