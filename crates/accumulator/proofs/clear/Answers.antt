use Rattle.std.proofs.Common.{ℕ, replicate, ap, ◌∙◌}
use Rattle.accumulator_spec.proofs.Answers.{clearing-length, clearing-done}
use Rattle.accumulator.proofs.clear.Goals as goal

pub returns-then-total-ne-TOTAL_SIZE : goal.returns-then-total-ne-TOTAL_SIZE
returns-then-total-ne-TOTAL_SIZE c = clearing-length c.args.total.now c.if-total-ne-TOTAL_SIZE.true

pub returns : goal.returns
returns c =
    let full = c.if-total-ne-TOTAL_SIZE.false in let k = clearing-done c.args.total.now full in
    (k.0, c.fill.ensures.after (λ y h. h) ∙ ap (λ (n : ℕ). replicate n 0) full ∙ k.1)
