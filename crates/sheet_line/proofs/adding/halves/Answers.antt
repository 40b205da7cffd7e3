use Rattle.sheet_line.proofs.Answering.{both-added, none-added}
use Rattle.sheet_line.proofs.adding.halves.Goals as goal

pub returns-then-both_finite : goal.returns-then-both_finite
returns-then-both_finite c =
    let both-finite = c.both_finite in let if1 = c.if-both_finite in let add-pattern = c.add_pattern in let add-pattern2 = c.add_pattern-then-both_finite in
    both-added _ _ _ _ both-finite.ensures _ _ if1.true add-pattern.ensures.1 add-pattern2.ensures.1

pub returns-else-both_finite : goal.returns-else-both_finite
returns-else-both_finite c = none-added _ _ _ _ c.both_finite.ensures c.if-both_finite.false
