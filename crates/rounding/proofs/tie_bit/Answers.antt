use Rattle.rounding.proofs.tie_bit.Goals as goal

pub returns-in-ToEven : goal.returns-in-ToEven
returns-in-ToEven c = rw c.in-ToEven.is
