use Rattle.conservation_spec.proofs.Settled.{two-terms}
use Rattle.conservation.proofs.settling.add_two.Goals as goal

pub returns : goal.returns
returns c = two-terms _ _ _ _ _ c.add_pattern.ensures.1 c.add_pattern-2.ensures.1
