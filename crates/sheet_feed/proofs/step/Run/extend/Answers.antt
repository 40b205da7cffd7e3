use Rattle.sheet_feed.proofs.Stepped.{extended}
use Rattle.sheet_feed.proofs.step.Run.extend.Goals as goal

pub returns-clause-state : goal.returns-clause-state
returns-clause-state c = let p = c.requires in extended _ p.0 p.1 _ _ _ _ c.kept-self.ensures _
