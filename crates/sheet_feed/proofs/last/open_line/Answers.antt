use Rattle.sheet_feed.proofs.Closing.{none_open, one-open}
use Rattle.sheet_feed.proofs.last.open_line.Goals as goal

pub returns-then-position-eq0 : goal.returns-then-position-eq0
returns-then-position-eq0 c = none_open _ _ _ c.requires.0 _ c.if-position-eq0.true

pub returns : goal.returns
returns c =
    let pre = c.requires in let if1 = c.if-position-eq0 in let end_line = c.end_line in one-open _ _ _ pre.0 _ _ _ _ if1.false end_line.ensures
