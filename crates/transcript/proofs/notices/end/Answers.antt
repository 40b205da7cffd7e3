use Rattle.transcript_spec.specs.Texts.{end_text}
use Rattle.transcript.proofs.notices.end.Goals as goal

pub returns : goal.returns
unfolding end_text
returns c = c.counts.ensures
