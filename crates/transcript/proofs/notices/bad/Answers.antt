use Rattle.transcript_spec.specs.Texts.{bad_text}
use Rattle.transcript.proofs.notices.bad.Goals as goal

pub returns : goal.returns
unfolding bad_text
returns c = c.counts.ensures
