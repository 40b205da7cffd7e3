use mathlib.Core.Path.{refl}
use native.Mathlib.Omega.{arith}
use Rattle.transcript_spec.specs.Texts.{stop_text}
use Rattle.transcript_spec.proofs.Parts.{wrote}
use Rattle.sheet_feed.proofs.step.Run.stop.Goals as goal

pub returns : goal.returns
returns c = (refl, refl, refl, wrote {text = stop_text} (omega (arith, c.requires)) c.stop.ensures)
