use native.Mathlib.Omega.{arith}
use Rattle.marking_spec.proofs.Claims.{one_line}
use Rattle.marking_spec.proofs.ClaimFromArrayU32LINESIZE.from.Goals as goal

pub returns : goal.returns
returns c = one_line c.args.words (omega arith)
