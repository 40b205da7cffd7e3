use mathlib.Core.Path.{refl}
use Rattle.jirmeklo.proofs.totals.jirmeklo_join.Goals as goal

pub returns : goal.returns
returns c = record {
  joins_numbered = c.join.ensures.joins_numbered;
  second_kept = refl;
}
