use native.Mathlib.Omega.{arith}
use Rattle.rounding_spec.proofs.LeftOver.{far_none, far_some, far-one}
use Rattle.rounding.proofs.left_far.Goals as goal

pub returns-then-q-eq0 : goal.returns-then-q-eq0
returns-then-q-eq0 c =
    let f = far_none c.args.n c.args.q c.if-q-eq0.true in record {
      rest_value = f.0;
      up_value = f.1;
      none_value = far_some c.args.n c.args.q c.requires.1 c.ranges.n.fits c.requires.0;
    }

pub returns : goal.returns
returns c =
    let f = far-one c.args.n c.args.q c.ranges.n.fits (omega arith) in record {
      rest_value = f.0;
      up_value = f.1;
      none_value = far_some c.args.n c.args.q c.requires.1 c.ranges.n.fits c.requires.0;
    }
