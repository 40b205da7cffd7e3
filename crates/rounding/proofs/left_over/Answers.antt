use mathlib.Core.Path.{ap, ◌∙◌}
use Prim.Native.Nat.{ℕ}
use lib.Dec.{ltb, eqb}
use Rattle.rounding_spec.specs.Nearest.{dist}
use Rattle.rounding_spec.proofs.Remainder as remainder
use Rattle.rounding_spec.proofs.LeftOver.{rest-fits, left_is, none_is, far-small, far-unit}
use Rattle.rounding.proofs.left_over.Goals as goal

pub left_far-requires : goal.left_far-requires
left_far-requires c = (
  far-small c.args.n c.args.shift c.args.q c.ranges.n.fits c.requires.quotient.0 c.requires.quotient.1 c.if-shift-gt63.true c.requires.half_unit.1,
  c.requires.half_unit.0,
)

pub returns-then-shift-gt63 : goal.returns-then-shift-gt63
returns-then-shift-gt63 c =
    let u = far-unit c.args.n c.args.shift c.args.q c.ranges.n.fits c.requires.quotient.0 c.requires.quotient.1 c.if-shift-gt63.true c.requires.half_unit.1 in
    let f = c.left_far.ensures in record {
      rest_value = f.rest_value ∙ ap (λ (x : ℕ). dist x c.args.n) u;
      up_value = f.up_value ∙ ap (ltb c.args.n) u;
      none_value = f.none_value ∙ ap (λ (x : ℕ). eqb (dist x c.args.n) 0) u;
    }

pub overflow_sub-rest : goal.overflow_sub-rest
overflow_sub-rest c = remainder.rest_le c.args.n c.args.shift c.ranges.n.fits

pub overflow_sub-shift : goal.overflow_sub-shift
overflow_sub-shift c = rest-fits c.args.n c.args.shift c.args.q c.ranges.n.fits c.requires.quotient.0 c.requires.quotient.1 c.if-shift-gt63.false

pub returns : goal.returns
returns c =
    let l = left_is c.args.n c.args.shift c.args.q c.ranges.n.fits c.requires.quotient.0 c.requires.quotient.1 c.if-shift-gt63.false _ c.choose.ensures in record {
      rest_value = l.0;
      up_value = l.1;
      none_value = none_is c.args.n c.args.shift c.args.q c.ranges.n.fits c.requires.quotient.0 c.requires.quotient.1 c.if-shift-gt63.false c.requires.half_unit.1;
    }
