use Rattle.augmented_spec.proofs.Answered.{none-raised, sum-answer}
use Rattle.augmented.proofs.sum.Goals as goal

pub pair-requires : goal.pair-requires
pair-requires c =
    none-raised c.args.x c.args.y _ c.of_patterns.ensures

pub returns : goal.returns
returns c =
    sum-answer c.args.x c.args.y _ c.of_patterns.ensures _ c.pair.ensures
