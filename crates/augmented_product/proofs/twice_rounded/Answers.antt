use mathlib.Core.Path.{refl}
use Rattle.augmented_spec.proofs.Answered.{same-pair}
use Rattle.augmented_spec.proofs.Rests.{product_small, twice-is}
use Rattle.augmented_product.proofs.twice_rounded.Goals as goal

pub returns : goal.returns
returns c =
    let n = c.args.number in let first = c.round_with_rest-first.ensures in let second = c.round_with_rest-second.ensures in
    twice-is n.sign _ _ first.pattern_value n.exp _ _ first.rest_value first.up_value (product_small n.sign n.sig n.exp c.requires.0 c.requires.1)
    _ _ _ _ second.pattern_value c.zero_takes.ensures second.rest_value (same-pair refl refl c.raised.ensures)
