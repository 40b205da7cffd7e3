use Rattle.augmented_spec.proofs.Rests.{product_small, lost-is}
use Rattle.augmented_product.proofs.underflows.Goals as goal

pub returns : goal.returns
returns c =
    let first = c.round_with_rest-first.ensures in let below = product_small c.args.number.sign c.args.number.sig c.args.number.exp c.requires.0 c.requires.1 in
    lost-is c.args.number.sign _ _ first.pattern_value c.args.number.exp _ _ first.rest_value first.up_value below _ c.round_with_rest.ensures.rest_value
