use Prim.Native.Nat.{◌*◌, ◌^◌}
use Rattle.augmented_spec.proofs.Rests.{rest-fits, with-rest-is, halved-patterns}
use Rattle.augmented_sum.proofs.near.Goals as goal

pub rest_pattern-second-requires : goal.rest_pattern-second-requires
rest_pattern-second-requires c =
    let n = c.args.number in let r = c.round_with_rest-first.ensures in
    rest-fits n.sign n.sig n.exp c.requires _ r.rest_value _ _ r.pattern_value c.is_infinite-over.ensures _
    c.choose.ensures

pub returns : goal.returns
returns c operands =
    let n = c.args.number in let r = c.round_with_rest-first.ensures in
    let halves =
    with-rest-is n.sign n.sig n.exp c.requires _ r.rest_value _ _ r.pattern_value c.is_infinite-over.ensures _
    c.choose.ensures _ r.up_value _ _ c.rest_pattern-second.ensures c.choose-2.ensures
    in
    halved-patterns n.sign (n.sig * 2 ^ n.exp) halves operands
