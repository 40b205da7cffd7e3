use mathlib.Core.Path.{ap, ◌∙◌}
use Prim.Native.Nat.{ℕ, ◌*◌, ◌^◌}
use native.Mathlib.Omega.{arith}
use Rattle.rounding_spec.specs.Format.{binary32}
use Rattle.rounding_spec.specs.Value.{decode, round, is_infinite}
use Rattle.augmented_spec.specs.Pairs.{pair_of}
use Rattle.augmented_spec.proofs.Second.{first-finite}
use Rattle.augmented_spec.proofs.Rests.{first-shows, product-short, short-loses-nothing, product_small}
use Rattle.augmented_product.proofs.flags_of_number.Goals as goal

pub returns-then-number-lt149 : goal.returns-then-number-lt149
returns-then-number-lt149 c =
    let below = product_small c.args.number.sign c.args.number.sig c.args.number.exp c.requires (let l = c.if-number-lt149.true in omega arith) in
    rw (c.raised.ensures, ap is_infinite (first-finite binary32 c.args.number.sign _ below), ← c.underflows.ensures)

pub returns : goal.returns
unfolding pair_of round
returns c =
    let N = c.args.number.sig * 2 ^ c.args.number.exp in
    let short = product-short c.args.number.sig c.args.number.exp c.requires (let l = c.if-number-lt149.false in omega arith) in
    let over = c.is_infinite-over.ensures ∙ ap (λ (p : ℕ). is_infinite (decode binary32 p)) c.round.ensures ∙ first-shows c.args.number.sign N in
    rw (c.raised-2.ensures, short-loses-nothing c.args.number.sign c.args.number.sig c.args.number.exp short, ← over)
