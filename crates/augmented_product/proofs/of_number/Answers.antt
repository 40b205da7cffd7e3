use mathlib.Core.Path.{sym, ap, ◌∙◌}
use Prim.Native.Nat.{◌*◌, ◌^◌}
use native.Mathlib.Omega.{arith}
use Rattle.rounding_spec.specs.Format.{binary32}
use Rattle.rounding_spec.specs.Value.{finite}
use Rattle.augmented_spec.specs.Pairs.{pair_of}
use Rattle.augmented_spec.specs.Inner.{finite_answer}
use Rattle.augmented_spec.proofs.Rests.{product-short, short-loses-nothing}
use Rattle.augmented_product.proofs.of_number.Goals as goal

pub with_rest-requires : goal.with_rest-requires
with_rest-requires c = product-short c.args.number.sig c.args.number.exp c.requires (omega arith)

pub returns-else-number-lt149 : goal.returns-else-number-lt149
returns-else-number-lt149 c =
    c.with_rest.ensures
    ∙ ap (finite_answer (pair_of binary32 (finite c.args.number.sign (c.args.number.sig * 2 ^ c.args.number.exp))))
    (sym (short-loses-nothing c.args.number.sign c.args.number.sig c.args.number.exp (product-short c.args.number.sig c.args.number.exp c.requires (let g = c.if-number-lt149.false in omega arith))))
