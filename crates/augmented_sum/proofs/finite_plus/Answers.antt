use mathlib.Core.Path.{sym, ap, ap₂, ◌∙◌}
use mathlib.Core.List.{[], ◌∷◌}
use native.Mathlib.Omega.{arith}
use Rattle.rounding_spec.specs.declared.Ties.TheVariants.{ToZero}
use Rattle.rounding_spec.specs.Format.{binary32}
use Rattle.rounding_spec.specs.Value.{Value}
use Rattle.pattern_spec.specs.Exact.{plus, finer}
use Rattle.augmented_spec.specs.Pairs.{pair_of}
use Rattle.augmented_spec.specs.Inner.{patterns_of}
use Rattle.augmented_spec.proofs.Unrounded.{near-short}
use Rattle.augmented_sum.proofs.finite_plus.Goals as goal

pub apart-requires : goal.apart-requires
apart-requires c =
    let r = c.requires in
    record { s = _; m = _; e = _; t = _; n = _; d = _; left = r.value_of_p; right = r.value_of_q; operands = (r.operand, r.operand_2); far = (let g = c.if-gap-gt31.true in omega arith) }

pub overflow_cast-a : goal.overflow_cast-a
overflow_cast-a c = let f = c.requires.operand.sig in omega arith

pub overflow_cast-b : goal.overflow_cast-b
overflow_cast-b c = let f = c.requires.operand_2.sig in omega arith

pub overflow_add-b : goal.overflow_add-b
overflow_add-b c = let f = c.requires.operand_2.exp in omega arith

pub near-requires : goal.near-requires
near-requires c =
    let r = c.requires in
    let t = near-short _ _ _ _ _ _ r.operand r.operand_2 r.below (let g = c.if-gap-gt31.false in omega arith) _ _ c.sum-total.ensures in
    record { unit = omega arith; left = t.left ToZero }

pub returns : goal.returns
returns c =
    let r = c.requires in
    let t = near-short _ _ _ _ _ _ r.operand r.operand_2 r.below (let g = c.if-gap-gt31.false in omega arith) _ _ c.sum-total.ensures in
    c.near.ensures _ ∙ sym (ap (λ (v : Value). patterns_of (c.args.p ∷ c.args.q ∷ []) (pair_of binary32 v)) (ap (finer binary32) (ap₂ plus r.value_of_p r.value_of_q) ∙ t.is))
