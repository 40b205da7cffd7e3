use mathlib.Core.Path.{sym, ◌∙◌}
use mathlib.Core.Bool.{cond}
use Prim.Native.Nat.{◌-◌}
use native.Mathlib.Omega.{arith}
use lib.Dec.{eqb}
use Rattle.rounding_spec.specs.Format.{binary32}
use Rattle.rounding_spec.specs.Value.{encode}
use Rattle.rounding_spec.specs.Numbers.{number_value}
use Rattle.pattern_spec.proofs.Moved.{moved}
use Rattle.binary32_spec.proofs.Marks.{same_outcome}
use Rattle.binary32_spec.proofs.Near.{near-sum, operand-packed, far-outcome}
use Rattle.binary32_add.proofs.finite_sum.Goals as goal

pub packed-requires : goal.packed-requires
packed-requires c = let o = c.requires.operand in omega (arith, o.sig, o.exp)

pub returns-then-gap-gt31 : goal.returns-then-gap-gt31
returns-then-gap-gt31 c =
    let a = c.args in same_outcome _ (record { result = encode binary32 (number_value a.a); mark = cond (eqb a.b.sig 0) 0 1 })
    (c.packed.ensures ∙ operand-packed a.a.sign a.a.sig a.a.exp c.requires.operand) c.choose.ensures
    ∙ sym (far-outcome a.a.sign a.a.sig a.a.exp a.b.sign a.b.sig a.b.exp c.requires.operand c.requires.operand_2 (omega arith))

pub round_sum-requires : goal.round_sum-requires
round_sum-requires c =
    let m = moved c.args.a.sig 24 (c.args.a.exp - c.args.b.exp) c.requires.operand.sig (omega arith) in
    (rw m.0 m.1, omega arith)

pub returns : goal.returns
returns c =
    c.round_sum.ensures ∙ near-sum _ c.args.a.sig c.args.a.exp _ c.args.b.sig c.args.b.exp c.requires.operand.sig c.requires.order (let g = c.if-gap-gt31.false in omega arith)
