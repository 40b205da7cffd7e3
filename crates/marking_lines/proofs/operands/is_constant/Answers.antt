use mathlib.Core.Path.{sym}
use mathlib.Core.Logic.{inl, inr}
use native.Mathlib.Omega.{arith}
use Rattle.marking_spec.proofs.Lookup.{constant-cases}
use Rattle.marking_lines.proofs.operands.is_constant.Goals as goal

pub returns-in_default : goal.returns-in_default
returns-in_default c = elim (constant-cases c.args.p (omega arith)) [ inl t ↦ absurd (grind (arith, t.1)) | inr f ↦ sym f.0 ]

pub returns-in_default-2 : goal.returns-in_default-2
returns-in_default-2 c = elim (constant-cases c.args.p (omega arith)) [ inl t ↦ absurd (grind (arith, t.1)) | inr f ↦ sym f.0 ]

pub returns-in-1065353215 : goal.returns-in-1065353215
returns-in-1065353215 c = elim (constant-cases c.args.p (omega arith)) [ inl t ↦ sym t.0 | inr f ↦ absurd (omega (arith, f.1)) ]

pub returns-in-1065353215-2 : goal.returns-in-1065353215-2
returns-in-1065353215-2 c = elim (constant-cases c.args.p (omega arith)) [ inl t ↦ sym t.0 | inr f ↦ absurd (omega (arith, f.1)) ]

pub returns-in-1065353215-3 : goal.returns-in-1065353215-3
returns-in-1065353215-3 c = elim (constant-cases c.args.p (omega arith)) [ inl t ↦ sym t.0 | inr f ↦ absurd (omega (arith, f.1)) ]
