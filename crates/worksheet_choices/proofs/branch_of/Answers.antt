use native.Mathlib.Omega.{arith}
use Rattle.worksheet_choices.proofs.ProductBranches.{zero-branch, tiny-branch, middle-branch, other-branch, infinite-branch, nan-branch}
use Rattle.worksheet_choices.proofs.branch_of.Goals as goal

pub returns-in-0 : goal.returns-in-0
returns-in-0 c = zero-branch c.args.a c.in-0.is

pub returns-in-2139095040 : goal.returns-in-2139095040
returns-in-2139095040 c = infinite-branch c.args.a c.in-2139095040.is

pub returns-in-1-to-16777215 : goal.returns-in-1-to-16777215
returns-in-1-to-16777215 c = tiny-branch c.args.a (omega arith) (omega arith)

pub returns-in-16777216-to-209715200 : goal.returns-in-16777216-to-209715200
returns-in-16777216-to-209715200 c = middle-branch c.args.a (omega arith) (omega arith)

pub returns-in-209715201-to-2139095039 : goal.returns-in-209715201-to-2139095039
returns-in-209715201-to-2139095039 c = other-branch c.args.a (omega arith) (omega arith)

pub returns-in_default : goal.returns-in_default
returns-in_default c = nan-branch c.args.a (omega arith)
