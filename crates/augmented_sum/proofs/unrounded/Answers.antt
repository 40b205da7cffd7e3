use mathlib.Core.Path.{sym, ap₂, ◌∙◌}
use mathlib.Core.Bool.{Bool, ◌&&◌, ◌||◌}
use lib.Dec.{eqb}
use Rattle.binary32_spec.proofs.Unrounded.{unrounded-sum}
use Rattle.augmented_sum.proofs.unrounded.Goals as goal

pub returns-then-is_infinite-x : goal.returns-then-is_infinite-x
returns-then-is_infinite-x c =
    let a = c.args in let first = ap₂ (λ (k l : Bool). k && (eqb a.x a.y || l)) c.is_infinite.ensures c.is_finite.ensures in
    (unrounded-sum a.x a.y c.ranges.x.fits c.ranges.y.fits c.requires).0 (sym first ∙ c.if-is_infinite-x.true)

pub returns-then-is_infinite-is_finite : goal.returns-then-is_infinite-is_finite
returns-then-is_infinite-is_finite c =
    let a = c.args in let second = ap₂ ◌&&◌ c.is_infinite-else-is_infinite-x.ensures c.is_finite-else-is_infinite-x.ensures in
    (unrounded-sum a.x a.y c.ranges.x.fits c.ranges.y.fits c.requires).1 (sym second ∙ c.if-is_infinite-is_finite.true)

pub returns-else-is_infinite-is_finite : goal.returns-else-is_infinite-is_finite
returns-else-is_infinite-is_finite c =
    let a = c.args in let first = ap₂ (λ (k l : Bool). k && (eqb a.x a.y || l)) c.is_infinite.ensures c.is_finite.ensures in
    let second = ap₂ ◌&&◌ c.is_infinite-else-is_infinite-x.ensures c.is_finite-else-is_infinite-x.ensures in
    c.nan_of.ensures
    ∙ (unrounded-sum a.x a.y c.ranges.x.fits c.ranges.y.fits c.requires).2 (sym first ∙ c.if-is_infinite-x.false) (sym second ∙ c.if-is_infinite-is_finite.false)
