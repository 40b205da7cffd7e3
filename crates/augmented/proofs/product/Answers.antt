use mathlib.Core.Path.{sym, ◌∙◌}
use Rattle.pattern_spec.specs.Classes.{value_of}
use Rattle.augmented_spec.proofs.Answered.{product-finite, product-infinite, product-nan}
use Rattle.augmented.proofs.product.Goals as goal

pub of_number-requires : goal.of_number-requires
of_number-requires c = (rw c.in-Finite.is at c.product-total.ensures).bounded.sig

pub returns-in-Finite : goal.returns-in-Finite
unfolding value_of
returns-in-Finite c =
    let e = rw c.in-Finite.is at c.product-total.ensures in
    c.of_number.ensures ∙ sym (product-finite c.args.x c.args.y _ _ e.is)

pub returns-in-Infinite : goal.returns-in-Infinite
unfolding value_of
returns-in-Infinite c =
    let e = rw c.in-Infinite.is at c.product-total.ensures in
    product-infinite c.args.x c.args.y _ e.is _ c.infinity.ensures _ c.twice.ensures

pub returns-in-NotANumber : goal.returns-in-NotANumber
unfolding value_of
returns-in-NotANumber c =
    let e = rw c.in-NotANumber.is at c.product-total.ensures in
    product-nan c.args.x c.args.y e.is _ c.nan_of.ensures _ c.twice-in-NotANumber.ensures
