use Rattle.pattern_spec.specs.Classes.{value_of}
use Rattle.binary32_spec.proofs.Products.{nan-product, infinite-product, finite-product}
use Rattle.binary32.proofs.mul.Goals as goal

pub returns-in-NotANumber : goal.returns-in-NotANumber
unfolding value_of
returns-in-NotANumber c =
    let e = rw c.in-NotANumber.is at c.product.ensures in
    let a = nan-product _ _ e.is in
    rw (c.special.ensures, c.nan_of.ensures) (record { result_value = a.0; mark_value = a.1 })

pub returns-in-Infinite : goal.returns-in-Infinite
unfolding value_of
returns-in-Infinite c =
    let e = rw c.in-Infinite.is at c.product.ensures in
    let a = infinite-product _ _ _ e.is in
    rw (c.special-in-Infinite.ensures, c.infinity.ensures) (record { result_value = a.0; mark_value = a.1 })

pub returns-in-Finite : goal.returns-in-Finite
unfolding value_of
returns-in-Finite c =
    let e = rw c.in-Finite.is at c.product.ensures in
    let a = finite-product _ _ _ _ e.is in
    rw c.rounded.ensures (record { result_value = a.0; mark_value = a.1 })
