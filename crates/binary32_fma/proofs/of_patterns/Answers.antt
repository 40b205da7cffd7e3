use mathlib.Core.Path.{refl}
use Rattle.pattern_spec.specs.Classes.{value_of}
use Rattle.binary32_spec.proofs.Fused.{fused-nan, fused-infinite, fused-number}
use Rattle.binary32_fma.proofs.of_patterns.Goals as goal

pub finite_product_plus-requires : goal.finite_product_plus-requires
finite_product_plus-requires c = (rw c.in-Finite.is at c.product.ensures).bounded

pub returns-in-NotANumber : goal.returns-in-NotANumber
unfolding value_of
returns-in-NotANumber c =
    let e = rw c.in-NotANumber.is at c.product.ensures in
    let a = fused-nan _ _ _ e.is in
    rw (c.special.ensures, c.nan_of.ensures) (record { result_value = a.0; mark_value = a.1 })

pub returns-in-Infinite : goal.returns-in-Infinite
unfolding value_of
returns-in-Infinite c =
    let e = rw c.in-Infinite.is at c.product.ensures in
    let a = fused-infinite _ _ _ _ e.is in
    rw (c.special-in-Infinite.ensures, c.infinite_product_plus.ensures) (record { result_value = a.0; mark_value = a.1 })

pub returns-in-Finite : goal.returns-in-Finite
unfolding value_of
returns-in-Finite c =
    let e = rw c.in-Finite.is at c.product.ensures in
    let a = fused-number _ _ _ _ e.is refl in
    rw c.finite_product_plus.ensures (record { result_value = a.0; mark_value = a.1 })
