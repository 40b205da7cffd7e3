use mathlib.Core.Path.{refl, sym, ap, ◌∙◌}
use Rattle.rounding_spec.specs.Value.{Fits, encode}
use Rattle.pattern_spec.specs.Classes.{value_of}
use Rattle.augmented_spec.specs.declared.Pair.{Pair}
use Rattle.augmented_spec.proofs.Answered.{product-finite, special-flags}
use Rattle.augmented.proofs.product_flags.Goals as goal

pub flags_of_number-requires : goal.flags_of_number-requires
flags_of_number-requires c = (rw c.in-Finite.is at c.product-class.ensures).bounded.sig

pub returns-in-Finite : goal.returns-in-Finite
unfolding value_of
returns-in-Finite c =
    let e = rw c.in-Finite.is at c.product-class.ensures in
    c.flags_of_number.ensures ∙ sym (ap (λ (p : Pair). p.flags) (product-finite c.args.x c.args.y _ _ e.is))

pub returns-in-Infinite : goal.returns-in-Infinite
unfolding value_of Fits
returns-in-Infinite c =
    let e = rw c.in-Infinite.is at c.product-class.ensures in
    c.of_special.ensures ∙ special-flags c.args.x c.args.y _ e.is refl tt _ c.infinity.ensures

pub returns-in-NotANumber : goal.returns-in-NotANumber
unfolding value_of Fits encode
returns-in-NotANumber c =
    let e = rw c.in-NotANumber.is at c.product-class.ensures in
    c.of_special-in-NotANumber.ensures ∙ special-flags c.args.x c.args.y _ e.is refl tt _ refl
