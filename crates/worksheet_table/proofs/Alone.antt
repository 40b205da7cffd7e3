-- A value is NaN, infinite or finite, and only one of them.
use mathlib.Core.Path.{◌≡◌, refl, sym, ◌∙◌}
use mathlib.Core.Bool.{Bool, true, false}
use Rattle.rounding_spec.specs.Value.{Value, nan, infinite, finite, is_nan, is_infinite, is_finite}
use Rattle.errorfree_spec.proofs.NoNumber.{not-both}

pub nan-alone : (v : Value) → is_nan v ≡ true → (is_infinite v ≡ false) × (is_finite v ≡ false)
nan-alone nan h = (refl, refl)
nan-alone (infinite s) h = not-both (sym h)
nan-alone (finite s a) h = not-both (sym h)

pub infinite-alone : (v : Value) → is_infinite v ≡ true → (is_nan v ≡ false) × (is_finite v ≡ false)
infinite-alone nan h = not-both (sym h)
infinite-alone (infinite s) h = (refl, refl)
infinite-alone (finite s a) h = not-both (sym h)

-- what passes a test that no infinity and no NaN passes is neither
pub finite-by : (v : Value) (c : Bool) → c ≡ true → (is_finite v ≡ false → c ≡ false) → (is_nan v ≡ false) × (is_infinite v ≡ false)
finite-by nan c h k = not-both (sym h ∙ k refl)
finite-by (infinite s) c h k = not-both (sym h ∙ k refl)
finite-by (finite s a) c h k = (refl, refl)
