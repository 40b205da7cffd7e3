-- The operands of a finite product are finite, and it is their product, rounded.
use mathlib.Core.Path.{◌≡◌, refl, sym, ap, ◌∙◌, subst}
use mathlib.Core.Bool.{Bool, true, false, ◌&&◌}
use Prim.Native.Nat.{ℕ, ◌*◌, ◌<◌}
use native.Mathlib.Omega.{arith}
use lib.Ieee.{unlike}
use Rattle.rounding_spec.specs.declared.Ties.TheVariants.{ToEven}
use Rattle.rounding_spec.specs.Format.{binary32, limit}
use Rattle.rounding_spec.specs.Nearest.{Rep}
use Rattle.rounding_spec.specs.Value.{finite, Fits, is_finite}
use Rattle.rounding_spec.proofs.RoundValue.{round-finite}
use Rattle.rounding_spec.proofs.Codec.{decode-fits}
use Rattle.binary32_spec.specs.Steps.{mul_step}
use Rattle.binary32_spec.proofs.Theorems.{mul-decodes}
use Rattle.errorfree_spec.proofs.NoNumber.{not-both, both_of, mul-none}
use Rattle.errorfree_spec.proofs.Steps.{to_even}
use Rattle.worksheet_spec.specs.Lines.{value}
use Rattle.worksheet_spec.proofs.Patterns.{number_at}
use Rattle.worksheet_spec.proofs.Products.{p-value}

-- the numbers of x and y, whose product rounds to m
pub record Factors (x y m : ℕ) : Type 0 where
  pub s : Bool
  pub t : Bool
  pub a : ℕ
  pub b : ℕ
  pub xi : value x ≡ finite s a
  pub yi : value y ≡ finite t b
  pub xr : Rep 24 0 a
  pub yr : Rep 24 0 b
  pub xb : a < limit binary32
  pub yb : b < limit binary32
  pub fine : to_even binary32 (a * b) < limit binary32
  pub is : m ≡ to_even binary32 (a * b)

pub factors-of : (x y : ℕ) (s : Bool) (m : ℕ) → value (mul_step x y) ≡ finite s m → Factors x y m
unfolding Fits
factors-of x y s m e = by (is_finite (value x) && is_finite (value y)) refl
  where
    by : (i : Bool) → is_finite (value x) && is_finite (value y) ≡ i → Factors x y m
    by false n = not-both (sym (ap is_finite e) ∙ ap is_finite (mul-decodes x y) ∙ mul-none binary32 (value x) (value y) n)
    by true n =
        let h = both_of (is_finite (value x)) (is_finite (value y)) n in
        let u = number_at x h.0 in
        let w = number_at y h.1 in
        let k = subst (Fits binary32) e (decode-fits binary32 (omega arith) (mul_step x y)) in
        let is : m ≡ to_even binary32 (u.1 * w.1) = round-finite ToEven binary32 (unlike u.0 w.0) (u.1 * w.1) s m
        (sym (p-value x y u.0 w.0 u.1 w.1 u.2 w.2 u.3 w.3 u.4 w.4) ∙ e) in
        record { s = u.0; t = w.0; a = u.1; b = w.1; xi = u.2; yi = w.2; xr = u.3; yr = w.3; xb = u.4; yb = w.4; fine = rw (← is) k.1; is = is }
