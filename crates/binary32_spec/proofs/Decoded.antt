-- A step's value is read back from its pattern.
use mathlib.Core.Path.{ap, ◌∙◌}
use mathlib.Core.List.{[], ◌∷◌}
use native.Mathlib.Omega.{arith}
use Rattle.rounding_spec.specs.Format.{binary32}
use Rattle.rounding_spec.specs.Value.{decode}
use Rattle.binary32_spec.specs.Theorems.{AddDecodes, SubDecodes, MulDecodes, FmaDecodes}
use Rattle.binary32_spec.proofs.Result.{decode-result, add-fits, sub-fits, mul-fits, fma-fits, add_step_lem, sub-step, mul-step, fma-step}

pub add-decodes : AddDecodes
add-decodes x y = ap (decode binary32) (add_step_lem x y) ∙ decode-result binary32 (x ∷ y ∷ []) (omega arith) _ (add-fits binary32 (decode binary32 x) (decode binary32 y))

pub sub-decodes : SubDecodes
sub-decodes x y = ap (decode binary32) (sub-step x y) ∙ decode-result binary32 (x ∷ y ∷ []) (omega arith) _ (sub-fits binary32 (decode binary32 x) (decode binary32 y))

pub mul-decodes : MulDecodes
mul-decodes x y = ap (decode binary32) (mul-step x y) ∙ decode-result binary32 (x ∷ y ∷ []) (omega arith) _ (mul-fits binary32 (decode binary32 x) (decode binary32 y))

pub fma-decodes : FmaDecodes
fma-decodes x y z =
    ap (decode binary32) (fma-step x y z)
    ∙ decode-result binary32 (x ∷ y ∷ z ∷ []) (omega arith) _ (fma-fits binary32 (decode binary32 x) (decode binary32 y) (decode binary32 z))
