-- The values of the sheet's constants are the factors of the error-free transformations.
use mathlib.Core.Path.{◌≡◌, refl}
use mathlib.Core.Bool.{false}
use Prim.Native.Nat.{◌^◌}
use Rattle.rounding_spec.specs.Format.{binary32}
use Rattle.rounding_spec.specs.Value.{finite, decode}
use Rattle.errorfree_spec.specs.Constants as factor
use Rattle.errorfree_spec.proofs.Factors as factors
use Rattle.errorfree_spec.proofs.Edge.{half_limit, edge_rest}
use Rattle.worksheet_spec.specs.Constants.{psi, two, minus_two, half, kappa, two_to_24, two_to_48, two_to_minus_24, plus_zero, smallest, two_to_127, two_to_102, two_to_minus_102, two_to_minus_126}
use Rattle.worksheet_spec.specs.Lines.{value}

-- ---- the factors
pub psi-value : value psi ≡ factor.psi_value binary32
unfolding decode
psi-value = refl

pub two-value : value two ≡ factor.two_value binary32
unfolding decode
two-value = refl

pub minus-two-value : value minus_two ≡ factors.minus_two binary32
unfolding decode
minus-two-value = refl

pub half-value : value half ≡ factors.half binary32
unfolding decode
half-value = refl

pub kappa-value : value kappa ≡ factors.kappa binary32
unfolding decode
kappa-value = refl

pub up-value : value two_to_24 ≡ factors.scale binary32
unfolding decode
up-value = refl

pub up-up-value : value two_to_48 ≡ factors.scale_twice binary32
unfolding decode
up-up-value = refl

pub down-value : value two_to_minus_24 ≡ factors.unscale binary32
unfolding decode
down-value = refl

pub zero-value : value plus_zero ≡ factors.zero
unfolding decode
zero-value = refl

-- ---- what results are compared with, and u
pub half-limit-value : value two_to_127 ≡ finite false (half_limit binary32)
unfolding decode half_limit
half-limit-value = refl

pub edge-rest-value : value two_to_102 ≡ finite false (edge_rest binary32)
unfolding decode edge_rest
edge-rest-value = refl

pub tie-value : value two_to_minus_102 ≡ finite false (2 ^ 47)
unfolding decode
tie-value = refl

pub lowest-value : value two_to_minus_126 ≡ finite false (2 ^ 23)
unfolding decode
lowest-value = refl

pub smallest-value : value smallest ≡ finite false 1
unfolding decode
smallest-value = refl
