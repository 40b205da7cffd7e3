-- The steps on binary32 patterns are those of lib.Ieee: the theorems of `specs/Agreement.antt`.
use mathlib.Core.Path.{◌≡◌, sym, ap, ◌∙◌}
use mathlib.Core.List.{[], ◌∷◌}
use Prim.Native.Nat.{ℕ}
use native.Mathlib.Omega.{arith}
use lib.Ieee.{binary32 as standard}
use Rattle.rounding_spec.specs.Format.{binary32}
use Rattle.rounding_spec.specs.Value.{Value, nan, Fits, decode, encode}
use Rattle.rounding_spec.proofs.Codec.{decode-encode}
use Rattle.rounding_spec.proofs.NaN.{number}
use Rattle.binary32_spec.specs.Steps.{result}
use Rattle.binary32_spec.specs.Agreement.{Agreed, AddAgrees, SubAgrees, MulAgrees}
use Rattle.binary32_spec.proofs.Result.{result-number, result-plain, decode-result, add-fits, sub-fits, mul-fits, add_step_lem, sub-step, mul-step}
use Rattle.binary32_spec.proofs.IeeeSame.{same_bits}
use Rattle.binary32_spec.proofs.IeeeDecode.{decode-same}
use Rattle.binary32_spec.proofs.IeeeSum.{add_same, sub_same}
use Rattle.binary32_spec.proofs.IeeeProduct.{mul-same}

-- r shows the value v of a step on x and y, and q is v's pattern
agreed : (x y r q : ℕ) (v : Value) → Fits binary32 v → r ≡ result binary32 (x ∷ y ∷ []) v → encode binary32 v ≡ q → Agreed x y r q
unfolding encode
agreed x y r q v fits shown same = record {
  number = λ n. shown ∙ result-number binary32 (x ∷ y ∷ []) v (number v (λ (e : v ≡ nan). n (ours ∙ e))) ∙ same;
  together = (λ e. theirs ∙ (sym ours ∙ e), λ e. ours ∙ (sym theirs ∙ e));
  fixed = λ e. sym same ∙ ap (encode binary32) (sym theirs ∙ e);
  plain = λ m n. shown ∙ result-plain binary32 (x ∷ y ∷ []) (m, (n, tt)) v ∙ same;
}
  where
    ours : decode binary32 r ≡ v
    ours = ap (decode binary32) shown ∙ decode-result binary32 (x ∷ y ∷ []) (omega arith) v fits

    theirs : decode binary32 q ≡ v
    theirs = ap (decode binary32) (sym same) ∙ decode-encode binary32 (omega arith) v fits

pub add-agrees : AddAgrees
add-agrees x y =
    agreed x y _ _ _ (add-fits binary32 (decode binary32 x) (decode binary32 y)) (add_step_lem x y)
    (same_bits standard (add_same standard (decode-same standard x) (decode-same standard y)))

pub sub-agrees : SubAgrees
sub-agrees x y =
    agreed x y _ _ _ (sub-fits binary32 (decode binary32 x) (decode binary32 y)) (sub-step x y)
    (same_bits standard (sub_same standard (decode-same standard x) (decode-same standard y)))

pub mul-agrees : MulAgrees
mul-agrees x y =
    agreed x y _ _ _ (mul-fits binary32 (decode binary32 x) (decode binary32 y)) (mul-step x y)
    (same_bits standard (mul-same standard (decode-same standard x) (decode-same standard y)))
