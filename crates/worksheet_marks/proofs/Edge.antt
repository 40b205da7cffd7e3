-- The two lines at the edge (R5.7) are exact.
use mathlib.Core.Path.{◌≡◌, refl, sym, ap, ap₂, ◌∙◌}
use mathlib.Core.Bool.{Bool, true, false, not}
use mathlib.Core.List.{[], ◌∷◌}
use Prim.Native.Nat.{ℕ, ◌+◌, ◌-◌, ◌*◌, ◌^◌}
use native.Mathlib.Nat.{mul_right_comm}
use native.Mathlib.Omega.{arith}
use lib.Ieee.{unlike}
use Rattle.rounding_spec.specs.Format.{binary32, limit}
use Rattle.rounding_spec.specs.Value.{finite, is_finite}
use Rattle.pattern_spec.specs.Comparisons.{same}
use Rattle.binary32_spec.specs.Steps.{mul_value, mul_step}
use Rattle.binary32_spec.specs.Marks.{mul_mark}
use Rattle.binary32_spec.proofs.Theorems.{mul-decodes}
use Rattle.errorfree_spec.proofs.Edge.{half_limit, edge_rest, last, last-add, kappa-is, minus_is}
use Rattle.errorfree_spec.proofs.Factors as factors
use Rattle.errorfree_spec.proofs.NoNumber.{both_of}
use Rattle.worksheet_spec.specs.Constants.{kappa, minus_two}
use Rattle.worksheet_spec.specs.declared.Step.TheVariants.{Multiply as multiply}
use Rattle.worksheet_spec.specs.Lines.{line, before, ends, value}
use Rattle.worksheet_spec.specs.Sheets.{at_edge, edge_finish}
use Rattle.worksheet_spec.proofs.Entries.{◌&◌}
use Rattle.worksheet_spec.proofs.Blocks.{test-is, no_test}
use Rattle.worksheet_spec.proofs.Constants.{kappa-value, minus-two-value}
use Rattle.worksheet_spec.proofs.SumSteps.{same_number, edge-number}
use Rattle.worksheet_marks.specs.Tables.{MarkTable}
use Rattle.worksheet_marks.proofs.Exactness.{mul-exact, factor-exact}
use Rattle.worksheet_marks.proofs.Blocks.{rest-cond}

-- κ·a', where a' is 2^127
last-is : last binary32 (omega arith) ≡ (2 ^ 24 - 1) * 2 ^ 253
last-is = less (last binary32 (omega arith)) (4 * edge_rest binary32) (limit binary32) (last-add binary32 (omega arith)) ∙ (unfold edge_rest in unfold limit in refl)
  where
    less : (l q W : ℕ) → l + q ≡ W → l ≡ W - q
    less l q W e = omega arith

first-exact : (a : ℕ) (s : Bool) → value a ≡ finite s (half_limit binary32) → mul_mark kappa a ≡ 0
first-exact a s e =
    let v = mul-decodes kappa a ∙ ap₂ (mul_value binary32) kappa-value e ∙ kappa-is binary32 (omega arith) s in
    factor-exact kappa a ((2 ^ 24 - 1) * 2 ^ 126) s (half_limit binary32) (last binary32 (omega arith)) kappa-value e v (ap (λ (i : ℕ). i * 2 ^ 149) last-is ∙ (unfold half_limit in refl))

-- (-2)·b', where b' is 2^102
second-exact : (b : ℕ) (t : Bool) → value b ≡ finite t (edge_rest binary32) → mul_mark minus_two b ≡ 0
second-exact b t e =
    let R = edge_rest binary32 in
    mul-exact minus_two b true (2 ^ 150) t R minus-two-value e (2 * R) (mul-decodes minus_two b ∙ ap₂ (mul_value binary32) minus-two-value e ∙ step t) (mul_right_comm 2 R (2 ^ 149))
  where
    step : (t : Bool) → mul_value binary32 (factors.minus_two binary32) (finite t (edge_rest binary32)) ≡ finite (unlike true t) (2 * edge_rest binary32)
    step false = minus_is binary32 (omega arith) true
    step true = minus_is binary32 (omega arith) false

-- they are not there where a' is no number
pub edge_none : (a a' b' : ℕ) → is_finite (value a') ≡ false → (edge_finish a a' b').lines ≡ []
unfolding edge_finish
edge_none a a' b' h = rw (no_test a a' b' h) refl

pub edge-table : (a a' b' : ℕ) → MarkTable [] (edge_finish a a' b').lines
unfolding edge_finish
edge-table a a' b' =
    rest-cond (at_edge a' b') (before (line multiply kappa a' (mul_step kappa a') ∷ line multiply minus_two b' (mul_step minus_two b') ∷ []) (ends (mul_step kappa a') (mul_step minus_two b')))
    (ends a a) both-exact (λ c. tt)
  where
    both-exact : at_edge a' b' ≡ true → (mul_mark kappa a' ≡ 0) × ((mul_mark minus_two b' ≡ 0) × Unit {0})
    both-exact c =
        let x = edge-number a' b' c in
        let half = finite x.0 (half_limit binary32) in
        let rest = finite (not x.0) (edge_rest binary32) in
        let h = both_of (same (value a') half) (same (value b') rest) (sym (test-is a a' b' x.0 (half_limit binary32) x.1) ∙ c) in
        let y = same_number (value b') (not x.0) (edge_rest binary32) h.1 in
        first-exact a' x.0 x.1 & second-exact b' y.0 y.1 & tt
