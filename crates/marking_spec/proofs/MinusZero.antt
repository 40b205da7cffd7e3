-- Adding 80000000 gives back what is added to it: every half of a pair, NaN with its payload and zeros with their sign.
use mathlib.Core.Path.{◌≡◌, refl, sym, ap, ap₂, ◌∙◌}
use mathlib.Core.Bool.{Bool, true, false}
use mathlib.Core.List.{List, [], ◌∷◌}
use Prim.Native.Nat.{ℕ}
use native.Mathlib.Nat.{eq-zero-or-pos}
use native.Mathlib.Omega.{arith}
use borrow.Author.Tests.{lt-ltb}
use mathlib.Core.Logic.{inl, inr}
use Rattle.rounding_spec.specs.Format.{binary32, infinity}
use Rattle.rounding_spec.specs.declared.Ties.TheVariants.{ToEven}
use Rattle.rounding_spec.specs.Value.{Value, nan, infinite, finite, Fits, is_nan, decode, encode, signed, round}
use Rattle.rounding_spec.proofs.NaN.{quieted-is, nan_swap}
use Rattle.pattern_spec.specs.Exact.{plus, finer}
use Rattle.pattern_spec.proofs.Exchanged.{plus_comm}
use Rattle.binary32_spec.specs.Steps.{add_value, result, add_step}
use Rattle.binary32_spec.proofs.Result.{result-number, decode-result, result-quiet, result-width, result-same, add_step_lem}
use Rattle.binary32_spec.proofs.Theorems.{step-nan, step-infinite}
use Rattle.errorfree_spec.proofs.Steps.{round_whole}
use Rattle.augmented_spec.specs.declared.Operation.{Operation}
use Rattle.augmented_spec.specs.Direct.{direct_pair}
use Rattle.augmented_spec.specs.Theorems.{second_operand}
use Rattle.augmented_spec.proofs.Read.{first, second, first_fits_lem, second_fits, first-pattern, second-pattern}
use Rattle.marking_spec.specs.Marking.{minus_zero}

minus-zero-value : decode binary32 minus_zero ≡ finite true 0
unfolding decode
minus-zero-value = refl

plus-minus-zero : (s : Bool) (a : ℕ) → plus (finite s a) (finite true 0) ≡ finite s a
unfolding plus
plus-minus-zero true a = ap (finite true) (omega arith)
plus-minus-zero false a = elim (eq-zero-or-pos a) [ inl e ↦ rw e | inr h ↦ rw (lt-ltb 0 a h) (ap (finite false) (omega arith)) ]

add-value : (s : Bool) (a : ℕ) → Fits binary32 (finite s a) → add_value binary32 (finite s a) (finite true 0) ≡ finite s a
unfolding add_value round Fits finer
add-value s a h = ap (λ (v : Value). round ToEven binary32 (finer binary32 v)) (plus-minus-zero s a) ∙ round_whole ToEven binary32 s a h.0 h.1

encoded : (s : Bool) → signed binary32 s (infinity binary32) ≡ encode binary32 (infinite s)
unfolding encode
encoded s = refl

add-value-comm : (u v : Value) → add_value binary32 v u ≡ add_value binary32 u v
unfolding add_value
add-value-comm u v = ap (λ (w : Value). round ToEven binary32 (finer binary32 w)) (plus_comm u v)

-- of a value v of the format, whose pattern goes by some operands
module _ (operands : List ℕ) where
  stays : (v : Value) → Fits binary32 v → let p = result binary32 operands v in add_step p minus_zero ≡ p
  stays nan h =
      let p = result binary32 operands nan in
      let is : decode binary32 p ≡ nan = decode-result binary32 operands (omega arith) nan h in
      (step-nan.0 p minus_zero is).0 ∙ quieted-is binary32 (omega arith) p (result-width binary32 operands (omega arith) nan h) is
      ∙ rw (result-quiet binary32 operands (omega arith) nan h)
  stays (infinite s) h =
      let p = result binary32 operands (infinite s) in
      let is : decode binary32 p ≡ infinite s = decode-result binary32 operands (omega arith) (infinite s) h in
      (step-infinite.0 p minus_zero s true 0 is minus-zero-value).0 ∙ encoded s ∙ sym (result-number binary32 operands (infinite s) refl)
  stays (finite s a) h =
      let p = result binary32 operands (finite s a) in
      let is : decode binary32 p ≡ finite s a = decode-result binary32 operands (omega arith) (finite s a) h in
      add_step_lem p minus_zero ∙ ap (result binary32 (p ∷ minus_zero ∷ [])) (ap₂ (add_value binary32) is minus-zero-value ∙ add-value s a h)
      ∙ result-number binary32 (p ∷ minus_zero ∷ []) (finite s a) refl ∙ sym (result-number binary32 operands (finite s a) refl)

-- ---- in the other order
exchanged : (p : ℕ) → add_step minus_zero p ≡ add_step p minus_zero
exchanged p =
    let v = decode binary32 p in
    add_step_lem minus_zero p ∙ ap (result binary32 (minus_zero ∷ p ∷ [])) (add-value-comm v (decode binary32 minus_zero))
    ∙ result-same binary32 (minus_zero ∷ p ∷ []) (p ∷ minus_zero ∷ []) (nan_swap binary32 minus_zero p (ap is_nan minus-zero-value)) (add_value binary32 v (decode binary32 minus_zero))
    ∙ sym (add_step_lem p minus_zero)

-- ---- both halves of a pair, in either order
abbrev pub Stays : ℕ → Type 0
Stays p = (add_step p minus_zero ≡ p) × (add_step minus_zero p ≡ p)

module _ (o : Operation) (x y : ℕ) where
  pub first-stays : Stays (direct_pair o binary32 x y).first
  first-stays =
      let e : add_step (direct_pair o binary32 x y).first minus_zero ≡ (direct_pair o binary32 x y).first =
      rw (first-pattern o binary32 x y) (stays (x ∷ second_operand o binary32 y ∷ []) (first o binary32 x y) (first_fits_lem o binary32 x y)) in
      (e, exchanged (direct_pair o binary32 x y).first ∙ e)

  pub second-stays : Stays (direct_pair o binary32 x y).second
  second-stays =
      let e : add_step (direct_pair o binary32 x y).second minus_zero ≡ (direct_pair o binary32 x y).second =
      rw (second-pattern o binary32 x y) (stays (x ∷ second_operand o binary32 y ∷ []) (second o binary32 x y) (second_fits o binary32 x y)) in
      (e, exchanged (direct_pair o binary32 x y).second ∙ e)
