-- The direct pair of an exact result that is NaN or infinite, and where a NaN raises I.
use mathlib.Core.Path.{◌≡◌, refl, sym, ap, ap₂, ◌∙◌}
use mathlib.Core.Logic.{◌⊎◌, inl, inr}
use mathlib.Core.Bool.{Bool, true, false, not, ◌&&◌, ◌||◌, or-false}
use mathlib.Core.List.{[], ◌∷◌}
use Prim.Native.Nat.{ℕ}
use Rattle.rounding_spec.specs.Format.{Format, infinity}
use Rattle.rounding_spec.specs.Value.{Value, nan, infinite, finite, decode, is_nan, signalling, nan_of, signed, encode, round, is_finite}
use Rattle.pattern_spec.specs.Exact.{plus, times, finer}
use Rattle.binary32_spec.specs.Steps.{result}
use Rattle.augmented_spec.specs.Pairs.{second_of, pair_of, invalid, overflowed, flags_of, answer}
use Rattle.augmented_spec.specs.declared.Operation.{Operation}
use Rattle.augmented_spec.specs.declared.Operation.TheVariants.{Sum as sum, Difference as difference, Product as product}
use Rattle.augmented_spec.specs.Direct.{direct_pair, none}
use Rattle.augmented_spec.specs.Theorems.{Twice, second_operand}
use Rattle.augmented_spec.proofs.FlagSets.{invalid-none}
use Rattle.augmented_spec.proofs.Answered.{Operands, same-pair, sum-operands, product-operands}
use Rattle.augmented_spec.proofs.Read.{exact_for, direct-answer, underflow-finite}

-- ---- the exact result, on values
abbrev pub on_values : Operation → Format → Value → Value → Value
on_values sum F v w = finer F (plus v w)
on_values difference F v w = finer F (plus v w)
on_values product F v w = times v w

pub exact-is : (o : Operation) (F : Format) (x y : ℕ) → exact_for o F x y ≡ on_values o F (decode F x) (decode F (second_operand o F y))
exact-is sum F x y = refl
exact-is difference F x y = refl
exact-is product F x y = refl

operands : (o : Operation) (F : Format) (v w : Value) → Operands v w (on_values o F v w)
operands sum F v w = sum-operands F v w
operands difference F v w = sum-operands F v w
operands product F v w = product-operands v w

-- ---- the pair of an exact result that is NaN or infinite
module _ (o : Operation) (F : Format) (x y : ℕ) where
  special-answer : (v : Value) → exact_for o F x y ≡ v → is_finite (pair_of F v).first ≡ false → direct_pair o F x y ≡ answer F x (second_operand o F y) (pair_of F v) false
  special-answer v e n =
      direct-answer o F x y ∙ ap₂ (λ (w : Value) (u : Bool). answer F x (second_operand o F y) (pair_of F w) u) e
      (underflow-finite o F x y (ap (λ (w : Value). is_finite (pair_of F w).first) e ∙ n))

  pub nan-pair : (i : Bool) → exact_for o F x y ≡ nan → invalid F x (second_operand o F y) nan ≡ i → Twice (direct_pair o F x y) (nan_of F (x ∷ second_operand o F y ∷ [])) (flags_of i false false)
  unfolding answer pair_of second_of round result overflowed
  nan-pair i e h = special-answer nan e refl ∙ same-pair refl refl (rw h)

  pub infinite-pair : (s : Bool) → exact_for o F x y ≡ infinite s → Twice (direct_pair o F x y) (signed F s (infinity F)) none
  unfolding answer pair_of second_of round result encode overflowed
  infinite-pair s e =
      let k = rw (sym (exact-is o F x y) ∙ e) at (operands o F (decode F x) (decode F (second_operand o F y))) in
      special-answer (infinite s) e refl ∙ same-pair refl refl (rw (invalid-none F x (second_operand o F y) (infinite s) k.0 k.1 refl, k.2))

-- ---- I of a NaN result
module _ (F : Format) (x y : ℕ) where
  -- from a NaN operand, if one is signalling
  pub invalid-operand : (decode F x ≡ nan) ⊎ (decode F y ≡ nan) → invalid F x y nan ≡ signalling F x || signalling F y
  unfolding invalid
  invalid-operand o =
      ap (λ (b : Bool). signalling F x || signalling F y || b) (new (decode F x) (decode F y) o) ∙ or-false (signalling F x || signalling F y)
    where
      new : (v w : Value) → (v ≡ nan) ⊎ (w ≡ nan) → not (is_nan v) && not (is_nan w) ≡ false
      new v w (inl e) = rw e
      new nan w (inr e) = refl
      new (infinite s) w (inr e) = rw e
      new (finite s a) w (inr e) = rw e

  -- from others, always
  pub invalid-new : is_nan (decode F x) ≡ false → is_nan (decode F y) ≡ false → invalid F x y nan ≡ true
  unfolding invalid signalling
  invalid-new a b = rw (a, b)
