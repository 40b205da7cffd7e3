-- The flags of finite operands: OX where first is infinite, and where it is finite none, or UX in a product.
use mathlib.Core.Path.{◌≡◌, refl, ap, ◌∙◌}
use mathlib.Core.Logic.{◌⊎◌, ◌≢◌, inl, inr}
use mathlib.Core.Bool.{Bool, true, false}
use Prim.Native.Nat.{ℕ, ◌*◌, ◌≤◌, ◌<◌}
use lib.IntN.{ℤ, nat_abs}
use Rattle.rounding_spec.specs.declared.Ties.TheVariants.{ToZero}
use Rattle.rounding_spec.specs.Format.{Format, edge, sign_bit}
use Rattle.rounding_spec.specs.Value.{Value, infinite, finite, decode, is_nan, is_finite, is_infinite}
use Rattle.rounding_spec.proofs.RoundValue.{over-edge, zero-at-edge}
use Rattle.pattern_spec.proofs.Classified.{decode-flip}
use Rattle.augmented_spec.specs.declared.Pair.{Pair}
use Rattle.augmented_spec.specs.Pairs.{pair_of, invalid, overflowed, flags_of, answer}
use Rattle.pattern_spec.proofs.Finiteness.{negate-finite}
use Rattle.augmented_spec.specs.declared.Operation.{Operation}
use Rattle.augmented_spec.specs.declared.Operation.TheVariants.{Sum as sum, Difference as difference, Product as product}
use Rattle.augmented_spec.specs.Direct.{none, OX, UX}
use Rattle.augmented_spec.specs.Theorems.{FiniteOperands, second_operand}
use Rattle.augmented_spec.proofs.Second.{head, first-finite, first-infinite}
use Rattle.augmented_spec.proofs.FlagSets.{finite-flags}
use Rattle.augmented_spec.proofs.Read.{first, underflow, direct-answer, underflow-finite}
use Rattle.augmented_spec.proofs.FiniteOperands.{number}

pub taken-finite : (o : Operation) (F : Format) (y : ℕ) → y < 2 * sign_bit F → is_finite (decode F (second_operand o F y)) ≡ is_finite (decode F y)
taken-finite sum F y w = refl
taken-finite difference F y w = ap is_finite (decode-flip F y w) ∙ negate-finite (decode F y)
taken-finite product F y w = refl

sum-underflow : (o : Operation) (F : Format) (x y : ℕ) → o ≢ product → underflow o F x y ≡ false
sum-underflow sum F x y n = refl
sum-underflow difference F x y n = refl
sum-underflow product F x y n = absurd (n refl)

none-or-underflow : (u : Bool) → (flags_of false false u ≡ none) ⊎ (flags_of false false u ≡ UX)
none-or-underflow true = inr refl
none-or-underflow false = inl refl

module _ {o : Operation} {F : Format} {E : ℤ} {z : Bool} {p : Pair} (h : FiniteOperands o F E z p) where
  abbrev U : Bool
  U = underflow o F h.x h.y

  -- by the class of first
  flags-by : (v : Value) → first o F h.x h.y ≡ v → is_nan v ≡ false → p.flags ≡ flags_of false (is_infinite v) U
  unfolding answer
  flags-by v e n =
      let y = second_operand o F h.y in
      ap (λ (k : Pair). k.flags) (h.pair ∙ direct-answer o F h.x h.y) ∙ ap (λ (w : Value). flags_of (invalid F h.x y w) (overflowed F h.x y w) U) e
      ∙ finite-flags F h.x y v U (ap is_finite h.left) (taken-finite o F h.y h.width ∙ ap is_finite h.right) n

  pub flags-above : edge F < nat_abs E → p.flags ≡ OX
  flags-above g =
      let r = (number h).sign in
      let e : first o F h.x h.y ≡ infinite r = ap (λ (v : Value). (pair_of F v).first) (number h).value ∙ first-infinite F r (nat_abs E) (over-edge F h.proper ToZero (nat_abs E) g) in
      flags-by (infinite r) e refl ∙ ap (flags_of false true) (underflow-finite o F h.x h.y (ap is_finite e))

  flags-below : nat_abs E ≤ edge F → p.flags ≡ flags_of false false U
  flags-below g =
      let r = (number h).sign in
      flags-by (finite r (head F r (nat_abs E))) (ap (λ (v : Value). (pair_of F v).first) (number h).value ∙ first-finite F r (nat_abs E) (zero-at-edge F h.proper (nat_abs E) g)) refl

  pub sum-flags : nat_abs E ≤ edge F → o ≢ product → p.flags ≡ none
  sum-flags g n = flags-below g ∙ ap (flags_of false false) (sum-underflow o F h.x h.y n)

  pub product-flags : nat_abs E ≤ edge F → (p.flags ≡ none) ⊎ (p.flags ≡ UX)
  product-flags g = rw (flags-below g) (none-or-underflow U)
