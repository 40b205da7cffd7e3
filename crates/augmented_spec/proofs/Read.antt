-- The direct pair of every operation: the answer to its exact result, whose halves are read back from their patterns.
use mathlib.Core.Path.{◌≡◌, refl, ap, ◌∙◌}
use mathlib.Core.Bool.{Bool, false}
use mathlib.Core.List.{[], ◌∷◌}
use Prim.Native.Nat.{ℕ}
use Rattle.rounding_spec.specs.declared.Ties.TheVariants.{ToZero}
use Rattle.rounding_spec.specs.Format.{Format, Proper}
use Rattle.rounding_spec.specs.Value.{Value, nan, infinite, finite, Fits, decode, round, is_finite}
use Rattle.rounding_spec.proofs.RoundValue.{round-fits}
use Rattle.pattern_spec.specs.Classes.{flip}
use Rattle.binary32_spec.specs.Steps.{result}
use Rattle.binary32_spec.proofs.Result.{decode-result}
use Rattle.augmented_spec.specs.declared.Pair.{Pair}
use Rattle.augmented_spec.specs.Pairs.{rest, zero_takes, second_of, pair_of, underflowed, answer, exact_sum, sum_pair, difference_pair, exact_product, product_pair}
use Rattle.augmented_spec.specs.declared.Operation.{Operation}
use Rattle.augmented_spec.specs.declared.Operation.TheVariants.{Sum as sum, Difference as difference, Product as product}
use Rattle.augmented_spec.specs.Direct.{direct_pair}
use Rattle.augmented_spec.specs.Theorems.{second_operand}
use Rattle.augmented_spec.proofs.FlagSets.{underflow-none}

-- the exact result of an operation on two patterns
abbrev pub exact_for : Operation → Format → ℕ → ℕ → Value
exact_for sum F x y = exact_sum F x y
exact_for difference F x y = exact_sum F x (flip F y)
exact_for product F x y = exact_product F x y

-- whether U is raised: by a product alone
abbrev pub underflow : Operation → Format → ℕ → ℕ → Bool
underflow sum F x y = false
underflow difference F x y = false
underflow product F x y = underflowed F (exact_product F x y) (pair_of F (exact_product F x y))

pub direct-answer : (o : Operation) (F : Format) (x y : ℕ) → direct_pair o F x y ≡ answer F x (second_operand o F y) (pair_of F (exact_for o F x y)) (underflow o F x y)
unfolding direct_pair sum_pair difference_pair product_pair
direct-answer sum F x y = refl
direct-answer difference F x y = refl
direct-answer product F x y = refl

-- its halves
module _ (o : Operation) (F : Format) (x y : ℕ) where
  abbrev pub first : Value
  first = (pair_of F (exact_for o F x y)).first

  abbrev pub second : Value
  second = (pair_of F (exact_for o F x y)).second

-- no U is raised where first is not finite
pub underflow-finite : (o : Operation) (F : Format) (x y : ℕ) → is_finite (first o F x y) ≡ false → underflow o F x y ≡ false
underflow-finite sum F x y h = refl
underflow-finite difference F x y h = refl
underflow-finite product F x y h = underflow-none F (exact_product F x y) (pair_of F (exact_product F x y)) h

-- ---- both halves are values of the format
zero-fits : (F : Format) (s : Bool) (v : Value) → Fits F v → Fits F (zero_takes s v)
unfolding Fits zero_takes
zero-fits F s nan h = tt
zero-fits F s (infinite r) h = tt
zero-fits F s (finite r a) h = h

half-fits : (F : Format) (v first : Value) → Fits F (second_of F v first)
unfolding Fits second_of
half-fits F v nan = tt
half-fits F v (infinite s) = tt
half-fits F v (finite s a) = zero-fits F s (round ToZero F (rest F v (finite s a))) (round-fits ToZero F (rest F v (finite s a)))

pub first_fits_lem : (o : Operation) (F : Format) (x y : ℕ) → Fits F (first o F x y)
unfolding pair_of
first_fits_lem o F x y = round-fits ToZero F (exact_for o F x y)

pub second_fits : (o : Operation) (F : Format) (x y : ℕ) → Fits F (second o F x y)
unfolding pair_of
second_fits o F x y = half-fits F (exact_for o F x y) (first o F x y)

-- ---- the patterns are those of the halves
pub first-pattern : (o : Operation) (F : Format) (x y : ℕ) → (direct_pair o F x y).first ≡ result F (x ∷ second_operand o F y ∷ []) (first o F x y)
unfolding answer
first-pattern o F x y = ap (λ (p : Pair). p.first) (direct-answer o F x y)

pub second-pattern : (o : Operation) (F : Format) (x y : ℕ) → (direct_pair o F x y).second ≡ result F (x ∷ second_operand o F y ∷ []) (second o F x y)
unfolding answer
second-pattern o F x y = ap (λ (p : Pair). p.second) (direct-answer o F x y)

-- ---- and stand for them
module _ (o : Operation) (F : Format) (ok : Proper F) (x y : ℕ) where
  pub first_read_lem : decode F (direct_pair o F x y).first ≡ first o F x y
  first_read_lem = ap (decode F) (first-pattern o F x y) ∙ decode-result F (x ∷ second_operand o F y ∷ []) ok (first o F x y) (first_fits_lem o F x y)

  pub second-read : decode F (direct_pair o F x y).second ≡ second o F x y
  second-read = ap (decode F) (second-pattern o F x y) ∙ decode-result F (x ∷ second_operand o F y ∷ []) ok (second o F x y) (second_fits o F x y)
