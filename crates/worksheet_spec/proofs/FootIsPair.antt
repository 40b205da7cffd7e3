-- The foot of every sheet is the direct pair.
use mathlib.Core.Path.{◌≡◌, refl, sym, ap, ◌∙◌}
use mathlib.Core.Bool.{false, true≢false}
use mathlib.Core.List.{[], ◌∷◌}
use Prim.Native.Nat.{ℕ}
use Rattle.rounding_spec.specs.Format.{binary32}
use Rattle.rounding_spec.specs.Value.{Value, nan, infinite, finite, is_nan, nan_of, round}
use Rattle.binary32_spec.specs.Steps.{result}
use Rattle.binary32_spec.proofs.Result.{result-number}
use Rattle.augmented_spec.specs.Pairs.{pair_of, second_of}
use Rattle.augmented_spec.specs.declared.Operation.{Operation}
use Rattle.augmented_spec.specs.declared.Operation.TheVariants.{Sum as sum, Difference as difference, Product as product}
use Rattle.augmented_spec.specs.Direct.{direct_pair}
use Rattle.augmented_spec.specs.Theorems.{second_operand}
use Rattle.augmented_spec.proofs.Answered.{first-number, second-number}
use Rattle.augmented_spec.proofs.Read.{exact_for, first-pattern, second-pattern}
use Rattle.worksheet_spec.specs.Lines.{Sheet, minus}
use Rattle.worksheet_spec.specs.Sheets.{sum_sheet, product_sheet, sheet_of}
use Rattle.worksheet_spec.specs.Theorems.{FootIsPair}
use Rattle.worksheet_spec.proofs.Foots.{Foots}
use Rattle.worksheet_spec.proofs.Sums.{sum-foot, sum-nan}
use Rattle.worksheet_spec.proofs.ProductSheet.{product-foot, product-nan}

-- the foot is the NaN of the operands x and y, twice
abbrev EndsInNaN : ℕ → ℕ → Sheet → Type 0
EndsInNaN x y s = (s.first ≡ nan_of binary32 (x ∷ y ∷ [])) × (s.second ≡ nan_of binary32 (x ∷ y ∷ []))

numbers : (v : Value) → is_nan v ≡ false → (is_nan (pair_of binary32 v).first ≡ false) × (is_nan (pair_of binary32 v).second ≡ false)
unfolding pair_of second_of round
numbers nan n = absurd (true≢false n)
numbers (infinite s) n = (refl, refl)
numbers (finite s N) n = (first-number binary32 s N, second-number binary32 s N)

-- a sheet that ends in the pair of the exact result, or in the operands' NaN where that is NaN, ends in the direct pair
foot-by : (o : Operation) (x y : ℕ) (s : Sheet) (v : Value) → exact_for o binary32 x y ≡ v → (v ≡ nan → EndsInNaN x (second_operand o binary32 y) s) → (is_nan v ≡ false → Foots v s)
    → (s.first ≡ (direct_pair o binary32 x y).first) × (s.second ≡ (direct_pair o binary32 x y).second)
unfolding pair_of second_of round result
foot-by o x y s v e none some = ((by v e none some).0 ∙ sym (first-pattern o binary32 x y), (by v e none some).1 ∙ sym (second-pattern o binary32 x y))
  where
    shown : Value → ℕ
    shown v = result binary32 (x ∷ second_operand o binary32 y ∷ []) v

    number : (v : Value) → exact_for o binary32 x y ≡ v → is_nan v ≡ false → Foots v s
        → (s.first ≡ shown (pair_of binary32 (exact_for o binary32 x y)).first) × (s.second ≡ shown (pair_of binary32 (exact_for o binary32 x y)).second)
    number v e n f =
        let k = numbers v n in (
          f.0 ∙ sym (result-number binary32 (x ∷ second_operand o binary32 y ∷ []) (pair_of binary32 v).first k.0) ∙ ap (λ (w : Value). shown (pair_of binary32 w).first) (sym e),
          f.1 ∙ sym (result-number binary32 (x ∷ second_operand o binary32 y ∷ []) (pair_of binary32 v).second k.1) ∙ ap (λ (w : Value). shown (pair_of binary32 w).second) (sym e),
        )

    by : (v : Value) → exact_for o binary32 x y ≡ v → (v ≡ nan → EndsInNaN x (second_operand o binary32 y) s) → (is_nan v ≡ false → Foots v s)
        → (s.first ≡ shown (pair_of binary32 (exact_for o binary32 x y)).first) × (s.second ≡ shown (pair_of binary32 (exact_for o binary32 x y)).second)
    by nan e none some = (
      (none refl).0 ∙ ap (λ (w : Value). shown (pair_of binary32 w).first) (sym e),
      (none refl).1 ∙ ap (λ (w : Value). shown (pair_of binary32 w).second) (sym e),
    )
    by (infinite r) e none some = number (infinite r) e refl (some refl)
    by (finite r N) e none some = number (finite r N) e refl (some refl)

pub foot-is-pair : FootIsPair
unfolding sheet_of
foot-is-pair sum x y = foot-by sum x y (sum_sheet x y) _ refl (sum-nan x y) (sum-foot x y)
foot-is-pair difference x y = foot-by difference x y (sum_sheet x (minus y)) _ refl (sum-nan x (minus y)) (sum-foot x (minus y))
foot-is-pair product x y = foot-by product x y (product_sheet x y) _ refl (product-nan x y) (product-foot x y)
