-- Every question has its table.
use mathlib.Core.Path.{◌≡◌, refl, sym, ap, ◌∙◌, subst}
use mathlib.Core.Bool.{Bool, true, false, ◌||◌}
use mathlib.Core.List.{List}
use Prim.Native.Nat.{ℕ, ◌^◌}
use native.Mathlib.Decide.{dec_le, ℕ_discrete}
use native.Mathlib.Omega.{arith}
use Rattle.rounding_spec.specs.declared.Ties.TheVariants.{ToEven}
use Rattle.rounding_spec.specs.Format.{binary32}
use Rattle.rounding_spec.specs.Value.{Value, nan, infinite, finite, is_finite, is_infinite, is_nan}
use Rattle.rounding_spec.proofs.NaN.{rounded-number}
use Rattle.pattern_spec.specs.Classes.{both_finite}
use Rattle.binary32_spec.specs.Steps.{add_step, mul_step}
use Rattle.binary32_spec.proofs.Theorems.{add-finite, mul-finite}
use Rattle.errorfree_spec.proofs.NoNumber.{not-both, number-of, both_of}
use Rattle.augmented_spec.specs.declared.Operation.TheVariants.{Sum as sum, Difference as difference, Product as product}
use Rattle.worksheet_spec.specs.Lines.{Line, value, minus, is_zero_pattern}
use Rattle.worksheet_spec.specs.declared.Branch.{Branch}
use Rattle.worksheet_spec.specs.Sheets.{branch_of, sheet_of}
use Rattle.worksheet_spec.proofs.Branches.{branch-zero, branch-tiny, branch-middle, branch-other}
use Rattle.worksheet_marks.specs.Theorems.{SumTable, SpecialSumTable, EverySum, ProductTable, SpecialProductTable, EveryProduct}
use Rattle.worksheet_marks.proofs.Sums.{finite-sum}
use Rattle.worksheet_marks.proofs.Overflows.{overflowing-sum}
use Rattle.worksheet_marks.proofs.Products.{zero-product, other-product}
use Rattle.worksheet_marks.proofs.Tiny.{tiny-product}
use Rattle.worksheet_marks.proofs.Middle.{middle-product}
use Rattle.worksheet_marks.proofs.ProductOverflows.{overflowing-product}
use Rattle.worksheet_marks.proofs.Special.{special-sum, special-product}

-- ---- a step on finite operands gives no NaN
add-number : (x y : ℕ) → both_finite x y ≡ true → is_nan (value (add_step x y)) ≡ false
add-number x y h =
    let k = both_of (is_finite (value x)) (is_finite (value y)) h in
    let p = number-of (value x) k.0 in
    let q = number-of (value y) k.1 in
    let e = add-finite x y p.0 q.0 p.1 q.1 p.2 q.2 in
    ap is_nan e.4 ∙ rounded-number ToEven binary32 e.0 e.1

mul-number : (x y : ℕ) → both_finite x y ≡ true → is_nan (value (mul_step x y)) ≡ false
mul-number x y h =
    let k = both_of (is_finite (value x)) (is_finite (value y)) h in
    let p = number-of (value x) k.0 in
    let q = number-of (value y) k.1 in
    let e = mul-finite x y p.0 q.0 p.1 q.1 p.2 q.2 in
    ap is_nan e.4 ∙ rounded-number ToEven binary32 e.0 e.1

must-be-infinite : (v : Value) → is_nan v ≡ false → is_finite v ≡ false → is_infinite v ≡ true
must-be-infinite nan n f = not-both n
must-be-infinite (infinite s) n f = refl
must-be-infinite (finite s a) n f = not-both f

-- ---- sums
by_kind : (x y : ℕ) (ls : List Line) → (is_finite (value (add_step x y)) ≡ true → SumTable true true (value (add_step x y)) ls)
    → (both_finite x y ≡ true → is_infinite (value (add_step x y)) ≡ true → SumTable false true (value (add_step x y)) ls)
    → (both_finite x y ≡ false → SpecialSumTable (value (add_step x y)) ls) → SumTable (is_finite (value (add_step x y))) (both_finite x y) (value (add_step x y)) ls
by_kind x y ls fine over special = go (is_finite (value (add_step x y))) refl (both_finite x y) refl
  where
    go : (f : Bool) → is_finite (value (add_step x y)) ≡ f → (b : Bool) → both_finite x y ≡ b → SumTable f b (value (add_step x y)) ls
    go true e b k = fine e
    go false e true k = over k (must-be-infinite (value (add_step x y)) (add-number x y k) e)
    go false e false k = special k

pub every-sum : EverySum
every-sum = (
  λ x y. by_kind x y (sheet_of sum x y).lines (finite-sum.0 x y) (overflowing-sum.0 x y) (special-sum.0 x y),
  λ x y. by_kind x (minus y) (sheet_of difference x y).lines (finite-sum.1 x y) (overflowing-sum.1 x y) (special-sum.1 x y),
)

-- ---- products
pub every-product : EveryProduct
every-product x y = by (value (mul_step x y)) refl
  where
    ls : List Line
    ls = (sheet_of product x y).lines

    nought : Bool
    nought = is_zero_pattern x || is_zero_pattern y

    infinity : (s : Bool) → value (mul_step x y) ≡ infinite s → (b : Bool) → both_finite x y ≡ b → ProductTable (branch_of (infinite s)) b (infinite s) nought ls
    infinity s e true k = unfold branch_of in overflowing-product x y k (ap is_infinite e)
    infinity s e false k = unfold branch_of in subst (λ (v : Value). SpecialProductTable v ls) e (special-product x y k)

    by : (v : Value) → value (mul_step x y) ≡ v → ProductTable (branch_of v) (both_finite x y) v nought ls
    by nan e = unfold branch_of in subst (λ (v : Value). SpecialProductTable v ls) e (special-product x y (not_finite (both_finite x y) refl))
      where
        not_finite : (b : Bool) → both_finite x y ≡ b → both_finite x y ≡ false
        not_finite true k = not-both (sym (ap is_nan e) ∙ mul-number x y k)
        not_finite false k = k
    by (infinite s) e = infinity s e (both_finite x y) refl
    by (finite s m) e =
        elim (ℕ_discrete m 0) [
          | yes z ↦ told (branch-zero s m z) (zero-product x y s (e ∙ ap (finite s) z))
          | no n ↦ elim (dec_le (2 ^ 24) m) [
            | no l ↦ told (branch-tiny s m (omega arith) (omega arith)) (tiny-product x y s m e (omega arith) (omega arith))
            | yes h ↦ elim (dec_le m (2 ^ 47)) [
              | yes k ↦ told (branch-middle s m h k) (middle-product x y s m e h k)
              | no k ↦ told (branch-other s m (omega arith)) (other-product x y s m e (omega arith))
            ]
          ]
        ]
      where
        told : {b : Branch} → branch_of (finite s m) ≡ b → ProductTable b (both_finite x y) (finite s m) nought ls → ProductTable (branch_of (finite s m)) (both_finite x y) (finite s m) nought ls
        told {b} k t = subst (λ (c : Branch). ProductTable c (both_finite x y) (finite s m) nought ls) (sym k) t
