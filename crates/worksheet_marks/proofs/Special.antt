-- The lines of a sheet with an infinite or NaN operand.
use mathlib.Core.Path.{◌≡◌, refl, sym, ap, ◌∙◌, subst}
use mathlib.Core.Logic.{inl, inr}
use mathlib.Core.Bool.{Bool, true, false, ◌&&◌}
use mathlib.Core.List.{List, [], ◌∷◌}
use Prim.Native.Nat.{ℕ, suc}
use lib.ListN.{length}
use Rattle.rounding_spec.specs.Format.{Format, binary32}
use Rattle.rounding_spec.specs.Value.{Value, nan, infinite, finite, is_nan, is_finite, is_infinite, round}
use Rattle.pattern_spec.specs.Comparisons.{less_magnitude}
use Rattle.pattern_spec.specs.Exact.{plus, finer}
use Rattle.binary32_spec.specs.Steps.{add_value, add_step, sub_step, mul_step, fma_step}
use Rattle.binary32_spec.specs.Marks.{add_mark, mul_mark}
use Rattle.pattern_spec.specs.Classes.{both_finite}
use Rattle.binary32_spec.proofs.Theorems.{add-decodes, sub-decodes, mul-decodes}
use Rattle.errorfree_spec.proofs.NoNumber.{not-both, one_of, add_none, add_left, sub-left, mul_right, mul-none}
use Rattle.worksheet_spec.specs.Constants.{half}
use Rattle.worksheet_spec.specs.Lines.{Line, Sheet, marks, value, minus}
use Rattle.worksheet_spec.specs.declared.Branch.TheVariants.{Infinite as when_infinite}
use Rattle.worksheet_spec.specs.Sheets.{halved_sum, sum_in_order, infinite_product, branch_of, product_by, product_sheet, sheet_of}
use Rattle.worksheet_spec.proofs.Entries.{◌&◌}
use Rattle.worksheet_spec.proofs.InfiniteLines.{infinite-sum-lines}
use Rattle.worksheet_spec.proofs.ProductSheet.{product-ends}
use Rattle.worksheet_spec.proofs.ProductSteps.{sheet-by}
use Rattle.worksheet_spec.proofs.Sums.{ends_there}
use Rattle.worksheet_marks.specs.Tables.{any, special, WholeTable}
use Rattle.worksheet_marks.specs.Theorems.{SpecialSumTable, SpecialSum, SpecialProductTable, SpecialProduct}
use Rattle.worksheet_marks.proofs.Exactness.{add-special, sub-special, mul-special, fma-special}
use Rattle.worksheet_marks.proofs.Edge.{edge_none, edge-table}
use Rattle.worksheet_marks.proofs.Addends.{in-any-order}
use Rattle.worksheet_marks.proofs.Overflows.{first-none, second_none, opening-table}

-- ---- sums: where the sum is infinite, the operand that is not the smaller is
larger-none : (F : Format) (v w : Value) → less_magnitude v w ≡ false → is_finite v && is_finite w ≡ false → is_infinite (add_value F v w) ≡ true → is_finite v ≡ false
unfolding less_magnitude add_value plus finer round
larger-none F nan w l f i = refl
larger-none F (infinite s) w l f i = refl
larger-none F (finite s m) nan l f i = not-both (sym i)
larger-none F (finite s m) (infinite t) l f i = not-both l
larger-none F (finite s m) (finite t n) l f i = not-both f

-- so all lines of the halves are of infinities, but for y'
halved-table : (x y : ℕ) → is_finite (value x) ≡ false → WholeTable (special ∷ any ∷ special ∷ special ∷ special ∷ []) (halved_sum x y (add_step x y)).lines
unfolding halved_sum
halved-table x y f =
    let x' = mul_step half x in
    let y' = mul_step half y in
    let a' = add_step x' y' in
    let v' = sub_step a' x' in
    let xn : is_finite (value x') ≡ false = ap is_finite (mul-decodes half x) ∙ mul_right binary32 (value half) (value x) f in
    let an : is_finite (value a') ≡ false = ap is_finite (add-decodes x' y') ∙ add_left binary32 (value x') (value y') xn in
    let vn : is_finite (value v') ≡ false = ap is_finite (sub-decodes a' x') ∙ sub-left binary32 (value a') (value x') an in (
      mul-special half x (second_none half x f) & tt & add-special x' y' (first-none x' y' xn) & sub-special a' x' (first-none a' x' an) & sub-special y' v' (second_none y' v' vn)
          & edge-table (add_step x y) a' (sub_step y' v'),
      ap (λ (ls : List Line). suc (suc (suc (suc (suc (length ls)))))) (edge_none (add_step x y) a' (sub_step y' v') an),
    )

in_order_lem : (x y : ℕ) → less_magnitude (value x) (value y) ≡ false → both_finite x y ≡ false → SpecialSumTable (value (add_step x y)) (sum_in_order x y).lines
in_order_lem x y l f = by (value (add_step x y)) refl
  where
    m : add_mark x y ≡ 2
    m = add-special x y f

    by : (v : Value) → value (add_step x y) ≡ v → SpecialSumTable v (sum_in_order x y).lines
    by nan e = subst (λ (s : Sheet). marks s.lines ≡ 2 ∷ []) (sym (ends_there x y (ap is_nan e))) (ap (λ (k : ℕ). k ∷ []) m)
    by (infinite s) e =
        let t = halved-table x y (larger-none binary32 (value x) (value y) l f (sym (ap is_infinite (add-decodes x y)) ∙ ap is_infinite e)) in
        subst (SpecialSumTable (infinite s)) (sym (infinite-sum-lines x y s e)) (
          opening-table x y s e special (special ∷ any ∷ special ∷ special ∷ special ∷ []) (halved_sum x y (add_step x y)).lines m t.0,
          ap (λ (n : ℕ). suc (suc (suc (suc (suc (suc n)))))) t.1,
        )
    by (finite s k) e = not-both (sym (ap is_finite e) ∙ ap is_finite (add-decodes x y) ∙ add_none binary32 (value x) (value y) f)

pub special-sum : SpecialSum
special-sum = in-any-order (λ (c : Bool) (v : Value) (ls : List Line). c ≡ false → SpecialSumTable v ls) in_order_lem

-- ---- products
infinite-table : (x y : ℕ) → both_finite x y ≡ false → WholeTable (any ∷ special ∷ special ∷ []) (infinite_product x y (mul_step x y)).lines
unfolding infinite_product
infinite-table x y f =
    let h = mul_step half x in
    let a' = mul_step h y in
    let n : both_finite h y ≡ false =
    elim (one_of (is_finite (value x)) (is_finite (value y)) f) [
      | inl m ↦ first-none h y (ap is_finite (mul-decodes half x) ∙ mul_right binary32 (value half) (value x) m)
      | inr m ↦ second_none h y m
    ] in
    let an : is_finite (value a') ≡ false = ap is_finite (mul-decodes h y) ∙ mul-none binary32 (value h) (value y) n in (
      tt & mul-special h y n & fma-special h y (minus a') (three (is_finite (value h)) (is_finite (value y)) (is_finite (value (minus a'))) n)
          & edge-table (mul_step x y) a' (fma_step h y (minus a')),
      ap (λ (ls : List Line). suc (suc (suc (length ls)))) (edge_none (mul_step x y) a' (fma_step h y (minus a')) an),
    )
  where
    three : (i j k : Bool) → i && j ≡ false → i && (j && k) ≡ false
    three true true k h = not-both h
    three true false k h = refl
    three false j k h = refl

pub special-product : SpecialProduct
unfolding sheet_of product_by branch_of
special-product x y f = by (value (mul_step x y)) refl
  where
    m : mul_mark x y ≡ 2
    m = mul-special x y f

    by : (v : Value) → value (mul_step x y) ≡ v → SpecialProductTable v (product_sheet x y).lines
    by nan e = rw (product-ends x y e) (ap (λ (k : ℕ). k ∷ []) m)
    by (infinite s) e =
        let t = infinite-table x y f in
        rw (sheet-by x y when_infinite (ap branch_of e)) (m & t.0, ap suc t.1)
    by (finite s k) e = not-both (sym (ap is_finite e) ∙ ap is_finite (mul-decodes x y) ∙ mul-none binary32 (value x) (value y) f)
