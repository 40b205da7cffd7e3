-- Of each table exactly one way is taken.
use Prim.Native.Nat.{ℕ, ◌+◌}
use mathlib.Core.Path.{◌≡◌, refl}
use mathlib.Core.Bool.{Bool, true, false, not, cond, ◌&&◌}
use mathlib.Core.List.{List, [], ◌∷◌}
use Rattle.errorfree_spec.proofs.NoNumber.{not-both}
use Rattle.binary32_spec.specs.Steps.{mul_step}
use Rattle.worksheet_spec.specs.Lines.{value}
use Rattle.worksheet_spec.specs.Sheets.{rest_tie}
use Rattle.worksheet_table.specs.Programs.{line, minus, ◌equals◌, ◌below◌, ◌up_to◌, is_zero, is_infinite, is_nan, 2^-125, 2^-102, how_many_taken}
use Rattle.worksheet_table.specs.Table.{sum_nan, sum_changed, sum_infinite, at_sum_edge, sum_ways}
use Rattle.worksheet_table.specs.Table.{product_infinite, product_zero, tiny_kept, middle_changed, middle_kept, middle_lowered, other_kept, at_product_edge, at_tiny_tie, at_rest_tie, product_ways}
use Rattle.worksheet_table.proofs.Told.{asked}
use Rattle.worksheet_table.proofs.Branches.{nan-elsewhere, infinite-elsewhere}
use Rattle.worksheet_table.proofs.Sums.{changed-finite, sum-nan-alone}
use Rattle.worksheet_table.proofs.Products.{kept-lowered}
use Rattle.worksheet_table.proofs.Excluded.{changed-uncorrected, changed-nonzero}

-- 1 where all of them hold, and 0 otherwise
all : List Bool → Bool
all [] = true
all (b ∷ bs) = b && all bs

one : List Bool → ℕ
unfolding all
one bs = cond (all bs) 1 0

-- a is NaN; e = d; -b is zero; b is zero; a is infinite; at the edge
sum-count : (n t m z i g : Bool) → (n ≡ true → (t ≡ false) × (z ≡ false) × (i ≡ false)) → (t ≡ true → i ≡ false)
    → one (n ∷ []) + (one (t ∷ not m ∷ not i ∷ []) + (one (t ∷ m ∷ []) + (one (not t ∷ not z ∷ not i ∷ not n ∷ []) + (one (not t ∷ z ∷ []) +
    (one (not t ∷ not z ∷ i ∷ not g ∷ []) + (one (not t ∷ not z ∷ i ∷ g ∷ []) + 0)))))) ≡ 1
unfolding one
sum-count true t m z i g alone bounded = let k = alone refl in rw (k.0, k.1, k.2) refl
sum-count false true true z i g alone bounded = refl
sum-count false true false z true g alone bounded = not-both (bounded refl)
sum-count false true false z false g alone bounded = refl
sum-count false false m true i g alone bounded = refl
sum-count false false m false false g alone bounded = refl
sum-count false false m false true true alone bounded = refl
sum-count false false m false true false alone bounded = refl

pub one-sum-way : (x y : ℕ) → how_many_taken sum_ways x y ≡ 1
unfolding how_many_taken one
one-sum-way x y =
    sum-count (asked sum_nan x y (is_nan (line 1))) (asked sum_changed x y (line 6 equals line 5)) (asked sum_changed x y (is_zero (minus (line 3)))) (asked sum_changed x y (is_zero (line 3)))
    (asked sum_changed x y (is_infinite (line 1))) (asked sum_infinite x y at_sum_edge) (sum-nan-alone x y) (λ h. (changed-finite x y h).1)

-- a is NaN, is infinite, is zero, is below 2^-125, is up to 2^-102; at the edge; at the tie of a tiny product
-- in the middle: e = d; at the tie of the rest, and β is zero, in either case, and lowered it is zero; otherwise: e = d, -b is zero, b is zero
product-count : (n i z l h g t m rm zm rk zk zl o zo zb : Bool)
    → (n ≡ true → (i ≡ false) × (z ≡ false) × (l ≡ false) × (h ≡ false)) → (i ≡ true → (z ≡ false) × (l ≡ false) × (h ≡ false))
    → (l ≡ false → h ≡ true → m ≡ true → rm ≡ false) → (l ≡ false → h ≡ true → m ≡ false → rk ≡ true → zl ≡ false)
    → (n ≡ false → i ≡ false → h ≡ false → o ≡ true → zo ≡ false)
    → one (n ∷ []) + (one (i ∷ not g ∷ []) + (one (i ∷ g ∷ []) + (one (z ∷ []) + (one (not z ∷ l ∷ t ∷ []) + (one (not z ∷ l ∷ not t ∷ []) +
    (one (not z ∷ not l ∷ h ∷ m ∷ not rm ∷ not zm ∷ []) + (one (not z ∷ not l ∷ h ∷ m ∷ not rm ∷ zm ∷ []) +
    (one (not z ∷ not l ∷ h ∷ not m ∷ not rk ∷ not zk ∷ []) + (one (not z ∷ not l ∷ h ∷ not m ∷ not rk ∷ zk ∷ []) + (one (not z ∷ not l ∷ h ∷ not m ∷ rk ∷ not zl ∷ []) +
    (one (not n ∷ not i ∷ not z ∷ not l ∷ not h ∷ o ∷ not zo ∷ []) + (one (not n ∷ not i ∷ not z ∷ not l ∷ not h ∷ not o ∷ not zb ∷ []) +
    (one (not n ∷ not i ∷ not z ∷ not l ∷ not h ∷ not o ∷ zb ∷ []) + 0))))))))))))) ≡ 1
unfolding one
product-count true i z l h g t m rm zm rk zk zl o zo zb nan infinite changed lowered rest = let k = nan refl in rw (k.0, k.1, k.2, k.3) refl
product-count false true z l h true t m rm zm rk zk zl o zo zb nan infinite changed lowered rest = let k = infinite refl in rw (k.0, k.1, k.2) refl
product-count false true z l h false t m rm zm rk zk zl o zo zb nan infinite changed lowered rest = let k = infinite refl in rw (k.0, k.1, k.2) refl
product-count false false true l h g t m rm zm rk zk zl o zo zb nan infinite changed lowered rest = refl
product-count false false false true h g true m rm zm rk zk zl o zo zb nan infinite changed lowered rest = refl
product-count false false false true h g false m rm zm rk zk zl o zo zb nan infinite changed lowered rest = refl
product-count false false false false true g t true true zm rk zk zl o zo zb nan infinite changed lowered rest = not-both (changed refl refl refl)
product-count false false false false true g t true false true rk zk zl o zo zb nan infinite changed lowered rest = refl
product-count false false false false true g t true false false rk zk zl o zo zb nan infinite changed lowered rest = refl
product-count false false false false true g t false rm zm true zk true o zo zb nan infinite changed lowered rest = not-both (lowered refl refl refl refl)
product-count false false false false true g t false rm zm true zk false o zo zb nan infinite changed lowered rest = refl
product-count false false false false true g t false rm zm false true zl o zo zb nan infinite changed lowered rest = refl
product-count false false false false true g t false rm zm false false zl o zo zb nan infinite changed lowered rest = refl
product-count false false false false false g t m rm zm rk zk zl true true zb nan infinite changed lowered rest = not-both (rest refl refl refl refl)
product-count false false false false false g t m rm zm rk zk zl true false zb nan infinite changed lowered rest = refl
product-count false false false false false g t m rm zm rk zk zl false zo true nan infinite changed lowered rest = refl
product-count false false false false false g t m rm zm rk zk zl false zo false nan infinite changed lowered rest = refl

pub one-product-way : (x y : ℕ) → how_many_taken product_ways x y ≡ 1
unfolding how_many_taken one rest_tie
one-product-way x y =
    product-count (asked product_zero x y (is_nan (line 1))) (asked product_zero x y (is_infinite (line 1))) (asked product_zero x y (is_zero (line 1))) (asked product_zero x y (line 1 below 2^-125))
    (asked product_zero x y (line 1 up_to 2^-102)) (asked product_infinite x y at_product_edge) (asked tiny_kept x y at_tiny_tie)
    (asked middle_changed x y (line 7 equals line 6)) (asked middle_changed x y at_rest_tie) (asked middle_changed x y (is_zero (line 9)))
    (asked middle_kept x y at_rest_tie) (asked middle_kept x y (is_zero (line 9))) (asked middle_lowered x y (is_zero (line 12)))
    (asked other_kept x y (line 5 equals line 4)) (asked other_kept x y (is_zero (minus (line 2)))) (asked other_kept x y (is_zero (line 2)))
    (nan-elsewhere (value (mul_step x y))) (infinite-elsewhere (value (mul_step x y))) (changed-uncorrected x y) (kept-lowered x y) (changed-nonzero x y)
