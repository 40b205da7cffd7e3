-- The theorems of `specs/Theorems.antt`.
use Prim.Native.Nat.{ℕ}
use mathlib.Core.Path.{◌≡◌, refl, sym, ap, ap₂, ◌∙◌}
use mathlib.Core.Bool.{Bool, true, false, cond, and-true}
use mathlib.Core.List.{List, [], ◌∷◌}
use native.Mathlib.Nat.{zero-add}
use native.Mathlib.Omega.{arith}
use Rattle.rounding_spec.specs.Format.{binary32}
use Rattle.rounding_spec.specs.Value.{decode, is_nan}
use Rattle.binary32_spec.specs.Steps.{add_step, mul_step}
use Rattle.pattern_spec.specs.Classes.{flip}
use Rattle.augmented_spec.specs.declared.Operation.TheVariants.{Sum as sum, Difference as difference, Product as product}
use Rattle.pattern_spec.specs.Comparisons.{less_magnitude}
use Rattle.worksheet_spec.specs.Lines.{Sheet, minus}
use Rattle.worksheet_spec.specs.Sheets.{sheet_of, sum_sheet, swaps, sum_in_order, product_sheet}
use Rattle.worksheet_spec.proofs.Entries.{◌&◌}
use Rattle.worksheet_table.specs.Programs.{Way, taken, how_many_taken, sheet_along, sheet_by}
use Rattle.worksheet_table.specs.Table.{sum_nan, sum_changed, sum_changed_zero, sum_kept, sum_kept_zero, sum_infinite, sum_edge, sum_ways}
use Rattle.worksheet_table.specs.Table.{product_nan, product_infinite, product_edge, product_zero, tiny_lowered, tiny_kept}
use Rattle.worksheet_table.specs.Table.{middle_changed, middle_changed_zero, middle_kept, middle_kept_zero, middle_lowered, other_changed, other_kept, other_kept_zero, product_ways, sum_by_table}
use Rattle.worksheet_table.specs.Table.{sheet_by_table}
use Rattle.worksheet_table.specs.Sampled.{Sample, sample, not_nan_sum_samples, shown_sums, shown_products, Shows, SampledSheets}
use Rattle.worksheet_table.specs.Theorems.{Agree, Every, SumWritten, EachWay, OneWay, EachTaken, WellMade, NaNTaken, All}
pub use Rattle.worksheet_table.proofs.Computed.{sampled-marks}
use Rattle.worksheet_table.proofs.Computed as computed
use Rattle.worksheet_table.proofs.Told.{Told, told}
use Rattle.worksheet_table.proofs.Sums as sums
use Rattle.worksheet_table.proofs.Products as products
use Rattle.worksheet_table.proofs.Counts.{one-sum-way, one-product-way}

-- ---- row by row
abbrev Writes : (ℕ → ℕ → Sheet) → Way → Type 0
Writes sheet w = (x y : ℕ) → taken w x y ≡ true → sheet x y ≡ sheet_along w x y

from_told : (sheet : ℕ → ℕ → Sheet) (w : Way) → ((x y : ℕ) → Told w x y → sheet x y ≡ sheet_along w x y) → Writes sheet w
from_told sheet w f x y h = f x y (told w x y h)

sum-ways : Every (Writes sum_in_order) sum_ways
sum-ways =
    from_told sum_in_order sum_nan sums.nan-sum
    & from_told sum_in_order sum_changed sums.changed
    & from_told sum_in_order sum_changed_zero sums.changed-zero
    & from_told sum_in_order sum_kept sums.kept
    & from_told sum_in_order sum_kept_zero sums.kept-zero
    & from_told sum_in_order sum_infinite sums.infinite-sum
    & from_told sum_in_order sum_edge sums.edge-sum
    & tt

product-ways : Every (Writes product_sheet) product_ways
product-ways =
    from_told product_sheet product_nan products.nan-product
    & from_told product_sheet product_infinite products.infinite-product
    & from_told product_sheet product_edge products.edge-product
    & from_told product_sheet product_zero products.zero-product
    & from_told product_sheet tiny_lowered products.tiny-lowered
    & from_told product_sheet tiny_kept products.tiny-kept
    & from_told product_sheet middle_changed products.middle-changed
    & from_told product_sheet middle_changed_zero products.middle-changed-zero
    & from_told product_sheet middle_kept products.middle-kept
    & from_told product_sheet middle_kept_zero products.middle-kept-zero
    & from_told product_sheet middle_lowered products.middle-lowered
    & from_told product_sheet other_changed products.other-changed
    & from_told product_sheet other_kept products.other-kept
    & from_told product_sheet other_kept_zero products.other-kept-zero
    & tt

map-every : (P Q : Way → Type 0) → ((w : Way) → P w → Q w) → (ws : List Way) → Every P ws → Every Q ws
map-every P Q f [] k = tt
map-every P Q f (w ∷ ws) k = (f w k.0, map-every P Q f ws k.1)

pub each_way : EachWay
unfolding sheet_of sum_sheet swaps
each_way = (
  map-every (Writes sum_in_order) SumWritten (λ w f x y l h. ap (λ (c : Bool). cond c (sum_in_order y x) (sum_in_order x y)) l ∙ f x y h) sum_ways sum-ways,
  product-ways,
)

pub one_way : OneWay
one_way = (one-sum-way, one-product-way)

-- ---- the whole table
first_taken : (sheet : ℕ → ℕ → Sheet) (x y : ℕ) (ws : List Way) → Every (Writes sheet) ws → how_many_taken ws x y ≡ 1 → sheet x y ≡ sheet_by ws x y
unfolding how_many_taken sheet_by
first_taken sheet x y [] k n = absurd (omega (arith, n))
first_taken sheet x y (w ∷ ws) k n = by (taken w x y) refl (first_taken sheet x y ws k.1)
  where
    by : (c : Bool) → taken w x y ≡ c → (how_many_taken ws x y ≡ 1 → sheet x y ≡ sheet_by ws x y) → sheet x y ≡ cond c (sheet_along w x y) (sheet_by ws x y)
    by true e f = k.0 x y e
    by false e f = f (sym (zero-add (how_many_taken ws x y)) ∙ rw e at n)

sum_agrees : (x y : ℕ) → sum_sheet x y ≡ sum_by_table x y
unfolding sum_sheet swaps sum_by_table
sum_agrees x y =
    ap₂ (cond (less_magnitude (decode binary32 x) (decode binary32 y))) (first_taken sum_in_order y x sum_ways sum-ways (one-sum-way y x))
    (first_taken sum_in_order x y sum_ways sum-ways (one-sum-way x y))

pub agree : Agree
unfolding sheet_of sheet_by_table
agree sum x y = sum_agrees x y
agree difference x y = sum_agrees x (flip binary32 y)
agree product x y = first_taken product_sheet x y product_ways product-ways (one-product-way x y)

-- ---- by computation
pub each-taken : EachTaken
each-taken = computed.each-taken

same-shown : (f g : ℕ → ℕ → Sheet) → ((x y : ℕ) → f x y ≡ g x y) → (qs : List Sample) → Shows g qs → Shows f qs
same-shown f g e [] k = tt
same-shown f g e (sample x y ls marked first second ∷ qs) k = (e x y ∙ k.0, same-shown f g e qs k.1)

pub sampled-sheets : SampledSheets
sampled-sheets =
    let t = computed.samples-by-table in (
      (
        same-shown (sheet_of sum) (sheet_by_table sum) (agree sum) shown_sums t.0,
        same-shown (λ x y. sheet_of sum y x) (λ x y. sheet_by_table sum y x) (λ x y. agree sum y x) not_nan_sum_samples t.1,
        same-shown (λ x y. sheet_of difference x (minus y)) (λ x y. sheet_by_table difference x (minus y)) (λ x y. agree difference x (minus y)) shown_sums t.2,
        same-shown (sheet_of product) (sheet_by_table product) (agree product) shown_products t.3,
      ),
      t,
    )

pub well-made : WellMade
well-made = computed.well-made

pub nan-taken : NaNTaken
unfolding taken
nan-taken x y = (and-true (is_nan (decode binary32 (add_step x y))), and-true (is_nan (decode binary32 (mul_step x y))))

-- ---- all of them
pub all : All
all = (agree, each_way, one_way, each-taken, sampled-sheets, sampled-marks, well-made, nan-taken)
