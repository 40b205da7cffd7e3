-- Which branch the tests on a product's first line tell.
use Prim.Native.Nat.{ℕ, ◌^◌, ◌≤◌, ◌<◌}
use mathlib.Core.Path.{◌≡◌, refl, sym, ap, ap₂, ◌∙◌}
use mathlib.Core.Bool.{Bool, true, false, cond}
use borrow.Author.Tests.{ltb-false, leb-true, leb-false}
use Rattle.rounding_spec.specs.Format.{binary32}
use Rattle.rounding_spec.specs.Value.{Value, nan, infinite, finite, decode, is_nan, is_infinite, is_finite, is_zero}
use Rattle.pattern_spec.specs.Comparisons.{less_magnitude}
use Rattle.errorfree_spec.proofs.NoNumber.{not-both, none-zero}
use Rattle.worksheet_spec.specs.declared.Branch.{Branch}
use Rattle.worksheet_spec.specs.declared.Branch.TheVariants.{NotANumber as when_nan, Infinite as when_infinite, Zero as when_zero, Tiny as when_tiny, Middle as when_middle, Other as otherwise}
use Rattle.worksheet_spec.specs.Sheets.{branch_of}
use Rattle.worksheet_table.specs.Programs.{not_above}
use Rattle.worksheet_table.proofs.Alone.{nan-alone, infinite-alone, finite-by}

-- ---- the two bounds
abbrev pub low : Value
low = decode binary32 0x0100_0000

abbrev pub high : Value
high = decode binary32 0x0c80_0000

low-is : low ≡ finite false (2 ^ 24)
unfolding decode
low-is = refl

high_is : high ≡ finite false (2 ^ 47)
unfolding decode
high_is = refl

-- the branch of v by tests, with l and h for the bounds
abbrev tests : Value → Value → Value → Branch
tests l h v =
    cond (is_nan v) when_nan (cond (is_infinite v) when_infinite (cond (is_zero v) when_zero (cond (less_magnitude v l) when_tiny (cond (not_above v h) when_middle otherwise))))

by_tests_lem : (v : Value) → branch_of v ≡ tests (finite false (2 ^ 24)) (finite false (2 ^ 47)) v
unfolding branch_of less_magnitude not_above
by_tests_lem nan = refl
by_tests_lem (infinite s) = refl
by_tests_lem (finite s a) = refl

-- ---- no test of a magnitude passes of what is not finite
none_below : (v w : Value) → is_finite v ≡ false → less_magnitude v w ≡ false
unfolding less_magnitude
none_below nan w h = refl
none_below (infinite s) w h = refl
none_below (finite s a) w h = not-both h

none-up-to : (v : Value) (t : Bool) (m : ℕ) → is_finite v ≡ false → not_above v (finite t m) ≡ false
unfolding not_above
none-up-to nan t m h = refl
none-up-to (infinite s) t m h = refl
none-up-to (finite s a) t m h = not-both h

none_passes : (v : Value) → is_finite v ≡ false → (is_zero v ≡ false) × (less_magnitude v low ≡ false) × (not_above v high ≡ false)
none_passes v n = (none-zero v n, none_below v low n, ap (not_above v) high_is ∙ none-up-to v false (2 ^ 47) n)

module _ (v : Value) where
  branch-is : branch_of v ≡ tests low high v
  branch-is = by_tests_lem v ∙ ap₂ (λ (l h : Value). tests l h v) (sym low-is) (sym high_is)

  pub nan-branch : is_nan v ≡ true → branch_of v ≡ when_nan
  nan-branch h = branch-is ∙ rw h refl

  pub infinite-branch : is_infinite v ≡ true → branch_of v ≡ when_infinite
  infinite-branch h = branch-is ∙ rw ((infinite-alone v h).0, h) refl

  pub zero-branch : is_zero v ≡ true → branch_of v ≡ when_zero
  zero-branch h = let f = finite-by v (is_zero v) h (λ n. (none_passes v n).0) in branch-is ∙ rw (f.0, f.1, h) refl

  pub tiny-branch : is_zero v ≡ false → less_magnitude v low ≡ true → branch_of v ≡ when_tiny
  tiny-branch z h = let f = finite-by v (less_magnitude v low) h (λ n. (none_passes v n).1) in branch-is ∙ rw (f.0, f.1, z, h) refl

  pub middle-branch : is_zero v ≡ false → less_magnitude v low ≡ false → not_above v high ≡ true → branch_of v ≡ when_middle
  middle-branch z l h = let f = finite-by v (not_above v high) h (λ n. (none_passes v n).2) in branch-is ∙ rw (f.0, f.1, z, l, h) refl

  pub other-branch : is_nan v ≡ false → is_infinite v ≡ false → is_zero v ≡ false → less_magnitude v low ≡ false → not_above v high ≡ false → branch_of v ≡ otherwise
  other-branch n i z l h = branch-is ∙ rw (n, i, z, l, h) refl

  -- ---- what is NaN or infinite is in no other branch
  pub nan-elsewhere : is_nan v ≡ true → (is_infinite v ≡ false) × (is_zero v ≡ false) × (less_magnitude v low ≡ false) × (not_above v high ≡ false)
  nan-elsewhere h = let k = nan-alone v h in let n = none_passes v k.1 in (k.0, n.0, n.1, n.2)

  pub infinite-elsewhere : is_infinite v ≡ true → (is_zero v ≡ false) × (less_magnitude v low ≡ false) × (not_above v high ≡ false)
  infinite-elsewhere h = none_passes v (infinite-alone v h).1

-- ---- the numbers of the last two branches
pub middle-number : (v : Value) → less_magnitude v low ≡ false → not_above v high ≡ true → (s : Bool) × (m : ℕ) × (v ≡ finite s m) × (2 ^ 24 ≤ m) × (m ≤ 2 ^ 47)
middle-number v l h = by v (sym (ap (less_magnitude v) low-is) ∙ l) (sym (ap (not_above v) high_is) ∙ h)
  where
    by : (v : Value) → less_magnitude v (finite false (2 ^ 24)) ≡ false → not_above v (finite false (2 ^ 47)) ≡ true → (s : Bool) × (m : ℕ) × (v ≡ finite s m) × (2 ^ 24 ≤ m) × (m ≤ 2 ^ 47)
    by nan l h = unfold not_above in not-both (sym h)
    by (infinite s) l h = unfold not_above in not-both (sym h)
    by (finite s m) l h = unfold not_above less_magnitude in (s, m, refl, ltb-false m (2 ^ 24) l, leb-true m (2 ^ 47) h)

pub other-number : (v : Value) → is_nan v ≡ false → is_infinite v ≡ false → not_above v high ≡ false → (s : Bool) × (m : ℕ) × (v ≡ finite s m) × (2 ^ 47 < m)
other-number v n i h = by v n i (sym (ap (not_above v) high_is) ∙ h)
  where
    by : (v : Value) → is_nan v ≡ false → is_infinite v ≡ false → not_above v (finite false (2 ^ 47)) ≡ false → (s : Bool) × (m : ℕ) × (v ≡ finite s m) × (2 ^ 47 < m)
    by nan n i h = not-both n
    by (infinite s) n i h = not-both i
    by (finite s m) n i h = unfold not_above in (s, m, refl, leb-false m (2 ^ 47) h)
