-- The steps of a product's lines, in order, branch by branch.
use mathlib.Core.Path.{◌≡◌, refl, sym, ap, ap₂, ◌∙◌, subst}
use mathlib.Core.Logic.{◌⊎◌, inl, inr}
use mathlib.Core.Bool.{Bool, true, false, not, cond}
use mathlib.Core.List.{List, [], ◌∷◌, ◌++◌}
use Prim.Native.Nat.{ℕ, ◌^◌, ◌≤◌, ◌<◌}
use native.Mathlib.Nat.{le_of_lt}
use native.Mathlib.Omega.{arith}
use lib.Dec.{T}
use Rattle.rounding_spec.specs.Format.{binary32}
use Rattle.rounding_spec.specs.Value.{Value, nan, infinite, finite, Fits, is_finite}
use Rattle.rounding_spec.proofs.Codec.{decode-fits}
use Rattle.binary32_spec.specs.Steps.{sub_value, sub_step, mul_step, fma_step}
use Rattle.binary32_spec.proofs.Theorems.{sub-decodes}
use Rattle.pattern_spec.specs.Comparisons.{same}
use Rattle.errorfree_spec.proofs.NoNumber.{not-both}
use Rattle.errorfree_spec.proofs.Signed.{Is, rel-own, same-eq}
use Rattle.errorfree_spec.proofs.Steps.{is-one-less}
use Rattle.pattern_spec.proofs.Theorems.{same-means}
use Rattle.worksheet_spec.specs.Constants.{half, plus_zero, smallest}
use Rattle.pattern_spec.specs.Classes.{copy_sign}
use Rattle.worksheet_spec.specs.declared.Step.{Step}
use Rattle.worksheet_spec.specs.declared.Step.TheVariants.{Subtract as subtract, Multiply as multiply, Fused as fused}
use Rattle.worksheet_spec.specs.Lines.{Line, line, Sheet, before, value, minus, equal, is_zero_pattern}
use Rattle.worksheet_spec.specs.declared.Branch.{Branch}
use Rattle.worksheet_spec.specs.declared.Branch.TheVariants.{NotANumber as when_nan, Infinite as when_infinite, Zero as when_zero, Tiny as when_tiny, Middle as when_middle, Other as otherwise}
use Rattle.worksheet_spec.specs.Sheets.{recomposition, zero_finish, infinite_product, lowered, lowering, tiny_product}
use Rattle.worksheet_spec.specs.Sheets.{scaled_down}
use Rattle.worksheet_spec.specs.Sheets.{middle_product, other_product, branch_of, product_by, product_sheet}
use Rattle.worksheet_spec.specs.Theorems.{steps_of, recomposition_steps, finish_step, edge_steps, tiny_steps, middle_steps, ProductSteps}
use Rattle.worksheet_spec.proofs.Patterns.{sign-value}
use Rattle.worksheet_spec.proofs.Constants.{smallest-value}
use Rattle.worksheet_spec.proofs.Branches.{branch-zero, branch-tiny, branch-middle, branch-other}
use Rattle.worksheet_spec.proofs.TinyResults as tiny
use Rattle.worksheet_spec.proofs.Products.{first, β, tie, corrected, corrected-nonzero, first-number}
use Rattle.worksheet_spec.proofs.FiniteProduct.{factors-of}
use Rattle.worksheet_spec.proofs.SumSteps.{finish-steps, recomposed-steps, edge-steps, finish-zero, recomposed-zero, edge-told}

-- a correction or none, before other lines
corrected-steps : (c : Bool) (a : ℕ) (ls : List Line) → steps_of (cond c (lowering a ∷ []) [] ++ ls) ≡ cond c (subtract ∷ []) [] ++ steps_of ls
unfolding lowering
corrected-steps true a ls = refl
corrected-steps false a ls = refl

module _ (x y : ℕ) where
  abbrev p : ℕ
  p = mul_step x y

  pub sheet-by : (k : Branch) → branch_of (value p) ≡ k → product_sheet x y ≡ before (line multiply x y p ∷ []) (product_by k x y p)
  unfolding product_sheet
  sheet-by k e = ap (λ (i : Branch). before (line multiply x y p ∷ []) (product_by i x y p)) e

  abbrev Ordered : Value → Sheet → Type 0
  Ordered v s = ProductSteps p v s.first s.second (steps_of s.lines)

  -- ---- infinities
  infinite-steps : (s : Bool) → value p ≡ infinite s → steps_of (infinite_product x y p).lines ≡ multiply ∷ multiply ∷ fused ∷ cond (is_finite (value (infinite_product x y p).first)) edge_steps []
  unfolding infinite_product
  infinite-steps s e =
      let h = mul_step half x in
      let a' = mul_step h y in
      let b' = fma_step h y (minus a') in
      ap {B = List Step} (λ (steps : List Step). multiply ∷ multiply ∷ fused ∷ steps) (edge-steps p a' b')
      ∙ ap {B = List Step} (λ (c : Bool). multiply ∷ multiply ∷ fused ∷ cond c edge_steps []) (edge-told p a' b' (ap is_finite e))

  -- ---- tiny: a correction makes another number of a
  module _ (s : Bool) (m : ℕ) (e : value p ≡ finite s m) where
    lowered-other : 0 < m → m < 2 ^ 24 → equal (lowered p) p ≡ false
    unfolding lowered Fits
    lowered-other pos lo = by (equal (lowered p) p) refl
      where
        v : Value
        v = sub_value binary32 (finite s m) (finite s 1)

        lower-is : value (sub_step p (copy_sign smallest p)) ≡ v
        lower-is = sub-decodes p (copy_sign smallest p) ∙ ap₂ (sub_value binary32) e (sign-value p s m e smallest 1 (omega arith) smallest-value)

        less : Is s v m 1
        less = is-one-less binary32 s m pos (le_of_lt lo) (subst (Fits binary32) e (decode-fits binary32 (omega arith) p)).1

        by : (c : Bool) → equal (sub_step p (copy_sign smallest p)) p ≡ c → equal (sub_step p (copy_sign smallest p)) p ≡ false
        by false f = f
        by true f = absurd (omega (arith, same-eq s v (finite s m) m 1 m 0 less (rel-own s m) (subst T (sym (sym (ap₂ same lower-is e) ∙ f)) tt)))

    -- tie or not, as first tells
    told : 0 < m → m < 2 ^ 24 → (c : Bool) → equal (cond c (lowered p) p) p ≡ not c
    told pos lo true = lowered-other pos lo
    told pos lo false = ap₂ same e e ∙ (same-means.0 s m s m).1 refl

    tiny-steps : 0 < m → m < 2 ^ 24 → steps_of (tiny_product x y p).lines ≡ tiny_steps ++ cond (equal (tiny_product x y p).first p) finish_step (subtract ∷ finish_step)
    unfolding tiny_product
    tiny-steps pos lo =
        ap {B = List Step} (λ (steps : List Step). tiny_steps ++ steps)
        (corrected-steps (tiny.tie x y p) p (line multiply plus_zero (tiny.first x y p) (mul_step plus_zero (tiny.first x y p)) ∷ []) ∙ by (tiny.tie x y p))
        ∙ ap {B = List Step} (λ (c : Bool). tiny_steps ++ cond c finish_step (subtract ∷ finish_step)) (sym (told pos lo (tiny.tie x y p)))
      where
        by : (c : Bool) → ◌≡◌ {A = List Step} (cond c (subtract ∷ []) [] ++ multiply ∷ []) (cond (not c) finish_step (subtract ∷ finish_step))
        by true = refl
        by false = refl

    -- ---- the middle: its operands are finite, so that a correction leaves no zero, and first is finite
    pub middle-facts : 2 ^ 24 ≤ m → m ≤ 2 ^ 47 → (tie x y ≡ true → is_zero_pattern (corrected x y) ≡ false) × (is_finite (value (first x y)) ≡ true)
    middle-facts lo hi =
        let o = factors-of x y s m e in (
          corrected-nonzero x y o.s o.t o.a o.b o.xi o.yi o.xr o.yr o.xb o.yb o.fine (rw (← o.is) lo) (rw (← o.is) hi),
          first-number x y o.s o.t o.a o.b o.xi o.yi o.xr o.yr o.xb o.yb o.fine (rw (← o.is) lo) (rw (← o.is) hi),
        )

    middle-steps : steps_of (middle_product x y).lines ≡ middle_steps ++ cond (tie x y) (subtract ∷ []) [] ++ cond (is_zero_pattern (corrected x y)) finish_step []
    unfolding middle_product recomposition scaled_down
    middle-steps =
        ap {B = List Step} (λ (steps : List Step). middle_steps ++ steps)
        (corrected-steps (tie x y) (β x y) (zero_finish (first x y) (corrected x y)).lines
        ∙ ap (λ (steps : List Step). cond (tie x y) (subtract ∷ []) [] ++ steps) (finish-steps (first x y) (corrected x y)))

    middle-ordered : 2 ^ 24 ≤ m → m ≤ 2 ^ 47 → let steps = steps_of (middle_product x y).lines in
        (is_zero_pattern (middle_product x y).second ≡ true → steps ≡ middle_steps ++ finish_step)
        × (is_zero_pattern (middle_product x y).second ≡ false → (steps ≡ middle_steps) ⊎ (steps ≡ middle_steps ++ (subtract ∷ [])))
    unfolding middle_product scaled_down
    middle-ordered lo hi =
        let f = middle-facts lo hi in
        by (tie x y) (is_zero_pattern (corrected x y)) (is_zero_pattern (zero_finish (first x y) (corrected x y)).second) (finish-zero (first x y) (corrected x y) f.1) f.0 middle-steps
      where
        by : {steps : List Step} (c z w : Bool) → w ≡ z → (c ≡ true → z ≡ false) → steps ≡ middle_steps ++ cond c (subtract ∷ []) [] ++ cond z finish_step []
            → (w ≡ true → steps ≡ middle_steps ++ finish_step) × (w ≡ false → (steps ≡ middle_steps) ⊎ (steps ≡ middle_steps ++ (subtract ∷ [])))
        by true true w q n o = not-both (n refl)
        by true false w q n o = (λ h. not-both (sym h ∙ q), λ h. inr o)
        by false true w q n o = (λ h. o, λ h. not-both (sym q ∙ h))
        by false false w q n o = (λ h. not-both (sym h ∙ q), λ h. inl o)

    -- ---- otherwise
    other-steps : steps_of (other_product x y p).lines ≡ fused ∷ recomposition_steps ++ cond (is_zero_pattern (other_product x y p).second) finish_step []
    unfolding other_product
    other-steps =
        let c = fma_step x y (minus p) in
        ap {B = List Step} (λ (steps : List Step). fused ∷ steps) (recomposed-steps p c)
        ∙ ap {B = List Step} (λ (z : Bool). fused ∷ recomposition_steps ++ cond z finish_step []) (sym (recomposed-zero p c (ap is_finite e)))

  -- ---- all branches
  finite-steps : (s : Bool) (m : ℕ) → value p ≡ finite s m → Ordered (finite s m) (product_sheet x y)
  unfolding product_by
  finite-steps s m e = (
    λ z. rw (sheet-by when_zero (ap branch_of e ∙ branch-zero s m z)) refl,
    λ h k. rw (sheet-by when_tiny (ap branch_of e ∙ branch-tiny s m h k)) (ap {B = List Step} (λ (steps : List Step). multiply ∷ steps) (tiny-steps s m e h k)),
    λ h k. rw (sheet-by when_middle (ap branch_of e ∙ branch-middle s m h k)) (middle (middle-ordered s m e h k)),
    λ h. rw (sheet-by otherwise (ap branch_of e ∙ branch-other s m h)) (ap {B = List Step} (λ (steps : List Step). multiply ∷ steps) (other-steps s m e)),
  )
    where
      middle : {steps : List Step} {z : Bool} → (z ≡ true → steps ≡ middle_steps ++ finish_step) × (z ≡ false → (steps ≡ middle_steps) ⊎ (steps ≡ middle_steps ++ (subtract ∷ [])))
          → (z ≡ true → multiply ∷ steps ≡ multiply ∷ middle_steps ++ finish_step)
          × (z ≡ false → (multiply ∷ steps ≡ multiply ∷ middle_steps) ⊎ (multiply ∷ steps ≡ multiply ∷ middle_steps ++ (subtract ∷ [])))
      middle h = (
        λ z. ap {B = List Step} (λ (steps : List Step). multiply ∷ steps) (h.0 z),
        λ z. elim (h.1 z)
            [ inl o ↦ inl (ap {B = List Step} (λ (steps : List Step). multiply ∷ steps) o) | inr o ↦ inr (ap {B = List Step} (λ (steps : List Step). multiply ∷ steps) o) ],
      )

  pub product-steps : Ordered (value p) (product_sheet x y)
  unfolding product_by branch_of
  product-steps = by (value p) refl
    where
      by : (v : Value) → value p ≡ v → Ordered v (product_sheet x y)
      by nan e = rw (sheet-by when_nan (ap branch_of e)) refl
      by (infinite s) e = rw (sheet-by when_infinite (ap branch_of e)) (ap {B = List Step} (λ (steps : List Step). multiply ∷ steps) (infinite-steps s e))
      by (finite s m) e = finite-steps s m e
