-- The product's sheet ends in the pair of the exact product, for all patterns: branch by branch.
use mathlib.Core.Path.{◌≡◌, refl, sym, ap, ap₂, ◌∙◌, subst}
use mathlib.Core.Logic.{inl, inr}
use mathlib.Core.Bool.{Bool, true, false, not, cond, ◌&&◌}
use Prim.Native.Nat.{ℕ, ◌*◌, ◌^◌, ◌≤◌, ◌<◌}
use native.Mathlib.Nat.{lt_of_le_of_lt}
use native.Mathlib.Omega.{arith}
use lib.Ieee.{unlike}
use Rattle.rounding_spec.specs.declared.Ties.TheVariants.{ToEven}
use Rattle.rounding_spec.specs.Format.{binary32, low, limit}
use Rattle.rounding_spec.specs.Nearest.{Rep}
use Rattle.rounding_spec.specs.Value.{Value, infinite, finite, is_finite, is_zero, round_finite}
use Rattle.rounding_spec.proofs.RoundValue.{round-below, round-above}
use Rattle.rounding_spec.proofs.Rounded.{rounded-zero-le}
use Rattle.pattern_spec.specs.Exact.{negate}
use Rattle.binary32_spec.specs.Steps.{mul_value, fma_value, sub_value, sub_step, mul_step, fma_step}
use Rattle.binary32_spec.proofs.Theorems.{add-decodes, sub-decodes, mul-decodes, fma-decodes}
use Rattle.augmented_spec.proofs.Second.{first-finite}
use Rattle.pattern_spec.specs.Comparisons.{same}
use Rattle.errorfree_spec.proofs.Factors as factors
use Rattle.errorfree_spec.proofs.Steps.{to_even, to_zero, mul-finite}
use Rattle.errorfree_spec.proofs.Split.{Split0}
use Rattle.errorfree_spec.proofs.Powers.{pow-above}
use Rattle.errorfree_spec.proofs.ProductSplit.{whole, product-split}
use Rattle.errorfree_spec.proofs.Halved.{product-edge}
use Rattle.errorfree_spec.proofs.Tiny.{zero-pair, tiny-pair}
use Rattle.errorfree_spec.proofs.MiddleSecond.{stepped}
use Rattle.errorfree_spec.proofs.Middle.{Scaled, Finished, middle-split, middle-first, middle-second}
use Rattle.worksheet_spec.specs.Constants.{half, two_to_24, two_to_48, two_to_minus_24, plus_zero, smallest, two_to_minus_102, two_to_minus_126}
use Rattle.pattern_spec.specs.Classes.{copy_sign}
use Rattle.worksheet_spec.specs.Lines.{ends, value, minus, is_zero_pattern}
use Rattle.worksheet_spec.specs.Sheets.{recomposition, recomposed_finished, infinite_product, lowered, tiny_tie, tiny_product, rest_tie, scaled_down, middle_product, other_product}
use Rattle.worksheet_spec.proofs.Patterns.{Pattern, sub-width, mul-width, fma-width, minus-value, negate-finite, sign-value, sign-width}
use Rattle.worksheet_spec.proofs.Constants.{half-value, up-value, up-up-value, down-value, zero-value, tie-value, lowest-value, smallest-value}
use Rattle.worksheet_spec.proofs.TinyResults as tiny
use Rattle.worksheet_spec.proofs.Foots.{Foots, foots}
use Rattle.worksheet_spec.proofs.Blocks.{value-cond, width-cond, recomposition-split, finish-first, finish-second, finish-width, recomposed-foot, edge-foot, edge_none}

-- ---- a product step, and a fused step on what it gave, by the values of their operands
pub scaled : (c : ℕ) (v : Value) → value c ≡ v → (z : ℕ) (w : Value) → value z ≡ w → value (mul_step c z) ≡ mul_value binary32 v w
scaled c v e z w f = mul-decodes c z ∙ ap₂ (mul_value binary32) e f

pub fused-value : (m k q : ℕ) (v w : Value) → value m ≡ v → value k ≡ w → Pattern q → value (fma_step m k (minus q)) ≡ fma_value binary32 v w (negate (value q))
fused-value m k q v w e f wq = fma-decodes m k (minus q) ∙ ap₂ (λ (u o : Value). fma_value binary32 u o (value (minus q))) e f ∙ ap (fma_value binary32 v w) (minus-value q wq)

-- ---- the middle branch's results
module _ (x y : ℕ) where
  abbrev pub m : ℕ
  m = mul_step two_to_24 x

  abbrev pub a' : ℕ
  a' = mul_step m y

  abbrev pub b' : ℕ
  b' = fma_step m y (minus a')

  abbrev pub C : ℕ
  C = (recomposition a' b').first

  abbrev pub B : ℕ
  B = (recomposition a' b').second

  abbrev pub first : ℕ
  first = mul_step two_to_minus_24 C

  abbrev pub β : ℕ
  β = mul_step two_to_minus_24 B

  abbrev pub d : ℕ
  d = sub_step (mul_step two_to_24 β) B

  abbrev pub tie : Bool
  tie = rest_tie β d

  abbrev pub lower : ℕ
  lower = lowered β

  abbrev pub corrected : ℕ
  corrected = cond tie lower β

-- ---- finite operands
module _ (x y : ℕ) (s t : Bool) (a b : ℕ) (xi : value x ≡ finite s a) (yi : value y ≡ finite t b) (xr : Rep 24 0 a) (yr : Rep 24 0 b) (xb : a < limit binary32) (yb : b < limit binary32) where
  abbrev r : Bool
  r = unlike s t

  abbrev p : ℕ
  p = mul_step x y

  abbrev A : ℕ
  A = to_even binary32 (a * b)

  pub p-value : value p ≡ round_finite ToEven binary32 r (a * b)
  p-value = mul-decodes x y ∙ ap₂ (mul_value binary32) xi yi ∙ mul-finite binary32 s a t b

  pub infinite-foot : limit binary32 ≤ A → Foots (finite r (a * b)) (infinite_product x y p)
  unfolding infinite_product
  infinite-foot over =
      let pi : value p ≡ infinite r = p-value ∙ round-above ToEven binary32 r (a * b) over in
      let h = mul_step half x in
      let a' = mul_step h y in
      let b' = fma_step h y (minus a') in
      elim (product-edge binary32 (omega arith) (omega arith) a b xr yr xb yb over s t (value h) (value a') (value b') (scaled half (factors.half binary32) half-value x (finite s a) xi)
      (mul-decodes h y ∙ ap (mul_value binary32 (value h)) yi) (fused-value h y a' (value h) (finite t b) refl yi (mul-width h y))) [
        | inl e ↦
            let n = edge_none p a' b' (ap is_finite e.0) in
            foots r (a * b) (infinite_product x y p) (rw n.0 (mul-width x y)) (rw n.1 (mul-width x y)) (ap value n.0 ∙ pi ∙ sym e.1, ap value n.1 ∙ pi ∙ sym e.2)
        | inr e ↦ edge-foot p a' b' r e.0 e.1 (a * b) pi (mul-width x y) e.2
      ]

  -- below the limit p is RNe of the product
  module _ (fine : A < limit binary32) where
    pub pi : value p ≡ finite r A
    pi = p-value ∙ round-below ToEven binary32 r (a * b) fine

    pub zero-foot : A ≡ 0 → Foots (finite r (a * b)) (ends p p)
    zero-foot z =
        let e = zero-pair binary32 r (a * b) z in
        let q : value p ≡ finite r 0 = pi ∙ ap (finite r) z in
        foots r (a * b) (ends p p) (mul-width x y) (mul-width x y) (q ∙ sym e.0, q ∙ sym e.1)

    pub other-foot : 2 ^ 47 < A → Foots (finite r (a * b)) (other_product x y p)
    unfolding other_product
    other-foot big =
        let least = pow-above binary32 (a * b) 47 big in
        let n = whole binary32 a b xr yr least in
        let c = fma_step x y (minus p) in
        let ci : value c ≡ fma_value binary32 (finite s a) (finite t b) (negate (finite r A)) = fused-value x y p (finite s a) (finite t b) xi yi (mul-width x y)
        ∙ ap (λ (v : Value). fma_value binary32 (finite s a) (finite t b) (negate v)) pi in
        subst (λ (N : ℕ). Foots (finite r N) (recomposed_finished p c)) (sym n.1)
        (recomposed-foot r n.0 A p c pi (mul-width x y) (fma-width x y (minus p)) (rw ci (product-split binary32 a b xr yr least s t fine)))

    -- a less u with a's sign
    lower-value : value (lowered p) ≡ sub_value binary32 (finite r A) (finite r 1)
    unfolding lowered
    lower-value = sub-decodes p (copy_sign smallest p) ∙ ap₂ (sub_value binary32) pi (sign-value p r A pi smallest 1 (omega arith) smallest-value)

    pub tiny-foot : 0 < A → A < 2 ^ 24 → Foots (finite r (a * b)) (tiny_product x y p)
    unfolding tiny_product lowered tiny_tie
    tiny-foot pos lo =
        let test : (tiny.tie x y p) ≡ same (value (tiny.z x y p)) (finite (not r) (2 ^ 47)) && same (value (tiny.w x y p)) (value (tiny.t2 x y p)) =
        ap (λ (v : Value). same (value (tiny.z x y p)) v && same (value (tiny.w x y p)) (value (tiny.t2 x y p)))
        (minus-value (copy_sign two_to_minus_102 p) (sign-width p two_to_minus_102 (omega arith)) ∙ ap negate (sign-value p r A pi two_to_minus_102 (2 ^ 47) (omega arith) tie-value)
        ∙ negate-finite r (2 ^ 47))
        in
        let leads : value (cond (tiny.tie x y p) (lowered p) p) ≡ cond (same (value (tiny.z x y p)) (finite (not r) (2 ^ 47)) && same (value (tiny.w x y p)) (value (tiny.t2 x y p)))
        (sub_value binary32 (finite r A) (finite r 1)) (finite r A) =
        value-cond (tiny.tie x y p) (lowered p) p ∙ ap₂ (λ (v u : Value). cond (tiny.tie x y p) v u) lower-value pi
        ∙ ap (λ (c : Bool). cond c (sub_value binary32 (finite r A) (finite r 1)) (finite r A)) test
        in
        let pair =
        tiny-pair binary32 (omega arith) a b xr yr pos lo s t (value (tiny.m x y p)) (value (tiny.n x y p)) (value (tiny.t1 x y p)) (value (tiny.t2 x y p)) (value (tiny.g x y p))
        (value (tiny.t3 x y p)) (value (tiny.z x y p)) (value (tiny.w x y p))
        (scaled two_to_24 (factors.scale binary32) up-value x (finite s a) xi) (scaled two_to_24 (factors.scale binary32) up-value y (finite t b) yi) (mul-decodes (tiny.m x y p) (tiny.n x y p))
        (fused-value (tiny.m x y p) (tiny.n x y p) (tiny.t1 x y p) (value (tiny.m x y p)) (value (tiny.n x y p)) refl refl (mul-width (tiny.m x y p) (tiny.n x y p)))
        (scaled two_to_48 (factors.scale_twice binary32) up-up-value p (finite r A) pi) (sub-decodes (tiny.t1 x y p) (tiny.g x y p)) (add-decodes (tiny.t2 x y p) (tiny.t3 x y p))
        (sub-decodes (tiny.z x y p) (tiny.t3 x y p))
        in
        foots r (a * b) (tiny_product x y p) (width-cond (tiny.tie x y p) (lowered p) p (sub-width p (copy_sign smallest p)) (mul-width x y))
        (mul-width plus_zero (cond (tiny.tie x y p) (lowered p) p))
        (leads ∙ pair.0, mul-decodes plus_zero (cond (tiny.tie x y p) (lowered p) p) ∙ ap₂ (mul_value binary32) zero-value leads ∙ pair.1)

    -- one factor scaled up, the split recomposed, and scaled down again
    module _ (lo : 2 ^ 24 ≤ A) (hi : A ≤ 2 ^ 47) where
      pub split-is : Scaled binary32 a b r (value (a' x y)) (value (b' x y))
      split-is = middle-split binary32 (omega arith) a b xr yr lo hi s t (value (m x y)) (value (a' x y)) (value (b' x y)) (scaled two_to_24 (factors.scale binary32) up-value x (finite s a) xi)
          (mul-decodes (m x y) y ∙ ap (mul_value binary32 (value (m x y))) yi) (fused-value (m x y) y (a' x y) (value (m x y)) (finite t b) refl yi (mul-width (m x y) y))

      pub halves : Split0 binary32 r split-is.n (to_zero binary32 (split-is.n * 2 ^ low binary32)) (value (C x y)) (value (B x y))
      halves = recomposition-split r split-is.n split-is.A (a' x y) (b' x y) split-is.is (fma-width (m x y) y (minus (a' x y))) split-is.split

      first-is : value (first x y) ≡ mul_value binary32 (factors.unscale binary32) (value (C x y))
      first-is = scaled two_to_minus_24 (factors.unscale binary32) down-value (C x y) (value (C x y)) refl

      second : Finished binary32 r (a * b) (value (C x y)) (value (β x y)) (value (d x y))
      second =
          middle-second binary32 (omega arith) a b xr yr lo hi r split-is.n (to_zero binary32 (split-is.n * 2 ^ low binary32)) (value (C x y)) (value (B x y)) split-is.product halves
          (value (β x y)) (value (mul_step two_to_24 (β x y))) (value (d x y))
          (scaled two_to_minus_24 (factors.unscale binary32) down-value (B x y) (value (B x y)) refl) (scaled two_to_24 (factors.scale binary32) up-value (β x y) (value (β x y)) refl)
          (sub-decodes (mul_step two_to_24 (β x y)) (B x y))

      test : tie x y ≡ not (is_zero (value (β x y))) && same (value (d x y)) (finite second.t (2 ^ 23))
      unfolding rest_tie
      test = ap (λ (v : Value). not (is_zero (value (β x y))) && same (value (d x y)) v) (sign-value (β x y) second.t second.e second.is two_to_minus_126 (2 ^ 23) (omega arith) lowest-value)

      corrected-is : value (corrected x y) ≡ stepped binary32 second.t (value (β x y)) (value (d x y))
      unfolding lowered
      corrected-is =
          let lower-is : value (lower x y) ≡ sub_value binary32 (value (β x y)) (finite second.t 1) = sub-decodes (β x y) (copy_sign smallest (β x y))
          ∙ ap (sub_value binary32 (value (β x y))) (sign-value (β x y) second.t second.e second.is smallest 1 (omega arith) smallest-value) in
          value-cond (tie x y) (lower x y) (β x y) ∙ ap (λ (v : Value). cond (tie x y) v (value (β x y))) lower-is
          ∙ ap (λ (c : Bool). cond c (sub_value binary32 (value (β x y)) (finite second.t 1)) (value (β x y))) test

      pub middle-foot : Foots (finite r (a * b)) (middle_product x y)
      unfolding middle_product scaled_down lowered
      middle-foot =
          foots r (a * b) (middle_product x y) (rw (finish-first (first x y) (corrected x y)) (mul-width two_to_minus_24 (C x y)))
          (finish-width (first x y) (corrected x y) (width-cond (tie x y) (lower x y) (β x y) (sub-width (β x y) (copy_sign smallest (β x y))) (mul-width two_to_minus_24 (B x y)))) (
            ap value (finish-first (first x y) (corrected x y)) ∙ first-is
                ∙ middle-first binary32 (omega arith) a b xr yr lo hi r split-is.n (to_zero binary32 (split-is.n * 2 ^ low binary32)) (value (C x y)) (value (B x y)) split-is.product halves,
            finish-second (first x y) (corrected x y) ∙ ap₂ (λ (v u : Value). cond (is_zero v) (mul_value binary32 factors.zero u) v) corrected-is first-is ∙ second.finished,
          )

      -- a correction leaves no zero to be finished
      pub corrected-nonzero : tie x y ≡ true → is_zero_pattern (corrected x y) ≡ false
      corrected-nonzero h = ap is_zero corrected-is ∙ second.nonzero (sym test ∙ h)

      pub first-number : is_finite (value (first x y)) ≡ true
      first-number =
          let below : to_zero binary32 (a * b) < limit binary32 = lt_of_le_of_lt (rounded-zero-le 23 149 (a * b)) fine in
          ap is_finite (first-is ∙ middle-first binary32 (omega arith) a b xr yr lo hi r split-is.n (to_zero binary32 (split-is.n * 2 ^ low binary32)) (value (C x y)) (value (B x y))
          split-is.product halves ∙ first-finite binary32 r (a * b) below)
