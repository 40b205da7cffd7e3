-- What cannot occur in a product's last two branches.
use Prim.Native.Nat.{ℕ, ◌*◌, ◌^◌, ◌≤◌, ◌<◌}
use mathlib.Core.Path.{◌≡◌, ap, ap₂, ◌∙◌}
use mathlib.Core.Bool.{Bool, true, false, not}
use native.Mathlib.Nat.{le_trans, le_of_eq, le_of_mul-le-mul_right, mul-le-mul_right, mul_right_comm}
use native.Mathlib.Omega.{arith}
use borrow.Author.Tests.{ne_eqb}
use lib.Ieee.{unlike}
use lib.Pow.{pow_pos}
use Rattle.rounding_spec.specs.Format.{binary32, limit}
use Rattle.rounding_spec.specs.Nearest.{Rep}
use Rattle.rounding_spec.specs.Value.{Value, finite, is_nan, is_infinite, is_zero}
use Rattle.rounding_spec.proofs.NearLaws.{near-ge}
use Rattle.pattern_spec.specs.Exact.{negate}
use Rattle.binary32_spec.specs.Steps.{mul_value, fma_value, sub_step, mul_step, fma_step}
use Rattle.binary32_spec.proofs.Theorems.{mul-decodes, fma-decodes}
use Rattle.pattern_spec.specs.Comparisons.{less_magnitude}
use Rattle.errorfree_spec.proofs.Middle.{middle-split}
use Rattle.errorfree_spec.proofs.Powers.{pow-above}
use Rattle.errorfree_spec.proofs.ProductSplit.{whole, product-split}
use Rattle.errorfree_spec.proofs.Split.{Split}
use Rattle.errorfree_spec.proofs.Steps.{to_even}
use Rattle.worksheet_spec.specs.Constants.{psi, two, two_to_24, two_to_minus_24}
use Rattle.worksheet_spec.specs.Lines.{value, minus, equal, is_zero_pattern}
use Rattle.worksheet_spec.specs.Sheets.{rest_tie}
use Rattle.worksheet_spec.proofs.Constants.{up-value}
use Rattle.worksheet_spec.proofs.Patterns.{mul-width, fma-width, minus-value, negate-finite}
use Rattle.worksheet_spec.proofs.Products.{m, a', b', tie, corrected, pi}
use Rattle.worksheet_spec.proofs.FiniteProduct.{factors-of}
use Rattle.worksheet_spec.proofs.ProductSteps.{middle-facts}
use Rattle.worksheet_table.specs.Programs.{not_above}
use Rattle.worksheet_table.proofs.Changed.{changed-rest}
use Rattle.worksheet_table.proofs.NoTie.{rep-power, power-rest}
use Rattle.worksheet_table.proofs.Branches.{low, high, middle-number, other-number}

large : (N n U : ℕ) → 2 ^ 23 * U ≤ N → N * 2 ^ 24 ≡ n * U → 0 < U → 2 ^ 47 ≤ n
large N n U h e pos = le_of_mul-le-mul_right {k = U} (le_trans (le_of_eq (mul_right_comm (2 ^ 23) (2 ^ 24) U)) (le_trans (mul-le-mul_right (2 ^ 24) h) (le_of_eq e))) pos

module _ (x y : ℕ) where
  abbrev p : ℕ
  p = mul_step x y

  -- ---- in the middle branch
  module _ (l : less_magnitude (value p) low ≡ false) (h : not_above (value p) high ≡ true) where
    -- what is lowered is not zero
    pub lowered-nonzero : tie x y ≡ true → is_zero_pattern (corrected x y) ≡ false
    lowered-nonzero = let n = middle-number (value p) l h in (middle-facts x y n.0 n.1 n.2 n.3 n.4).0

    -- where recomposition changes the pair, nothing is lowered
    abbrev pub B : ℕ
    B = minus (b' x y)

    abbrev pub changed-tie : Bool
    changed-tie = rest_tie (mul_step two_to_minus_24 B) (sub_step (mul_step two_to_24 (mul_step two_to_minus_24 B)) B)

    pub changed-uncorrected : equal (mul_step two (b' x y)) (sub_step (mul_step psi (a' x y)) (a' x y)) ≡ true → changed-tie ≡ false
    changed-uncorrected e =
        let n = middle-number (value p) l h in
        let o = factors-of x y n.0 n.1 n.2 in
        at o.s o.t o.a o.b o.xi o.yi o.xr o.yr (rw (← o.is) n.3) (rw (← o.is) n.4)
      where
        power : (q : Bool) (k : ℕ) → value (b' x y) ≡ finite q (2 ^ k) → 2 ^ k < limit binary32 → changed-tie ≡ false
        power q k i f = power-rest B (not q) k (minus-value (b' x y) (fma-width (m x y) y (minus (a' x y))) ∙ ap negate i ∙ negate-finite q (2 ^ k)) f

        split : (r : Bool) (n A : ℕ) → value (a' x y) ≡ finite r A → Split binary32 r n A (value (b' x y)) → 2 ^ 47 ≤ n → changed-tie ≡ false
        split r n A ai s big = let k = changed-rest (a' x y) (b' x y) r n A ai (omega (arith, near-ge s.near (rep-power 47) big)) s e in power k.0 k.1 k.2 k.3

        at : (s t : Bool) (a b : ℕ) → value x ≡ finite s a → value y ≡ finite t b → Rep 24 0 a → Rep 24 0 b → 2 ^ 24 ≤ to_even binary32 (a * b) → to_even binary32 (a * b) ≤ 2 ^ 47
            → changed-tie ≡ false
        at s t a b xi yi xr yr lo hi =
            let S =
            middle-split binary32 (omega arith) a b xr yr lo hi s t (value (m x y)) (value (a' x y)) (value (b' x y)) (mul-decodes two_to_24 x ∙ ap₂ (mul_value binary32) up-value xi)
            (mul-decodes (m x y) y ∙ ap (mul_value binary32 (value (m x y))) yi)
            (fma-decodes (m x y) y (minus (a' x y)) ∙ ap₂ (fma_value binary32 (value (m x y))) yi (minus-value (a' x y) (mul-width (m x y) y)))
            in
            split (unlike s t) S.n S.A S.is S.split (large (a * b) S.n (2 ^ 149) (pow-above binary32 (a * b) 23 (omega (arith, lo))) S.product (pow_pos 149))

  -- ---- in the last branch
  module _ (n : is_nan (value p) ≡ false) (i : is_infinite (value p) ≡ false) (h : not_above (value p) high ≡ false) where
    abbrev c : ℕ
    c = fma_step x y (minus p)

    -- where recomposition changes the pair, the rest is not zero
    pub changed-nonzero : equal (mul_step two c) (sub_step (mul_step psi p) p) ≡ true → is_zero_pattern (minus c) ≡ false
    changed-nonzero e =
        let k = other-number (value p) n i h in
        let o = factors-of x y k.0 k.1 k.2 in
        at o.s o.t o.a o.b o.xi o.yi o.xr o.yr o.xb o.yb o.fine (rw (← o.is) k.3)
      where
        power : (q : Bool) (k : ℕ) → value c ≡ finite q (2 ^ k) → is_zero_pattern (minus c) ≡ false
        power q k f = ap is_zero (minus-value c (fma-width x y (minus p)) ∙ ap negate f ∙ negate-finite q (2 ^ k)) ∙ ne_eqb (2 ^ k) 0 (λ (z : 2 ^ k ≡ 0). omega (arith, pow_pos k))

        at : (s t : Bool) (a b : ℕ) → value x ≡ finite s a → value y ≡ finite t b → Rep 24 0 a → Rep 24 0 b → a < limit binary32 → b < limit binary32
            → to_even binary32 (a * b) < limit binary32 → 2 ^ 47 < to_even binary32 (a * b)
            → is_zero_pattern (minus c) ≡ false
        at s t a b xi yi xr yr xb yb fine big =
            let least = pow-above binary32 (a * b) 47 big in
            let r = unlike s t in
            let A = to_even binary32 (a * b) in
            let ai : value p ≡ finite r A = pi x y s t a b xi yi xr yr xb yb fine in
            let ci : value c ≡ fma_value binary32 (finite s a) (finite t b) (negate (finite r A)) =
            fma-decodes x y (minus p) ∙ ap₂ (λ (u w : Value). fma_value binary32 u w (value (minus p))) xi yi
            ∙ ap (fma_value binary32 (finite s a) (finite t b)) (minus-value p (mul-width x y) ∙ ap negate ai)
            in
            let k = changed-rest p c r (whole binary32 a b xr yr least).0 A ai (omega (arith, big)) (rw ci (product-split binary32 a b xr yr least s t fine)) e in
            power k.0 k.1 k.2
