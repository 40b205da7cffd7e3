-- The lines of a product's sheet in its middle branch (R5.17, R5.18).
use mathlib.Core.Path.{◌≡◌, refl, sym, ap, ap₂, ◌∙◌, subst}
use mathlib.Core.Bool.{Bool, true, not, cond}
use mathlib.Core.List.{[], ◌∷◌}
use Prim.Native.Nat.{ℕ, ◌+◌, ◌-◌, ◌*◌, ◌^◌, ◌≤◌, ◌<◌}
use native.Mathlib.Nat.{le_trans, le_of_eq, mul_comm, mul_right_comm, mul-le-mul_right, eq_of_mul-eq-mul_left, eq_of_mul-eq-mul_right, le_of_mul-le-mul_right}
use native.Mathlib.Omega.{arith}
use lib.Dec.{T}
use lib.Ieee.{unlike}
use lib.Pow.{pow_pos}
use Rattle.rounding_spec.specs.declared.Ties.TheVariants.{ToEven}
use Rattle.rounding_spec.specs.Format.{binary32, low}
use Rattle.rounding_spec.specs.Nearest.{Rep}
use Rattle.rounding_spec.specs.Value.{finite, is_finite}
use Rattle.rounding_spec.proofs.Multiple.{joined}
use Rattle.rounding_spec.proofs.NearLaws.{near-exact}
use Rattle.rounding_spec.proofs.Representable.{rep-low, rep-raise}
use Rattle.rounding_spec.proofs.Scaled.{rep-shift, rep_down, rounded-rep}
use Rattle.pattern_spec.specs.Comparisons.{same}
use Rattle.pattern_spec.specs.Classes.{copy_sign}
use Rattle.binary32_spec.specs.Steps.{sub_value, mul_step}
use Rattle.binary32_spec.specs.Marks.{sub_mark, mul_mark}
use Rattle.binary32_spec.proofs.Theorems.{sub-decodes}
use Rattle.errorfree_spec.proofs.AddsUp.{is-zero, zero_is}
use Rattle.errorfree_spec.proofs.Factors as factors
use Rattle.errorfree_spec.proofs.Middle.{Scaled}
use Rattle.errorfree_spec.proofs.Middle as middle
use Rattle.errorfree_spec.proofs.MiddleSecond as second
use Rattle.errorfree_spec.proofs.NoNumber.{number-of, both_of}
use Rattle.errorfree_spec.proofs.Signed.{Is, rel-own, same-eq}
use Rattle.errorfree_spec.proofs.Split.{Split0}
use Rattle.errorfree_spec.proofs.Steps.{to_even, to_zero, even-at}
use Rattle.worksheet_spec.specs.Constants.{two_to_24, two_to_minus_24, two_to_minus_126}
use Rattle.worksheet_spec.specs.Lines.{value, is_zero_pattern, equal}
use Rattle.worksheet_spec.specs.declared.Branch.TheVariants.{Middle as when_middle}
use Rattle.worksheet_spec.specs.Sheets.{recomposition, zero_finish, lowering, rest_tie, scaled_down, middle_product, branch_of, product_by, sheet_of}
use Rattle.worksheet_spec.proofs.Entries.{◌&◌}
use Rattle.worksheet_spec.proofs.Branches.{branch-middle}
use Rattle.worksheet_spec.proofs.Constants.{up-value, down-value, lowest-value}
use Rattle.worksheet_spec.proofs.FiniteProduct.{Factors, factors-of}
use Rattle.worksheet_spec.proofs.Patterns.{sign-value}
use Rattle.worksheet_spec.proofs.Products.{scaled}
use Rattle.worksheet_spec.proofs.Products as results
use Rattle.worksheet_spec.proofs.ProductSteps.{sheet-by}
use Rattle.worksheet_marks.specs.Tables.{any, exact, exact_where, MarkTable}
use Rattle.worksheet_marks.specs.Theorems.{MiddleProduct}
use Rattle.worksheet_marks.proofs.Exactness.{is-of, is-own, is_number, sub-exact, mul-where, factor-where, factor-exact}
use Rattle.worksheet_marks.proofs.Powers.{up-exact, lowered-exact}
use Rattle.worksheet_marks.proofs.Blocks.{lowering-table, finish-table, d-exact, e-exact}
use Rattle.worksheet_marks.proofs.Products as products

module _ (x y k : ℕ) (o : Factors x y k) (lo : 2 ^ 24 ≤ to_even binary32 (o.a * o.b)) (hi : to_even binary32 (o.a * o.b) ≤ 2 ^ 47) where
  abbrev r : Bool
  r = unlike o.s o.t

  abbrev a : ℕ
  a = o.a

  abbrev b : ℕ
  b = o.b

  abbrev m : ℕ
  m = results.m x y

  abbrev a' : ℕ
  a' = results.a' x y

  abbrev b' : ℕ
  b' = results.b' x y

  abbrev C : ℕ
  C = results.C x y

  abbrev B : ℕ
  B = results.B x y

  abbrev first : ℕ
  first = results.first x y

  abbrev β : ℕ
  β = results.β x y

  abbrev g : ℕ
  g = mul_step two_to_24 β

  abbrev d : ℕ
  d = results.d x y

  -- ---- the scaled product and its split
  split : Scaled binary32 a b r (value a') (value b')
  split = results.split-is x y o.s o.t a b o.xi o.yi o.xr o.yr o.xb o.yb o.fine lo hi

  m-exact : (value m ≡ finite o.s (a * 2 ^ 24)) × (mul_mark two_to_24 x ≡ 0)
  m-exact =
      up-exact two_to_24 24 x o.s a up-value o.xi (middle.factor-rep binary32 (omega arith) a b o.xr o.yr lo hi) (middle.factor-fine binary32 (omega arith) a b o.xr o.yr lo hi)

  abbrev E : ℕ
  E = to_even binary32 (a * 2 ^ 24 * b)

  abbrev up : Factors m y E
  up =
      record {
        s = o.s;
        t = o.t;
        a = a * 2 ^ 24;
        b = b;
        xi = m-exact.0;
        yi = o.yi;
        xr = middle.factor-rep binary32 (omega arith) a b o.xr o.yr lo hi;
        yr = o.yr;
        xb = middle.factor-fine binary32 (omega arith) a b o.xr o.yr lo hi;
        yb = o.yb;
        fine = middle.fine binary32 (omega arith) a b o.xr o.yr lo hi;
        is = refl;
      }

  big : 2 ^ 47 * 2 ^ low binary32 ≤ a * 2 ^ 24 * b
  big = middle.big binary32 (omega arith) a b o.xr o.yr lo hi

  -- ---- a itself: far from the lowest exponent a number is one of the format exactly where the scaled one is
  n-big : 2 ^ 23 * 2 ^ 24 ≤ split.n
  n-big =
      le_of_mul-le-mul_right {k = 2 ^ 149}
      (le_trans (le_of_eq (mul_right_comm (2 ^ 23) (2 ^ 24) (2 ^ 149)))
      (le_trans (mul-le-mul_right (2 ^ 24) (middle.lower binary32 (omega arith) a b o.xr o.yr lo hi)) (le_of_eq split.product))) (pow_pos 149)

  scaled-rep : Rep 24 0 split.n → to_even binary32 (a * b) * 2 ^ 149 ≡ a * b
  scaled-rep rep =
      let l = rep-raise n-big rep in
      let q = rep-low l in
      let e : a * b ≡ q.0 * 2 ^ 149 =
      eq_of_mul-eq-mul_right (2 ^ 24) (pow_pos 24) (a * b) (q.0 * 2 ^ 149) (split.product ∙ ap (λ (i : ℕ). i * 2 ^ 149) q.1 ∙ mul_right_comm q.0 (2 ^ 24) (2 ^ 149)) in
      let small : Rep 24 0 q.0 = rep_down q.0 24 (subst (Rep 24 24) q.1 l) in
      ap (λ (i : ℕ). to_even binary32 i * 2 ^ 149) e ∙ ap (λ (i : ℕ). i * 2 ^ 149) (near-exact (even-at binary32 q.0) small) ∙ sym e

  a-mark : mul_mark x y ≡ cond (is_zero_pattern b') 0 1
  a-mark =
      let h = split.split in
      mul-where x y o.s a o.t b o.xi o.yi (to_even binary32 (a * b)) (products.p-is x y k o) (is_zero_pattern b')
      (λ z. scaled-rep (subst (Rep 24 0) (sym (zero_is r (value b') split.n split.A h.rest z)) h.near.rep))
      (λ e. is-zero r (value b') split.n split.A h.rest (sym (near-exact h.near (subst (Rep 24 0) (sym (whole e)) (rep-shift 24 (rounded-rep ToEven 23 149 (a * b)))))))
    where
      whole : to_even binary32 (a * b) * 2 ^ 149 ≡ a * b → split.n ≡ to_even binary32 (a * b) * 2 ^ 24
      whole e =
          eq_of_mul-eq-mul_right (2 ^ 149) (pow_pos 149) split.n (to_even binary32 (a * b) * 2 ^ 24)
          (sym split.product ∙ ap (λ (i : ℕ). i * 2 ^ 24) (sym e) ∙ mul_right_comm (to_even binary32 (a * b)) (2 ^ 149) (2 ^ 24))

  -- ---- scaled down again
  abbrev f : ℕ
  f = to_zero binary32 (split.n * 2 ^ low binary32)

  halves : Split0 binary32 r split.n f (value C) (value B)
  unfolding split
  halves = results.halves x y o.s o.t a b o.xi o.yi o.xr o.yr o.xb o.yb o.fine lo hi

  first-exact : (is_finite (value first) ≡ true) × (mul_mark two_to_minus_24 C ≡ 0)
  first-exact =
      let head = to_zero binary32 (a * b) in
      let v = scaled two_to_minus_24 (factors.unscale binary32) down-value C (value C) refl
      ∙ middle.first-is binary32 (omega arith) a b o.xr o.yr lo hi r split.n f (value C) (value B) split.product halves in
      let e = middle.scaled-head binary32 (omega arith) a b o.xr o.yr lo hi r split.n f (value C) (value B) split.product halves in (
        ap is_finite v,
        factor-exact two_to_minus_24 C (2 ^ 125) r f head down-value halves.is v
            (sym (ap (λ (i : ℕ). 2 ^ 125 * i) e ∙ mul_comm (2 ^ 125) (head * 2 ^ 24) ∙ joined head 24 125 149 refl)),
      )

  -- B is e units of the sign u
  module _ (u : Bool) (e : ℕ) (Bi : value B ≡ finite u e) where
    sizes : Rep 24 0 e × Rep 24 24 f × (e ≤ f)
    sizes =
        middle.second-sizes binary32 (omega arith) a b o.xr o.yr lo hi r split.n f (value C) (value B) split.product halves u e
        (is-of r (finite u e) (value B) split.n f (sym Bi) halves.rest)

    abbrev small : ℕ
    small = second.small binary32 (omega arith) u e sizes.0 f sizes.1 sizes.2 halves.fine

    abbrev large : ℕ
    large = small * 2 ^ 24

    β-is : value β ≡ finite u small
    β-is = scaled two_to_minus_24 (factors.unscale binary32) down-value B (finite u e) Bi ∙ second.small_is binary32 (omega arith) u e sizes.0 f sizes.1 sizes.2 halves.fine

    g-is : value g ≡ finite u large
    g-is = scaled two_to_24 (factors.scale binary32) up-value β (finite u small) β-is ∙ second.large_is binary32 (omega arith) u e sizes.0 f sizes.1 sizes.2 halves.fine

    g-exact : mul_mark two_to_24 β ≡ 0
    g-exact = factor-exact two_to_24 β (2 ^ 173) u small large up-value β-is g-is (joined small 24 149 173 refl ∙ mul_comm small (2 ^ 173))

    gap : Is u (value d) large e
    gap =
        is-of u (value d) (sub_value binary32 (finite u large) (finite u e)) large e (sub-decodes g B ∙ ap₂ (sub_value binary32) g-is Bi)
        (second.gap_is binary32 (omega arith) u e sizes.0 f sizes.1 sizes.2 halves.fine)

    r-exact : sub_mark g B ≡ 0
    r-exact = sub-exact u g B large 0 e 0 large e (is-own u (value g) large g-is) (is-own u (value B) e Bi) gap (plain large e)
      where
        plain : (i j : ℕ) → i + (0 + j) ≡ i + 0 + j
        plain i j = omega arith

    -- β loses nothing exactly where r is zero
    β-mark : mul_mark two_to_minus_24 B ≡ cond (is_zero_pattern d) 0 1
    β-mark =
        let down : small * 2 ^ 149 ≡ 2 ^ 125 * large = sym (joined small 24 125 149 refl) ∙ mul_comm large (2 ^ 125) in
        factor-where two_to_minus_24 B (2 ^ 125) u e small down-value Bi β-is (is_zero_pattern d) (λ z. down ∙ ap (λ (i : ℕ). 2 ^ 125 * i) (zero_is u (value d) large e gap z))
        (λ h. is-zero u (value d) large e gap (eq_of_mul-eq-mul_left (2 ^ 125) (pow_pos 125) large e (sym down ∙ h)))

    -- β less u, where r is half of a scaled u
    lower-exact : rest_tie β d ≡ true → (lowering β).mark ≡ 0
    unfolding rest_tie
    lower-exact h =
        let c = (both_of (not (is_zero_pattern β)) (equal d (copy_sign two_to_minus_126 β)) h).1 in
        let half = finite u (2 ^ 23) in
        let test : same (value d) half ≡ true = sym (ap (same (value d)) (sign-value β u small β-is two_to_minus_126 (2 ^ 23) (omega arith) lowest-value)) ∙ c in
        let tie : large + 0 ≡ 2 ^ 23 + e = same-eq u (value d) half large e (2 ^ 23) 0 gap (rel-own u (2 ^ 23)) (subst T (sym test) tt) in
        let more = second.above-one binary32 (omega arith) u e sizes.0 f sizes.1 sizes.2 halves.fine tie in
        lowered-exact β u small β-is (small - 1) 0 (second.lower-is binary32 (omega arith) u e sizes.0 f sizes.1 sizes.2 halves.fine tie) (less small more)
      where
        less : (i : ℕ) → 1 < i → i - 1 + 1 ≡ i + 0
        less i h = omega arith

  -- ---- the table, behind a
  middle-table : MarkTable (exact ∷ exact_where (is_zero_pattern b') ∷ exact ∷ any ∷ exact ∷ exact ∷ exact ∷ exact_where (is_zero_pattern d) ∷ exact ∷ exact ∷ []) (middle_product x y).lines
  unfolding middle_product recomposition scaled_down
  middle-table =
      let p = number-of (value B) (is_number r (value B) split.n f halves.rest) in
      let n = products.n m y E up big in
      let A = products.A m y E up in
      let ai = products.p-is m y E up in
      let h = products.split m y E up big in
      m-exact.1 & products.product-mark m y E up big & products.rest-exact m y E up big & tt & d-exact r n A a' b' ai h & e-exact r n A a' b' ai h
      & first-exact.1 & β-mark p.0 p.1 p.2 & g-exact p.0 p.1 p.2 & r-exact p.0 p.1 p.2
      & lowering-table (results.tie x y) β (zero_finish first (results.corrected x y)).lines (lower-exact p.0 p.1 p.2)
      (finish-table first (results.corrected x y) first-exact.0)

pub middle-product : MiddleProduct
unfolding sheet_of product_by middle_product recomposition scaled_down
middle-product x y s m e h k =
    let o = factors-of x y s m e in
    let lo = subst (λ (i : ℕ). 2 ^ 24 ≤ i) o.is h in
    let hi = subst (λ (i : ℕ). i ≤ 2 ^ 47) o.is k in
    rw (sheet-by x y when_middle (ap branch_of e ∙ branch-middle s m h k)) (a-mark x y m o lo hi & middle-table x y m o lo hi)
