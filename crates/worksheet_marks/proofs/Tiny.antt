-- The lines of a product's sheet in its branch for tiny products (R5.15, R5.16).
use mathlib.Core.Path.{◌≡◌, refl, sym, ap, ap₂, ◌∙◌, subst}
use mathlib.Core.Bool.{Bool, true, false, not, cond}
use mathlib.Core.List.{[], ◌∷◌, ◌++◌}
use Prim.Native.Nat.{ℕ, ◌+◌, ◌*◌, ◌^◌, ◌<◌}
use native.Mathlib.Nat.{le_of_lt, eq_of_mul-eq-mul_right}
use native.Mathlib.Omega.{arith}
use lib.Dec.{T}
use lib.Ieee.{unlike}
use lib.Pow.{pow_pos}
use Rattle.rounding_spec.specs.Format.{binary32}
use Rattle.rounding_spec.specs.Value.{Value, finite, is_finite}
use Rattle.pattern_spec.specs.Exact.{negate}
use Rattle.binary32_spec.specs.Steps.{add_value, sub_value, fma_value, mul_step}
use Rattle.binary32_spec.specs.Marks.{add_mark, sub_mark, mul_mark, fma_mark}
use Rattle.binary32_spec.proofs.Theorems.{add-decodes, sub-decodes}
use Rattle.errorfree_spec.proofs.AddsUp.{is-zero, zero_is}
use Rattle.errorfree_spec.proofs.Signed.{Is, same-eq, eq-same}
use Rattle.errorfree_spec.proofs.Steps.{to_even, is-one-less}
use Rattle.errorfree_spec.proofs.Tiny as sizes
use Rattle.errorfree_spec.proofs.TinyTest.{Scaled}
use Rattle.errorfree_spec.proofs.TinyTest as test
use Rattle.worksheet_spec.specs.Constants.{two_to_24, two_to_48, plus_zero}
use Rattle.worksheet_spec.specs.declared.Step.TheVariants.{Multiply as multiply}
use Rattle.worksheet_spec.specs.Lines.{line, value, minus, is_zero_pattern, equal}
use Rattle.worksheet_spec.specs.declared.Branch.TheVariants.{Tiny as when_tiny}
use Rattle.worksheet_spec.specs.Sheets.{lowered, lowering, tiny_product, branch_of, product_by, sheet_of}
use Rattle.worksheet_spec.proofs.Entries.{◌&◌}
use Rattle.worksheet_spec.proofs.Branches.{branch-tiny}
use Rattle.worksheet_spec.proofs.Constants.{up-value, up-up-value}
use Rattle.worksheet_spec.proofs.FiniteProduct.{Factors, factors-of}
use Rattle.worksheet_spec.proofs.Patterns.{mul-width, minus-value, negate-finite}
use Rattle.worksheet_spec.proofs.Products.{scaled, fused-value}
use Rattle.worksheet_spec.proofs.ProductSteps.{sheet-by}
use Rattle.worksheet_spec.proofs.TinyResults as results
use Rattle.worksheet_marks.specs.Tables.{exact, exact_where, MarkTable}
use Rattle.worksheet_marks.specs.Theorems.{TinyProduct}
use Rattle.worksheet_marks.proofs.Exactness.{told, is_number, is-of, is-own, add-where, sub-exact, mul-where, mul_left, fma-exact}
use Rattle.worksheet_marks.proofs.Powers.{zero-exact, up-exact, lowered_is, lowered-exact}
use Rattle.worksheet_marks.proofs.Products.{p-is}
use Rattle.worksheet_marks.proofs.TinyRest.{Rest, w-rest}

module _ (x y k : ℕ) (o : Factors x y k) (pos : 0 < to_even binary32 (o.a * o.b)) (lo : to_even binary32 (o.a * o.b) < 2 ^ 24) where
  abbrev r : Bool
  r = unlike o.s o.t

  abbrev a : ℕ
  a = o.a

  abbrev b : ℕ
  b = o.b

  abbrev p : ℕ
  p = mul_step x y

  abbrev E : ℕ
  E = to_even binary32 (a * b)

  abbrev m : ℕ
  m = results.m x y p

  abbrev n : ℕ
  n = results.n x y p

  abbrev t1 : ℕ
  t1 = results.t1 x y p

  abbrev t2 : ℕ
  t2 = results.t2 x y p

  abbrev g : ℕ
  g = results.g x y p

  abbrev t3 : ℕ
  t3 = results.t3 x y p

  abbrev z : ℕ
  z = results.z x y p

  abbrev w : ℕ
  w = results.w x y p

  -- ---- the factors and a, scaled up
  m-exact : (value m ≡ finite o.s (a * 2 ^ 24)) × (mul_mark two_to_24 x ≡ 0)
  m-exact = up-exact two_to_24 24 x o.s a up-value o.xi (sizes.a-rep binary32 (omega arith) a b o.xr o.yr pos lo) (sizes.a-fine binary32 (omega arith) a b o.xr o.yr pos lo)

  n-exact : (value n ≡ finite o.t (b * 2 ^ 24)) × (mul_mark two_to_24 y ≡ 0)
  n-exact = up-exact two_to_24 24 y o.t b up-value o.yi (sizes.b-rep binary32 (omega arith) a b o.xr o.yr pos lo) (sizes.b-fine binary32 (omega arith) a b o.xr o.yr pos lo)

  G : ℕ
  G = E * 2 ^ 48

  g-exact : (value g ≡ finite r G) × (mul_mark two_to_48 p ≡ 0)
  unfolding G
  g-exact =
      up-exact two_to_48 48 p r E up-up-value (p-is x y k o) (sizes.G-rep binary32 (omega arith) a b o.xr o.yr pos lo) (sizes.G-fine binary32 (omega arith) a b o.xr o.yr pos lo)

  -- ---- the scaled product, of Q units: t1 is T1, and t2 is what is left
  abbrev Q : ℕ
  Q = sizes.Q binary32 (omega arith) a b o.xr o.yr pos lo

  abbrev T1 : ℕ
  T1 = sizes.T1 binary32 (omega arith) a b o.xr o.yr pos lo

  Q-whole : a * 2 ^ 24 * (b * 2 ^ 24) ≡ Q * 2 ^ 149
  Q-whole = sizes.Q-whole binary32 (omega arith) a b o.xr o.yr pos lo

  t1-is : value t1 ≡ finite r T1
  t1-is = scaled m (finite o.s (a * 2 ^ 24)) m-exact.0 n (finite o.t (b * 2 ^ 24)) n-exact.0 ∙ sizes.t1-is binary32 (omega arith) a b o.xr o.yr pos lo o.s o.t

  t2-value : value t2 ≡ fma_value binary32 (finite o.s (a * 2 ^ 24)) (finite o.t (b * 2 ^ 24)) (negate (finite r T1))
  t2-value =
      let v = finite o.s (a * 2 ^ 24) in
      let u = finite o.t (b * 2 ^ 24) in
      fused-value m n t1 v u m-exact.0 n-exact.0 (mul-width m n) ∙ ap (λ (i : Value). fma_value binary32 v u (negate i)) t1-is

  abbrev H : ℕ
  H = 2 ^ 47

  parts : Scaled binary32 r T1 Q G H 48 (value t2)
  unfolding G
  parts = subst (Scaled binary32 r T1 Q (E * 2 ^ 48) H 48) (sym t2-value) (sizes.scaled binary32 (omega arith) a b o.xr o.yr pos lo o.s o.t)

  t2-is : Is r (value t2) Q T1
  t2-is = parts.rest

  t1-mark : mul_mark m n ≡ cond (is_zero_pattern t2) 0 1
  t1-mark = mul_left m n o.s (a * 2 ^ 24) o.t (b * 2 ^ 24) m-exact.0 n-exact.0 Q T1 Q-whole t1-is (value t2) t2-is

  t2-exact : fma_mark m n (minus t1) ≡ 0
  t2-exact =
      let minus_is : value (minus t1) ≡ finite (not r) T1 = minus-value t1 (mul-width m n) ∙ ap negate t1-is ∙ negate-finite r T1 in
      fma-exact m n (minus t1) o.s (a * 2 ^ 24) o.t (b * 2 ^ 24) Q T1 m-exact.0 n-exact.0 minus_is Q-whole t2-is

  -- ---- t3, z and w
  abbrev v : Value
  v = sub_value binary32 (finite r T1) (finite r G)

  t3-value : value t3 ≡ v
  t3-value = sub-decodes t1 g ∙ ap₂ (sub_value binary32) t1-is g-exact.0

  t3-is : Is r (value t3) T1 G
  t3-is = is-of r (value t3) v T1 G t3-value (test.t3-is binary32 r T1 Q G H 48 (value t2) parts)

  t3-exact : sub_mark t1 g ≡ 0
  t3-exact = sub-exact r t1 g T1 0 G 0 T1 G (is-own r (value t1) T1 t1-is) (is-own r (value g) G g-exact.0) t3-is (plain T1 G)
    where
      plain : (i j : ℕ) → i + (0 + j) ≡ i + 0 + j
      plain i j = omega arith

  rest : Rest binary32 r T1 Q G H 48 (value t2) parts
  rest = w-rest binary32 r T1 Q G H 48 (value t2) parts

  z-value : value z ≡ add_value binary32 (value t2) v
  z-value = add-decodes t2 t3 ∙ ap (add_value binary32 (value t2)) t3-value

  z-is : Is r (value z) rest.zp rest.zn
  z-is = is-of r (value z) (add_value binary32 (value t2) v) rest.zp rest.zn z-value rest.z-is

  w-is : Is r (value w) (rest.zp + G) (rest.zn + T1)
  w-is =
      is-of r (value w) (sub_value binary32 (add_value binary32 (value t2) v) v) (rest.zp + G) (rest.zn + T1) (sub-decodes z t3 ∙ ap₂ (sub_value binary32) z-value t3-value) rest.w-is

  w-exact : sub_mark z t3 ≡ 0
  w-exact = sub-exact r z t3 rest.zp rest.zn T1 G (rest.zp + G) (rest.zn + T1) z-is t3-is w-is refl

  -- z loses nothing exactly where w is t2
  z-mark : add_mark t2 t3 ≡ cond (equal w t2) 0 1
  z-mark =
      add-where r t2 t3 Q T1 T1 G rest.zp rest.zn t2-is t3-is z-is (equal w t2)
      (λ h. forth rest.zp rest.zn G Q T1 (same-eq r (value w) (value t2) (rest.zp + G) (rest.zn + T1) Q T1 w-is t2-is (subst T (sym h) tt)))
      (λ h. told (equal w t2) (eq-same r (value w) (value t2) (rest.zp + G) (rest.zn + T1) Q T1 w-is t2-is (back rest.zp rest.zn G Q T1 h)))
    where
      forth : (zp zn G Q T1 : ℕ) → zp + G + T1 ≡ Q + (zn + T1) → zp + (T1 + G) ≡ Q + T1 + zn
      forth zp zn G Q T1 h = omega arith

      back : (zp zn G Q T1 : ℕ) → zp + (T1 + G) ≡ Q + T1 + zn → zp + G + T1 ≡ Q + (zn + T1)
      back zp zn G Q T1 h = omega arith

  -- and a where z is zero
  a-mark : mul_mark x y ≡ cond (is_zero_pattern z) 0 1
  unfolding G
  a-mark =
      let q : a * b * 2 ^ 48 ≡ Q * 2 ^ 149 = sizes.Q-is binary32 (omega arith) a b o.xr o.yr pos lo in
      let e : E * 2 ^ 149 * 2 ^ 48 ≡ E * 2 ^ 48 * 2 ^ 149 = sizes.G-is binary32 (omega arith) a b o.xr o.yr pos lo in
      mul-where x y o.s a o.t b o.xi o.yi E (p-is x y k o) (is_zero_pattern z)
      (λ h. eq_of_mul-eq-mul_right (2 ^ 48) (pow_pos 48) (E * 2 ^ 149) (a * b) (e ∙ ap (λ (i : ℕ). i * 2 ^ 149) (sym (rest.zero_of (zero_is r (value z) rest.zp rest.zn z-is h))) ∙ sym q))
      (λ h. is-zero r (value z) rest.zp rest.zn z-is
      (rest.of_zero (eq_of_mul-eq-mul_right (2 ^ 149) (pow_pos 149) Q (E * 2 ^ 48) (sym q ∙ ap (λ (i : ℕ). i * 2 ^ 48) (sym h) ∙ e))))

  -- ---- a less u
  less : Is r (sub_value binary32 (finite r E) (finite r 1)) E 1
  less = is-one-less binary32 r E pos (le_of_lt lo) o.fine

  -- ---- the table, behind a
  corrected : (c : Bool) → let first = cond c (lowered p) p in MarkTable [] (cond c (lowering p ∷ []) [] ++ line multiply plus_zero first (mul_step plus_zero first) ∷ [])
  corrected true =
      lowered-exact p r E (p-is x y k o) E 1 less refl & zero-exact (lowered p) (is_number r (value (lowered p)) E 1 (lowered_is p r E (p-is x y k o) E 1 less)) & tt
  corrected false = zero-exact p (ap is_finite (p-is x y k o)) & tt

  tiny-table : MarkTable (exact ∷ exact ∷ exact_where (is_zero_pattern t2) ∷ exact ∷ exact ∷ exact ∷ exact_where (equal w t2) ∷ exact ∷ []) (tiny_product x y p).lines
  unfolding tiny_product
  tiny-table = m-exact.1 & n-exact.1 & t1-mark & t2-exact & g-exact.1 & t3-exact & z-mark & w-exact & corrected (results.tie x y p)

pub tiny-product : TinyProduct
unfolding sheet_of product_by tiny_product
tiny-product x y s m e h l =
    let o = factors-of x y s m e in
    let pos = subst (λ (i : ℕ). 0 < i) o.is h in
    let lo = subst (λ (i : ℕ). i < 2 ^ 24) o.is l in
    rw (sheet-by x y when_tiny (ap branch_of e ∙ branch-tiny s m h l)) (a-mark x y m o pos lo & tiny-table x y m o pos lo)
