-- The lines of a sum's sheet, where finite operands overflow.
use mathlib.Core.Path.{◌≡◌, refl, sym, ap, ap₂, ◌∙◌, subst}
use mathlib.Core.Logic.{inl, inr}
use mathlib.Core.Bool.{Bool, true, false}
use mathlib.Core.List.{List, [], ◌∷◌, ◌++◌}
use Prim.Native.Nat.{ℕ, ◌+◌, ◌-◌, ◌*◌, ◌^◌, ◌≤◌, ◌<◌}
use native.Mathlib.Nat.{le_trans, le_of_eq, lt_of_le_of_lt}
use native.Mathlib.Decide.{dec_le}
use native.Mathlib.Omega.{arith}
use Rattle.rounding_spec.specs.Format.{binary32, low, limit}
use Rattle.rounding_spec.specs.Nearest.{Rep}
use Rattle.rounding_spec.specs.Value.{Value, nan, infinite, finite, is_finite, is_infinite}
use Rattle.rounding_spec.proofs.NearLaws.{near_le}
use Rattle.rounding_spec.proofs.Representable.{rep-half}
use Rattle.rounding_spec.proofs.Sterbenz.{add-le}
use Rattle.pattern_spec.specs.Comparisons.{less_magnitude}
use Rattle.pattern_spec.specs.Exact.{plus}
use Rattle.pattern_spec.proofs.Sums.{like?, like-eq, like-own, sum_same, sum_left, sum-none}
use Rattle.binary32_spec.specs.Steps.{add_value, add_step, sub_step, mul_step}
use Rattle.binary32_spec.specs.Marks.{mul_mark}
use Rattle.pattern_spec.specs.Classes.{both_finite}
use Rattle.binary32_spec.proofs.Theorems.{add-decodes, sub-decodes}
use Rattle.errorfree_spec.proofs.FastTwoSum.{add-finite}
use Rattle.errorfree_spec.proofs.Halved.{y-big}
use Rattle.errorfree_spec.proofs.NoNumber.{not-both, some-false, sub-left}
use Rattle.errorfree_spec.proofs.Steps.{to_even, even-at, over-of}
use Rattle.worksheet_spec.specs.Constants.{psi, two, half}
use Rattle.worksheet_spec.specs.declared.Step.TheVariants.{Add as add}
use Rattle.worksheet_spec.specs.Lines.{Line, line, value, is_zero_pattern}
use Rattle.worksheet_spec.specs.Sheets.{halved_sum, sum_in_order}
use Rattle.worksheet_spec.proofs.Entries.{◌&◌}
use Rattle.worksheet_spec.proofs.InfiniteLines.{opening, infinite-sum-lines}
use Rattle.worksheet_spec.proofs.Sums.{b-none}
use Rattle.worksheet_marks.specs.Tables.{Entry, exact, rounded, special, exact_where, EntryHolds, MarkTable}
use Rattle.worksheet_marks.specs.Theorems.{OverflowTable, OverflowingSum}
use Rattle.worksheet_marks.proofs.Exactness.{add-overflowed, sub-special, mul-special}
use Rattle.worksheet_marks.proofs.Powers.{half-exact}
use Rattle.worksheet_marks.proofs.Edge.{edge-table}
use Rattle.worksheet_marks.proofs.Addends.{in-any-order, addends-of}
use Rattle.worksheet_marks.proofs.Sums.{a-mark, v-exact, b-exact}

-- ---- infinite and NaN operands
pub first-none : (x y : ℕ) → is_finite (value x) ≡ false → both_finite x y ≡ false
first-none x y h = some-false (is_finite (value x)) (is_finite (value y)) (inl h)

pub second_none : (x y : ℕ) → is_finite (value y) ≡ false → both_finite x y ≡ false
second_none x y h = some-false (is_finite (value x)) (is_finite (value y)) (inr h)

pub infinite-of : (v : Value) → is_infinite v ≡ true → (s : Bool) × (v ≡ infinite s)
infinite-of nan h = not-both (sym h)
infinite-of (infinite s) h = (s, refl)
infinite-of (finite s m) h = not-both (sym h)

-- ---- a is infinite: v, b, z, d and e are of it, or of what is made of it; a and the lines of the halves are as claimed
pub opening-table : (x y : ℕ) (s : Bool) → value (add_step x y) ≡ infinite s → (c : Entry) (cs : List Entry) (ls : List Line) → EntryHolds c (line add x y (add_step x y)) → MarkTable cs ls
    → MarkTable (c ∷ special ∷ special ∷ special ∷ special ∷ special ∷ cs) (opening x y ++ ls)
opening-table x y s e c cs ls h k =
    let a = add_step x y in
    let v = sub_step a x in
    let b = sub_step y v in
    let an : is_finite (value a) ≡ false = ap is_finite e in
    let vn : is_finite (value v) ≡ false = ap is_finite (sub-decodes a x) ∙ sub-left binary32 (value a) (value x) an in
    let z = mul_step psi a in
    h & sub-special a x (first-none a x an) & sub-special y v (second_none y v vn) & mul-special psi a (second_none psi a an) & sub-special z a (second_none z a an)
    & mul-special two b (second_none two b (b-none x y a an)) & k

-- ---- the halves, of like signs, the first of which is not the smaller
module _ (x y : ℕ) (s : Bool) (X Y : ℕ) (xi : value x ≡ finite s X) (yi : value y ≡ finite s Y) (xr : Rep 24 0 X) (yr : Rep 24 0 Y) (xb : X < limit binary32) (le : Y ≤ X)
    (over : limit binary32 ≤ to_even binary32 ((X + Y) * 2 ^ low binary32)) where
  second-big : 2 ^ 24 ≤ Y
  second-big = y-big binary32 (omega arith) (omega arith) s X Y xr yr xb le over

  x-half : (H : ℕ) × (X ≡ 2 * H) × Rep 24 0 H
  x-half = rep-half xr (le_trans second-big le)

  y-half : (G : ℕ) × (Y ≡ 2 * G) × Rep 24 0 G
  y-half = rep-half yr second-big

  abbrev H : ℕ
  H = x-half.0

  abbrev G : ℕ
  G = y-half.0

  sizes : (G ≤ H) × (H < limit binary32) × (G < limit binary32)
  sizes = halves X Y H G (limit binary32) x-half.1 y-half.1 le xb
    where
      halves : (X Y H G W : ℕ) → X ≡ 2 * H → Y ≡ 2 * G → Y ≤ X → X < W → (G ≤ H) × (H < W) × (G < W)
      halves X Y H G W h k l b = (omega arith, omega arith, omega arith)

  fine : to_even binary32 ((H + G) * 2 ^ low binary32) < limit binary32
  fine = lt_of_le_of_lt (le_trans (add-le x-half.2 y-half.2 sizes.0 (even-at binary32 (H + G))) (le_of_eq (sym x-half.1))) xb

  x-exact : (value (mul_step half x) ≡ finite s H) × (mul_mark half x ≡ 0)
  x-exact = half-exact x s X H xi x-half.1 x-half.2 sizes.1

  y-exact : (value (mul_step half y) ≡ finite s G) × (mul_mark half y ≡ 0)
  y-exact = half-exact y s Y G yi y-half.1 y-half.2 sizes.2

  abbrev x' : ℕ
  x' = mul_step half x

  abbrev y' : ℕ
  y' = mul_step half y

  abbrev a' : ℕ
  a' = add_step x' y'

  abbrev b' : ℕ
  b' = sub_step y' (sub_step a' x')

  halved-table : MarkTable (exact ∷ exact ∷ exact_where (is_zero_pattern b') ∷ exact ∷ exact ∷ []) (halved_sum x y (add_step x y)).lines
  unfolding halved_sum plus
  halved-table =
      let e = sum_same s H s G (like-own s) in
      let hr = x-half.2 in
      let gr = y-half.2 in
      x-exact.1 & y-exact.1 & a-mark x' y' s s H G x-exact.0 y-exact.0 hr gr sizes.1 sizes.0 s (H + G) e fine
      & v-exact x' y' s s H G x-exact.0 y-exact.0 hr gr sizes.1 sizes.0 s (H + G) e fine
      & b-exact x' y' s s H G x-exact.0 y-exact.0 hr gr sizes.1 sizes.0 s (H + G) e fine & edge-table (add_step x y) a' b'

-- ---- unlike signs do not overflow
module _ (x y : ℕ) (s t : Bool) (X Y : ℕ) (xi : value x ≡ finite s X) (yi : value y ≡ finite t Y) (xr : Rep 24 0 X) (yr : Rep 24 0 Y) (xb : X < limit binary32) (le : Y ≤ X)
    (o : is_infinite (value (add_step x y)) ≡ true) where
  over : (r : Bool) (n : ℕ) → plus (finite s X) (finite t Y) ≡ finite r n → limit binary32 ≤ to_even binary32 (n * 2 ^ low binary32)
  over r n e =
      over-of binary32 r (n * 2 ^ low binary32) (sym (ap is_infinite (add-decodes x y ∙ ap₂ (add_value binary32) xi yi ∙ add-finite binary32 (finite s X) (finite t Y) r n e)) ∙ o)

  not-over : (n : ℕ) → n ≤ X → limit binary32 ≤ to_even binary32 (n * 2 ^ low binary32) → ⊥
  not-over n h k = apart (to_even binary32 (n * 2 ^ low binary32)) (limit binary32) (lt_of_le_of_lt (near_le (even-at binary32 n) xr h) xb) k
    where
      apart : (i W : ℕ) → i < W → W ≤ i → ⊥
      apart i W h k = omega arith

  alike : (s ≡ t) × (limit binary32 ≤ to_even binary32 ((X + Y) * 2 ^ low binary32))
  unfolding plus
  alike =
      elim (like? s t) [
        | inl q ↦ (like-eq s t q, over s (X + Y) (sum_same s X t Y q))
        | inr q ↦ absurd (elim (dec_le X Y) [
          | yes g ↦ not-over 0 (omega arith) (over false 0 (sum-none s X t Y q (omega arith)))
          | no g ↦ not-over (X - Y) (omega arith) (over s (X - Y) (sum_left s X t Y q (omega arith)))
        ])
      ]

-- ---- all finite operands
in_order_lem : (x y : ℕ) → less_magnitude (value x) (value y) ≡ false → both_finite x y ≡ true → is_infinite (value (add_step x y)) ≡ true → OverflowTable (sum_in_order x y).lines
unfolding halved_sum
in_order_lem x y l f i =
    let o = addends-of x y l f in
    let k = alike x y o.s o.t o.X o.Y o.xi o.yi o.xr o.yr o.xb o.le i in
    let z = infinite-of (value (add_step x y)) i in
    let b = sub_step (mul_step half y) (sub_step (add_step (mul_step half x) (mul_step half y)) (mul_step half x)) in
    subst OverflowTable (sym (infinite-sum-lines x y z.0 z.1))
    (opening-table x y z.0 z.1 rounded (exact ∷ exact ∷ exact_where (is_zero_pattern b) ∷ exact ∷ exact ∷ []) (halved_sum x y (add_step x y)).lines (add-overflowed x y f i)
    (halved-table x y o.s o.X o.Y o.xi (o.yi ∙ ap (λ (r : Bool). finite r o.Y) (sym k.0)) o.xr o.yr o.xb o.le k.1))

pub overflowing-sum : OverflowingSum
overflowing-sum = in-any-order (λ (c : Bool) (v : Value) (ls : List Line). c ≡ true → is_infinite v ≡ true → OverflowTable ls) in_order_lem
