-- The sum's sheet ends in the pair of the exact sum, for all patterns.
use mathlib.Core.Path.{◌≡◌, refl, sym, ap, ap₂, ◌∙◌, subst}
use mathlib.Core.Logic.{inl, inr}
use mathlib.Core.Bool.{Bool, true, false, not, cond, beq, ◌&&◌, and-false}
use mathlib.Core.List.{[], ◌∷◌}
use Prim.Native.Nat.{ℕ, ◌+◌, ◌-◌, ◌*◌, ◌^◌, ◌≤◌, ◌<◌}
use native.Mathlib.Nat.{lt_of_le_of_lt}
use native.Mathlib.Decide.{dec_le}
use native.Mathlib.Omega.{arith}
use borrow.Author.Tests.{le-ltb, ltb-true, ltb-false}
use Rattle.rounding_spec.specs.declared.Ties.TheVariants.{ToEven}
use Rattle.rounding_spec.specs.Format.{binary32, low, limit}
use Rattle.rounding_spec.specs.Nearest.{Rep}
use Rattle.rounding_spec.specs.Value.{Value, nan, infinite, finite, encode, is_nan, nan_of, is_finite, is_infinite, round}
use Rattle.rounding_spec.proofs.NaN.{nan_is, rounded-number}
use Rattle.rounding_spec.proofs.NearLaws.{near_le}
use Rattle.rounding_spec.proofs.RoundValue.{round-below, round-above}
use Rattle.pattern_spec.specs.Exact.{plus, finer}
use Rattle.binary32_spec.specs.Steps.{add_value, sub_value, mul_value, result, add_step, sub_step, mul_step}
use Rattle.binary32_spec.proofs.Theorems.{add-decodes, sub-decodes, mul-decodes}
use Rattle.binary32_spec.proofs.Result.{result-number, result-nan, add_step_lem}
use Rattle.pattern_spec.proofs.Exchanged.{plus_comm}
use Rattle.pattern_spec.proofs.Sums.{like?, like-eq, like-own, sum_same, sum_left, sum-none, sum-finite}
use Rattle.pattern_spec.specs.Comparisons.{less_magnitude}
use Rattle.errorfree_spec.proofs.Factors as factors
use Rattle.errorfree_spec.proofs.Steps.{to_even, even-at}
use Rattle.errorfree_spec.proofs.FastTwoSum.{add-finite, fast-two-sum}
use Rattle.errorfree_spec.proofs.Halved.{sum-edge}
use Rattle.worksheet_spec.specs.Constants.{half}
use Rattle.worksheet_spec.specs.declared.Step.TheVariants.{Add as add}
use Rattle.worksheet_spec.specs.Lines.{line, Sheet, before, ends, value, is_zero_pattern}
use Rattle.worksheet_spec.specs.Sheets.{recomposed_finished, halved_sum, overflows, sum_from, sum_in_order, swaps, sum_sheet}
use Rattle.worksheet_spec.proofs.Patterns.{add-width, sub-width, number_at}
use Rattle.worksheet_spec.proofs.Constants.{half-value}
use Rattle.worksheet_spec.proofs.Foots.{Foots, foots-infinite}
use Rattle.worksheet_spec.proofs.Blocks.{first-cond, second-cond, recomposed-foot, recomposed-none, edge-foot, edge_none}
use Rattle.errorfree_spec.proofs.NoNumber as no_number
use Rattle.errorfree_spec.proofs.NoNumber.{not-both, none-zero, one_of, both_of, add_left, add_right, sub-left, sub-right, mul_right, add_kept}

-- a is no number: v and b are none
pub b-none : (x y a : ℕ) → is_finite (value a) ≡ false → is_finite (value (sub_step y (sub_step a x))) ≡ false
b-none x y a h =
    ap is_finite (sub-decodes y (sub_step a x))
    ∙ sub-right binary32 (value y) (value (sub_step a x)) (ap is_finite (sub-decodes a x) ∙ sub-left binary32 (value a) (value x) h)

-- ---- which lines lead to the foot
module _ (x y : ℕ) where
  abbrev a : ℕ
  a = add_step x y

  abbrev b : ℕ
  b = sub_step y (sub_step a x)

  abbrev edge : Bool
  edge = overflows (recomposed_finished a b).second a

  -- a is NaN: its line is the only one
  pub ends_there : is_nan (value a) ≡ true → sum_in_order x y ≡ before (line add x y a ∷ []) (ends a a)
  unfolding sum_in_order
  ends_there n = ap (λ (c : Bool). before (line add x y a ∷ []) (cond c (ends a a) (sum_from x y a))) n

  -- a is no NaN: more lines follow
  pub goes_on_lem : is_nan (value a) ≡ false → sum_in_order x y ≡ before (line add x y a ∷ []) (sum_from x y a)
  unfolding sum_in_order
  goes_on_lem n = ap (λ (c : Bool). before (line add x y a ∷ []) (cond c (ends a a) (sum_from x y a))) n

  pub first-is : is_nan (value a) ≡ false → (sum_in_order x y).first ≡ cond edge (halved_sum x y a).first (recomposed_finished a b).first
  unfolding sum_from
  first-is n = ap (λ (s : Sheet). s.first) (goes_on_lem n) ∙ first-cond edge _ _

  pub second_is : is_nan (value a) ≡ false → (sum_in_order x y).second ≡ cond edge (halved_sum x y a).second (recomposed_finished a b).second
  unfolding sum_from
  second_is n = ap (λ (s : Sheet). s.second) (goes_on_lem n) ∙ second-cond edge _ _

  -- only where a is infinite the edge is asked for
  pub no_edge : is_infinite (value a) ≡ false → edge ≡ false
  unfolding overflows
  no_edge h = ap (λ (i : Bool). not (is_zero_pattern (recomposed_finished a b).second) && i) h ∙ and-false (not (is_zero_pattern (recomposed_finished a b).second))

  -- a is finite
  pub plain-foot : (v : Value) → is_nan (value a) ≡ false → is_infinite (value a) ≡ false → Foots v (recomposed_finished a b) → Foots v (sum_in_order x y)
  plain-foot v n h f =
      let c = no_edge h in (
        first-is n ∙ ap (λ (i : Bool). cond i (halved_sum x y a).first (recomposed_finished a b).first) c ∙ f.0,
        second_is n ∙ ap (λ (i : Bool). cond i (halved_sum x y a).second (recomposed_finished a b).second) c ∙ f.1,
      )

  pub asks-edge : (s : Bool) → value a ≡ infinite s → edge ≡ true
  unfolding overflows
  asks-edge s h =
      let n : is_finite (value a) ≡ false = ap is_finite h in
      let z = none-zero (value b) (b-none x y a n) in
      ap₂ (λ (i j : Bool). not i && j) (ap is_zero_pattern (recomposed-none a b n z).1 ∙ z) (ap is_infinite h)

  -- a is infinite
  pub infinite-foot : (v : Value) (s : Bool) → value a ≡ infinite s → Foots v (halved_sum x y a) → Foots v (sum_in_order x y)
  infinite-foot v s h f =
      let n = ap is_nan h in
      let c = asks-edge s h in (
        first-is n ∙ ap (λ (i : Bool). cond i (halved_sum x y a).first (recomposed_finished a b).first) c ∙ f.0,
        second_is n ∙ ap (λ (i : Bool). cond i (halved_sum x y a).second (recomposed_finished a b).second) c ∙ f.1,
      )

-- ---- finite operands, the first of which is not the smaller
module _ (x y : ℕ) (s t : Bool) (X Y : ℕ) (xi : value x ≡ finite s X) (yi : value y ≡ finite t Y) (xr : Rep 24 0 X) (yr : Rep 24 0 Y) (xb : X < limit binary32) (le : Y ≤ X) where
  abbrev A : ℕ → ℕ
  A n = to_even binary32 (n * 2 ^ low binary32)

  a-value : (r : Bool) (n : ℕ) → plus (finite s X) (finite t Y) ≡ finite r n → value (a x y) ≡ round ToEven binary32 (finite r (n * 2 ^ low binary32))
  unfolding round
  a-value r n e = add-decodes x y ∙ ap₂ (add_value binary32) xi yi ∙ add-finite binary32 (finite s X) (finite t Y) r n e

  -- a is finite
  in-range : (r : Bool) (n : ℕ) → plus (finite s X) (finite t Y) ≡ finite r n → A n < limit binary32 → Foots (finite r (n * 2 ^ low binary32)) (sum_in_order x y)
  unfolding round
  in-range r n e fine =
      let ai : value (a x y) ≡ finite r (A n) = a-value r n e ∙ round-below ToEven binary32 r (n * 2 ^ low binary32) fine in
      let vi : value (sub_step (a x y) x) ≡ sub_value binary32 (finite r (A n)) (finite s X) = sub-decodes (a x y) x ∙ ap₂ (sub_value binary32) ai xi in
      let bi : value (b x y) ≡ sub_value binary32 (finite t Y) (sub_value binary32 (finite r (A n)) (finite s X)) = sub-decodes y (sub_step (a x y) x) ∙ ap₂ (sub_value binary32) yi vi in
      let split = (fast-two-sum binary32 X Y xr yr xb le s t r n e fine).split in
      plain-foot x y (finite r (n * 2 ^ low binary32)) (ap is_nan ai) (ap is_infinite ai)
      (recomposed-foot r n (A n) (a x y) (b x y) ai (add-width x y) (sub-width y (sub_step (a x y) x)) (rw bi split))

  -- a is infinite, and the signs are alike
  overflow : t ≡ s → limit binary32 ≤ A (X + Y) → Foots (finite s ((X + Y) * 2 ^ low binary32)) (sum_in_order x y)
  unfolding round plus halved_sum
  overflow q over =
      let ai : value (a x y) ≡ infinite s = a-value s (X + Y) (sum_same s X t Y (ap (beq s) q ∙ like-own s)) ∙ round-above ToEven binary32 s ((X + Y) * 2 ^ low binary32) over in
      let x' = mul_step half x in
      let y' = mul_step half y in
      let a' = add_step x' y' in
      let v' = sub_step a' x' in
      let b' = sub_step y' v' in
      let halves : (w : ℕ) (v : Value) → value w ≡ v → value (mul_step half w) ≡ mul_value binary32 (factors.half binary32) v = λ w v e. mul-decodes half w ∙ ap₂ (mul_value binary32) half-value e in
      let edge =
      sum-edge binary32 (omega arith) (omega arith) s X Y xr yr xb le over (value x') (value y') (value a') (value v') (value b')
      (halves x (finite s X) xi) (halves y (finite s Y) (yi ∙ ap (λ (r : Bool). finite r Y) q)) (add-decodes x' y') (sub-decodes a' x') (sub-decodes y' v')
      in
      infinite-foot x y (finite s ((X + Y) * 2 ^ low binary32)) s ai (edge-foot (a x y) a' b' s edge.0 edge.1 ((X + Y) * 2 ^ low binary32) ai (add-width x y) edge.2)

  -- unlike signs do not overflow
  unlike-fine : (n : ℕ) → n ≤ X → A n < limit binary32
  unlike-fine n h = lt_of_le_of_lt (near_le (even-at binary32 n) xr h) xb

  sum-exact : (r : Bool) (n : ℕ) → plus (finite s X) (finite t Y) ≡ finite r n → finer binary32 (plus (value x) (value y)) ≡ finite r (n * 2 ^ low binary32)
  unfolding finer
  sum-exact r n e = ap (finer binary32) (ap₂ plus xi yi ∙ e)

  finite-foot : Foots (finer binary32 (plus (value x) (value y))) (sum_in_order x y)
  unfolding plus
  finite-foot =
      elim (like? s t) [
        | inl q ↦ rw (sum-exact s (X + Y) (sum_same s X t Y q)) (elim (dec_le (limit binary32) (A (X + Y))) [
          | yes over ↦ overflow (sym (like-eq s t q)) over
          | no fine ↦ in-range s (X + Y) (sum_same s X t Y q) (omega arith)
        ])
        | inr q ↦ elim (dec_le X Y) [
          | yes g ↦
              let e : X ≡ Y = omega arith in
              rw (sum-exact false 0 (sum-none s X t Y q e)) (in-range false 0 (sum-none s X t Y q e) (unlike-fine 0 (omega arith)))
          | no g ↦
              let l : Y < X = omega arith in
              rw (sum-exact s (X - Y) (sum_left s X t Y q l)) (in-range s (X - Y) (sum_left s X t Y q l) (unlike-fine (X - Y) (omega arith)))
        ]
      ]

-- ---- infinities
module _ (x y : ℕ) where
  -- an infinite operand's half is infinite, so that no edge is found
  half-sum-none : is_finite (value x) && is_finite (value y) ≡ false → is_finite (value (add_step (mul_step half x) (mul_step half y))) ≡ false
  half-sum-none n =
      let x' = mul_step half x in
      let y' = mul_step half y in
      let h : (w : ℕ) → is_finite (value w) ≡ false → is_finite (value (mul_step half w)) ≡ false = λ w m. ap is_finite (mul-decodes half w) ∙ mul_right binary32 (value half) (value w) m in
      ap is_finite (add-decodes x' y')
      ∙ elim (one_of (is_finite (value x)) (is_finite (value y)) n) [ inl m ↦ add_left binary32 (value x') (value y') (h x m) | inr m ↦ add_right binary32 (value x') (value y') (h y m) ]

  infinity-foot : (s : Bool) → plus (value x) (value y) ≡ infinite s → is_finite (value x) && is_finite (value y) ≡ false → Foots (infinite s) (sum_in_order x y)
  unfolding halved_sum
  infinity-foot s e n =
      let k = add_kept binary32 (value x) (value y) (infinite s) e refl in
      let ai : value (a x y) ≡ infinite s = add-decodes x y ∙ k in
      let a' = add_step (mul_step half x) (mul_step half y) in
      let b' = sub_step (mul_step half y) (sub_step a' (mul_step half x)) in
      let r = edge_none (a x y) a' b' (half-sum-none n) in
      let p : a x y ≡ encode binary32 (infinite s) = add_step_lem x y ∙ ap (result binary32 (x ∷ y ∷ [])) k ∙ result-number binary32 (x ∷ y ∷ []) (infinite s) refl in
      infinite-foot x y (infinite s) s ai (foots-infinite s (halved_sum x y (a x y)) (r.0 ∙ p) (r.1 ∙ p))

-- ---- all numbers: where the first is not the smaller, and then in any order
module _ (x y : ℕ) where
  -- an operand is infinite
  none-foot : is_finite (value x) && is_finite (value y) ≡ false → is_nan (plus (value x) (value y)) ≡ false → Foots (finer binary32 (plus (value x) (value y))) (sum_in_order x y)
  unfolding finer
  none-foot n m = by (plus (value x) (value y)) refl (no_number.sum-none (value x) (value y) n) m
    where
      by : (v : Value) → plus (value x) (value y) ≡ v → is_finite v ≡ false → is_nan v ≡ false → Foots (finer binary32 v) (sum_in_order x y)
      by nan e f m = not-both m
      by (infinite s) e f m = infinity-foot x y s e n
      by (finite s k) e f m = not-both f

  in_order_lem : less_magnitude (value x) (value y) ≡ false → is_nan (plus (value x) (value y)) ≡ false → Foots (finer binary32 (plus (value x) (value y))) (sum_in_order x y)
  unfolding less_magnitude
  in_order_lem l m = by (is_finite (value x) && is_finite (value y)) refl
    where
      by : (c : Bool) → is_finite (value x) && is_finite (value y) ≡ c → Foots (finer binary32 (plus (value x) (value y))) (sum_in_order x y)
      by false n = none-foot n m
      by true n =
          let h = both_of (is_finite (value x)) (is_finite (value y)) n in
          let p = number_at x h.0 in
          let q = number_at y h.1 in
          finite-foot x y p.0 q.0 p.1 q.1 p.2 q.2 p.3 q.3 p.4 (ltb-false p.1 q.1 (sym (ap₂ less_magnitude p.2 q.2) ∙ l))

-- one of two is not the smaller
pub not-less : (v w : Value) → less_magnitude v w ≡ true → less_magnitude w v ≡ false
unfolding less_magnitude
not-less nan w h = not-both (sym h)
not-less (infinite s) w h = not-both (sym h)
not-less (finite s m) nan h = refl
not-less (finite s m) (infinite t) h = refl
not-less (finite s m) (finite t n) h = let l = ltb-true m n h in le-ltb n m (omega arith)

-- a value in units of u is NaN where it was
finer-nan : (v : Value) → is_nan (finer binary32 v) ≡ is_nan v
unfolding finer
finer-nan nan = refl
finer-nan (infinite s) = refl
finer-nan (finite s a) = refl

pub sum-foot : (x y : ℕ) → is_nan (finer binary32 (plus (value x) (value y))) ≡ false → Foots (finer binary32 (plus (value x) (value y))) (sum_sheet x y)
unfolding sum_sheet swaps
sum-foot x y n = by (swaps x y) refl
  where
    m : is_nan (plus (value x) (value y)) ≡ false
    m = sym (finer-nan (plus (value x) (value y))) ∙ n

    by : (c : Bool) → swaps x y ≡ c → Foots (finer binary32 (plus (value x) (value y))) (cond c (sum_in_order y x) (sum_in_order x y))
    by true l =
        subst (λ (v : Value). Foots (finer binary32 v) (sum_in_order y x)) (plus_comm (value x) (value y))
        (in_order_lem y x (not-less (value x) (value y) l) (ap is_nan (plus_comm (value x) (value y)) ∙ m))
    by false l = in_order_lem x y l m

-- ---- NaN
-- what is less than another value has no NaN sum with it
less-number : (v w : Value) → less_magnitude v w ≡ true → is_nan (plus v w) ≡ false
unfolding less_magnitude plus
less-number nan w h = not-both (sym h)
less-number (infinite s) w h = not-both (sym h)
less-number (finite s m) nan h = not-both (sym h)
less-number (finite s m) (infinite t) h = refl
less-number (finite s m) (finite t n) h = ap is_nan (sum-finite s m t n).2

-- no exchange is due before a NaN sum
in_place : (x y : ℕ) → is_nan (plus (value x) (value y)) ≡ true → swaps x y ≡ false
unfolding swaps
in_place x y n = by (less_magnitude (value x) (value y)) refl
  where
    by : (c : Bool) → less_magnitude (value x) (value y) ≡ c → c ≡ false
    by true l = not-both (sym n ∙ less-number (value x) (value y) l)
    by false l = refl

-- its sheet is one line, whose result stands twice
nan-sheet : (x y : ℕ) → is_nan (plus (value x) (value y)) ≡ true → value (add_step x y) ≡ nan
    → sum_sheet x y ≡ before (line add x y (add_step x y) ∷ []) (ends (add_step x y) (add_step x y))
unfolding sum_sheet
nan-sheet x y n e = ap (λ (c : Bool). cond c (sum_in_order y x) (sum_in_order x y)) (in_place x y n) ∙ ends_there x y (ap is_nan e)

-- only a NaN sum is rounded to one
rounded-nan : (v : Value) → is_nan (round ToEven binary32 (finer binary32 v)) ≡ is_nan v
unfolding finer round
rounded-nan nan = refl
rounded-nan (infinite s) = refl
rounded-nan (finite s a) = rounded-number ToEven binary32 s (a * 2 ^ low binary32)

pub sum-ends : (x y : ℕ) → value (add_step x y) ≡ nan → sum_sheet x y ≡ before (line add x y (add_step x y) ∷ []) (ends (add_step x y) (add_step x y))
unfolding add_value
sum-ends x y e = nan-sheet x y (sym (rounded-nan (plus (value x) (value y))) ∙ ap is_nan (sym (add-decodes x y) ∙ e)) e

pub sum-nan : (x y : ℕ) → finer binary32 (plus (value x) (value y)) ≡ nan
    → ((sum_sheet x y).first ≡ nan_of binary32 (x ∷ y ∷ [])) × ((sum_sheet x y).second ≡ nan_of binary32 (x ∷ y ∷ []))
sum-nan x y e = (ap (λ (s : Sheet). s.first) same ∙ is, ap (λ (s : Sheet). s.second) same ∙ is)
  where
    n : is_nan (plus (value x) (value y)) ≡ true
    n = sym (finer-nan (plus (value x) (value y))) ∙ ap is_nan e

    k : add_value binary32 (value x) (value y) ≡ nan
    k = add_kept binary32 (value x) (value y) nan (nan_is (plus (value x) (value y)) n) refl

    is : add_step x y ≡ nan_of binary32 (x ∷ y ∷ [])
    is = add_step_lem x y ∙ ap (result binary32 (x ∷ y ∷ [])) k ∙ result-nan binary32 (x ∷ y ∷ [])

    same : sum_sheet x y ≡ before (line add x y (add_step x y) ∷ []) (ends (add_step x y) (add_step x y))
    same = nan-sheet x y n (add-decodes x y ∙ k)
