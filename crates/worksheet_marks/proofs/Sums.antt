-- The lines of a sum's sheet, where a is finite.
use mathlib.Core.Path.{◌≡◌, refl, sym, ap, ap₂, ◌∙◌, subst}
use mathlib.Core.Bool.{Bool, true, false, cond, ◌&&◌}
use mathlib.Core.List.{List, [], ◌∷◌}
use Prim.Native.Nat.{ℕ, ◌+◌, ◌*◌, ◌^◌, ◌≤◌, ◌<◌}
use native.Mathlib.Omega.{arith}
use Rattle.rounding_spec.specs.declared.Ties.TheVariants.{ToEven}
use Rattle.rounding_spec.specs.Format.{binary32, low, limit}
use Rattle.rounding_spec.specs.Nearest.{Rep}
use Rattle.rounding_spec.specs.Value.{Value, finite, is_nan, is_finite, is_infinite}
use Rattle.rounding_spec.proofs.RoundValue.{round-below}
use Rattle.pattern_spec.specs.Comparisons.{less_magnitude}
use Rattle.pattern_spec.specs.Exact.{plus}
use Rattle.pattern_spec.proofs.Integers.{plus-exact}
use Rattle.binary32_spec.specs.Steps.{add_value, sub_value, add_step, sub_step}
use Rattle.binary32_spec.specs.Marks.{add_mark, sub_mark}
use Rattle.pattern_spec.specs.Classes.{both_finite}
use Rattle.binary32_spec.proofs.Theorems.{add-decodes, sub-decodes}
use Rattle.errorfree_spec.proofs.FastTwoSum.{add-finite, Fast, fast-two-sum}
use Rattle.errorfree_spec.proofs.NoNumber.{not-both, add_none}
use Rattle.errorfree_spec.proofs.Signed.{Is}
use Rattle.errorfree_spec.proofs.Split.{Split}
use Rattle.errorfree_spec.proofs.Steps.{to_even, fine_of}
use Rattle.worksheet_spec.specs.Lines.{Line, Sheet, ends, value, is_zero_pattern}
use Rattle.worksheet_spec.specs.Sheets.{recomposed_finished, halved_sum, overflows, sum_from, sum_in_order}
use Rattle.worksheet_spec.proofs.Entries.{◌&◌}
use Rattle.worksheet_spec.proofs.Sums.{goes_on_lem, no_edge}
use Rattle.worksheet_marks.specs.Tables.{any, exact}
use Rattle.worksheet_marks.specs.Theorems.{FiniteSumTable, FiniteSum}
use Rattle.worksheet_marks.proofs.Exactness.{is-of, is-own, add_left, sub-exact}
use Rattle.worksheet_marks.proofs.Blocks.{table-append, rest-cond, recomposed-table}
use Rattle.worksheet_marks.proofs.Addends.{in-any-order, addends-of}

-- ---- the first three lines, of finite operands, the first of which is not the smaller
module _ (x y : ℕ) (s t : Bool) (X Y : ℕ) (xi : value x ≡ finite s X) (yi : value y ≡ finite t Y) (xr : Rep 24 0 X) (yr : Rep 24 0 Y) (xb : X < limit binary32) (le : Y ≤ X)
    (r : Bool) (n : ℕ) (e : plus (finite s X) (finite t Y) ≡ finite r n) (fine : to_even binary32 (n * 2 ^ low binary32) < limit binary32) where
  abbrev A : ℕ
  A = to_even binary32 (n * 2 ^ low binary32)

  abbrev a : ℕ
  a = add_step x y

  abbrev v : ℕ
  v = sub_step a x

  abbrev b : ℕ
  b = sub_step y v

  a-is : value a ≡ finite r A
  a-is = add-decodes x y ∙ ap₂ (add_value binary32) xi yi ∙ add-finite binary32 (finite s X) (finite t Y) r n e ∙ round-below ToEven binary32 r (n * 2 ^ low binary32) fine

  parts : Fast binary32 r n A (finite s X) (finite t Y)
  parts = fast-two-sum binary32 X Y xr yr xb le s t r n e fine

  v-value : value v ≡ sub_value binary32 (finite r A) (finite s X)
  v-value = sub-decodes a x ∙ ap₂ (sub_value binary32) a-is xi

  split : Split binary32 r n A (value b)
  split = subst (Split binary32 r n A) (sym (sub-decodes y v ∙ ap₂ (sub_value binary32) yi v-value)) parts.split

  v-is : Is r (value v) (A + parts.xn) (0 + parts.xp)
  v-is = is-of r (value v) (sub_value binary32 (finite r A) (finite s X)) (A + parts.xn) (0 + parts.xp) v-value parts.v-is

  pub a-mark : add_mark x y ≡ cond (is_zero_pattern b) 0 1
  a-mark = add_left x y (ap₂ (λ (v w : Value). is_finite v && is_finite w) xi yi) r n A (ap₂ plus xi yi ∙ e) a-is (value b) split.rest

  pub v-exact : sub_mark a x ≡ 0
  v-exact =
      sub-exact r a x A 0 parts.xp parts.xn (A + parts.xn) (0 + parts.xp) (is-own r (value a) A a-is) (is-of r (value x) (finite s X) parts.xp parts.xn xi parts.x-is) v-is refl

  pub b-exact : sub_mark y v ≡ 0
  b-exact =
      sub-exact r y v parts.yp parts.yn (A + parts.xn) (0 + parts.xp) n A (is-of r (value y) (finite t Y) parts.yp parts.yn yi parts.y-is) v-is split.rest
      (moved n A parts.xp parts.xn parts.yp parts.yn parts.sum_is)
    where
      moved : (n A xp xn yp yn : ℕ) → n + (xn + yn) ≡ xp + yp → n + (yn + (A + xn)) ≡ yp + (0 + xp) + A
      moved n A xp xn yp yn e = omega arith

  -- ---- the table
  in-range : FiniteSumTable (sum_in_order x y).lines
  unfolding sum_from
  in-range =
      let f = recomposed_finished a b in
      let edge = overflows f.second a in
      subst (λ (s : Sheet). FiniteSumTable s.lines) (sym (goes_on_lem x y (ap is_nan a-is)))
      (a-mark & v-exact & b-exact
      & table-append (any ∷ exact ∷ exact ∷ []) f.lines (cond edge (halved_sum x y a) (ends f.first f.second)).lines (recomposed-table r n A a b a-is split)
      (rest-cond edge (halved_sum x y a) (ends f.first f.second) (λ c. not-both (sym c ∙ no_edge x y (ap is_infinite a-is))) (λ c. tt)))

-- ---- all patterns
in_order_lem : (x y : ℕ) → less_magnitude (value x) (value y) ≡ false → is_finite (value (add_step x y)) ≡ true → FiniteSumTable (sum_in_order x y).lines
unfolding plus
in_order_lem x y l f = by (both_finite x y) refl
  where
    by : (c : Bool) → both_finite x y ≡ c → FiniteSumTable (sum_in_order x y).lines
    by false n = not-both (sym f ∙ ap is_finite (add-decodes x y) ∙ add_none binary32 (value x) (value y) n)
    by true n =
        let o = addends-of x y l n in
        let e = plus-exact o.s o.X o.t o.Y in
        let step = add-decodes x y ∙ ap₂ (add_value binary32) o.xi o.yi ∙ add-finite binary32 (finite o.s o.X) (finite o.t o.Y) e.0 e.1 e.2 in
        in-range x y o.s o.t o.X o.Y o.xi o.yi o.xr o.yr o.xb o.le e.0 e.1 e.2
        (fine_of binary32 e.0 (e.1 * 2 ^ low binary32) (sym (ap is_finite step) ∙ f))

pub finite-sum : FiniteSum
finite-sum = in-any-order (λ (c : Bool) (v : Value) (ls : List Line). is_finite v ≡ true → FiniteSumTable ls) in_order_lem
