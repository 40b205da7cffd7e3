-- The lines of a sum, as they are written.
use mathlib.Core.Path.{◌≡◌, refl, sym, ap, ◌∙◌}
use mathlib.Core.Bool.{Bool, true, false, not, cond}
use mathlib.Core.List.{List, [], ◌∷◌}
use Prim.Native.Nat.{ℕ, suc, ◌+◌, ◌≤◌}
use native.Mathlib.Omega.{arith}
use lib.ListN.{length}
use Rattle.rounding_spec.specs.Value.{Value, nan, infinite, finite, is_nan, is_finite, is_infinite}
use Rattle.binary32_spec.specs.Steps.{sub_step}
use Rattle.errorfree_spec.proofs.NoNumber.{not-both, none-zero, both_of}
use Rattle.worksheet_spec.specs.Constants.{half}
use Rattle.worksheet_spec.specs.declared.Step.TheVariants.{Add as add, Subtract as subtract, Multiply as multiply}
use Rattle.worksheet_spec.specs.Lines.{most_lines, Line, line, ends, value, is_zero_pattern}
use Rattle.worksheet_spec.specs.Sheets.{recomposed_finished, edge_finish, halved_sum, overflows, sum_from, sum_in_order, swaps, sum_sheet}
use Rattle.worksheet_spec.specs.Theorems.{steps_of}
use Rattle.worksheet_spec.proofs.Sums.{b-none}
use Rattle.worksheet_spec.proofs.SumSteps.{recomposed-none-steps}
use Rattle.worksheet_lines.specs.Inner.{Written, Follows}
use Rattle.worksheet_lines.specs.declared.Foot.{Foot}
use Rattle.worksheet_lines.specs.declared.Lines.{Lines}
use Rattle.worksheet_lines.proofs.Rows.{Standing, none_yet, foot-follows, then-line, then_lines, then-sheet}

-- ---- half the operands
module _ (x y a : ℕ) {l₀ l₁ l₂ l₃ l₄ l₅ l₆ : Lines} {p q s v r : ℕ} {foot : Foot} where
  pub halved : Written l₀ l₁ (line multiply half x p) → Written l₁ l₂ (line multiply half y q) → Written l₂ l₃ (line add p q s)
      → Written l₃ l₄ (line subtract s p v) → Written l₄ l₅ (line subtract q v r) → Follows l₅ l₆ (edge_finish a s r) foot → Follows l₀ l₆ (halved_sum x y a) foot
  unfolding halved_sum
  halved c₁ c₂ c₃ c₄ c₅ f =
      rw (← c₁.gives.0, ← c₂.gives.0, ← c₃.gives.0, ← c₄.gives.0, ← c₅.gives.0)
      (then-sheet (then-line (then-line (then-line (then-line (then-line (none_yet l₀) c₁) c₂) c₃) c₄) c₅) f)

-- ---- an infinite a leaves no zero half, so that recomposition's three lines are all
steps-length : (ls : List Line) → length (steps_of ls) ≡ length ls
steps-length [] = refl
steps-length (l ∷ ls) = ap suc (steps-length ls)

infinite-not-finite : (v : Value) → is_infinite v ≡ true → is_finite v ≡ false
infinite-not-finite nan e = refl
infinite-not-finite (infinite s) e = refl
infinite-not-finite (finite s m) e = not-both (sym e)

not-finished : (x y a s : ℕ) → overflows s a ≡ true → length (recomposed_finished a (sub_step y (sub_step a x))).lines ≡ 3
unfolding overflows
not-finished x y a s e =
    let b = sub_step y (sub_step a x) in
    let n = infinite-not-finite (value a) (both_of (not (is_zero_pattern s)) (is_infinite (value a)) e).1 in
    sym (steps-length (recomposed_finished a b).lines) ∙ ap length (recomposed-none-steps a b n (none-zero (value b) (b-none x y a n)))

-- ---- behind the line of a
module _ (x y a : ℕ) {l₀ l₁ l₂ l₃ : Lines} {v b : ℕ} {pair : Foot} (q : Written l₀ l₁ (line subtract a x v)) (r : Written l₁ l₂ (line subtract y v b))
    (f : Follows l₂ l₃ (recomposed_finished a b) pair) where
  standing : Standing l₀ l₃ (line subtract a x v ∷ line subtract y v b ∷ (recomposed_finished a b).lines)
  standing = then_lines (then-line (then-line (none_yet l₀) q) r) f

  pub not-halved : overflows pair.second a ≡ false → Follows l₀ l₃ (sum_from x y a) pair
  unfolding sum_from
  not-halved e = rw (← q.gives.0, ← r.gives.0, ← f.first, ← f.second, e) (then-sheet standing (foot-follows l₃ _ _))

  rows-used : overflows pair.second a ≡ true → length (recomposed_finished a b).lines ≡ 3
  rows-used e = rw (r.gives.0, q.gives.0) (not-finished x y a pair.second e)

  pub room-to-halve : overflows pair.second a ≡ true → l₀.used + 12 ≤ most_lines → l₃.used + 7 ≤ most_lines
  room-to-halve e h = omega (arith, q.next, r.next, f.next, rows-used e)

  pub with-halved : {l₄ : Lines} {foot : Foot} → overflows pair.second a ≡ true → Follows l₃ l₄ (halved_sum x y a) foot → Follows l₀ l₄ (sum_from x y a) foot
  unfolding sum_from
  with-halved e g = rw (← q.gives.0, ← r.gives.0, ← f.second, e) (then-sheet standing g)

-- ---- operands in order
module _ (x y : ℕ) {l₀ l₁ : Lines} {a : ℕ} (p : Written l₀ l₁ (line add x y a)) where
  pub ended : {foot : Foot} → is_nan (value a) ≡ true → Follows l₁ l₁ (ends a a) foot → Follows l₀ l₁ (sum_in_order x y) foot
  unfolding sum_in_order
  ended n f = rw (← p.gives.0, n) (then-sheet (then-line (none_yet l₀) p) f)

  pub gone-on : {l₂ : Lines} {foot : Foot} → is_nan (value a) ≡ false → Follows l₁ l₂ (sum_from x y a) foot → Follows l₀ l₂ (sum_in_order x y) foot
  unfolding sum_in_order
  gone-on n f = rw (← p.gives.0, n) (then-sheet (then-line (none_yet l₀) p) f)

-- ---- either order
pub ordered : (x y p q : ℕ) {start end : Lines} {foot : Foot} (b : Bool) → b ≡ swaps x y → p ≡ cond b y x → q ≡ cond b x y
    → Follows start end (sum_in_order p q) foot → Follows start end (sum_sheet x y) foot
unfolding sum_sheet
ordered x y p q {start} {end} {foot} b e f g h = rw (← e) (by b f g)
  where
    by : (c : Bool) → p ≡ cond c y x → q ≡ cond c x y → Follows start end (cond c (sum_in_order y x) (sum_in_order x y)) foot
    by true f g = rw (← f, ← g) h
    by false f g = rw (← f, ← g) h
