-- The lines of a product, as they are written.
use mathlib.Core.Path.{◌≡◌}
use mathlib.Core.Bool.{true, false}
use mathlib.Core.List.{[], ◌∷◌}
use Prim.Native.Nat.{ℕ, ◌+◌, ◌≤◌}
use native.Mathlib.Omega.{arith}
use Rattle.worksheet_spec.specs.Constants.{half, two_to_24, two_to_48, two_to_minus_24, plus_zero, smallest}
use Rattle.pattern_spec.specs.Classes.{copy_sign}
use Rattle.worksheet_spec.specs.declared.Step.TheVariants.{Add as add, Subtract as subtract, Multiply as multiply}
use Rattle.worksheet_spec.specs.Lines.{most_lines, line, fused_line, value, minus}
use Rattle.worksheet_spec.specs.Sheets.{recomposition, zero_finish, recomposed_finished, edge_finish, infinite_product, lowered, lowering, tiny_tie, tiny_product, rest_tie, scaled_down}
use Rattle.worksheet_spec.specs.Sheets.{middle_product}
use Rattle.worksheet_spec.specs.declared.Branch.{Branch}
use Rattle.worksheet_spec.specs.Sheets.{other_product, branch_of, product_by, product_sheet}
use Rattle.worksheet_lines.specs.Inner.{Written, Follows}
use Rattle.worksheet_lines.specs.declared.Foot.{Foot}
use Rattle.worksheet_lines.specs.declared.Lines.{Lines}
use Rattle.worksheet_lines.proofs.Rows.{Standing, none_yet, foot-follows, then-line, then_lines, then-sheet}
use Rattle.worksheet_lines.proofs.SharedLines.{recomposition-length}

-- ---- an infinite product
module _ (x y a : ℕ) {l₀ l₁ l₂ l₃ l₄ : Lines} {h s m r : ℕ} {foot : Foot} where
  pub infinite : Written l₀ l₁ (line multiply half x h) → Written l₁ l₂ (line multiply h y s) → m ≡ minus s → Written l₂ l₃ (fused_line h y m r)
      → Follows l₃ l₄ (edge_finish a s r) foot → Follows l₀ l₄ (infinite_product x y a) foot
  unfolding infinite_product
  infinite c₁ c₂ e c₃ f =
      rw (← c₁.gives.0, ← c₂.gives.0, ← e, ← c₃.gives.0) (then-sheet (then-line (then-line (then-line (none_yet l₀) c₁) c₂) c₃) f)

-- ---- a tiny one
module _ (x y a : ℕ) {l₀ l₁ l₂ l₃ l₄ l₅ l₆ l₇ l₈ : Lines} {m n t₁ f t₂ g t₃ z w : ℕ}
    (c₁ : Written l₀ l₁ (line multiply two_to_24 x m)) (c₂ : Written l₁ l₂ (line multiply two_to_24 y n)) (c₃ : Written l₂ l₃ (line multiply m n t₁))
    (e : f ≡ minus t₁) (c₄ : Written l₃ l₄ (fused_line m n f t₂)) (c₅ : Written l₄ l₅ (line multiply two_to_48 a g)) (c₆ : Written l₅ l₆ (line subtract t₁ g t₃))
    (c₇ : Written l₆ l₇ (line add t₂ t₃ z)) (c₈ : Written l₇ l₈ (line subtract z t₃ w)) where
  eight-lines : Standing l₀ l₈
      (line multiply two_to_24 x m ∷ line multiply two_to_24 y n ∷ line multiply m n t₁ ∷ fused_line m n f t₂ ∷ line multiply two_to_48 a g ∷ line subtract t₁ g t₃ ∷ line add t₂ t₃ z
      ∷ line subtract z t₃
      w ∷ [])
  eight-lines = then-line (then-line (then-line (then-line (then-line (then-line (then-line (then-line (none_yet l₀) c₁) c₂) c₃) c₄) c₅) c₆) c₇) c₈

  pub lowered-tiny : {l₉ l₁₀ : Lines} {u first second : ℕ} → tiny_tie a z w t₂ ≡ true → u ≡ copy_sign smallest a → Written l₈ l₉ (line subtract a u first)
      → Written l₉ l₁₀ (line multiply plus_zero first second) → Follows l₀ l₁₀ (tiny_product x y a) (record { first = first; second = second })
  unfolding tiny_product lowering lowered
  lowered-tiny {l₉} {l₁₀} tie k c₉ c₁₀ =
      rw (← c₁.gives.0, ← c₂.gives.0, ← c₃.gives.0, ← e, ← c₄.gives.0, ← c₅.gives.0, ← c₆.gives.0, ← c₇.gives.0, ← c₈.gives.0, tie, ← k, ← c₉.gives.0, ← c₁₀.gives.0)
      (then-sheet eight-lines (then-sheet (then-line (none_yet l₈) c₉) (then-sheet (then-line (none_yet l₉) c₁₀) (foot-follows l₁₀ _ _))))

  pub tiny : {l₉ : Lines} {second : ℕ} → tiny_tie a z w t₂ ≡ false → Written l₈ l₉ (line multiply plus_zero a second)
      → Follows l₀ l₉ (tiny_product x y a) (record { first = a; second = second })
  unfolding tiny_product
  tiny {l₉} tie c₉ =
      rw (← c₁.gives.0, ← c₂.gives.0, ← c₃.gives.0, ← e, ← c₄.gives.0, ← c₅.gives.0, ← c₆.gives.0, ← c₇.gives.0, ← c₈.gives.0, tie, ← c₉.gives.0)
      (then-sheet eight-lines (then-sheet (none_yet l₈) (then-sheet (then-line (none_yet l₈) c₉) (foot-follows l₉ _ _))))

-- ---- one between
module _ (A B : ℕ) {l₀ l₁ l₂ l₃ l₄ : Lines} {first β g r : ℕ} (c₁ : Written l₀ l₁ (line multiply two_to_minus_24 A first))
    (c₂ : Written l₁ l₂ (line multiply two_to_minus_24 B β)) (c₃ : Written l₂ l₃ (line multiply two_to_24 β g)) (c₄ : Written l₃ l₄ (line subtract g B r)) where
  four-lines : Standing l₀ l₄ (line multiply two_to_minus_24 A first ∷ line multiply two_to_minus_24 B β ∷ line multiply two_to_24 β g ∷ line subtract g B r ∷ [])
  four-lines = then-line (then-line (then-line (then-line (none_yet l₀) c₁) c₂) c₃) c₄

  pub lowered-rest : {l₅ l₆ : Lines} {u second : ℕ} {foot : Foot} → rest_tie β r ≡ true → u ≡ copy_sign smallest β → Written l₄ l₅ (line subtract β u second)
      → Follows l₅ l₆ (zero_finish first second) foot → Follows l₀ l₆ (scaled_down A B) foot
  unfolding scaled_down lowering lowered
  lowered-rest {l₅} tie k c₅ f =
      rw (← c₁.gives.0, ← c₂.gives.0, ← c₃.gives.0, ← c₄.gives.0, tie, ← k, ← c₅.gives.0)
      (then-sheet four-lines (then-sheet (then-line (none_yet l₄) c₅) f))

  pub scaled-down : {l₅ : Lines} {foot : Foot} → rest_tie β r ≡ false → Follows l₄ l₅ (zero_finish first β) foot → Follows l₀ l₅ (scaled_down A B) foot
  unfolding scaled_down
  scaled-down tie f =
      rw (← c₁.gives.0, ← c₂.gives.0, ← c₃.gives.0, ← c₄.gives.0, tie) (then-sheet four-lines (then-sheet (none_yet l₄) f))

pub room-to-scale : (a b : ℕ) {start here : Lines} {pair : Foot} → Follows start here (recomposition a b) pair → start.used + 9 ≤ most_lines → here.used + 6 ≤ most_lines
room-to-scale a b p h = omega (arith, p.next, recomposition-length a b)

module _ (x y : ℕ) {l₀ l₁ l₂ l₃ l₄ l₅ : Lines} {m a f b : ℕ} {pair foot : Foot} where
  pub middle : Written l₀ l₁ (line multiply two_to_24 x m) → Written l₁ l₂ (line multiply m y a) → f ≡ minus a → Written l₂ l₃ (fused_line m y f b)
      → Follows l₃ l₄ (recomposition a b) pair → Follows l₄ l₅ (scaled_down pair.first pair.second) foot → Follows l₀ l₅ (middle_product x y) foot
  unfolding middle_product
  middle c₁ c₂ e c₃ p q =
      rw (← c₁.gives.0, ← c₂.gives.0, ← e, ← c₃.gives.0, ← p.first, ← p.second)
      (then-sheet (then_lines (then-line (then-line (then-line (none_yet l₀) c₁) c₂) c₃) p) q)

-- ---- any other
module _ (x y a : ℕ) {l₀ l₁ l₂ : Lines} {f b : ℕ} {foot : Foot} where
  pub other : f ≡ minus a → Written l₀ l₁ (fused_line x y f b) → Follows l₁ l₂ (recomposed_finished a b) foot → Follows l₀ l₂ (other_product x y a) foot
  unfolding other_product
  other e c₁ g = rw (← e, ← c₁.gives.0) (then-sheet (then-line (none_yet l₀) c₁) g)

-- ---- each of them after the first line
module _ (x y a : ℕ) {l₀ l₁ l₂ : Lines} {foot : Foot} where
  pub by-branch : (k : Branch) → Written l₀ l₁ (line multiply x y a) → k ≡ branch_of (value a) → Follows l₁ l₂ (product_by k x y a) foot → Follows l₀ l₂ (product_sheet x y) foot
  unfolding product_sheet
  by-branch k c₁ e g = rw (← c₁.gives.0, ← e) (then-sheet (then-line (none_yet l₀) c₁) g)
