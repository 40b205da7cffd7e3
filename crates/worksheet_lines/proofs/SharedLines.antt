-- The lines that sums and products share, as they are written.
use mathlib.Core.Path.{◌≡◌, refl}
use mathlib.Core.Bool.{Bool, true, false, cond}
use mathlib.Core.List.{List, [], ◌∷◌, append-nil}
use Prim.Native.Nat.{ℕ, ◌+◌, ◌<◌, ◌≤◌}
use native.Mathlib.Omega.{arith}
use lib.ListN.{length, length-append}
use Rattle.worksheet_spec.specs.Constants.{psi, two, minus_two, kappa, plus_zero}
use Rattle.worksheet_spec.specs.declared.Step.TheVariants.{Subtract as subtract, Multiply as multiply}
use Rattle.worksheet_spec.specs.Lines.{most_lines, Line, Sheet, before, line, minus, equal, is_zero_pattern}
use Rattle.worksheet_spec.specs.Sheets.{recomposition, zero_finish, recomposed_finished, at_edge, edge_finish}
use Rattle.worksheet_lines.specs.Inner.{Written, Follows}
use Rattle.worksheet_lines.specs.declared.Foot.{Foot}
use Rattle.worksheet_lines.specs.declared.Lines.{Lines}
use Rattle.worksheet_lines.proofs.Rows.{Standing, none_yet, foot-follows, then-line, then_lines, then-sheet}

-- ---- zero finish
module _ (first second : ℕ) where
  pub zero-finished : {start here : Lines} {nought : ℕ} → is_zero_pattern second ≡ true → Written start here (line multiply plus_zero first nought)
      → Follows start here (zero_finish first second) (record { first = first; second = nought })
  unfolding zero_finish
  zero-finished {start} {here} e w = rw (e, ← w.gives.0) (then-sheet (then-line (none_yet start) w) (foot-follows here _ _))

  pub not-zero-finished : (start : Lines) → is_zero_pattern second ≡ false → Follows start start (zero_finish first second) (record { first = first; second = second })
  unfolding zero_finish
  not-zero-finished start e = rw e (foot-follows start first second)

-- lines that a test puts before a sheet of none: no more than those
at-most : (b : Bool) (ls : List Line) (s t : Sheet) → s.lines ≡ [] → t.lines ≡ [] → length (cond b (before ls s) t).lines ≤ length ls
at-most true ls s t e f = rw (e, append-nil ls) (omega arith)
at-most false ls s t e f = rw f (omega arith)

pub zero-finish-most : (first second : ℕ) → length (zero_finish first second).lines ≤ 1
unfolding zero_finish
zero-finish-most first second = at-most (is_zero_pattern second) (_ ∷ []) _ _ refl refl

-- ---- recomposition
pub recomposition-length : (a b : ℕ) → length (recomposition a b).lines ≡ 3
unfolding recomposition
recomposition-length a b = refl

module _ (a b : ℕ) {start here there end : Lines} {z d e : ℕ} (p : Written start here (line multiply psi a z)) (q : Written here there (line subtract z a d))
    (r : Written there end (line multiply two b e)) where
  three-lines : Standing start end (line multiply psi a z ∷ line subtract z a d ∷ line multiply two b e ∷ [])
  three-lines = then-line (then-line (then-line (none_yet start) p) q) r

  pub recomposed : {f : ℕ} → equal e d ≡ true → f ≡ minus b → Follows start end (recomposition a b) (record { first = z; second = f })
  unfolding recomposition
  recomposed h k = rw (← p.gives.0, ← q.gives.0, ← r.gives.0, h, k) (then-sheet three-lines (foot-follows end _ _))

  pub kept : equal e d ≡ false → Follows start end (recomposition a b) (record { first = a; second = b })
  unfolding recomposition
  kept h = rw (← p.gives.0, ← q.gives.0, ← r.gives.0, h) (then-sheet three-lines (foot-follows end _ _))

-- ---- both
module _ (a b : ℕ) {start here : Lines} {pair : Foot} (p : Follows start here (recomposition a b) pair) where
  pub room-to-finish : start.used + 3 < most_lines → here.used < most_lines
  room-to-finish h = omega (arith, p.next, recomposition-length a b)

  pub recomposed-and-finished : {end : Lines} {foot : Foot} → Follows here end (zero_finish pair.first pair.second) foot → Follows start end (recomposed_finished a b) foot
  unfolding recomposed_finished
  recomposed-and-finished q = rw (← p.first, ← p.second) (then-sheet (then_lines (none_yet start) p) q)

pub recomposed-finished-most : (a b : ℕ) → length (recomposed_finished a b).lines ≤ 4
unfolding recomposed_finished
recomposed-finished-most a b =
    let r = recomposition a b in
    omega (arith, length-append r.lines (zero_finish r.first r.second).lines, recomposition-length a b, zero-finish-most r.first r.second)

-- ---- the edge
pub edge-finish-most : (a half rest : ℕ) → length (edge_finish a half rest).lines ≤ 2
unfolding edge_finish
edge-finish-most a half rest = at-most (at_edge half rest) (_ ∷ _ ∷ []) _ _ refl refl

module _ (a half rest : ℕ) where
  pub at_edge_lem : {start here end : Lines} {first second : ℕ} → at_edge half rest ≡ true → Written start here (line multiply kappa half first)
      → Written here end (line multiply minus_two rest second) → Follows start end (edge_finish a half rest) (record { first = first; second = second })
  unfolding edge_finish
  at_edge_lem {start} {here} {end} e p q = rw (e, ← p.gives.0, ← q.gives.0) (then-sheet (then-line (then-line (none_yet start) p) q) (foot-follows end _ _))

  pub not-at-edge : (start : Lines) → at_edge half rest ≡ false → Follows start start (edge_finish a half rest) (record { first = a; second = a })
  unfolding edge_finish
  not-at-edge start e = rw e (foot-follows start a a)
