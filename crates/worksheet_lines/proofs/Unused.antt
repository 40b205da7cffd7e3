-- Lines whose unused rows are zeros: new ones are so, and stay so with lines more, where there is room for them. A crate that keeps lines
-- of its own, and begins with new ones, has from these laws what stands in its rows.
use mathlib.Core.Path.{◌≡◌, refl, sym, ap, ◌∙◌}
use mathlib.Core.List.{List, [], ◌∷◌, ◌++◌, map, append-nil}
use Prim.Native.Nat.{ℕ, suc, ◌+◌, ◌-◌, ◌<◌, ◌≤◌}
use native.Mathlib.Omega.{arith}
use native.Mathlib.Numerals.{add-one}
use lib.ListN.{length, take, set, replicate, length-append, length-replicate, length-take}
use lib.Seq.{take-suc-set, length-take-le, set-append_seam, append_snoc}
use Rattle.worksheet_spec.specs.Lines.{line_size, most_lines, Line, Sheet}
use Rattle.worksheet_spec.specs.Filling.{line_words}
use Rattle.worksheet_lines.specs.Inner.{no_lines, from_first, used_rows, padded, Padded, rows_with, Written, Follows}
use Rattle.worksheet_lines.specs.declared.Foot.{Foot}
use Rattle.worksheet_lines.specs.declared.Lines.{Lines}
use Rattle.worksheet_lines.proofs.Rows.{Rows}

-- ---- a row more
module _ (rows : List (List ℕ)) (n : ℕ) (row : List ℕ) (room : n < most_lines) (whole : length rows ≡ most_lines) (unused : rows ≡ padded (take n rows)) where
  abbrev blank : List ℕ
  blank = replicate line_size 0

  abbrev so_far : Rows
  so_far = take n rows

  many : length so_far ≡ n
  many = length-take-le n rows (omega arith)

  one-blank : rows ≡ so_far ++ (blank ∷ replicate (most_lines - (n + 1)) blank)
  unfolding padded
  one-blank =
      let k : most_lines - length so_far ≡ suc (most_lines - (n + 1)) = omega (arith, many) in
      unused ∙ ap (λ (m : ℕ). so_far ++ replicate m blank) k

  pub row-added : take (n + 1) (set rows n row) ≡ so_far ++ (row ∷ [])
  row-added = rw add-one (take-suc-set rows n row (omega arith))

  pub row_then_unused : set rows n row ≡ padded (take (n + 1) (set rows n row))
  unfolding padded
  row_then_unused =
      let rest : Rows = replicate (most_lines - (n + 1)) blank in
      let k : length (so_far ++ (row ∷ [])) ≡ n + 1 = length-append so_far (row ∷ []) ∙ omega (arith, many) in
      ap (λ (xs : Rows). set xs n row) one-blank ∙ ap (λ (m : ℕ). set (so_far ++ (blank ∷ rest)) m row) (sym many)
      ∙ set-append_seam so_far blank rest row ∙ sym (append_snoc so_far row rest)
      ∙ ap (λ (m : ℕ). (so_far ++ (row ∷ [])) ++ replicate (most_lines - m) blank) (sym k)
      ∙ sym (ap padded row-added)

-- ---- new lines
pub new-padded : Padded no_lines
unfolding padded
new-padded = record { few = omega arith; zeros = refl }

pub new-unused : used_rows no_lines ≡ []
new-unused = refl

-- ---- `most_lines` rows in all, and `used` of them used
module _ {lines : Lines} (p : Padded lines) where
  pub all-rows : length lines.rows ≡ most_lines
  unfolding padded
  all-rows =
      let used : Rows = used_rows lines in
      let blank : List ℕ = replicate line_size 0 in
      let unused : Rows = replicate (most_lines - length used) blank in
      let front : length used ≤ lines.used = omega (arith, length-take lines.used lines.rows) in
      ap length p.zeros ∙ length-append used unused ∙ omega (arith, p.few, front, length-replicate (most_lines - length used) blank)

  pub used-length : length (used_rows lines) ≡ lines.used
  used-length = length-take-le lines.used lines.rows (omega (arith, p.few, all-rows))

-- ---- a line more
module _ {before after : Lines} (p : Padded before) where
  row-kept : (row : List ℕ) → before.used < most_lines → after.rows ≡ set before.rows before.used row → after.used ≡ before.used + 1
      → Padded after × (used_rows after ≡ used_rows before ++ (row ∷ []))
  row-kept row room e k =
      let zeros = row_then_unused before.rows before.used row room (all-rows p) p.zeros in
      let added = row-added before.rows before.used row room (all-rows p) p.zeros in
      (record { few = omega (arith, k); zeros = rw (k, e) zeros }, rw (k, e) added)

  pub written-padded : {l : Line} → before.used < most_lines → Written before after l → Padded after × (used_rows after ≡ used_rows before ++ (line_words l ∷ []))
  written-padded {l} room w = row-kept (line_words l) room w.rows w.next

-- ---- any number of lines more
pub lines-padded : (before after : Lines) (ls : List Line) → Padded before → before.used + length ls ≤ most_lines → after.rows ≡ rows_with before.rows before.used ls
    → after.used ≡ before.used + length ls → Padded after × (used_rows after ≡ used_rows before ++ map line_words ls)
unfolding rows_with
lines-padded before after [] p room e k =
    let same : after.used ≡ before.used = omega (arith, k) in
    (record { few = omega (arith, same, p.few); zeros = rw (same, e) p.zeros }, rw (same, e, append-nil (used_rows before)))
lines-padded before after (l ∷ ls) p room e k =
    let next : Lines = record { rows = set before.rows before.used (line_words l); used = before.used + 1 } in
    let one = row-kept {before = before} {after = next} p (line_words l) (omega arith) refl refl in
    let all = lines-padded next after ls one.0 (omega arith) e (omega (arith, k)) in
    (all.0, all.1 ∙ ap (λ (rs : Rows). rs ++ map line_words ls) one.1 ∙ append_snoc (used_rows before) (line_words l) (map line_words ls))

-- ---- a sheet's lines more
pub follows-padded : {before after : Lines} {s : Sheet} {foot : Foot} → Padded before → before.used + length s.lines ≤ most_lines → Follows before after s foot
    → Padded after × (used_rows after ≡ used_rows before ++ map line_words s.lines)
follows-padded {before} {after} {s} p room f = lines-padded before after s.lines p room f.rows f.next

-- ---- a sheet in new lines
pub new-follows-padded : {start after : Lines} {s : Sheet} {foot : Foot} → start ≡ no_lines → length s.lines ≤ most_lines → Follows (from_first start) after s foot
    → Padded after × (used_rows after ≡ map line_words s.lines)
new-follows-padded {start} {after} {s} {foot} new room f =
    let g : Follows no_lines after s foot = rw (ap from_first (sym new)) f in
    follows-padded {before = no_lines} {after = after} new-padded (omega (arith, room)) g
