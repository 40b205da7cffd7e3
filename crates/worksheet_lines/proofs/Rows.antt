-- Lines in rows, one after the other, and the lines of a sheet after others.
use mathlib.Core.Path.{◌≡◌, refl, ap, ◌∙◌}
use mathlib.Core.List.{List, [], ◌∷◌, ◌++◌}
use Prim.Native.Nat.{ℕ, ◌+◌}
use native.Mathlib.Omega.{arith}
use lib.ListN.{length, length-append}
use Rattle.worksheet_spec.specs.Lines.{Line, Sheet, before, ends}
use Rattle.worksheet_lines.specs.Inner.{Written, rows_with, Follows}
use Rattle.worksheet_lines.specs.declared.Foot.{Foot}
use Rattle.worksheet_lines.specs.declared.Lines.{Lines}

abbrev pub Rows : Type 0
Rows = List (List ℕ)

-- lines stand from the next row on
pub record Standing (start here : Lines) (ls : List Line) : Type 0 where
  pub rows : here.rows ≡ rows_with start.rows start.used ls
  pub next : here.used ≡ start.used + length ls

rows_with-append : (rows : Rows) (n : ℕ) (ls ms : List Line) → rows_with rows n (ls ++ ms) ≡ rows_with (rows_with rows n ls) (n + length ls) ms
unfolding rows_with
rows_with-append rows n [] ms = ap (λ (m : ℕ). rows_with rows m ms) (omega arith)
rows_with-append rows n (l ∷ ls) ms =
    let k : n + 1 + length ls ≡ n + length (l ∷ ls) = omega arith in
    rows_with-append _ (n + 1) ls ms ∙ ap (λ (m : ℕ). rows_with (rows_with rows n (l ∷ ls)) m ms) k

pub none_yet : (start : Lines) → Standing start start []
unfolding rows_with
none_yet start = record { rows = refl; next = omega arith }

-- a foot to which no more lines lead
pub foot-follows : (start : Lines) (first second : ℕ) → Follows start start (ends first second) (record { first = first; second = second })
unfolding rows_with
foot-follows start first second = record { first = refl; second = refl; rows = refl; next = omega arith }

module _ {start here there : Lines} {ls : List Line} (h : Standing start here ls) where
  -- a line more
  pub then-line : {l : Line} → Written here there l → Standing start there (ls ++ (l ∷ []))
  unfolding rows_with
  then-line {l} w =
      record {
        rows = rw (rows_with-append start.rows start.used ls (l ∷ []), w.rows, h.rows, h.next);
        next = omega (arith, w.next, h.next, length-append ls (l ∷ []));
      }

  -- the lines of a sheet, which others follow
  pub then_lines : {s : Sheet} {foot : Foot} → Follows here there s foot → Standing start there (ls ++ s.lines)
  then_lines {s} f =
      record {
        rows = rw (rows_with-append start.rows start.used ls s.lines, f.rows, h.rows, h.next);
        next = omega (arith, f.next, h.next, length-append ls s.lines);
      }

  -- a sheet
  pub then-sheet : {s : Sheet} {foot : Foot} → Follows here there s foot → Follows start there (before ls s) foot
  then-sheet {s} f = let k = then_lines f in record { first = f.first; second = f.second; rows = k.rows; next = k.next }
