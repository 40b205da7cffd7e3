-- What the makers of lines promise each other: lines from a row of a sheet on, as rows of words (R11.10), and the foot that they reach.
-- And of lines that began with new ones: what stands in the rows behind them.
use Rattle.std.specs.Prelude.{ℕ, ◌+◌, ◌-◌, ◌≡◌, ◌≤◌, List, [], ◌∷◌, ◌++◌, length, replicate, set, take}
use Rattle.worksheet_spec.specs.Lines.{line_size, most_lines, Line, Gives, Sheet}
use Rattle.worksheet_spec.specs.Filling.{line_words}
use Rattle.worksheet_lines.specs.declared.Foot.{Foot}
use Rattle.worksheet_lines.specs.declared.Lines.{Lines}

-- rows of zeros, and the next line goes into the first
abbrev pub no_lines : Lines
no_lines = record { rows = replicate most_lines (replicate line_size 0); used = 0 }

-- the same rows, and the next line goes into the first
abbrev pub from_first : Lines → Lines
from_first lines = record { rows = lines.rows; used = 0 }

-- A line went into the next row. Its result and its mark are the step's on its operands.
pub record Written (before after : Lines) (l : Line) : Type 0 where
  pub gives : Gives l.step l.x l.y l.z l.result l.mark
  pub rows : after.rows ≡ set before.rows before.used (line_words l)
  pub next : after.used ≡ before.used + 1

-- rows with lines in them from the nth on
unfoldable pub rows_with : List (List ℕ) → ℕ → List Line → List (List ℕ)
rows_with rows n [] = rows
rows_with rows n (l ∷ ls) = rows_with (set rows n (line_words l)) (n + 1) ls

-- A sheet's lines went into the next rows, and all others stayed; its foot came back.
pub record Follows (before after : Lines) (s : Sheet) (foot : Foot) : Type 0 where
  pub first : foot.first ≡ s.first
  pub second : foot.second ≡ s.second
  pub rows : after.rows ≡ rows_with before.rows before.used s.lines
  pub next : after.used ≡ before.used + length s.lines

-- the rows of the lines so far
abbrev pub used_rows : Lines → List (List ℕ)
used_rows lines = take lines.used lines.rows

-- rows of lines, and after them rows of zeros, up to `most_lines` rows
unfoldable pub padded : List (List ℕ) → List (List ℕ)
padded rows = rows ++ replicate (most_lines - length rows) (replicate line_size 0)

-- No more lines than rows, and the unused rows are zeros (R8.6). So `Lines::new` gives them, and so they stay where further lines go into
-- the next rows, with room for them. A sheet that begins in the first row, over earlier lines, leaves those behind it.
pub record Padded (lines : Lines) : Type 0 where
  pub few : lines.used ≤ most_lines
  pub zeros : lines.rows ≡ padded (used_rows lines)

-- the words of all rows
unfoldable pub flat : List (List ℕ) → List ℕ
flat [] = []
flat (l ∷ ls) = l ++ flat ls
