-- The lines of a sheet, as its words are cut.
use Prim.Native.Nat.{ℕ, zero, suc, ◌+◌, ◌*◌, ◌/◌, ◌≤◌, ◌<◌}
use mathlib.Core.Path.{◌≡◌, refl, ◌∙◌, ap}
use mathlib.Core.List.{List, []}
use native.Mathlib.Omega.{arith}
use lib.ListN.{length, get_or, take, drop, length-take}
use lib.Seq.{drop-drop}
use Rattle.std.specs.Simd.{first_chunks}
use Rattle.std.proofs.lemmas.List.{get_or-take}
use Rattle.worksheet_spec.specs.Lines.{line_size, most_lines}
use Rattle.transcript_spec.specs.Texts.{step_text}

commuted : (a b : ℕ) → b + a ≡ a + b
commuted a b = omega arith

chunk_at : (k m : ℕ) (words : List ℕ) → k < m → get_or (first_chunks line_size m words) k [] ≡ take line_size (drop (line_size * k) words)
chunk_at k zero words h = absurd (omega arith)
chunk_at zero (suc m) words h = refl
chunk_at (suc k) (suc m) words h =
    let e : line_size * k + line_size ≡ line_size * suc k = omega arith in
    chunk_at k m (drop line_size words) (omega arith)
    ∙ ap (take line_size) (drop-drop (line_size * k) line_size words ∙ ap (λ (n : ℕ). drop n words) (commuted (line_size * k) line_size ∙ e))

-- a line of those that are shown
pub line_at : (k lines : ℕ) (words : List ℕ) (sheet : List (List ℕ)) → k < length (take lines sheet) → lines ≤ most_lines → length words ≡ line_size * most_lines
    → sheet ≡ first_chunks line_size (length words / line_size) words → get_or (take lines sheet) k [] ≡ take line_size (drop (line_size * k) words)
line_at k lines words sheet h most size is =
    let shown : k < lines = omega (arith, h, length-take lines sheet) in
    get_or-take lines sheet k [] shown ∙ (ap (λ (s : List (List ℕ)). get_or s k []) is ∙ chunk_at k (length words / line_size) words (omega arith))

-- a step's text depends on the words of its own line
pub same_step : (number : ℕ) (words : List ℕ) → step_text number (take line_size words) ≡ step_text number words
unfolding step_text
same_step number words =
    rw (
      get_or-take line_size words 0 0 (omega arith),
      get_or-take line_size words 1 0 (omega arith),
      get_or-take line_size words 2 0 (omega arith),
      get_or-take line_size words 3 0 (omega arith),
      get_or-take line_size words 4 0 (omega arith),
      get_or-take line_size words 5 0 (omega arith),
    )
