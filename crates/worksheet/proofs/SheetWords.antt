-- A sheet's lines in rows of zeros are its words, and what filling answers then.
use mathlib.Core.Path.{◌≡◌, refl, sym, ap, ◌∙◌, subst}
use mathlib.Core.Bool.{true, false}
use mathlib.Core.List.{List, [], ◌∷◌, ◌++◌, map, append_assoc}
use Prim.Native.Nat.{ℕ, zero, suc, ◌*◌, ◌-◌, ◌≤◌, ◌<◌}
use native.Mathlib.Omega.{arith}
use lib.ListN.{length, drop, replicate, length-map}
use Rattle.pattern_spec.specs.Answer.{refused}
use Rattle.rounding_spec.specs.Format.{binary32}
use Rattle.augmented_spec.specs.declared.Flags.{Flags}
use Rattle.augmented_spec.specs.declared.Operation.{Operation}
use Rattle.augmented_spec.specs.declared.Operation.TheVariants.{Sum as sum, Difference as difference, Product as product}
use Rattle.augmented_spec.specs.Operations.{is_operation, operation_number, operation_of}
use Rattle.augmented_spec.specs.Direct.{direct_pair}
use Rattle.worksheet_spec.specs.Lines.{line_size, most_lines, sheet_size, Line}
use Rattle.worksheet_spec.specs.Sheets.{sheet_of}
use Rattle.worksheet_spec.specs.Filling.{line_words, lines_words, sheet_words, filled, sheet_answer, filling, HasDirectPair, Fills}
use Rattle.worksheet_spec.proofs.Filling.{unknown-operation, short-words, fills, refused-words, filled-words}
use Rattle.worksheet_spec.proofs.Theorems.{line-count, filled-pair}
use Rattle.worksheet_lines.specs.Inner.{no_lines, from_first, used_rows, padded, Padded, rows_with, Follows, flat}
use Rattle.worksheet_lines.specs.declared.Foot.{Foot}
use Rattle.worksheet_lines.specs.declared.Lines.{Lines}
use Rattle.worksheet_lines.proofs.Rows.{Rows}
use Rattle.worksheet_lines.proofs.Unused.{new-padded, lines-padded, new-follows-padded}

-- ---- words
abbrev pub blank : ℕ → Rows
blank k = replicate k (replicate line_size 0)

blank-words : (k : ℕ) → flat (blank k) ≡ replicate (line_size * k) 0
unfolding flat
blank-words zero = refl
blank-words (suc k) =
    let six : line_size * suc k ≡ suc (suc (suc (suc (suc (suc (line_size * k)))))) = omega arith in
    rw (blank-words k, six)

flat_append : (ks ls : Rows) → flat (ks ++ ls) ≡ flat ks ++ flat ls
unfolding flat
flat_append [] ls = refl
flat_append (k ∷ ks) ls = rw (flat_append ks ls, append_assoc)

rows-words : (ls : List Line) → flat (map line_words ls) ≡ lines_words ls
unfolding flat lines_words
rows-words [] = refl
rows-words (l ∷ ls) = ap (λ (ws : List ℕ). line_words l ++ ws) (rows-words ls)

-- lines and unused rows
pub sheet-words : (ls : List Line) → length ls ≤ most_lines → flat (padded (map line_words ls)) ≡ sheet_words ls
unfolding padded sheet_words
sheet-words ls h =
    let rows = map line_words ls in
    let k : line_size * (most_lines - length rows) ≡ sheet_size - line_size * length ls = omega (arith, length-map ls line_words) in
    flat_append rows (blank (most_lines - length rows))
    ∙ ap (λ (ws : List ℕ). ws ++ flat (blank (most_lines - length rows))) (rows-words ls)
    ∙ ap (λ (ws : List ℕ). lines_words ls ++ ws) (blank-words (most_lines - length rows) ∙ ap (λ (n : ℕ). replicate n 0) k)

-- lines whose unused rows are zeros
all-words : {lines : Lines} (ls : List Line) → length ls ≤ most_lines → Padded lines × (used_rows lines ≡ map line_words ls) → flat lines.rows ≡ sheet_words ls
all-words ls h p = ap flat p.0.zeros ∙ ap (λ (rs : Rows). flat (padded rs)) p.1 ∙ sheet-words ls h

-- lines set in blank rows
pub sheet-rows-words : (ls : List Line) → length ls ≤ most_lines → flat (rows_with (blank most_lines) 0 ls) ≡ sheet_words ls
sheet-rows-words ls h =
    let end : Lines = record { rows = rows_with (blank most_lines) 0 ls; used = length ls } in
    all-words {lines = end} ls h (lines-padded no_lines end ls new-padded (omega (arith, h)) refl (omega arith))

-- ---- answers
number-of : (o : Operation) → (is_operation (operation_number o) ≡ true) × (operation_of (operation_number o) ≡ o)
number-of sum = (refl, refl)
number-of difference = (refl, refl)
number-of product = (refl, refl)

pub not-an-operation : (n x y : ℕ) (words : List ℕ) → is_operation n ≡ false → Fills n x y words (refused 10) words
not-an-operation n x y words e =
    let r = unknown-operation n x y words e in (sym r, sym (refused-words n x y words 10 r), tt)

module _ (o : Operation) (x y : ℕ) (words : List ℕ) where
  abbrev n : ℕ
  n = operation_number o

  pub too-few-words : length words < sheet_size → Fills n x y words (refused 9) words
  too-few-words w =
      let r = short-words n x y words (number-of o).0 w in (sym r, sym (refused-words n x y words 9 r), tt)

  module _ (room : sheet_size ≤ length words) {start end : Lines} {foot : Foot} (none : start ≡ no_lines) (f : Follows (from_first start) end (sheet_of o x y) foot) where
    answers : {flags : Flags} → flags ≡ (direct_pair o binary32 x y).flags
        → filled end.used (record { first = foot.first; second = foot.second; flags = flags }) ≡ filling n x y words
    unfolding sheet_answer
    answers e =
        let count : end.used ≡ length (sheet_of o x y).lines = omega (arith, f.next) in
        rw (fills n x y words (number-of o).0 room, (number-of o).1, f.first, f.second, count, e)

    pub fills-words : {after : List ℕ} {flags : Flags} → flags ≡ (direct_pair o binary32 x y).flags → after ≡ flat end.rows ++ drop sheet_size words
        → Fills n x y words (filled end.used (record { first = foot.first; second = foot.second; flags = flags })) after
    fills-words e w =
        let r = answers e in
        let few = (line-count o x y).1 in (
          r,
          w ∙ ap (λ (ws : List ℕ). ws ++ drop sheet_size words) (all-words (sheet_of o x y).lines few (new-follows-padded none few f))
              ∙ sym (filled-words n x y words _ _ (sym r) ∙ ap (λ (p : Operation). sheet_words (sheet_of p x y).lines ++ drop sheet_size words) (number-of o).1),
          subst (HasDirectPair n x y) (sym r) (filled-pair n x y words),
        )
