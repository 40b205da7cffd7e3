-- What a table says of the marks of a sheet's lines (R2.8), line by line.
use Rattle.std.specs.Prelude.{ℕ, zero, suc, ◌≡◌, Bool, cond, List, [], ◌∷◌, length}
use Rattle.worksheet_spec.specs.Lines.{Line}

-- Of a line: nothing; that its result is the exact value; that it was rounded or overflowed; that an operand was infinite or NaN; that it
-- is exact where a test holds, and else rounded.
pub data Entry : Type 0 where
  any : Entry
  exact : Entry
  rounded : Entry
  special : Entry
  exact_where : Bool → Entry

-- by its mark
abbrev pub EntryHolds : Entry → Line → Type 0
EntryHolds any l = Unit {0}
EntryHolds exact l = l.mark ≡ 0
EntryHolds rounded l = l.mark ≡ 1
EntryHolds special l = l.mark ≡ 2
EntryHolds (exact_where test) l = l.mark ≡ cond test 0 1

-- An entry for each line, in order. There is a line for each entry, and lines after the last entry all have mark 0.
abbrev pub MarkTable : List Entry → List Line → Type 0
MarkTable [] [] = Unit {0}
MarkTable [] (l ∷ ls) = (l.mark ≡ 0) × MarkTable [] ls
MarkTable (c ∷ cs) [] = ⊥
MarkTable (c ∷ cs) (l ∷ ls) = EntryHolds c l × MarkTable cs ls

-- the same, and no line after the last entry
abbrev pub WholeTable : List Entry → List Line → Type 0
WholeTable cs ls = MarkTable cs ls × (length ls ≡ length cs)

-- the result of the line that has n lines before it; 0 where there is none
abbrev pub result_at : ℕ → List Line → ℕ
result_at n [] = 0
result_at zero (l ∷ ls) = l.result
result_at (suc n) (l ∷ ls) = result_at n ls
