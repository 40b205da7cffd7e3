-- What a table says.
use mathlib.Core.Path.{◌≡◌, refl, ap, ap₂, ◌∙◌}
use mathlib.Core.Bool.{Bool, cond}
use mathlib.Core.List.{List, [], ◌∷◌, ◌++◌}
use Prim.Native.Nat.{ℕ, ◌≤◌}
use native.Mathlib.Omega.{arith}
use lib.ListN.{length, replicate}
use Rattle.worksheet_spec.specs.Lines.{Line, marks}
use Rattle.worksheet_marks.specs.Tables.{Entry, EntryHolds, MarkTable}
use Rattle.worksheet_marks.specs.Theorems.{EntryMeans, TableMeans, ResultAtIs}

pub entry-means : EntryMeans
entry-means l = (λ h. h, λ h. h, λ h. h, λ test h. (λ e. h ∙ ap (λ (b : Bool). cond b 0 1) e, λ e. h ∙ ap (λ (b : Bool). cond b 0 1) e))

enough : (es : List Entry) (ls : List Line) → MarkTable es ls → length es ≤ length ls
enough [] ls t = omega arith
enough (e ∷ es) [] t = absurd t
enough (e ∷ es) (l ∷ ls) t = let k = enough es ls t.1 in omega arith

at : (es : List Entry) (e : Entry) (more : List Entry) (earlier : List Line) (l : Line) (later : List Line)
    → length es ≡ length earlier → MarkTable (es ++ (e ∷ more)) (earlier ++ (l ∷ later)) → EntryHolds e l × MarkTable more later
at [] e more [] l later n t = t
at [] e more (k ∷ earlier) l later n t = absurd (omega arith)
at (d ∷ es) e more [] l later n t = absurd (omega arith)
at (d ∷ es) e more (k ∷ earlier) l later n t = at es e more earlier l later (omega arith) t.1

behind : (ls : List Line) → MarkTable [] ls → marks ls ≡ replicate (length ls) 0
behind [] t = refl
behind (l ∷ ls) t = ap₂ (λ (m : ℕ) (ms : List ℕ). m ∷ ms) t.0 (behind ls t.1)

pub table-means : TableMeans
table-means = (enough, at, behind, λ es ls t. t)

pub result-at-is : ResultAtIs
result-at-is [] l later = refl
result-at-is (k ∷ earlier) l later = result-at-is earlier l later
