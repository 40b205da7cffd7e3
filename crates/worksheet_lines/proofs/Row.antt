-- A row set to a line's words, whose mark is known by an equation.
use mathlib.Core.Path.{◌≡◌, ap, ◌∙◌}
use mathlib.Core.List.{[], ◌∷◌}
use Prim.Native.Nat.{ℕ, ◌+◌}
use lib.ListN.{set}
use Rattle.worksheet_spec.specs.Steps.{step_number}
use Rattle.worksheet_spec.specs.Lines.{Line, Gives}
use Rattle.worksheet_lines.specs.Inner.{Written}
use Rattle.worksheet_lines.specs.declared.Lines.{Lines}

pub row_written : (before after : Lines) (l : Line) (m : ℕ) → Gives l.step l.x l.y l.z l.result l.mark → m ≡ l.mark
    → after.rows ≡ set before.rows before.used (step_number l.step ∷ l.x ∷ l.y ∷ l.z ∷ l.result ∷ m ∷ []) → after.used ≡ before.used + 1
    → Written before after l
row_written before after l m g e f k =
    record {
      gives = g;
      rows = f ∙ ap (λ (n : ℕ). set before.rows before.used (step_number l.step ∷ l.x ∷ l.y ∷ l.z ∷ l.result ∷ n ∷ [])) e;
      next = k;
    }
