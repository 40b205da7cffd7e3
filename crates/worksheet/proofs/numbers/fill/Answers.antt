use mathlib.Core.Path.{◌≡◌, refl, ap, ◌∙◌}
use mathlib.Core.Bool.{false}
use Prim.Native.Nat.{ℕ}
use lib.Dec.{eqb}
use Rattle.worksheet_spec.specs.declared.FilledNumbers.{FilledNumbers}
use Rattle.worksheet_spec.specs.declared.NotFilled.{NotFilled}
use Rattle.worksheet_spec.specs.declared.NotFilled.TheVariants as the-refused
use Rattle.worksheet_spec.specs.Filling.{HasDirectPair, no_sheet, filled_numbers, filled_answer}
use Rattle.worksheet_spec.specs.Refusals.{refusal_number}
use Rattle.worksheet.proofs.numbers.fill.Goals as goal

-- no refusal is 0
not-none : (e : NotFilled) → eqb (refusal_number e) 0 ≡ false
not-none the-refused.Operation = refl
not-none the-refused.Words = refl

-- of a pair that there is not, nothing is said
no-pair : (o x y : ℕ) (e : NotFilled) (r : FilledNumbers) → r ≡ no_sheet (refusal_number e) → HasDirectPair o x y (filled_answer r)
no-pair o x y e r k = rw (k, not-none e) tt

pub returns-in-Ok : goal.returns-in-Ok
returns-in-Ok c =
    let r = c.in-Ok.ensures in (ap filled_numbers r.0, r.1, r.2)

pub returns-in-Err : goal.returns-in-Err
returns-in-Err c =
    let a = c.args in let r = c.in-Err.ensures in let n = c.from.ensures in
    (n ∙ ap filled_numbers r.0, r.1, no-pair a.operation a.x a.y c.in-Err.refusal _ n)
