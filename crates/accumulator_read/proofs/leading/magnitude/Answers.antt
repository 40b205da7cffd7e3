use mathlib.Core.Path.{refl, sym, ap, ap₂, ◌∙◌}
use mathlib.Core.Bool.{false, cond}
use mathlib.Core.List.{List, ◌++◌, append-nil}
use Prim.Native.Nat.{ℕ, ◌^◌}
use native.Mathlib.Nat.{le_of_eq}
use native.Mathlib.Omega.{arith}
use lib.Dec.{leb}
use lib.ListN.{take, get_or, drop_of_length-le}
use lib.Seq.{take_all, length-take-le}
use Rattle.accumulator_spec.specs.Words.{natural}
use Rattle.accumulator_spec.specs.Totals.{number_size}
use Rattle.accumulator_spec.specs.Inner.{after_term}
use Rattle.accumulator_words.proofs.Placing.{same-term}
use Rattle.accumulator_read.proofs.Arrays.{array-length, array-words}
use Rattle.accumulator_spec.proofs.Top.{magnitude-top}
use Rattle.accumulator_read.proofs.leading.magnitude.Goals as goal

pub add-requires : goal.add-requires
add-requires c =
    let t = c.turned-words in let p = c.place.ensures in let l = array-length number_size t.result _ t.type_inv in
    (omega (arith, p.2, length-take-le number_size t.result (le_of_eq (sym l))), p.3)

pub returns : goal.returns
returns c =
    let ws = c.args.number in let minus = leb (2 ^ 31) (get_or ws 19 0) in
    let t = c.turned-words in let ts = c.turned-words.result in let k = c.add in let m = le_of_eq (array-length number_size ts _ t.type_inv) in
    let p = c.place.ensures in let one = p.1 ∙ c.choose.ensures in
    let e = k.ensures ∙ same-term p.0 one p.2 (take number_size ts)
    ∙ ap (λ (xs : List ℕ). after_term xs false (cond minus 1 0) 0) (take_all number_size ts m ∙ t.ensures)
    in
    ap natural (ap₂ (λ (xs ys : List ℕ). xs ++ ys) e (drop_of_length-le ts m) ∙ append-nil _)
    ∙ magnitude-top 19 ws (array-length number_size ws _ c.well_formed.0) (array-words number_size ws _ c.well_formed.0) minus refl
