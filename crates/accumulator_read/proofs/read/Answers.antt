use Rattle.std.proofs.lemmas.Result.{err_from_is_err_and}
use mathlib.Core.Path.{sym, ap, ap₂, ◌∙◌}
use mathlib.Core.Bool.{Bool, true, cond}
use mathlib.Core.List.{List}
use Prim.Native.Nat.{ℕ}
use lib.IntN.{nat_abs}
use Rattle.rounding_spec.specs.Format.{binary32}
use Rattle.rounding_spec.specs.Value.{finite}
use Rattle.augmented_spec.specs.Pairs.{pair_of}
use Rattle.accumulator_spec.specs.Words.{integer}
use Rattle.accumulator_spec.specs.Totals.{number, count, exact_number, pair_answer, pair_read}
use Rattle.accumulator_spec.proofs.Adding.{fit-bounds, sum_room}
use Rattle.accumulator_spec.proofs.Answers.{reading-pair}
use Rattle.accumulator_spec.proofs.ReadTotal.{minus-read}
use Rattle.accumulator_fit.proofs.Lent.{sound}
use Rattle.accumulator_read.proofs.Refusals.{fault-read}
use Rattle.accumulator_read.proofs.read.Goals as goal

pub returns-in_err-refusal : goal.returns-in_err-refusal
returns-in_err-refusal c =
    let p = err_from_is_err_and c.from_residual.result c.from_residual.ensures.1 in
    rw (p.1, p.2) (fault-read c.args.total.now _ (sym c.in_err-refusal.was ∙ c.refusal.ensures))

pub is_minus_zero-requires : goal.is_minus_zero-requires
is_minus_zero-requires c = (sound c.args.total.now (sym c.refusal.ensures ∙ c.in_ok-refusal.was)).0

pub returns-then-is_minus_zero : goal.returns-then-is_minus_zero
returns-then-is_minus_zero c =
    let t = c.args.total.now in let s = sound t (sym c.refusal.ensures ∙ c.in_ok-refusal.was) in
    ap₂ pair_read c.twice.ensures.0 c.twice.ensures.1 ∙ sym minus-read
    ∙ ap (λ (b : Bool). pair_answer (pair_of binary32 (cond b (finite true 0) (exact_number (number t))))) (sym (sym c.is_minus_zero.ensures ∙ c.if-is_minus_zero.true))
    ∙ sym (reading-pair t s.0 s.1)

pub copied-requires : goal.copied-requires
copied-requires c =
    (sound c.args.total.now (sym c.refusal.ensures ∙ c.in_ok-refusal.was)).0

pub of_number-requires : goal.of_number-requires
of_number-requires c =
    let t = c.args.total.now in let s = sound t (sym c.refusal.ensures ∙ c.in_ok-refusal.was) in
    let b = fit-bounds t s.1 in
    rw c.copied.ensures (sum_room (nat_abs (number t)) (count t) b.few b.small)

pub returns : goal.returns
returns c =
    let t = c.args.total.now in let s = sound t (sym c.refusal.ensures ∙ c.in_ok-refusal.was) in
    c.of_number.ensures ∙ ap (λ (ws : List ℕ). pair_answer (pair_of binary32 (exact_number (integer ws)))) c.copied.ensures
    ∙ ap (λ (b : Bool). pair_answer (pair_of binary32 (cond b (finite true 0) (exact_number (number t)))))
    (sym (sym c.is_minus_zero.ensures ∙ c.if-is_minus_zero.false))
    ∙ sym (reading-pair t s.0 s.1)
