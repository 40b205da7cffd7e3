use mathlib.Core.Path.{sym, ap, ◌∙◌}
use mathlib.Core.Bool.{Bool, cond}
use Prim.Native.Nat.{◌+◌}
use native.Mathlib.Omega.{arith}
use lib.ListN.{set}
use lib.Seq.{set-get_or}
use Rattle.accumulator_spec.specs.Totals.{number_size, sign_word, sign_of_both}
use Rattle.accumulator_spec.proofs.Signs.{sign-idr, sign-one}
use Rattle.accumulator_add.proofs.note_sign.Goals as goal

pub returns-then-not-is_minus_zero : goal.returns-then-not-is_minus_zero
returns-then-not-is_minus_zero c =
    let a = c.args in let t = c.args.total.now in let e = sym c.is_minus_zero.ensures ∙ c.if-not-is_minus_zero.true in
    sym (ap (λ (b : Bool). set t (number_size + 1) (sign_of_both (sign_word t) (cond b 0 1))) e ∙ ap (set t (number_size + 1)) (sign-one (sign_word t) 1 (λ z. omega arith)))

pub returns-else-not-is_minus_zero : goal.returns-else-not-is_minus_zero
returns-else-not-is_minus_zero c =
    let a = c.args in let t = c.args.total.now in let e = sym c.is_minus_zero.ensures ∙ c.if-not-is_minus_zero.false in
    sym
    (ap (λ (b : Bool). set t (number_size + 1) (sign_of_both (sign_word t) (cond b 0 1))) e ∙ ap (set t (number_size + 1)) (sign-idr (sign_word t) c.requires.1)
    ∙ set-get_or t (number_size + 1) 0)
