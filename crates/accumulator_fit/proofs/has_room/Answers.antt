use Rattle.std.proofs.Common.{ℕ, ◌+◌, ◌*◌, ◌%◌, ◌^◌, sym, ◌∙◌, ap₂, true≢false, le_trans, le_of_eq, arith, ltb-true}
use Rattle.accumulator_spec.specs.Words.{Words}
use Rattle.accumulator_spec.proofs.Adding.{fit-with-terms}
use Rattle.accumulator_fit.proofs.Lent.{no-fault}
use Rattle.accumulator_fit.proofs.Limit.{well-within}
use Rattle.accumulator_fit.proofs.has_room.Goals as goal

pub returns-then-total-ne-TOTAL_SIZE : goal.returns-then-total-ne-TOTAL_SIZE
returns-then-total-ne-TOTAL_SIZE c e = absurd (true≢false (sym e))

pub returns-then-n-ge-MOST_TERMS : goal.returns-then-n-ge-MOST_TERMS
returns-then-n-ge-MOST_TERMS c e = absurd (true≢false (sym e))

pub returns-then-total-ne1 : goal.returns-then-total-ne1
returns-then-total-ne1 c e = absurd (true≢false (sym e))

pub overflow_mul-upper : goal.overflow_mul-upper
overflow_mul-upper c =
    omega (arith, (c.type_inv.total 19).fits, c.from-2.ensures)

pub overflow_add-upper : goal.overflow_add-upper
overflow_add-upper c =
    omega (arith, (c.type_inv.total 18).fits, (c.type_inv.total 19).fits, c.from.ensures, c.from-2.ensures)

pub returns-then-wrapping_add_u64-gt1 : goal.returns-then-wrapping_add_u64-gt1
returns-then-wrapping_add_u64-gt1 c e = absurd (true≢false (sym e))

pub returns : goal.returns
returns c e =
    let t = c.args.total.now in let words : Words t = λ i. (c.type_inv.total i).fits in
    let full = c.if-total-ne-TOTAL_SIZE.false in let top = c.wrapping_add_u64.ensures.value ∙ ap₂ (λ (x y : ℕ). (x + y * 4294967296 + 1) % 2 ^ 64) c.from.ensures c.from-2.ensures in
    let less = ltb-true _ _ e in
    let in-limits = sym (well-within t (omega (arith, full)) words (omega (arith, c.if-n-ge-MOST_TERMS.false)) (le_trans (le_of_eq (sym top)) c.if-wrapping_add_u64-gt1.false) less) in
    (no-fault t full (fit-with-terms t in-limits c.if-total-ne1.false (omega (arith, less))), omega (arith, c.if-n-ge-MOST_TERMS.false), c.if-total-ne1.false)
