use Rattle.std.proofs.Common.{◌≡◌, ◌≤◌, ◌+◌, ◌*◌, ap, length, refl, sym, ◌∙◌, arith, ℕ, false, drop}
use Rattle.question_spec.specs.Questions.{all_digits, pattern_from}
use Rattle.question.proofs.OneMore.{low, pattern-more, all_more, not-all, pattern-done, all_done, room}
use Rattle.question.proofs.digits.value.Goals as goal

pub loop-byte-init : goal.loop-byte-init
loop-byte-init c = record { fits = omega arith; number = refl; digits = refl }

pub overflow_mul-n : goal.overflow_mul-n
overflow_mul-n c = let l = c.loop-byte in let r = room l.n l.byte-index l.invariant.fits (omega arith) in omega arith

pub returns-in_err-digit : goal.returns-in_err-digit
returns-in_err-digit c =
    let l = c.loop-byte in let s = c.args.bytes.now in
    let none : all_digits s ≡ false = sym (not-all s l.byte-index l.n c.loop-byte-test.true c.in_err-digit.ensures ∙ l.invariant.digits) in
    rw (c.from_residual.ensures, none)

pub overflow_add-n : goal.overflow_add-n
overflow_add-n c =
    let l = c.loop-byte in
    let r = room l.n l.byte-index l.invariant.fits (omega arith) in
    let d = low c.args.bytes.now l.byte-index l.n c.loop-byte-test.true _ c.in_ok-digit.ensures in omega arith

pub loop-byte-preserved : goal.loop-byte-preserved
loop-byte-preserved c =
    let l = c.loop-byte in let s = c.args.bytes.now in
    let r = room l.n l.byte-index l.invariant.fits (omega arith) in
    let d = low s l.byte-index l.n c.loop-byte-test.true _ c.in_ok-digit.ensures in
    record {
      fits = omega arith;
      number =
          ap (λ (k : ℕ). pattern_from (l.n * 16 + k) (drop (l.byte-index + 1) s)) c.from.ensures
          ∙ pattern-more s l.byte-index l.n c.loop-byte-test.true _ c.in_ok-digit.ensures ∙ l.invariant.number;
      digits = all_more s l.byte-index l.n c.loop-byte-test.true _ c.in_ok-digit.ensures ∙ l.invariant.digits;
    }

pub returns : goal.returns
returns c =
    let l = c.loop-byte in let s = c.args.bytes.now in let end : length s ≤ l.byte-index = c.loop-byte-test.false in
    rw (sym l.invariant.digits ∙ all_done s l.byte-index end, sym l.invariant.number ∙ pattern-done s l.byte-index l.n end)
