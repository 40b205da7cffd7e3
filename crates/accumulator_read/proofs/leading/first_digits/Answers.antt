use mathlib.Core.Path.{◌≡◌, refl, sym, ap, subst}
use Prim.Native.Nat.{ℕ, ◌-◌}
use native.Mathlib.Omega.{arith}
use lib.ListN.{drop, drop_of_length-le}
use Rattle.accumulator_spec.specs.Words.{natural}
use Rattle.accumulator_spec.specs.Totals.{number_size}
use Rattle.accumulator_read.proofs.Arrays.{array-length, array-words}
use Rattle.accumulator_spec.proofs.LeadingDigits.{Digits, sticky-half, taken_in, all-exp, made-sticky, leading-digits}
use Rattle.accumulator_spec.proofs.LeadingDigits.Digits.{all}
use Rattle.accumulator_read.proofs.leading.first_digits.Goals as goal

pub loop-i-init : goal.loop-i-init
unfolding natural
loop-i-init c =
    let e = array-length number_size c.args.words _ c.well_formed.0 in
    let z : natural (drop number_size c.args.words) ≡ 0 = ap natural (drop_of_length-le c.args.words {i = number_size} (omega arith)) in
    (omega arith, omega arith, all (omega arith) refl (sym z))

pub overflow_sub-exp : goal.overflow_sub-exp
overflow_sub-exp c =
    let l = c.loop-i in omega (arith, all-exp (natural (drop l.i c.args.words)) l.i l.sig l.exp c.if-sig-lt4294967296.true l.invariant.2)

pub loop-i-preserved-then-sig-lt4294967296 : goal.loop-i-preserved-then-sig-lt4294967296
loop-i-preserved-then-sig-lt4294967296 c =
    let l = c.loop-i in let ws = c.args.words in let e = array-length number_size ws _ c.well_formed.0 in
    let k = array-words number_size ws _ c.well_formed.0 in
    let w = k (l.i - 1) in (
      omega arith,
      omega arith,
      taken_in ws l.i c.from-w.result (omega arith) (omega arith) c.from-w.ensures k l.sig l.exp c.if-sig-lt4294967296.true l.invariant.2,
    )

pub loop-i-preserved : goal.loop-i-preserved
loop-i-preserved c =
    let l = c.loop-i in let w = c.from-w in let ws = c.args.words in let e = array-length number_size ws _ c.well_formed.0 in
    let k = array-words number_size ws _ c.well_formed.0 in (
      omega arith,
      rw c.choose-sig.ensures (omega (arith, sticky-half w.result l.sig)),
      rw c.choose-sig.ensures
          (made-sticky ws l.i w.result (omega arith) (omega arith) w.ensures k l.sig l.exp c.if-sig-lt4294967296.false l.invariant.2),
    )

pub returns : goal.returns
returns c =
    let l = c.loop-i in let ws = c.args.words in let z : l.i ≡ 0 = omega arith in
    leading-digits (natural ws) l.sig l.exp (subst (λ (i : ℕ). Digits (natural (drop i ws)) i l.sig l.exp) z l.invariant.2)
