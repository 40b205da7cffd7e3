use mathlib.Core.Path.{refl, ap, ap₂, ◌∙◌}
use Prim.Native.Nat.{ℕ, ◌+◌, ◌≤◌, ◌<◌}
use native.Mathlib.Nat.{add-zero}
use native.Mathlib.Omega.{arith}
use lib.Bits.{bit_or}
use lib.ListN.{length, set, get_or, length-set}
use Rattle.accumulator_spec.specs.Words.{natural, words_of_natural}
use Rattle.accumulator_spec.proofs.WordSums.{left, left-more, left-none}
use Rattle.accumulator_join.proofs.Carries.{word-is, carry-is}
use Rattle.accumulator_join.proofs.add_words.Goals as goal

pub loop-i-init : goal.loop-i-init
loop-i-init c = (omega arith, refl, c.requires, omega arith, refl)

pub loop-i-preserved : goal.loop-i-preserved
loop-i-preserved c =
    let l = c.loop-i in let a = c.args in let inside : l.i < length l.first = omega arith in let w = get_or l.first l.i 0 in
    let v = get_or a.second.now l.i 0 in
    let low = c.low_word-low in let sum = c.low_word-sum in let fits = (c.slice_known-in-loop-i-1.given l.i).fits in
    let also = (c.shared_slice_known-in-loop-i-1.given l.i).fits in
    let word = word-is w v l.carry low.result sum.result fits also l.invariant.3 low.ensures sum.ensures in
    let next =
    ap₂ bit_or c.choose.ensures c.choose-in-loop-i.ensures
    ∙ carry-is w v l.carry low.result sum.result fits also l.invariant.3 low.ensures sum.ensures in (
      simp length-set (omega arith),
      simp length-set l.invariant.1,
      l.invariant.2,
      omega (arith, next),
      ap₂ (λ (x y : ℕ). left (l.i + 1) (set l.first l.i x) a.second.now y) word next
          ∙ left-more l.first a.second.now l.i l.carry inside (omega arith) ∙ l.invariant.4,
    )

pub shape_of-first : goal.shape_of-first
shape_of-first c = c.loop-i.invariant.1

pub returns : goal.returns
returns c =
    let l = c.loop-i in let a = c.args in let all : length l.first ≤ l.i = omega arith in left-none l.first a.second.now l.i l.carry all ∙ l.invariant.4
    ∙ ap (words_of_natural (length a.first.now)) (add-zero (natural a.first.now + natural a.second.now))
