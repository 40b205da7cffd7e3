use Rattle.std.proofs.Common.{◌≡◌, ℕ, ◌+◌, ◌<◌, ◌^◌, ◌%◌, List, length, get_or, set, sym, refl, ap, ◌∙◌, arith, get_or-set_other}
use Rattle.std.proofs.lemmas.Grind.{get_or-set_at}
use native.Mathlib.Decide.{ℕ_discrete}
use Rattle.accumulator_spec.specs.Words.{Words}
use Rattle.accumulator_spec.proofs.Carry.{turned, ended, walked, read-lt, word_sum_lem, word-written}
use Rattle.accumulator_spec.proofs.Parts.{walk_is, drop-words}
use Rattle.accumulator_words.proofs.add_one.Goals as goal

-- words in which one is written are words
set-words : (ws : List ℕ) (i v : ℕ) → Words ws → i < length ws → v < 2 ^ 32 → Words (set ws i v)
set-words ws i v k inside l j = elim (ℕ_discrete j i) [ yes e ↦ rw (get_or-set_at ws i j v 0 e inside) l | no n ↦ rw (get_or-set_other ws i j v 0 n) (k j) ]

pub loop-w-init : goal.loop-w-init
loop-w-init c = (λ i. (c.type_inv.words i).fits, c.choose-mask.ensures, refl)

pub overflow_add-sum : goal.overflow_add-sum
overflow_add-sum c =
    let l = c.loop-w in let s = c.args.minus in omega (arith, read-lt s (get_or l.words l.w-index 0) _ (l.invariant.0 l.w-index) l.invariant.1, c.from-sum.ensures)

pub returns-then-sum-lt4294967296 : goal.returns-then-sum-lt4294967296
returns-then-sum-lt4294967296 c =
    let l = c.loop-w in let a = c.args in let s = c.args.minus in let w = get_or l.words l.w-index 0 in let known = l.invariant.0 in
    let inside : l.w-index < length l.words = omega arith in
    let m = c.loop-w.invariant.1 in let e = ap (λ (x : ℕ). x + 1) c.from-sum.ensures in
    let z = word_sum_lem s _ m w 1 _ (known l.w-index) e in
    ended s l.words l.w-index 1 _ inside (drop-words (l.w-index + 1) l.words known) (word-written s _ m w 1 _ (known l.w-index) e) (omega (arith, z, c.if-sum-lt4294967296.true))
    ∙ l.invariant.2 ∙ walk_is s a.words.now 1 (λ i. (c.slice_known-1.given i).fits)

pub loop-w-preserved : goal.loop-w-preserved
loop-w-preserved c =
    let l = c.loop-w in let s = c.args.minus in let w = get_or l.words l.w-index 0 in let known = l.invariant.0 in
    let inside : l.w-index < length l.words = omega arith in
    let m = c.loop-w.invariant.1 in let e = ap (λ (x : ℕ). x + 1) c.from-sum.ensures in
    let z = word_sum_lem s _ m w 1 _ (known l.w-index) e in
    let lt = read-lt s w _ (known l.w-index) m in (
      set-words l.words l.w-index _ known inside (read-lt s ((c.from-sum.result + 1) % 2 ^ 32) _ (omega arith) m),
      m,
      turned s l.words l.w-index 1 _ 1 inside (word-written s _ m w 1 _ (known l.w-index) e)
          (omega (arith, z, lt, c.from-sum.ensures, c.if-sum-lt4294967296.false))
          ∙ l.invariant.2,
    )

pub returns : goal.returns
returns c =
    let l = c.loop-w in let a = c.args in sym (walked a.minus l.words l.w-index 1 (omega arith)) ∙ l.invariant.2
    ∙ walk_is a.minus a.words.now 1 (λ i. (c.slice_known-1.given i).fits)
