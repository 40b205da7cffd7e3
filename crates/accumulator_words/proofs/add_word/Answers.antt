use Rattle.std.proofs.Common.{ℕ, ◌+◌, List, length, get_or, ap, ◌∙◌, arith}
use Rattle.accumulator_spec.specs.Words.{Words}
use Rattle.accumulator_spec.proofs.Carry.{ended, read-lt, word_sum_lem, word-written}
use Rattle.accumulator_spec.proofs.Parts.{drop-words, carried_on, walk_is}
use Rattle.accumulator_spec.proofs.TwosComplement.{words-formed}
use Rattle.accumulator_words.proofs.add_word.Goals as goal

pub overflow_add-sum : goal.overflow_add-sum
overflow_add-sum c =
    let a = c.args in let w = (c.slice_known-2-1.given 0).fits in
    omega (arith, read-lt a.minus (get_or a.words.now 0 0) _ w c.choose-mask.ensures, c.from.ensures, c.requires.1)

pub returns-then-sum-ge4294967296 : goal.returns-then-sum-ge4294967296
returns-then-sum-ge4294967296 c =
    let a = c.args in let s = c.args.minus in let ws = c.args.words.now in let words : Words ws = λ i. (c.slice_known-1.given i).fits in
    let w = get_or ws 0 0 in
    let m = c.choose-mask.ensures in let e = ap (λ (x : ℕ). x + a.n) c.from.ensures in
    let z = word_sum_lem s _ m w a.n _ (words 0) e in
    let lt = read-lt s w _ (words 0) m in
    let n = c.requires.1 in carried_on s ws a.n _ c.add_one.new.words c.requires.0 words (word-written s _ m w a.n _ (words 0) e)
    (omega (arith, z, lt, n, c.from.ensures, c.if-sum-ge4294967296.true)) c.add_one.ensures

pub shape_of-words-then-sum-ge4294967296 : goal.shape_of-words-then-sum-ge4294967296
shape_of-words-then-sum-ge4294967296 c = ap (λ (xs : List ℕ). length xs) (returns-then-sum-ge4294967296 c) ∙ (words-formed _ _).0

pub returns-else-sum-ge4294967296 : goal.returns-else-sum-ge4294967296
returns-else-sum-ge4294967296 c =
    let a = c.args in let s = c.args.minus in let ws = c.args.words.now in let words : Words ws = λ i. (c.slice_known-1.given i).fits in
    let w = get_or ws 0 0 in
    let m = c.choose-mask.ensures in let e = ap (λ (x : ℕ). x + a.n) c.from.ensures in
    let z = word_sum_lem s _ m w a.n _ (words 0) e in
    ended s ws 0 a.n _ c.requires.0 (drop-words 1 ws words) (word-written s _ m w a.n _ (words 0) e) (omega (arith, z, c.if-sum-ge4294967296.false))
    ∙ walk_is s ws a.n words
