use Rattle.std.proofs.Common.{◌≡◌, ℕ, ◌+◌, List, ◌++◌, take, drop, sym, ap, ◌∙◌, arith, take-append-drop}
use Rattle.accumulator_spec.proofs.Parts.{drop-words, lent-on, nothing-added}
use Rattle.accumulator_spec.specs.Inner.{after_walk}
use Rattle.accumulator_words.proofs.Significand.{short-parts}
use Rattle.accumulator_words.proofs.walk_short.Goals as goal

pub returns-then-carry-ne0 : goal.returns-then-carry-ne0
returns-then-carry-ne0 c =
    let a = c.args in let s = c.args.term.minus in let A = c.add_two_words-carry.new.words in
    let one : 1 ≡ 0 + c.add_two_words-carry.result = omega (arith, c.add_two_words-carry.ensures.1, c.if-carry-ne0.true) in
    lent-on A 2 (λ (xs : List ℕ). after_walk xs s 1) c.add_one.new.words c.add_one.ensures
    ∙ ap (λ (n : ℕ). take 2 A ++ after_walk (drop 2 A) s n) one ∙ c.add_two_words-carry.ensures.2 0
    ∙ ap (after_walk a.words.now s) (short-parts a.term.sig a.term.shift c.requires.1 c.requires.2)

pub returns-else-carry-ne0 : goal.returns-else-carry-ne0
returns-else-carry-ne0 c =
    let a = c.args in let s = c.args.term.minus in let A = c.add_two_words-carry.new.words in let none : 0 ≡ 0 + c.add_two_words-carry.result = omega (arith, c.if-carry-ne0.false) in
    sym (take-append-drop 2 A) ∙ ap (λ (xs : List ℕ). take 2 A ++ xs) (nothing-added s (drop 2 A) (drop-words 2 A (λ i. (c.slice_known-2-1.given i).fits)))
    ∙ ap (λ (n : ℕ). take 2 A ++ after_walk (drop 2 A) s n) none ∙ c.add_two_words-carry.ensures.2 0
    ∙ ap (after_walk a.words.now s) (short-parts a.term.sig a.term.shift c.requires.1 c.requires.2)
